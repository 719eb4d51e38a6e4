use Rattle.std.proofs.Common.{subst}
use Rattle.group_query.specs.Hulls.{IsFormOf}
use Rattle.group_query.proofs.tested.verdict_by_form.Goals as goal

pub counted_verdict-requires-clause-form : goal.counted_verdict-requires-clause-form
counted_verdict-requires-clause-form g c =
    let a = c.args.asked.now in
    subst (IsFormOf a.scene.now a.frame c.args.object) c.in-Flat.is c.requires.form
