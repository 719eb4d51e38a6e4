use Rattle.std.proofs.Common.{refl}
use Rattle.std.specs.Fork.{AcceptsAt, ChangesAt}
use Rattle.side_by_side.proofs.Parts.{second_part, both_parts}
use Rattle.side_by_side.proofs.shares.+shares.Goals as goal

pub shares_from-share_and_rest-requires-clause-rest : goal.shares_from-share_and_rest-requires-clause-rest
shares_from-share_and_rest-requires-clause-rest g t c κs within =
    let cut = c.split_at_mut-share in
    second_part c.args.base c.args.s.now cut.result.0.now cut.result.1.now cut.ensures.value (AcceptsAt g.F.Fn c.args.f.now) _ refl c.requires.accepts

pub shares_from-returns-clause-each : goal.shares_from-returns-clause-each
shares_from-returns-clause-each g t c =
    let cut = c.split_at_mut-share in
    both_parts (ChangesAt g.F.Fn c.args.f.now) c.args.base _ _ _ _ _ _ cut.ensures.value c.share_and_rest.auto.share refl c.share_and_rest.ensures.share c.share_and_rest.ensures.rest
