use Rattle.std.proofs.Common.{arith}
use Rattle.group_query.proofs.grouped.Grouped.member_verdict.Goals as goal

pub verdict_by_form-requires-clause-form : goal.verdict_by_form-requires-clause-form
verdict_by_form-requires-clause-form g c = c.requires.kept c.args.member _ (omega (arith, c.if-member-ge-KEPT.false, c.requires.member))
