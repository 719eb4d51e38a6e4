use Rattle.std.proofs.Common.{◌∙◌, sym}
use Rattle.rect_query.proofs.Reaching.{none_stray}
use Rattle.rect_query.proofs.boxes.answer_of.Goals as goal

pub least_w-requires-clause-guarded : goal.least_w-requires-clause-guarded
least_w-requires-clause-guarded g c = λ k d lt. (none_stray c.args.near c.args.corners.now k d (sym c.is_one_astray.ensures ∙ c.if-is_one_astray.false) lt).0

pub least_w-requires-clause-front : goal.least_w-requires-clause-front
least_w-requires-clause-front g c = λ k d lt. (none_stray c.args.near c.args.corners.now k d (sym c.is_one_astray.ensures ∙ c.if-is_one_astray.false) lt).1

pub rect_around-requires-clause-guarded : goal.rect_around-requires-clause-guarded
rect_around-requires-clause-guarded g c = λ k d lt. (none_stray c.args.near c.args.corners.now k d (sym c.is_one_astray.ensures ∙ c.if-is_one_astray.false) lt).0

pub rect_around-requires-clause-front : goal.rect_around-requires-clause-front
rect_around-requires-clause-front g c = λ k d lt. (none_stray c.args.near c.args.corners.now k d (sym c.is_one_astray.ensures ∙ c.if-is_one_astray.false) lt).1
