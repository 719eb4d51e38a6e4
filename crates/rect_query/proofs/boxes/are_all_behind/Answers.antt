use Rattle.std.proofs.Common.{◌∙◌, pos, int_lt, ap}
use Rattle.rect_query.specs.declared.reach.Reach.{Reach}
use Rattle.rect_query.proofs.Reaching.{behind_is}
use Rattle.rect_query.proofs.boxes.are_all_behind.Goals as goal

pub returns : goal.returns
returns c =
    c.is_behind.ensures ∙ ap (λ (r : Reach). int_lt r.w.greatest (pos c.args.near)) c.requires.reach
    ∙ behind_is c.args.near c.args.corners.now c.requires.some
