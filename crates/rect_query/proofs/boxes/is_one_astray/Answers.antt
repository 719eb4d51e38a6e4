use Rattle.std.proofs.Common.{◌∙◌, ap}
use Rattle.rect_query.specs.declared.reach.Reach.{Reach}
use Rattle.rect_query.specs.Reaches.{is_reach_astray}
use Rattle.rect_query.proofs.Reaching.{astray_is}
use Rattle.rect_query.proofs.boxes.is_one_astray.Goals as goal

pub returns : goal.returns
returns c =
    c.is_astray.ensures ∙ ap (λ (r : Reach). is_reach_astray c.args.near.distance r) c.requires.reach
    ∙ astray_is c.args.near.distance c.args.corners.now c.requires.some
