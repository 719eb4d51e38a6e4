use Rattle.rect_query.proofs.Corners.{rect_is}
use Rattle.rect_query.proofs.boxes.rect_around.Goals as goal

pub returns : goal.returns
returns g c =
    let a = c.extent-across.ensures in let d = c.extent-down.ensures in
    rect_is c.extent-across.result c.extent-down.result c.args.size c.args.corners.now c.rect_between.result a.least a.greatest d.least d.greatest c.rect_between.ensures
