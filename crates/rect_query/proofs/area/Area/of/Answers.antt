use Rattle.std.proofs.Common.{rules, FitsSigned, w32}
use Rattle.std.proofs.lemmas.Int.{to_z-of_z}
use Rattle.rect_query.proofs.Areas.{area_is}
use Rattle.rect_query.proofs.area.Area.of.Goals as goal

pub returns-clause-pixels : goal.returns-clause-pixels
returns-clause-pixels c =
    let x0 : FitsSigned w32 c.cut-common.result.x0 = search rules in let y0 : FitsSigned w32 c.cut-common.result.y0 = search rules in
    let x1 : FitsSigned w32 c.cut-common.result.x1 = search rules in let y1 : FitsSigned w32 c.cut-common.result.y1 = search rules in
    area_is _ c.args.rect.now c.cut-common.result c.screen.result c.args.size c.width-width.ensures.valid c.requires c.cut-common.ensures.value c.screen.ensures
    (simp to_z-of_z at c.pixel_of.ensures) (simp to_z-of_z at c.pixel_of-2.ensures) (simp to_z-of_z at c.pixel_of-3.ensures) (simp to_z-of_z at c.pixel_of-4.ensures)
