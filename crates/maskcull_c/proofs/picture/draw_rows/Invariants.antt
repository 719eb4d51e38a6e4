use Rattle.maskcull_c.specs.Picture.{AreDrawn, shade_of_pixel}
use Rattle.maskcull_c.proofs.picture.draw_rows.Given as goal

abbrev pub invariant-loop-y : goal.invariant-loop-y
invariant-loop-y l = AreDrawn l.size.width l.stride l.y (shade_of_pixel l.grade l.size l.tiles) l.initial.out l.out
