use Rattle.maskcull_c.specs.Picture.{IsRow, shade_of_pixel}
use Rattle.maskcull_c.proofs.picture.draw_row.Given as goal

abbrev pub invariant-loop-x : goal.invariant-loop-x
invariant-loop-x l = IsRow l.start l.x (λ x. shade_of_pixel l.grade l.size l.tiles x l.y) l.initial.out l.out
