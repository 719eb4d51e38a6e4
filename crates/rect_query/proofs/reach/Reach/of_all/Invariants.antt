use Rattle.std.proofs.Common.{◌≡◌, take, get_or}
use Rattle.std.specs.List.{fold}
use Rattle.rect_query.specs.Reaches.{reach_of, reach_with}
use Rattle.rect_query.proofs.Corners.{no_vertex}
use Rattle.rect_query.proofs.reach.Reach.of_all.Given as goal

abbrev pub invariant-loop-corner : goal.invariant-loop-corner
invariant-loop-corner l = l.reach ≡ fold reach_with (reach_of (get_or l.corners 0 no_vertex)) (take l.corner-index l.rest)
