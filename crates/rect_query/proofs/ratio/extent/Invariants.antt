use Rattle.std.proofs.Common.{◌≡◌, take, get_or}
use Rattle.rect_query.specs.Ratios.{IsRatio, pixels_along, place_along, place_at}
use Rattle.rect_query.proofs.Corners.{no_vertex, least_from, greatest_from}
use Rattle.rect_query.proofs.ratio.extent.Given as goal

abbrev pub invariant-loop-corner : goal.invariant-loop-corner
invariant-loop-corner l = record {
  least_within : IsRatio l.near.distance l.least;
  greatest_within : IsRatio l.near.distance l.greatest;
  least : place_at (pixels_along l.way l.size) l.least ≡ least_from (λ v. place_along l.way l.size v) (get_or l.corners 0 no_vertex) (take l.corner-index l.rest);
  greatest : place_at (pixels_along l.way l.size) l.greatest ≡ greatest_from (λ v. place_along l.way l.size v) (get_or l.corners 0 no_vertex) (take l.corner-index l.rest);
}
