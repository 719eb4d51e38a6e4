use Rattle.std.proofs.Common.{◌≡◌, ◌∙◌, ℤ, take, drop, get_or, ap}
use Rattle.std.specs.Int.{int_min, int_max}
use Rattle.std.proofs.lemmas.Int.{to_z-of_z}
use Rattle.cull_base.specs.declared.clip.ClipVertex.{ClipVertex}
use Rattle.snap_setup.proofs.BoxSteps.{coordinate_fits}
use Rattle.rect_query.specs.Ratios.{pixels_along, place_along, place_at}
use Rattle.rect_query.proofs.Corners.{no_vertex, rest_guarded, rest_front, least_more, greatest_more, least_reached, greatest_reached}
use Rattle.rect_query.proofs.Rising.{placed_along}
use Rattle.rect_query.proofs.ratio.extent.Goals as goal

pub loop-corner-init : goal.loop-corner-init
loop-corner-init c =
    let is = placed_along c.args.way (get_or c.args.corners.now 0 no_vertex) c.args.size c.quotient-least.result c.quotient-least.ensures.value in
    record { least_within = c.quotient-least.ensures.within; greatest_within = c.quotient-least.ensures.within; least = is; greatest = is }

pub quotient-ratio-requires-clause-guarded : goal.quotient-ratio-requires-clause-guarded
quotient-ratio-requires-clause-guarded c = rest_guarded c.args.corners.now c.args.near.distance c.loop-corner.corner-index c.requires.guarded c.loop-corner-test.true

pub quotient-ratio-requires-clause-front : goal.quotient-ratio-requires-clause-front
quotient-ratio-requires-clause-front c = rest_front c.args.corners.now c.args.near.distance c.loop-corner.corner-index c.requires.front c.loop-corner-test.true

pub loop-corner-preserved : goal.loop-corner-preserved
loop-corner-preserved c =
    let rest = take 7 (drop 1 c.args.corners.now) in
    let i = c.loop-corner.corner-index in
    let v = get_or rest i no_vertex in
    let n = pixels_along c.args.way c.args.size in
    let f : ClipVertex → ℤ = λ u. place_along c.args.way c.args.size u in
    let first = get_or c.args.corners.now 0 no_vertex in
    let is : place_at n c.quotient-ratio.result ≡ f v = placed_along c.args.way v c.args.size c.quotient-ratio.result c.quotient-ratio.ensures.value in
    let low : place_at n c.lesser-least.result ≡ int_min (place_at n c.loop-corner.least) (f v) = c.lesser-least.ensures.place n ∙ ap (λ (z : ℤ). int_min (place_at n c.loop-corner.least) z) is in
    let high : place_at n c.greater-greatest.result ≡ int_max (place_at n c.loop-corner.greatest) (f v) = c.greater-greatest.ensures.place n ∙ ap (λ (z : ℤ). int_max (place_at n c.loop-corner.greatest) z) is in
    record {
      least_within = c.lesser-least.ensures.within;
      greatest_within = c.greater-greatest.ensures.within;
      least = least_more f first rest i no_vertex (place_at n c.loop-corner.least) (place_at n c.lesser-least.result) c.loop-corner-test.true c.loop-corner.invariant.least low;
      greatest = greatest_more f first rest i no_vertex (place_at n c.loop-corner.greatest) (place_at n c.greater-greatest.result) c.loop-corner-test.true c.loop-corner.invariant.greatest high;
    }

pub returns-clause-least : goal.returns-clause-least
returns-clause-least c =
    let fits = coordinate_fits c.place.result c.place.ensures.within in
    simp to_z-of_z (c.place.ensures.value ∙ least_reached (λ u. place_along c.args.way c.args.size u) c.args.corners.now c.loop-corner.corner-index _ c.told-corners c.loop-corner-test.false c.loop-corner.invariant.least)

pub returns-clause-greatest : goal.returns-clause-greatest
returns-clause-greatest c =
    let fits = coordinate_fits c.place-2.result c.place-2.ensures.within in
    simp to_z-of_z (c.place-2.ensures.value ∙ greatest_reached (λ u. place_along c.args.way c.args.size u) c.args.corners.now c.loop-corner.corner-index _ c.told-corners c.loop-corner-test.false c.loop-corner.invariant.greatest)
