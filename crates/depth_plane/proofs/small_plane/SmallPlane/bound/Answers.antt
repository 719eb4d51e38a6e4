use Rattle.std.proofs.Common.{◌∙◌, ap, pos, rules, arith, FitsSigned, w64}
use Rattle.std.specs.Int.{int_max}
use Rattle.std.proofs.lemmas.Int.{ints, to_z-of_z}
use Rattle.cull_base.specs.Depth.{cut_to_range, floor_of}
use Rattle.cull_base.specs.Piece.{each_sample, least_of, sample}
use Rattle.cull_base.specs.declared.nearness.TheConstants.{HELD_TOP}
use Rattle.depth_plane.specs.Plane.{Coefficients, numerator_at}
use Rattle.depth_plane.proofs.Depths.{low_of-computed}
use Rattle.depth_plane.proofs.small_plane.SmallPlane.bound.Goals as goal

pub raised_floor-requires-clause-positive : goal.raised_floor-requires-clause-positive
raised_floor-requires-clause-positive c = let p = c.self.invariant.0.positive_area in omega (arith, ints, p)

pub returns-clause-value : goal.returns-clause-value
returns-clause-value c =
    let f : FitsSigned w64 c.least.result = search rules in
    simp to_z-of_z at c.raised_floor.ensures.value
    ∙ ap (λ n. cut_to_range HELD_TOP (int_max (pos c.args.nearness) (floor_of n (pos c.self.inside.area)))) c.least.ensures.value
    ∙ ap (λ (v : Coefficients). cut_to_range HELD_TOP (int_max (pos c.args.nearness) (floor_of (least_of (each_sample (λ k. numerator_at c.args.self.now (sample c.args.sub k)))) v.area))) c.self.view_is

pub returns-clause-low : goal.returns-clause-low
returns-clause-low c = λ x plane least. low_of-computed x c.args.sub c.args.self.now c.args.nearness _ plane least (returns-clause-value c)
