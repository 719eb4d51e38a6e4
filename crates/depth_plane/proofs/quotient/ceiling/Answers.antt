use Rattle.std.proofs.Common.{◌≡◌, refl, ℤ, pos, ◌^◌, ◌-ℤ◌, neg_ℤ, arith, rules, FitsSigned}
use Rattle.std.specs.Int.{w128}
use Rattle.std.proofs.lemmas.Int.{ints, to_z-of_z}
use Rattle.cull_base.specs.Depth.{floor_of, ceiling_of}
use Rattle.depth_plane.proofs.quotient.ceiling.Goals as goal

turned : (n d m q : ℤ) → m ≡ pos 0 -ℤ n → q ≡ floor_of m d → (pos 0 -ℤ q) ≡ ceiling_of n d
turned n d m q e h =
    let f : m ≡ neg_ℤ n = omega (arith, ints, e) in
    let g : q ≡ floor_of (neg_ℤ n) d = rw (← f) h in
    omega (arith, ints, g)

pub returns : goal.returns
returns c =
    let fn : FitsSigned w128 c.args.numerator = c.ranges.numerator in
    let fm : FitsSigned w128 (pos 0 -ℤ c.args.numerator) = omega (arith, ints, c.requires) in
    let fq : FitsSigned w128 c.wide_floor.result = search rules in
    let within = (simp to_z-of_z at c.wide_floor.ensures.bounded) (2 ^ 88) (omega (arith, ints, c.requires), omega (arith, ints, c.requires)) in
    let fr : FitsSigned w128 (pos 0 -ℤ c.wide_floor.result) = omega (arith, ints, within) in
    simp to_z-of_z (turned c.args.numerator (pos c.args.area.now) _ c.wide_floor.result refl (simp to_z-of_z at c.wide_floor.ensures.value))
