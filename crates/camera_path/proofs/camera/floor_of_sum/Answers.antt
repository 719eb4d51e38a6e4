use Rattle.std.proofs.Common.{◌≡◌, ℤ, pos, negsuc, ◌^◌, ◌+ℤ◌, FitsSigned, w64, arith, rules}
use Rattle.std.proofs.lemmas.Int.{ints, to_z-of_z}
use Rattle.cull_base.specs.Bounds.{Bounded}
use Rattle.cull_base.specs.Depth.{floor_of}
use Rattle.camera_path.proofs.camera.floor_of_sum.Goals as goal

within : (s q : ℤ) → Bounded (2 ^ 62) s → q ≡ floor_of s (pos 65536) → Bounded (2 ^ 62) q
within (pos n) q h e = (omega (arith, ints, h, e), omega (arith, ints, h, e))
within (negsuc n) q h e = (omega (arith, ints, h, e), omega (arith, ints, h, e))

sum_within : (a b c : ℤ) → Bounded (2 ^ 60) a → Bounded (2 ^ 60) b → Bounded (2 ^ 60) c → Bounded (2 ^ 62) ((a +ℤ b) +ℤ c)
sum_within a b c f g h = (omega (arith, ints, f, g, h), omega (arith, ints, f, g, h))

pub returns-clause-value : goal.returns-clause-value
returns-clause-value c =
    let fa : FitsSigned w64 c.args.a = c.ranges.a in let fb : FitsSigned w64 c.args.b = c.ranges.b in let fc : FitsSigned w64 c.args.c = c.ranges.c in
    let fs : FitsSigned w64 (c.args.a +ℤ c.args.b) = omega (arith, ints, c.requires.a, c.requires.b) in
    let ft : FitsSigned w64 ((c.args.a +ℤ c.args.b) +ℤ c.args.c) = omega (arith, ints, c.requires.a, c.requires.b, c.requires.c) in
    let fq : FitsSigned w64 c.floored.result = search rules in
    simp to_z-of_z (simp to_z-of_z at c.floored.ensures)

pub returns-clause-bounded : goal.returns-clause-bounded
returns-clause-bounded c = let fq : FitsSigned w64 c.floored.result = search rules in
    let e = returns-clause-value c in
    within ((c.args.a +ℤ c.args.b) +ℤ c.args.c) _ (sum_within _ _ _ c.requires.a c.requires.b c.requires.c) e
