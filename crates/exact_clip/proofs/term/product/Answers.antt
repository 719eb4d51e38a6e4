use Rattle.std.proofs.Common.{◌≡◌, ℤ, pos, neg_ℤ, ◌*ℤ◌, ◌<ℤ◌, ◌^◌, ap, FitsSigned, w64, arith, rules}
use Rattle.std.proofs.lemmas.Int.{ints, to_z-of_z}
use Rattle.cull_base.specs.Bounds.{Bounded}
use Rattle.cull_base.proofs.Bounds.{bounded-mul}
use Rattle.exact_clip.proofs.term.product.Goals as goal

within : (f m n : ℤ) → n ≡ m → Bounded (2 ^ 36) f → neg_ℤ (pos (2 ^ 24)) <ℤ m → m <ℤ pos (2 ^ 24) → Bounded (2 ^ 60) (f *ℤ n)
within f m n e b h l = bounded-mul (2 ^ 36) (2 ^ 24) f n b (omega (arith, ints, e, h), omega (arith, ints, e, l))

pub returns : goal.returns
returns c =
    let f : FitsSigned w64 c.args.factor = c.ranges.factor in
    let n : FitsSigned w64 c.from.result = search rules in
    let e : c.from.result ≡ c.args.mantissa = omega (arith, ints, c.from.ensures) in
    let b = within c.args.factor c.args.mantissa c.from.result e c.requires.factor c.requires.above c.requires.below in
    let p : FitsSigned w64 (c.args.factor *ℤ c.from.result) = omega (arith, ints, b) in
    record { value = simp to_z-of_z (ap (λ (z : ℤ). c.args.factor *ℤ z) e); bounded = simp to_z-of_z b }
