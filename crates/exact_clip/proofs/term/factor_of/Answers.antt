use Rattle.std.proofs.Common.{◌≡◌, ℕ, ℤ, pos, neg_ℤ, ◌+◌, ◌-◌, ◌^◌, ◌*ℤ◌, ◌<ℤ◌, ◌∙◌, sym, ap, FitsSigned, w32, w64, arith, rules}
use Rattle.std.proofs.lemmas.Int.{ints, to_z-of_z}
use Rattle.cull_base.specs.Bounds.{Bounded}
use Rattle.exact_clip.proofs.Products.{swapped}
use Rattle.exact_clip.proofs.term.factor_of.Goals as goal

value_is : (m f w : ℤ) (p q : ℕ) → f ≡ m *ℤ pos 4096 → w ≡ m *ℤ pos (2 ^ p) → p ≡ q → f *ℤ pos (2 ^ q) ≡ w *ℤ pos 4096
value_is m f w p q ef ew ep =
    ap (λ (z : ℤ). z *ℤ pos (2 ^ q)) ef ∙ swapped m (pos 4096) (pos (2 ^ q)) ∙ sym (ap (λ (z : ℤ). z *ℤ pos 4096) (ew ∙ ap (λ (t : ℕ). m *ℤ pos (2 ^ t)) ep))

bounded_is : (m f : ℤ) → f ≡ m *ℤ pos 4096 → neg_ℤ (pos (2 ^ 24)) <ℤ m → m <ℤ pos (2 ^ 24) → Bounded (2 ^ 36) f
bounded_is m f e h l = (omega (arith, ints, e, h), omega (arith, ints, e, l))

room_is : (r e p q : ℕ) → r ≡ (e + 13) - p → p ≡ q → r ≡ (e + 13) - q
room_is r e p q er ep = er ∙ ap (λ (t : ℕ). (e + 13) - t) ep

pub returns : goal.returns
returns c =
    let n = c.decoded-number.ensures in
    let m : FitsSigned w32 c.decoded-number.result.mantissa = search rules in
    let f : FitsSigned w64 c.raised.result = search rules in
    let e = simp to_z-of_z at c.raised.ensures in
    simp to_z-of_z (record {
      value = value_is c.decoded-number.result.mantissa c.raised.result _ c.decoded-number.result.power _ e n.value n.power;
      room = room_is c.saturating_sub.result c.args.exponent c.decoded-number.result.power _ c.saturating_sub.ensures n.power;
      bounded = bounded_is c.decoded-number.result.mantissa c.raised.result e n.above n.below;
    })
