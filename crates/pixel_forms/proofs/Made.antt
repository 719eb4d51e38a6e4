-- Forms by the numbers that the code took.
use Rattle.std.proofs.Common.{◌≡◌, ◌∙◌, ℕ, ℤ, pos, neg_ℤ, nat_abs, ◌≤◌, ◌+◌, ◌*◌, ◌^◌, ◌+ℤ◌, ◌-ℤ◌, ◌*ℤ◌, max, arith, ap, ap₂}
use Rattle.std.proofs.lemmas.Int.{ints}
use Rattle.cull_base.specs.Bounds.{Bounded}
use Rattle.exact_clip.specs.Clip.{Clip}
use Rattle.pixel_forms.specs.Forms.{IsMadeOf, IsSmall}
use Rattle.pixel_forms.proofs.Numbers.{bounded-more}

pub made-by : (width height reach off : ℕ) (l : Clip) (a o b s v d : ℤ) (whole span fall slack : ℕ)
    → a ≡ l.x *ℤ pos height → o ≡ l.y *ℤ pos width → b ≡ neg_ℤ o → s ≡ (l.w -ℤ l.x) +ℤ l.y → whole ≡ 8 * width * height → v ≡ s *ℤ pos whole
    → fall ≡ reach * (nat_abs a + nat_abs b) → span ≡ 8 * width * height + reach * max width height → slack ≡ 3 * off * span → d ≡ pos (fall + slack)
    → IsMadeOf width height reach off l (record { a = a; b = b; c = v; down = d })
made-by width height reach off l a o b s v d whole span fall slack ea eo eb es ew ev ef ep el ed = record {
  a = ea;
  b = eb ∙ ap neg_ℤ eo;
  c = ev ∙ ap₂ (λ x y. x *ℤ pos y) es ew;
  down = ed ∙ ap pos (ap₂ (λ x y. x + y) ef (el ∙ ap (λ z. 3 * off * z) ep));
}

pub small-by : (a b v d : ℤ) (fall slack : ℕ) → Bounded (2 ^ 45) a → Bounded (2 ^ 45) b → Bounded (3 * 2 ^ 59) v → d ≡ pos (fall + slack) → fall ≤ 2 ^ 52 → slack ≤ 3 * 2 ^ 60
    → IsSmall (record { a = a; b = b; c = v; down = d })
small-by a b v d fall slack ha hb hv ed hf hs = record {
  a = ha;
  b = hb;
  c = bounded-more (3 * 2 ^ 59) (2 ^ 61) v (omega arith) hv;
  positive = omega (arith, ints, ed);
  down = omega (arith, ints, ed, hf, hs);
}
