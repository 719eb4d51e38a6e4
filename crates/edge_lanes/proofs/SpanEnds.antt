-- The ones between two bits of a byte, and the tiles that columns reach.
use Rattle.std.proofs.Common.{◌≡◌, ℕ, inl, inr, ◌+◌, ◌-◌, ◌*◌, ◌/◌, ◌^◌, ◌<◌, ◌≤◌, ◌&&◌, false, cond, nat_le, nat_lt, min, refl, ap, ◌∙◌, arith}
use Rattle.std.specs.Int.{bit_at}
use Rattle.std.proofs.lemmas.Bool.{cases_lt}
use Rattle.std.proofs.lemmas.Bool.Decides.{nat_tests}
use Rattle.cull_base.proofs.EightLanes.{each_of_eight, ones_at}

-- the ones from a first bit to before an end, where the first is cut to the end
pub ones_cut : (first end i : ℕ) → bit_at (2 ^ end - 2 ^ min first end) i ≡ cond (nat_le first i && nat_lt i end) 1 0
ones_cut first end i = ones_at (min first end) end i ∙ ap (λ b. cond b 1 0) (same first end i)
  where
    same : (first end i : ℕ) → (nat_le (min first end) i && nat_lt i end) ≡ (nat_le first i && nat_lt i end)
    same first end i = grind (arith, nat_tests)

-- each of eight bits is set
pub all_set : (i : ℕ) → i < 8 → bit_at 255 i ≡ 1
all_set = each_of_eight (λ i. bit_at 255 i ≡ 1) refl refl refl refl refl refl refl refl

not_clear : (a b i : ℕ) → a ≤ i → i < b → ◌≡◌ {A = ℕ} (cond (nat_le a i && nat_lt i b) 1 0) 0 → ⊥
not_clear a b i le lt none = grind (arith, nat_tests)

-- where the bit of a tile is clear, no column of it lies from a first to before an end
pub clear_apart : (f e c before past i x : ℕ) → i < 8 → before ≤ min (f - 32 * c) 256 → past ≤ 256 - min (e - 32 * c) 256 → ◌≡◌ {A = ℕ} (cond (nat_le (before / 32) i && nat_lt i ((287 - past) / 32)) 1 0) 0
    → 32 * (c + i) ≤ x → x < 32 * (c + i) + 32 → (nat_le f x && nat_lt x e) ≡ false
clear_apart f e c before past i x lt no_less no_more clear from to = elim (cases_lt i (before / 32)) [
  | inl early ↦ begins_past (omega (arith, early, no_less, to))
  | inr le ↦ elim (cases_lt i ((287 - past) / 32)) [
    | inl within ↦ absurd (not_clear (before / 32) ((287 - past) / 32) i le within clear)
    | inr late ↦ ends_before (omega (arith, late, no_more, from, lt))
  ]
]
  where
    begins_past : x < f → (nat_le f x && nat_lt x e) ≡ false
    begins_past h = grind (arith, nat_tests)

    ends_before : e ≤ x → (nat_le f x && nat_lt x e) ≡ false
    ends_before h = grind (arith, nat_tests)
