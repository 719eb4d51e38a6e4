-- A number without its lowest bit.
use Rattle.std.proofs.Common.{◌≡◌, ◌≢◌, ℕ, zero, suc, ◌-◌, ◌/◌, ◌%◌, ◌<◌, ◌≤◌, ◌^◌, bit_and, arith, refl, ap, ◌∙◌, sym, pow-suc, w32}
use Rattle.std.specs.Int.{bit_at, trailing_zeros}
use Rattle.std.proofs.lemmas.Nat.{and_le_l, and_shr}
use Rattle.std.proofs.lemmas.Nat.Bits.{bit_at_and, bit_at_lowest, bit_at-suc}
use lib.Count.{count_trailing_zeros, under}

-- a number that has the bits of another but one
pub record IsWithout (left j rest : ℕ) : Type 0 where
  pub less : rest ≤ left
  pub clear : bit_at rest j ≡ 0
  pub others : (i : ℕ) → i ≢ j → bit_at rest i ≡ bit_at left i

-- the bits past the first are those of the halves
at_next : (b half i : ℕ) → (b - 1) / 2 ≡ half → bit_at (bit_and b (b - 1)) (suc i) ≡ bit_at (bit_and (b / 2) half) i
at_next b half i e = bit_at-suc (bit_and b (b - 1)) i ∙ ap (λ n. bit_at n i) (and_shr b (b - 1) 1 ∙ ap (bit_and (b / 2)) e)

clear_by : (b t d : ℕ) → 0 < b → b % 2 ≡ d → (b % 2 ≡ 0 → bit_at (bit_and (b / 2) (b / 2 - 1)) t ≡ 0) → bit_at (bit_and b (b - 1)) (under d t) ≡ 0
clear_by b t zero p e rest = at_next b (b / 2 - 1) t (omega (arith, p, e)) ∙ rest e
clear_by b t (suc d) p e rest = let both = bit_at_and b (b - 1) 0 in let low = bit_at_lowest (b - 1) in omega (arith, both, low, e, p)

clear_lowest : (w b : ℕ) → 0 < b → b < 2 ^ w → bit_at (bit_and b (b - 1)) (count_trailing_zeros w b) ≡ 0
unfolding count_trailing_zeros
clear_lowest zero b p q = absurd (omega (arith, p, q))
clear_lowest (suc w) b p q = clear_by b (count_trailing_zeros w (b / 2)) (b % 2) p refl (λ e. clear_lowest w (b / 2) (omega (arith, p, e)) (omega (arith, q, pow-suc 2 w)))

others_by : (b t d i : ℕ) → 0 < b → b % 2 ≡ d → i ≢ under d t → ((k : ℕ) → b % 2 ≡ 0 → k ≢ t → bit_at (bit_and (b / 2) (b / 2 - 1)) k ≡ bit_at (b / 2) k) → bit_at (bit_and b (b - 1)) i ≡ bit_at b i
others_by b t zero zero p e ne rest = let both = bit_at_and b (b - 1) 0 in let low = bit_at_lowest b in omega (arith, both, low, e)
others_by b t zero (suc k) p e ne rest = at_next b (b / 2 - 1) k (omega (arith, p, e)) ∙ rest k e (λ z. ne (ap suc z)) ∙ sym (bit_at-suc b k)
others_by b t (suc d) zero p e ne rest = absurd (ne refl)
others_by b t (suc d) (suc k) p e ne rest = at_next b (b / 2) k (omega (arith, p, e)) ∙ same (b / 2) k ∙ sym (bit_at-suc b k)
  where
    same : (n k : ℕ) → bit_at (bit_and n n) k ≡ bit_at n k
    same n k = let both = bit_at_and n n k in omega (arith, both)

keep_others : (w b i : ℕ) → 0 < b → b < 2 ^ w → i ≢ count_trailing_zeros w b → bit_at (bit_and b (b - 1)) i ≡ bit_at b i
unfolding count_trailing_zeros
keep_others zero b i p q ne = absurd (omega (arith, p, q))
keep_others (suc w) b i p q ne =
    others_by b (count_trailing_zeros w (b / 2)) (b % 2) i p refl ne (λ k e off. keep_others w (b / 2) k (omega (arith, p, e)) (omega (arith, q, pow-suc 2 w)) off)

-- as code takes its lowest bit from a number
pub without_lowest : (left : ℕ) → left ≢ 0 → left < 2 ^ 32 → IsWithout left (trailing_zeros w32 left) (bit_and left (left - 1))
without_lowest left some fits = record {
  less = and_le_l left (left - 1);
  clear = clear_lowest 32 left (omega (arith, some)) fits;
  others = λ i ne. keep_others 32 left i (omega (arith, some)) fits ne;
}
