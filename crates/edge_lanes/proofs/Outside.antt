-- Masks of the samples outside.
use Rattle.std.proofs.Common.{◌≡◌, ℕ, ℤ, ◌*◌, ◌+◌, ◌-◌, arith, Bool, true, false, ◌&&◌, ◌||◌, not, cond, refl, List, [], ◌∷◌, map, bit_or}
use Rattle.std.specs.List.{range_with_len}
use Rattle.std.proofs.lemmas.Nat.{or_block}
use Rattle.std.specs.Simd.Lanes.{mask_l}
use Rattle.cull_base.specs.Piece.{each_sample}
use Rattle.edge_lanes.specs.Lanes.{columns, row_of}
use Rattle.edge_lanes.specs.Lines.{Lines, inside_all, inside_from, outside_any}
use Rattle.edge_lanes.proofs.Masks.{Joins, mask_l-joined}

or_joins : Joins bit_or ◌||◌
or_joins = record { none = refl; block = or_block; both = refl; first = refl; second = refl; neither = refl; three = or_assoc }
  where
    or_assoc : (a b d : Bool) → ((a || b) || d) ≡ (a || (b || d))
    or_assoc true b d = refl
    or_assoc false b d = refl

pub row_of-or : (f g h : ℕ → Bool) (r : ℕ) → bit_or (bit_or (row_of f r) (row_of g r)) (row_of h r) ≡ row_of (λ k. f k || (g k || h k)) r
unfolding row_of
row_of-or f g h r = mask_l-joined bit_or ◌||◌ or_joins (λ c. f (8 * r + c)) (λ c. g (8 * r + c)) (λ c. h (8 * r + c)) columns

-- where the three rows are given
pub row_of-any : (f g h : ℕ → Bool) (r l m n v : ℕ) → v ≡ bit_or (bit_or l m) n → l ≡ row_of f r → m ≡ row_of g r → n ≡ row_of h r → v ≡ row_of (λ k. f k || (g k || h k)) r
row_of-any f g h r l m n v ev el em en = rw (ev, el, em, en) (row_of-or f g h r)

-- a mask and that of the others have all bits
others : (p q : ℕ → Bool) (cs : List ℕ) → ((k : ℕ) → q k ≡ not (p k)) → mask_l (map p cs) + mask_l (map q cs) ≡ mask_l (map (λ (c : ℕ). true) cs)
others p q [] h = refl
others p q (c ∷ cs) h =
    let e = others p q cs h in let f = h c in
    rw f (joined (p c) (mask_l (map p cs)) (mask_l (map q cs)) (mask_l (map (λ (c : ℕ). true) cs)) e)
  where
    joined : (b : Bool) (m n k : ℕ) → m + n ≡ k → (cond b 1 0 + 2 * m) + (cond (not b) 1 0 + 2 * n) ≡ 1 + 2 * k
    joined true m n k e = omega (arith, e)
    joined false m n k e = omega (arith, e)

none_outside : (a b c : Bool) → (not a || (not b || not c)) ≡ not (a && (b && c))
none_outside true true true = refl
none_outside true true false = refl
none_outside true false c = refl
none_outside false b c = refl

pub inside_from_outside : (e : Lines) (s t u : ℤ) (m n : ℕ) → m ≡ mask_l (each_sample (outside_any e s t u)) → n ≡ 4294967295 - m → n ≡ mask_l (each_sample (inside_all e s t u))
unfolding each_sample
inside_from_outside e s t u m n em en =
    let k : mask_l (each_sample (inside_all e s t u)) + mask_l (each_sample (outside_any e s t u)) ≡ 4294967295 = others (inside_all e s t u) (outside_any e s t u) (range_with_len 0 32) (λ k. none_outside (inside_from e.first s k) (inside_from e.second t k) (inside_from e.third u k)) in
    omega (arith, em, en, k)
