-- An edge's samples in a row, by the column where it crosses the row.
use Rattle.std.proofs.Common.{◌≡◌, ◌≢◌, ℕ, ℤ, pos, negsuc, zero, suc, ◌<◌, ◌+◌, ◌^◌, ◌+ℤ◌, ◌-ℤ◌, ◌*ℤ◌, ◌≤ℤ◌, ◌<ℤ◌, neg_ℤ, Bool, true, false, ◌&&◌, int_le, int_lt, arith, refl, ◌∙◌}
use Rattle.std.specs.Cmp.{both_ways}
use Rattle.std.specs.Int.{int_div_euclid, int_min, int_max}
use Rattle.std.proofs.lemmas.Int.{ints, clamps, by_lt_z}
use Rattle.cull_base.specs.Bounds.{Bounded}
use Rattle.edge_lanes.specs.Between.{IsLimit, column_at, is_between}
use Rattle.edge_lanes.specs.Lines.{counts_at, line}
use Rattle.edge_lanes.proofs.Floors.{add-times, below_floor, from_below_floor, le_of, lt_of, neg-times, of_le, of_lt}

-- two tests at once
both : (a b : Bool) → a ≡ true → b ≡ true → (a && b) ≡ true
both true b h k = k
both false b h k = h

first : (a b : Bool) → (a && b) ≡ true → a ≡ true
first true b h = refl
first false b h = h

second : (a b : Bool) → (a && b) ≡ true → b ≡ true
second true b h = h
second false b h = cc

-- with the limit 0 the samples before a column, and with 2048 those from it on
before : (c : ℤ) (x : ℕ) → is_between c 0 x ≡ int_lt (pos x) c
before c x = both_ways _ _
    (λ h. of_lt _ _ (forth c x (lt_of _ _ (second (int_le (int_min c (pos 0)) (pos x)) (int_lt (pos x) (int_max c (pos 0))) h))))
    (λ h. both _ _ (of_le _ _ (least c x)) (of_lt _ _ (back c x (lt_of _ _ h))))
  where
    forth : (c : ℤ) (x : ℕ) → pos x <ℤ int_max c (pos 0) → pos x <ℤ c
    forth c x h = omega (arith, ints, clamps, h)

    back : (c : ℤ) (x : ℕ) → pos x <ℤ c → pos x <ℤ int_max c (pos 0)
    back c x h = omega (arith, ints, clamps, h)

    least : (c : ℤ) (x : ℕ) → int_min c (pos 0) ≤ℤ pos x
    least c x = omega (arith, ints, clamps)

from_on : (c : ℤ) (x : ℕ) → x < 2 ^ 11 → is_between c (2 ^ 11) x ≡ int_le c (pos x)
from_on c x l = both_ways _ _
    (λ h. of_le _ _ (forth c x l (le_of _ _ (first (int_le (int_min c (pos 2048)) (pos x)) (int_lt (pos x) (int_max c (pos 2048))) h))))
    (λ h. both _ _ (of_le _ _ (back c x (le_of _ _ h))) (of_lt _ _ (most c x l)))
  where
    forth : (c : ℤ) (x : ℕ) → x < 2 ^ 11 → int_min c (pos 2048) ≤ℤ pos x → c ≤ℤ pos x
    forth c x l h = omega (arith, ints, clamps, h)

    back : (c : ℤ) (x : ℕ) → c ≤ℤ pos x → int_min c (pos 2048) ≤ℤ pos x
    back c x h = omega (arith, ints, clamps, h)

    most : (c : ℤ) (x : ℕ) → x < 2 ^ 11 → pos x <ℤ int_max c (pos 2048)
    most c x l = omega (arith, ints, clamps)

-- one more column's step
one_more : (x p : ℕ) → (pos x +ℤ pos 1) *ℤ pos p ≡ (pos p *ℤ pos x) +ℤ pos p
one_more x p = let e = add-times (pos x) (pos 1) (pos p) in omega (arith, ints, e)

-- an edge whose samples inside lie before the column
counts_before : (start row : ℤ) (p x y : ℕ) → 0 < p → is_between (column_at (start +ℤ pos p) row (pos p) y) 0 x ≡ counts_at (line start (neg_ℤ (pos p)) row) x y
counts_before start row p x y h =
    let n = (start +ℤ pos p) +ℤ (row *ℤ pos y) in let m = row *ℤ pos y in let t = neg-times (pos p) (pos x) in
    before (int_div_euclid n (pos p)) x
    ∙ both_ways _ _
    (λ k. of_le _ _ (value start m x p t (below_floor (pos x +ℤ pos 1) n p h (next x (int_div_euclid n (pos p)) (lt_of _ _ k)))))
    (λ k. of_lt _ _ (less x (int_div_euclid n (pos p)) (from_below_floor (pos x +ℤ pos 1) n p h (back start m x p t (le_of _ _ k)))))
  where
    next : (x : ℕ) (q : ℤ) → pos x <ℤ q → (pos x +ℤ pos 1) ≤ℤ q
    next x q h = omega (arith, ints, h)

    less : (x : ℕ) (q : ℤ) → (pos x +ℤ pos 1) ≤ℤ q → pos x <ℤ q
    less x q h = omega (arith, ints, h)

    value : (a m : ℤ) (x p : ℕ) → neg_ℤ (pos p) *ℤ pos x ≡ neg_ℤ (pos p *ℤ pos x) → ((pos x +ℤ pos 1) *ℤ pos p) ≤ℤ ((a +ℤ pos p) +ℤ m) → pos 0 ≤ℤ ((a +ℤ (neg_ℤ (pos p) *ℤ pos x)) +ℤ m)
    value a m x p t k = let e = one_more x p in omega (arith, ints, t, e, k)

    back : (a m : ℤ) (x p : ℕ) → neg_ℤ (pos p) *ℤ pos x ≡ neg_ℤ (pos p *ℤ pos x) → pos 0 ≤ℤ ((a +ℤ (neg_ℤ (pos p) *ℤ pos x)) +ℤ m) → ((pos x +ℤ pos 1) *ℤ pos p) ≤ℤ ((a +ℤ pos p) +ℤ m)
    back a m x p t k = let e = one_more x p in omega (arith, ints, t, e, k)

-- and one whose samples inside lie from it on
counts_from : (start row : ℤ) (p x y : ℕ) → 0 < p → x < 2 ^ 11 →
    is_between (column_at ((pos p -ℤ pos 1) -ℤ start) (neg_ℤ row) (pos p) y) (2 ^ 11) x ≡ counts_at (line start (pos p) row) x y
counts_from start row p x y h l =
    let n = ((pos p -ℤ pos 1) -ℤ start) +ℤ (neg_ℤ row *ℤ pos y) in let m = row *ℤ pos y in let t = neg-times row (pos y) in
    from_on (int_div_euclid n (pos p)) x l
    ∙ both_ways _ _
    (λ k. of_le _ _ (by_lt_z ((start +ℤ (pos p *ℤ pos x)) +ℤ m) (pos 0)
    (λ less. absurd (apart x (int_div_euclid n (pos p)) (from_below_floor (pos x +ℤ pos 1) n p h (back start m (neg_ℤ row *ℤ pos y) x p t less)) (le_of _ _ k)))
    (λ le. le)))
    (λ k. of_le _ _ (by_lt_z (pos x) (int_div_euclid n (pos p))
    (λ less. absurd (value start m (neg_ℤ row *ℤ pos y) x p t (below_floor (pos x +ℤ pos 1) n p h (next x (int_div_euclid n (pos p)) less)) (le_of _ _ k)))
    (λ le. le)))
  where
    apart : (x : ℕ) (q : ℤ) → (pos x +ℤ pos 1) ≤ℤ q → q ≤ℤ pos x → ⊥
    apart x q h k = omega (arith, ints, h, k)

    next : (x : ℕ) (q : ℤ) → pos x <ℤ q → (pos x +ℤ pos 1) ≤ℤ q
    next x q h = omega (arith, ints, h)

    value : (a m w : ℤ) (x p : ℕ) → w ≡ neg_ℤ m → ((pos x +ℤ pos 1) *ℤ pos p) ≤ℤ (((pos p -ℤ pos 1) -ℤ a) +ℤ w) → pos 0 ≤ℤ ((a +ℤ (pos p *ℤ pos x)) +ℤ m) → ⊥
    value a m w x p t k j = let e = one_more x p in omega (arith, ints, t, e, k, j)

    back : (a m w : ℤ) (x p : ℕ) → w ≡ neg_ℤ m → ((a +ℤ (pos p *ℤ pos x)) +ℤ m) <ℤ pos 0 → ((pos x +ℤ pos 1) *ℤ pos p) ≤ℤ (((pos p -ℤ pos 1) -ℤ a) +ℤ w)
    back a m w x p t k = let e = one_more x p in omega (arith, ints, t, e, k)

-- of a right edge, whose columns take away
turned_right : (start column row first size : ℤ) (x y : ℕ) → column <ℤ pos 0 → first ≡ start -ℤ column → size ≡ neg_ℤ column →
    is_between (column_at first row size y) 0 x ≡ counts_at (line start column row) x y
turned_right start (pos n) row first size x y h ef es = absurd (omega (arith, ints, h))
turned_right start (negsuc n) row first size x y h ef es =
    let f : first ≡ start +ℤ pos (suc n) = omega (arith, ints, ef) in let s : size ≡ pos (suc n) = es in
    rw (f, s) (counts_before start row (suc n) x y (omega arith))

-- of a left edge
turned_left : (start column row first down : ℤ) (x y : ℕ) → pos 0 <ℤ column → first ≡ (column -ℤ pos 1) -ℤ start → down ≡ neg_ℤ row → x < 2 ^ 11 →
    is_between (column_at first down column y) (2 ^ 11) x ≡ counts_at (line start column row) x y
turned_left start (pos n) row first down x y h ef es l = rw (ef, es) (counts_from start row n x y (omega (arith, ints, h)) l)
turned_left start (negsuc n) row first down x y h ef es l = absurd (omega (arith, ints, h))

-- an edge that is a left one, and one that is neither that nor level
pub is_left : (column : ℤ) → int_lt (pos 0) column ≡ true → pos 0 <ℤ column
is_left column h = lt_of (pos 0) column h

pub is_right : (column : ℤ) → column ≢ pos 0 → int_lt (pos 0) column ≡ false → column <ℤ pos 0
is_right (pos zero) s h = absurd (s refl)
is_right (pos (suc n)) s h = let t = of_lt (pos 0) (pos (suc n)) (omega (arith, ints)) in absurd (cc)
is_right (negsuc n) s h = omega (arith, ints)

-- an edge turned, by its numbers
pub record AreTurned (start column row first down size : ℤ) (limit : ℕ) : Type 0 where
  pub within : Bounded (2 ^ 58 + 2 ^ 21) first × Bounded (2 ^ 20) down
  pub sized : (pos 1 ≤ℤ size) × (size ≤ℤ pos (2 ^ 20))
  pub is_limit : IsLimit limit
  pub counts : (x y : ℕ) → x < 2 ^ 11 → is_between (column_at first down size y) limit x ≡ counts_at (line start column row) x y

pub are_turned_left : (start column row first down size : ℤ) → Bounded (2 ^ 58) start → Bounded (2 ^ 20) column → Bounded (2 ^ 20) row → pos 0 <ℤ column →
    first ≡ (column -ℤ pos 1) -ℤ start → down ≡ pos 0 -ℤ row → size ≡ column → AreTurned start column row first down size 2048
are_turned_left start column row first down size bs bc br l ef ed es = record {
  within = ((omega (arith, ints, bs, bc, ef), omega (arith, ints, bs, bc, ef)), (omega (arith, ints, br, ed), omega (arith, ints, br, ed)));
  sized = (omega (arith, ints, l, es), omega (arith, ints, bc, es));
  is_limit = refl;
  counts = λ x y lt. let d : down ≡ neg_ℤ row = omega (arith, ints, ed) in rw es (turned_left start column row first down x y l ef d lt);
}

pub are_turned_right : (start column row first down size : ℤ) → Bounded (2 ^ 58) start → Bounded (2 ^ 20) column → Bounded (2 ^ 20) row → column <ℤ pos 0 →
    first ≡ start -ℤ column → down ≡ row → size ≡ pos 0 -ℤ column → AreTurned start column row first down size 0
are_turned_right start column row first down size bs bc br l ef ed es = record {
  within = ((omega (arith, ints, bs, bc, ef), omega (arith, ints, bs, bc, ef)), (omega (arith, ints, br, ed), omega (arith, ints, br, ed)));
  sized = (omega (arith, ints, l, es), omega (arith, ints, bc, es));
  is_limit = refl;
  counts = λ x y lt. let s : size ≡ neg_ℤ column = omega (arith, ints, es) in rw ed (turned_right start column row first size x y l ef s);
}
