-- The samples of a level edge, whose values are counted in rows.
use Rattle.std.proofs.Common.{◌≡◌, ◌∙◌, ap, sym, ℕ, ℤ, pos, negsuc, zero, suc, ◌<◌, ◌^◌, ◌+ℤ◌, ◌*ℤ◌, ◌≤ℤ◌, neg_ℤ, nat_abs, arith}
use Rattle.std.specs.Cmp.{both_ways}
use Rattle.std.specs.Int.{int_div_euclid, int_min, int_max, int_signum}
use Rattle.std.proofs.lemmas.Int.{ints, clamps}
use Rattle.cull_base.specs.Bounds.{Bounded}
use Rattle.edge_lanes.specs.Lanes.{is_not_negative}
use Rattle.edge_lanes.specs.Lines.{counts_at, line}
use Rattle.edge_lanes.proofs.Floors.{below_floor, from_below_floor, le_of, neg-times, of_le, times-assoc, times-swap}

-- a value in whole rows has the sign of the value
rows_sign : (n s row : ℤ) (p y : ℕ) → 0 < p → row ≡ s *ℤ pos p → is_not_negative (int_div_euclid n (pos p) +ℤ (s *ℤ pos y)) ≡ is_not_negative (n +ℤ (row *ℤ pos y))
rows_sign n s row p y h e =
    let q = int_div_euclid n (pos p) in let w = s *ℤ pos y in
    let t : neg_ℤ w *ℤ pos p ≡ neg_ℤ (row *ℤ pos y) = neg-times w (pos p) ∙ ap neg_ℤ (times-swap s (pos y) (pos p) ∙ ap (λ (v : ℤ). v *ℤ pos y) (sym e)) in
    both_ways _ _
    (λ k. of_le _ _ (sum n (neg_ℤ w *ℤ pos p) (row *ℤ pos y) t (below_floor (neg_ℤ w) n p h (moved q w (le_of _ _ k)))))
    (λ k. of_le _ _ (back q w (from_below_floor (neg_ℤ w) n p h (least n (neg_ℤ w *ℤ pos p) (row *ℤ pos y) t (le_of _ _ k)))))
  where
    moved : (q w : ℤ) → pos 0 ≤ℤ (q +ℤ w) → neg_ℤ w ≤ℤ q
    moved q w h = omega (arith, ints, h)

    back : (q w : ℤ) → neg_ℤ w ≤ℤ q → pos 0 ≤ℤ (q +ℤ w)
    back q w h = omega (arith, ints, h)

    sum : (n a m : ℤ) → a ≡ neg_ℤ m → a ≤ℤ n → pos 0 ≤ℤ (n +ℤ m)
    sum n a m e h = omega (arith, ints, e, h)

    least : (n a m : ℤ) → a ≡ neg_ℤ m → pos 0 ≤ℤ (n +ℤ m) → a ≤ℤ n
    least n a m e h = omega (arith, ints, e, h)

-- cut to a range past all of a screen's rows, with less than a row added, it keeps its sign on the screen
cut_sign : (q z w : ℤ) (x : ℕ) → z ≡ int_max (neg_ℤ (pos 4096)) (int_min q (pos 4096)) → Bounded 2047 w → x < 2 ^ 11 →
    is_not_negative (((pos 2048 *ℤ z) +ℤ (pos 1 *ℤ pos x)) +ℤ (pos 2048 *ℤ w)) ≡ is_not_negative (q +ℤ w)
cut_sign q z w x e b h = both_ways _ _ (λ k. of_le _ _ (forth q z w x e b h (le_of _ _ k))) (λ k. of_le _ _ (back q z w x e b h (le_of _ _ k)))
  where
    forth : (q z w : ℤ) (x : ℕ) → z ≡ int_max (neg_ℤ (pos 4096)) (int_min q (pos 4096)) → Bounded 2047 w → x < 2 ^ 11 →
        pos 0 ≤ℤ (((pos 2048 *ℤ z) +ℤ (pos 1 *ℤ pos x)) +ℤ (pos 2048 *ℤ w)) → pos 0 ≤ℤ (q +ℤ w)
    forth q z w x e b h k = omega (arith, ints, clamps, e, b, h, k)

    back : (q z w : ℤ) (x : ℕ) → z ≡ int_max (neg_ℤ (pos 4096)) (int_min q (pos 4096)) → Bounded 2047 w → x < 2 ^ 11 →
        pos 0 ≤ℤ (q +ℤ w) → pos 0 ≤ℤ (((pos 2048 *ℤ z) +ℤ (pos 1 *ℤ pos x)) +ℤ (pos 2048 *ℤ w))
    back q z w x e b h k = omega (arith, ints, clamps, e, b, h, k)

-- a level edge whose rows add so many times a sign
counts_rows : (start row z s : ℤ) (p x y : ℕ) → 0 < p → row ≡ s *ℤ pos p → z ≡ int_max (neg_ℤ (pos 4096)) (int_min (int_div_euclid start (pos p)) (pos 4096)) →
    Bounded 2047 (s *ℤ pos y) → x < 2 ^ 11 → counts_at (line (pos 2048 *ℤ z) (pos 1) (pos 2048 *ℤ s)) x y ≡ counts_at (line start (pos 0) row) x y
counts_rows start row z s p x y h er ez b hx =
    ap (λ (v : ℤ). is_not_negative (((pos 2048 *ℤ z) +ℤ (pos 1 *ℤ pos x)) +ℤ v)) (times-assoc (pos 2048) s (pos y))
    ∙ cut_sign (int_div_euclid start (pos p)) z (s *ℤ pos y) x ez b hx
    ∙ rows_sign start s row p y h er
    ∙ ap is_not_negative (level start (row *ℤ pos y) x)
  where
    level : (a m : ℤ) (x : ℕ) → a +ℤ m ≡ (a +ℤ (pos 0 *ℤ pos x)) +ℤ m
    level a m x = omega (arith, ints)

-- by the size of a row's step and its sign
pub counts_level : (start row size q z s : ℤ) (x y : ℕ) → size ≡ int_max (pos (nat_abs row)) (pos 1) → q ≡ int_div_euclid start size →
    z ≡ int_max (neg_ℤ (pos 4096)) (int_min q (pos 4096)) → s ≡ int_signum row → x < 2 ^ 11 → y < 2 ^ 11 →
    counts_at (line (pos 2048 *ℤ z) (pos 1) (pos 2048 *ℤ s)) x y ≡ counts_at (line start (pos 0) row) x y
counts_level start (pos zero) size q z s x y es eq ez eg hx hy =
    let e : size ≡ pos 1 = es in let g : s ≡ pos 0 = eg in
    rw g (counts_rows start (pos 0) z (pos 0) 1 x y (omega arith) (omega (arith, ints)) (rw (← e, ← eq) ez) (omega (arith, ints)) hx)
counts_level start (pos (suc r)) size q z s x y es eq ez eg hx hy =
    let e : size ≡ pos (suc r) = omega (arith, ints, clamps, es) in let g : s ≡ pos 1 = omega (arith, ints, eg) in
    rw g (counts_rows start (pos (suc r)) z (pos 1) (suc r) x y (omega arith) (omega (arith, ints)) (rw (← e, ← eq) ez) (omega (arith, ints)) hx)
counts_level start (negsuc r) size q z s x y es eq ez eg hx hy =
    let e : size ≡ pos (suc r) = omega (arith, ints, clamps, es) in let g : s ≡ negsuc 0 = eg in
    rw g (counts_rows start (negsuc r) z (negsuc 0) (suc r) x y (omega arith) (omega (arith, ints)) (rw (← e, ← eq) ez) (omega (arith, ints)) hx)
