-- The step of a row, rounded down to parts of a pixel, falls short, but so little that no crossing moves to another column.
use Rattle.std.proofs.Common.{◌≡◌, ℕ, ℤ, pos, ◌<◌, ◌≤◌, ◌^◌, ◌+ℤ◌, ◌*ℤ◌, ◌≤ℤ◌, ◌<ℤ◌, neg_ℤ, negsuc, nat_abs, [], ◌∷◌, arith}
use Rattle.std.specs.Int.{int_div_euclid}
use Rattle.std.proofs.lemmas.Int.{ints}
use Rattle.std.proofs.Math.Nat.{mul-le-mul_left}
use Rattle.cull_base.specs.Bounds.{Bounded}
use Rattle.cull_base.specs.Depth.{floor_of}
use Rattle.edge_lanes.specs.Between.{column_at}
use Rattle.edge_lanes.specs.Lanes.{offsets_of}
use Rattle.edge_lanes.proofs.Floors.{add-times, floor-le, floor-lt, floor_is, from_below_floor, le-from_times, le-times, times-swap}

-- what p times the parts of row y are, of a first row's parts a and a step's b
times_parts : (a b : ℤ) (p y : ℕ) → ((a +ℤ pos 2048) +ℤ (b *ℤ pos y)) *ℤ pos p ≡ (((a *ℤ pos p) +ℤ (pos 2048 *ℤ pos p)) +ℤ ((b *ℤ pos p) *ℤ pos y))
times_parts a b p y =
    let e = add-times (a +ℤ pos 2048) (b *ℤ pos y) (pos p) in
    let f = add-times a (pos 2048) (pos p) in
    let g = times-swap b (pos y) (pos p) in
    omega (arith, ints, e, f, g)

-- the parts of row y lie at most 2048 parts above the crossing, and not below it
record IsNear (s row a b : ℤ) (p y : ℕ) : Type 0 where
  least : ((s +ℤ (row *ℤ pos y)) *ℤ pos 4294967296) ≤ℤ (((a +ℤ pos 2048) +ℤ (b *ℤ pos y)) *ℤ pos p)
  most : (((a +ℤ pos 2048) +ℤ (b *ℤ pos y)) *ℤ pos p) ≤ℤ (((s +ℤ (row *ℤ pos y)) *ℤ pos 4294967296) +ℤ (pos 2048 *ℤ pos p))

-- by what is rounded down at the first row and at a step
is_near : (s row a b : ℤ) (p y : ℕ) → y < 2 ^ 11 → (a *ℤ pos p) ≤ℤ (s *ℤ pos 4294967296) → (s *ℤ pos 4294967296) <ℤ ((a *ℤ pos p) +ℤ pos p) →
    (b *ℤ pos p) ≤ℤ (row *ℤ pos 4294967296) → (row *ℤ pos 4294967296) <ℤ ((b *ℤ pos p) +ℤ pos p) → IsNear s row a b p y
is_near s row a b p y hy la ga lb gb =
    let e = times_parts a b p y in
    let f = add-times s (row *ℤ pos y) (pos 4294967296) in
    let g = times-swap row (pos y) (pos 4294967296) in
    let h = le-times (b *ℤ pos p) (row *ℤ pos 4294967296) y lb in
    let i = le-times (row *ℤ pos 4294967296) ((b *ℤ pos p) +ℤ pos p) y (weak (row *ℤ pos 4294967296) ((b *ℤ pos p) +ℤ pos p) gb) in
    let j = add-times (b *ℤ pos p) (pos p) (pos y) in
    let k = short p y hy in
    record {
      least = low (a *ℤ pos p) (s *ℤ pos 4294967296) ((b *ℤ pos p) *ℤ pos y) ((row *ℤ pos 4294967296) *ℤ pos y) (pos p *ℤ pos y) _ _ _ _ p e f g i j k ga;
      most = high (a *ℤ pos p) (s *ℤ pos 4294967296) ((b *ℤ pos p) *ℤ pos y) ((row *ℤ pos 4294967296) *ℤ pos y) _ _ _ p e f g h la;
    }
  where
    weak : (x y : ℤ) → x <ℤ y → x ≤ℤ y
    weak x y h = omega (arith, ints, h)

    short : (p y : ℕ) → y < 2 ^ 11 → (pos p *ℤ pos y) ≤ℤ (pos 2047 *ℤ pos p)
    short p y h = let le : y ≤ 2047 = omega (arith, h) in let k = mul-le-mul_left p le in omega (arith, ints, k)

    low : (ap sp bpy rpy py t u v w : ℤ) (p : ℕ) → t ≡ ((ap +ℤ (pos 2048 *ℤ pos p)) +ℤ bpy) → u ≡ sp +ℤ v → v ≡ rpy → rpy ≤ℤ w → w ≡ bpy +ℤ py → py ≤ℤ (pos 2047 *ℤ pos p) → sp <ℤ (ap +ℤ pos p) → u ≤ℤ t
    low ap sp bpy rpy py t u v w p e f g i j k ga = omega (arith, ints, e, f, g, i, j, k, ga)

    high : (ap sp bpy rpy t u v : ℤ) (p : ℕ) → t ≡ ((ap +ℤ (pos 2048 *ℤ pos p)) +ℤ bpy) → u ≡ sp +ℤ v → v ≡ rpy → bpy ≤ℤ rpy → ap ≤ℤ sp → t ≤ℤ (u +ℤ (pos 2048 *ℤ pos p))
    high ap sp bpy rpy t u v p e f g h la = omega (arith, ints, e, f, g, h, la)

-- what lies so near has the same whole columns
same_column : (n t : ℤ) (p : ℕ) → 0 < p → p ≤ 2 ^ 20 → (n *ℤ pos 4294967296) ≤ℤ (t *ℤ pos p) → (t *ℤ pos p) ≤ℤ ((n *ℤ pos 4294967296) +ℤ (pos 2048 *ℤ pos p)) →
    int_div_euclid t (pos 4294967296) ≡ int_div_euclid n (pos p)
same_column n t p h small l m =
    let q = int_div_euclid n (pos p) in
    let lq = floor-le n p h in let gq = floor-lt n p h in
    let e = times-swap q (pos 4294967296) (pos p) in
    floor_is t q 4294967296 (omega arith)
    (le-from_times (q *ℤ pos 4294967296) t p (low (q *ℤ pos p) ((q *ℤ pos 4294967296) *ℤ pos p) n (t *ℤ pos p) p h e lq l))
    (next t (q *ℤ pos 4294967296)
    (le-from_times t ((q *ℤ pos 4294967296) +ℤ pos 4294967295) p
    (let f = add-times (q *ℤ pos 4294967296) (pos 4294967295) (pos p) in
    high (q *ℤ pos p) ((q *ℤ pos 4294967296) *ℤ pos p) n (t *ℤ pos p) (((q *ℤ pos 4294967296) +ℤ pos 4294967295) *ℤ pos p) p small e f gq m)))
  where
    low : (qp qwp n tp : ℤ) (p : ℕ) → 0 < p → qwp ≡ qp *ℤ pos 4294967296 → qp ≤ℤ n → (n *ℤ pos 4294967296) ≤ℤ tp → qwp <ℤ (tp +ℤ pos p)
    low qp qwp n tp p h e lq l = omega (arith, ints, h, e, lq, l)

    high : (qp qwp n tp u : ℤ) (p : ℕ) → p ≤ 2 ^ 20 → qwp ≡ qp *ℤ pos 4294967296 → u ≡ qwp +ℤ (pos 4294967295 *ℤ pos p) → n <ℤ (qp +ℤ pos p) → tp ≤ℤ ((n *ℤ pos 4294967296) +ℤ (pos 2048 *ℤ pos p)) → tp <ℤ (u +ℤ pos p)
    high qp qwp n tp u p small e f gq m = omega (arith, ints, small, e, f, gq, m)

    next : (t v : ℤ) → t ≤ℤ (v +ℤ pos 4294967295) → t <ℤ (v +ℤ pos 4294967296)
    next t v h = omega (arith, ints, h)

-- by the parts of the first row and of a step, rounded down
pub same_crossing : (s row a b start : ℤ) (p y : ℕ) → 0 < p → p ≤ 2 ^ 20 → y < 2 ^ 11 → a ≡ int_div_euclid (s *ℤ pos 4294967296) (pos p) → b ≡ int_div_euclid (row *ℤ pos 4294967296) (pos p) → start ≡ a +ℤ pos 2048 →
    column_at start b (pos 4294967296) y ≡ column_at s row (pos p) y
same_crossing s row a b start p y h small hy ea eb es =
    let la : (a *ℤ pos p) ≤ℤ (s *ℤ pos 4294967296) = rw ea (floor-le (s *ℤ pos 4294967296) p h) in
    let ga : (s *ℤ pos 4294967296) <ℤ ((a *ℤ pos p) +ℤ pos p) = rw ea (floor-lt (s *ℤ pos 4294967296) p h) in
    let lb : (b *ℤ pos p) ≤ℤ (row *ℤ pos 4294967296) = rw eb (floor-le (row *ℤ pos 4294967296) p h) in
    let gb : (row *ℤ pos 4294967296) <ℤ ((b *ℤ pos p) +ℤ pos p) = rw eb (floor-lt (row *ℤ pos 4294967296) p h) in
    let n = is_near s row a b p y hy la ga lb gb in
    rw es (same_column (s +ℤ (row *ℤ pos y)) ((a +ℤ pos 2048) +ℤ (b *ℤ pos y)) p h small n.least n.most)

-- how far the parts lie from 0
pub first_bounded : (s a : ℤ) (p : ℕ) → 0 < p → Bounded (2 ^ 30) s → a ≡ int_div_euclid (s *ℤ pos 4294967296) (pos p) → Bounded (2 ^ 62) a
first_bounded s a p h b e = rw e (
  from_below_floor (neg_ℤ (pos (2 ^ 62))) (s *ℤ pos 4294967296) p h (least s p h b),
  below (int_div_euclid (s *ℤ pos 4294967296) (pos p)) (s *ℤ pos 4294967296) p h (most s b) (floor-le (s *ℤ pos 4294967296) p h),
)
  where
    least : (s : ℤ) (p : ℕ) → 0 < p → Bounded (2 ^ 30) s → (neg_ℤ (pos (2 ^ 62)) *ℤ pos p) ≤ℤ (s *ℤ pos 4294967296)
    least s p h b = omega (arith, ints, h, b)

    most : (s : ℤ) → Bounded (2 ^ 30) s → (s *ℤ pos 4294967296) ≤ℤ pos (2 ^ 62)
    most s b = omega (arith, ints, b)

    below : (q n : ℤ) (p : ℕ) → 0 < p → n ≤ℤ pos (2 ^ 62) → (q *ℤ pos p) ≤ℤ n → q ≤ℤ pos (2 ^ 62)
    below q n p h m l = le-from_times q (pos (2 ^ 62)) p (let k : (q *ℤ pos p) ≤ℤ pos (2 ^ 62) = through (q *ℤ pos p) n m l in wide (q *ℤ pos p) p h k)
      where
        through : (x n : ℤ) → n ≤ℤ pos (2 ^ 62) → x ≤ℤ n → x ≤ℤ pos (2 ^ 62)
        through x n m l = omega (arith, ints, m, l)

        wide : (x : ℤ) (p : ℕ) → 0 < p → x ≤ℤ pos (2 ^ 62) → x <ℤ ((pos (2 ^ 62) *ℤ pos p) +ℤ pos p)
        wide x p h k = omega (arith, ints, h, k)

-- and those of a step
pub step_bounded : (row b : ℤ) (p : ℕ) → 0 < p → row ≤ℤ (pos (2 ^ 18) *ℤ pos p) → (neg_ℤ (pos (2 ^ 18)) *ℤ pos p) ≤ℤ row → b ≡ int_div_euclid (row *ℤ pos 4294967296) (pos p) → Bounded (2 ^ 50) b
step_bounded row b p h m l e = rw e (
  from_below_floor (neg_ℤ (pos (2 ^ 50))) (row *ℤ pos 4294967296) p h (least row p l),
  le-from_times (int_div_euclid (row *ℤ pos 4294967296) (pos p)) (pos (2 ^ 50)) p (most row (int_div_euclid (row *ℤ pos 4294967296) (pos p) *ℤ pos p) p h m (floor-le (row *ℤ pos 4294967296) p h)),
)
  where
    least : (row : ℤ) (p : ℕ) → (neg_ℤ (pos (2 ^ 18)) *ℤ pos p) ≤ℤ row → (neg_ℤ (pos (2 ^ 50)) *ℤ pos p) ≤ℤ (row *ℤ pos 4294967296)
    least row p l = omega (arith, ints, l)

    most : (row x : ℤ) (p : ℕ) → 0 < p → row ≤ℤ (pos (2 ^ 18) *ℤ pos p) → x ≤ℤ (row *ℤ pos 4294967296) → x <ℤ ((pos (2 ^ 50) *ℤ pos p) +ℤ pos p)
    most row x p h m l = omega (arith, ints, h, m, l)

-- the same for an edge's size, which is positive
pub kept_crossing : (s row size a b start : ℤ) (d y : ℕ) → pos 1 ≤ℤ size → size ≤ℤ pos (2 ^ 20) → y < 2 ^ 11 → d ≡ nat_abs size →
    a ≡ floor_of (s *ℤ pos (2 ^ 32)) (pos d) → b ≡ floor_of (row *ℤ pos (2 ^ 32)) (pos d) → start ≡ a +ℤ pos 2048 → column_at start b (pos (2 ^ 32)) y ≡ column_at s row size y
kept_crossing s row (negsuc n) a b start d y h m hy ed ea eb es = absurd (omega (arith, ints, h))
kept_crossing s row (pos p) a b start d y h m hy ed ea eb es =
    let e : d ≡ p = ed in
    same_crossing s row a b start p y (omega (arith, ints, h)) (omega (arith, ints, m)) hy (rw e at ea) (rw e at eb) es

-- its first row's parts lie near 0
pub kept_first : (s size a : ℤ) (d : ℕ) → pos 1 ≤ℤ size → d ≡ nat_abs size → Bounded (2 ^ 30) s → a ≡ floor_of (s *ℤ pos (2 ^ 32)) (pos d) → Bounded (2 ^ 62) a
kept_first s (negsuc n) a d h ed b ea = absurd (omega (arith, ints, h))
kept_first s (pos p) a d h ed b ea = let e : d ≡ p = ed in first_bounded s a p (omega (arith, ints, h)) b (rw e at ea)

-- and a step's
pub kept_step : (row size b : ℤ) (d : ℕ) → pos 1 ≤ℤ size → d ≡ nat_abs size → row ≤ℤ (pos (2 ^ 18) *ℤ size) → (neg_ℤ (pos (2 ^ 18)) *ℤ size) ≤ℤ row →
    b ≡ floor_of (row *ℤ pos (2 ^ 32)) (pos d) → Bounded (2 ^ 50) b
kept_step row (negsuc n) b d h ed m l eb = absurd (omega (arith, ints, h))
kept_step row (pos p) b d h ed m l eb = let e : d ≡ p = ed in step_bounded row b p (omega (arith, ints, h)) m l (rw e at eb)

-- what each of eight rows adds
pub eight_rows : (t : ℤ) → pos 0 ∷ t ∷ (pos 2 *ℤ t) ∷ (pos 3 *ℤ t) ∷ (pos 4 *ℤ t) ∷ (pos 5 *ℤ t) ∷ (pos 6 *ℤ t) ∷ (pos 7 *ℤ t) ∷ [] ≡ offsets_of t
eight_rows t =
    let a : pos 0 ≡ t *ℤ pos 0 = omega (arith, ints) in let b : t ≡ t *ℤ pos 1 = omega (arith, ints) in
    let c : pos 2 *ℤ t ≡ t *ℤ pos 2 = omega (arith, ints) in let d : pos 3 *ℤ t ≡ t *ℤ pos 3 = omega (arith, ints) in
    let e : pos 4 *ℤ t ≡ t *ℤ pos 4 = omega (arith, ints) in let f : pos 5 *ℤ t ≡ t *ℤ pos 5 = omega (arith, ints) in
    let g : pos 6 *ℤ t ≡ t *ℤ pos 6 = omega (arith, ints) in let h : pos 7 *ℤ t ≡ t *ℤ pos 7 = omega (arith, ints) in
    cc
