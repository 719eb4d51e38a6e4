-- Numbers as sizes and a rest, and what their sums are in lanes.
use Rattle.std.proofs.Common.{◌≡◌, ℕ, ℤ, pos, negsuc, ◌<ℤ◌, sym, ◌+◌, ◌-◌, ◌*◌, ◌<◌, ◌≤◌, ◌^◌, ◌+ℤ◌, ◌-ℤ◌, ◌*ℤ◌, ◌≤ℤ◌, List, [], ◌∷◌, map, length, suc, zero, min, nat_lt, nat_le, cond, true, false, Bool, slice_index_or, get_or, replicate, subst, arith, refl, ap, ◌∙◌, Fits, w32}
use Rattle.std.specs.Simd.Lanes.{zip2, sel_l, top, Each2}
use Rattle.std.proofs.lemmas.Int.{ints, by_lt_z}
use Rattle.std.proofs.lemmas.Simd.{Each2-splat, Each1-from_get_or}
use Rattle.std.proofs.lemmas.Bool.Decides.{nat_tests}
use Rattle.cull_base.specs.declared.nearness.TheConstants.{HELD_TOP}
use Rattle.cull_base.proofs.EightLanes.{each_of_eight}
use Rattle.cull_base.proofs.Ring.{diff-mul, diff-sub, diff-add, diff-same, over3}
use Rattle.cull_base.specs.Depth.{floor_of, cut_to_range}
use Rattle.depth_plane.specs.Floors.{AreFloors, number_at}
use Rattle.depth_plane.specs.declared.floor_lanes.Share.{Share}
use Rattle.depth_plane.proofs.Products.{le_times, le_from_times}
use Rattle.depth_plane.proofs.Floors.{floor_of-le, floor_of-lt}

-- a product with a difference
pub minus_times : (a b d : ℤ) → (a -ℤ b) *ℤ d ≡ (a *ℤ d) -ℤ (b *ℤ d)
minus_times = over3 (λ a b d. (a -ℤ b) *ℤ d ≡ (a *ℤ d) -ℤ (b *ℤ d)) (λ a a' b b' d d'. simp (diff-sub, diff-mul) (diff-same _ _ _ _ (omega arith)))

-- a whole quotient and its rest, of a number that was held so much greater
pub share_is : (n : ℤ) (x q d r : ℕ) → pos x ≡ n +ℤ (pos (2 ^ 28) *ℤ pos d) → x ≡ q * d + r → n ≡ ((pos q -ℤ pos (2 ^ 28)) *ℤ pos d) +ℤ pos r
share_is n x q d r ex e = let l = minus_times (pos q) (pos (2 ^ 28)) (pos d) in rw l (omega (arith, ints, ex, e))

-- lane by lane, no sum wraps
pub moved_fits : (xs : List ℕ) (y : ℕ) → length xs ≡ 8 → ((j : ℕ) → j < 8 → get_or xs j 0 + y < 2 ^ 32) → Each2 (λ a b. Fits w32 (a + b)) xs (replicate 8 y)
moved_fits xs y eight h = Each2-splat (λ a b. Fits w32 (a + b)) xs 8 y (Each1-from_get_or (λ a. Fits w32 (a + y)) xs 0 (λ j lt. record { fits = h j (omega (arith, lt, eight)) }))

each_pair : (R : ℕ → ℕ → Type 0) (xs ys : List ℕ) → ((j : ℕ) → j < length xs → R (get_or xs j 0) (get_or ys j 0)) → Each2 R xs ys
each_pair R [] ys h = tt
each_pair R (x ∷ xs) [] h = tt
each_pair R (x ∷ xs) (y ∷ ys) h = (h 0 (omega arith), each_pair R xs ys (λ j lt. h (suc j) (omega (arith, lt))))

pub sums_fit : (xs ys : List ℕ) → length xs ≡ 8 → ((j : ℕ) → j < 8 → get_or xs j 0 + get_or ys j 0 < 2 ^ 32) → Each2 (λ a b. Fits w32 (a + b)) xs ys
sums_fit xs ys eight h = each_pair (λ a b. Fits w32 (a + b)) xs ys (λ j lt. record { fits = h j (omega (arith, lt, eight)) })

-- what a lane's comparison says
told_is : (b : Bool) → top 31 (cond b 4294967295 0) ≡ b
told_is true = refl
told_is false = refl

abbrev told : (ℕ → ℕ → Bool) → List ℕ → List ℕ → List Bool
told test xs ys = map (top 31) (zip2 (λ a b. cond (test a b) 4294967295 0) xs ys)

ones_are : (least : ℕ) (xs : List ℕ) →
    sel_l {A = ℕ} (told nat_le (replicate (length xs) least) xs) (replicate (length xs) 1) (replicate (length xs) 0) ≡ map (λ n. cond (nat_le least n) 1 0) xs
ones_are least [] = refl
ones_are least (x ∷ xs) =
    ap (λ (r : List ℕ). cond (top 31 (cond (nat_le least x) 4294967295 0)) 1 0 ∷ r) (ones_are least xs) ∙ ap (λ b. cond b 1 0 ∷ map (λ n. cond (nat_le least n) 1 0) xs) (told_is (nat_le least x))

pub eight_ones : (least : ℕ) (xs : List ℕ) → length xs ≡ 8 → sel_l {A = ℕ} (told nat_le (replicate 8 least) xs) (replicate 8 1) (replicate 8 0) ≡ map (λ n. cond (nat_le least n) 1 0) xs
eight_ones least xs eight = subst (λ k. sel_l {A = ℕ} (told nat_le (replicate k least) xs) (replicate k 1) (replicate k 0) ≡ map (λ n. cond (nat_le least n) 1 0) xs) eight (ones_are least xs)

-- no less than a number
abbrev no_less : List ℕ → List ℕ → List ℕ
no_less xs zs = sel_l (told nat_lt xs zs) zs xs

no_less_fits : (z : ℕ) (xs : List ℕ) → Each2 (λ a b. b ≤ a) (no_less xs (replicate (length xs) z)) (replicate (length xs) z)
no_less_fits z [] = tt
no_less_fits z (x ∷ xs) = (by_test (top 31 (cond (nat_lt x z) 4294967295 0)) (told_is (nat_lt x z)), no_less_fits z xs)
  where
    by_test : (b : Bool) → b ≡ nat_lt x z → z ≤ cond b z x
    by_test true e = omega arith
    by_test false e = grind (arith, nat_tests, e)

pub eight_no_less : (z : ℕ) (xs : List ℕ) → length xs ≡ 8 → Each2 (λ a b. b ≤ a) (no_less xs (replicate 8 z)) (replicate 8 z)
eight_no_less z xs eight = subst (λ k. Each2 (λ a b. b ≤ a) (no_less xs (replicate k z)) (replicate k z)) eight (no_less_fits z xs)

abbrev above : List ℕ → List ℕ → List ℕ
above xs zs = zip2 (λ a b. a - b) (no_less xs zs) zs

cut_one : (x z t : ℕ) → cond (nat_lt (cond (nat_lt x z) z x - z) t) (cond (nat_lt x z) z x - z) t ≡ min (x - z) t
cut_one x z t = grind (arith, nat_tests)

cut_are : (z t : ℕ) (xs : List ℕ) → sel_l (told nat_lt (above xs (replicate (length xs) z)) (replicate (length xs) t)) (above xs (replicate (length xs) z)) (replicate (length xs) t) ≡ map (λ n. min (n - z) t) xs
cut_are z t [] = refl
cut_are z t (x ∷ xs) =
    let m = cond (top 31 (cond (nat_lt x z) 4294967295 0)) z x - z in
    ap (λ (r : List ℕ). cond (top 31 (cond (nat_lt m t) 4294967295 0)) m t ∷ r) (cut_are z t xs)
    ∙ ap (λ b. cond b m t ∷ map (λ n. min (n - z) t) xs) (told_is (nat_lt m t))
    ∙ ap (λ b. let m = cond b z x - z in cond (nat_lt m t) m t ∷ map (λ n. min (n - z) t) xs) (told_is (nat_lt x z))
    ∙ ap (λ (n : ℕ). n ∷ map (λ n. min (n - z) t) xs) (cut_one x z t)

pub eight_cut : (z t : ℕ) (xs : List ℕ) → length xs ≡ 8 → sel_l (told nat_lt (above xs (replicate 8 z)) (replicate 8 t)) (above xs (replicate 8 z)) (replicate 8 t) ≡ map (λ n. min (n - z) t) xs
eight_cut z t xs eight = subst (λ k. sel_l (told nat_lt (above xs (replicate k z)) (replicate k t)) (above xs (replicate k z)) (replicate k t) ≡ map (λ n. min (n - z) t) xs) eight (cut_are z t xs)

-- n as sizes d, held greater by 2^28, and a rest
abbrev pub ShareOf : ℤ → ℕ → ℕ → ℕ → Type 0
ShareOf n d w r = n ≡ ((pos w -ℤ pos (2 ^ 28)) *ℤ pos d) +ℤ pos r

-- of a sum
pub share_sum : (m n : ℤ) (d aw ar bw br w r : ℕ) → ShareOf m d aw ar → ShareOf n d bw br → (pos w *ℤ pos d) +ℤ pos r ≡ ((((pos aw +ℤ pos bw) -ℤ pos (2 ^ 28)) *ℤ pos d) +ℤ pos ar) +ℤ pos br → ShareOf (m +ℤ n) d w r
share_sum m n d aw ar bw br w r ea eb e =
    let a = minus_times (pos aw) (pos (2 ^ 28)) (pos d) in let b = minus_times (pos bw) (pos (2 ^ 28)) (pos d) in
    let s = minus_times (pos (aw + bw)) (pos (2 ^ 28)) (pos d) in let t = minus_times (pos w) (pos (2 ^ 28)) (pos d) in
    rw t (joined m n (pos (aw * d)) (pos (bw * d)) (pos (2 ^ 28 * d)) (pos w *ℤ pos d) (pos ar) (pos br) (pos r) (rw a at ea) (rw b at eb) (apart (rw s at e)))
  where
    joined : (m n a b k w p q r : ℤ) → m ≡ (a -ℤ k) +ℤ p → n ≡ (b -ℤ k) +ℤ q → w +ℤ r ≡ ((((a +ℤ b) -ℤ k) +ℤ p) +ℤ q) → m +ℤ n ≡ (w -ℤ k) +ℤ r
    joined m n a b k w p q r em en e = omega (arith, ints, em, en, e)

    apart : (pos w *ℤ pos d) +ℤ pos r ≡ (((pos ((aw + bw) * d)) -ℤ pos (2 ^ 28 * d)) +ℤ pos ar) +ℤ pos br → (pos w *ℤ pos d) +ℤ pos r ≡ ((((pos (aw * d) +ℤ pos (bw * d)) -ℤ pos (2 ^ 28 * d)) +ℤ pos ar) +ℤ pos br)
    apart e = omega (arith, ints, e)

-- a number of at most so many sizes
pub share_le : (n : ℤ) (d w r : ℕ) → 0 < d → ShareOf n d w r → n ≤ℤ pos (2 ^ 28 * d) → w ≤ 2 ^ 29
share_le n d w r p e h =
    let a = minus_times (pos w) (pos (2 ^ 28)) (pos d) in
    let f : n ≡ (pos (w * d) -ℤ pos (2 ^ 28 * d)) +ℤ pos r = rw a at e in
    let g = le_from_times (pos w) (pos (2 ^ 29)) (pos d) (omega (arith, ints, p)) (omega (arith, ints, f, h)) in
    omega (arith, ints, g)

pub lt_step : (a b d : ℤ) → pos 0 <ℤ d → (a *ℤ d) <ℤ ((b *ℤ d) +ℤ d) → a ≤ℤ b
lt_step a b d h l = by_lt_z b a (λ k.
    let p = le_times (b +ℤ pos 1) a d (omega (arith, ints, h)) (omega (arith, ints, k)) in
    let e = add_times b (pos 1) d in let f = one_times d in
    absurd (omega (arith, ints, p, e, f, l))) (λ k. k)
  where
    add_times : (a b d : ℤ) → (a +ℤ b) *ℤ d ≡ (a *ℤ d) +ℤ (b *ℤ d)
    add_times = over3 (λ a b d. (a +ℤ b) *ℤ d ≡ (a *ℤ d) +ℤ (b *ℤ d)) (λ a a' b b' d d'. simp (diff-add, diff-mul) (diff-same _ _ _ _ (omega arith)))

    one_times : (d : ℤ) → pos 1 *ℤ d ≡ d
    one_times d = omega (arith, ints)

-- a whole number of sizes and a rest below the size: the whole is the floor
pub floor_is : (n q : ℤ) (d t : ℕ) → t < d → n ≡ (q *ℤ pos d) +ℤ pos t → floor_of n (pos d) ≡ q
floor_is n q d t lt e =
    let p : pos 0 <ℤ pos d = omega (arith, ints, lt) in
    let a = floor_of-le n (pos d) p in let b = floor_of-lt n (pos d) p in
    let up = lt_step (floor_of n (pos d)) q (pos d) p (below (floor_of n (pos d) *ℤ pos d) (q *ℤ pos d) a e) in
    let down = lt_step q (floor_of n (pos d)) (pos d) p (past (floor_of n (pos d) *ℤ pos d) (q *ℤ pos d) b e) in
    same (floor_of n (pos d)) q up down
  where
    below : (f k : ℤ) → f ≤ℤ n → n ≡ k +ℤ pos t → f <ℤ (k +ℤ pos d)
    below f k a e = omega (arith, ints, a, e, lt)

    past : (f k : ℤ) → n <ℤ (f +ℤ pos d) → n ≡ k +ℤ pos t → k <ℤ (f +ℤ pos d)
    past f k b e = omega (arith, ints, b, e)

    same : (x y : ℤ) → x ≤ℤ y → y ≤ℤ x → x ≡ y
    same x y a b = omega (arith, ints, a, b)

-- a number is cut to the range
pub cut_is : (z : ℤ) (v top : ℕ) → (z <ℤ pos 0 → v ≡ 0) → (pos 0 ≤ℤ z → z ≤ℤ pos top → pos v ≡ z) → (pos top <ℤ z → v ≡ top) → v ≡ cut_to_range top z
cut_is (negsuc n) v top a b c = a (omega (arith, ints))
cut_is (pos n) v top a b c = by_lt_z (pos top) (pos n) (λ l. let e = c l in omega (arith, ints, e, l)) (λ l. let e = b (omega (arith, ints)) l in omega (arith, ints, e, l))

abbrev sum_of : ℕ → ℕ → ℕ → ℕ
sum_of w q c = min ((w + min q (2 ^ 30) + c) - (2 ^ 29 + 2 ^ 28)) HELD_TOP

-- where the number held greater isn't negative
lane_above : (n m : ℤ) (d q s w r c t : ℕ) → t < d → r + s ≡ c * d + t → c ≤ 1 → w ≤ 2 ^ 29 + 2 → ShareOf m d w r → pos (q * d + s) ≡ n +ℤ pos (2 ^ 29 * d) →
    sum_of w q c ≡ cut_to_range HELD_TOP (floor_of (n +ℤ m) (pos d))
lane_above n m d q s w r c t lt et lc lw em en =
    let z : ℤ = pos (q + w + c) -ℤ pos (2 ^ 29 + 2 ^ 28) in
    let a = minus_times (pos w) (pos (2 ^ 28)) (pos d) in
    let b = minus_times (pos (q + w + c)) (pos (2 ^ 29 + 2 ^ 28)) (pos d) in
    let f : m ≡ (pos (w * d) -ℤ pos (2 ^ 28 * d)) +ℤ pos r = rw a at em in
    let e : n +ℤ m ≡ (z *ℤ pos d) +ℤ pos t = rw b (omega (arith, ints, f, en, et)) in
    let is = floor_is (n +ℤ m) z d t lt e in
    rw is (cut_is z (sum_of w q c) HELD_TOP (λ l. omega (arith, ints, l)) (λ l k. omega (arith, ints, l, k)) (λ l. omega (arith, ints, l, lw)))

none_of : (q d s : ℕ) → 0 < d → q * d + s ≡ 0 → q ≡ 0
none_of zero d s h e = refl
none_of (suc q) d s h e = absurd (omega (arith, h, e))

-- where it is, each sum is cut to 0
lane_below : (n m : ℤ) (d q s w r c : ℕ) → 0 < d → r < d → q ≡ 0 → c ≡ 0 → w ≤ 2 ^ 29 + 2 → ShareOf m d w r → (n +ℤ pos (2 ^ 29 * d)) <ℤ pos 0 →
    sum_of w q c ≡ cut_to_range HELD_TOP (floor_of (n +ℤ m) (pos d))
lane_below n m d q s w r c p lr eq ec lw em h =
    let a = minus_times (pos w) (pos (2 ^ 28)) (pos d) in
    let f : m ≡ (pos (w * d) -ℤ pos (2 ^ 28 * d)) +ℤ pos r = rw a at em in
    let k = le_times (pos w) (pos (2 ^ 29 + 2)) (pos d) (omega (arith, ints)) (omega (arith, ints, lw)) in
    let neg : (n +ℤ m) <ℤ pos 0 = omega (arith, ints, f, k, lr, h, p) in
    let l = floor_of-le (n +ℤ m) (pos d) (omega (arith, ints, p)) in
    let less = negative (floor_of (n +ℤ m) (pos d)) (n +ℤ m) l neg in
    cut_is (floor_of (n +ℤ m) (pos d)) (sum_of w q c) HELD_TOP (λ l. omega (arith, eq, ec, lw)) (λ l k. absurd (clash (floor_of (n +ℤ m) (pos d)) less l)) (λ l. absurd (clash (floor_of (n +ℤ m) (pos d)) less (omega (arith, ints, l))))
  where
    negative : (x y : ℤ) → (x *ℤ pos d) ≤ℤ y → y <ℤ pos 0 → x <ℤ pos 0
    negative (pos x) y l k = absurd (omega (arith, ints, l, k))
    negative (negsuc x) y l k = omega (arith, ints)

    clash : (x : ℤ) → x <ℤ pos 0 → pos 0 ≤ℤ x → ⊥
    clash x l k = omega (arith, ints, l, k)

-- A lane's sum, cut, is the floor of a number and another: x is the one held greater, q its whole and s its rest.
pub lane_is : (n m y : ℤ) (d x q s w r : ℕ) → r < d → s < d → w ≤ 2 ^ 29 + 2 → ShareOf m d w r → y ≡ n +ℤ (pos (2 ^ 29) *ℤ pos d) → (pos 0 ≤ℤ y → pos x ≡ y) → (y <ℤ pos 0 → x ≡ 0) → x ≡ q * d + s →
    min ((w + min q (2 ^ 30) + cond (nat_le d (r + s)) 1 0) - (2 ^ 29 + 2 ^ 28)) HELD_TOP ≡ cut_to_range HELD_TOP (floor_of (n +ℤ m) (pos d))
lane_is n m y d x q s w r lr ls lw em ey at_least less ex =
    let p : 0 < d = omega (arith, lr) in
    by_lt_z y (pos 0)
    (λ l.
    let e : q * d + s ≡ 0 = sym ex ∙ less l in
    let none = none_of q d s p e in
    let rest : s ≡ 0 = omega (arith, e) in
    lane_below n m d q s w r (cond (nat_le d (r + s)) 1 0) p lr none (grind (arith, nat_tests, rest, lr)) lw em (omega (arith, ints, ey, l)))
    (λ l.
    let f = at_least l in
    let en : pos (q * d + s) ≡ n +ℤ pos (2 ^ 29 * d) = omega (arith, ints, f, ex, ey) in
    by_carry (nat_le d (r + s)) (λ h. grind (arith, nat_tests, h)) (λ h. grind (arith, nat_tests, h)) en)
  where
    by_carry : (b : Bool) → (b ≡ true → d ≤ r + s) → (b ≡ false → r + s < d) → pos (q * d + s) ≡ n +ℤ pos (2 ^ 29 * d) → sum_of w q (cond b 1 0) ≡ cut_to_range HELD_TOP (floor_of (n +ℤ m) (pos d))
    by_carry true a b en = let h = a refl in lane_above n m d q s w r 1 (r + s - d) (omega (arith, lr, ls, h)) (omega (arith, h)) (omega arith) lw em en
    by_carry false a b en = let h = b refl in lane_above n m d q s w r 0 (r + s) h (omega arith) (omega arith) lw em en

pub summed : (m n : ℤ) (d k : ℕ) (a b s : Share) → k ≡ d → ShareOf m d a.whole a.rest → ShareOf n d b.whole b.rest →
    (pos s.whole *ℤ pos k) +ℤ pos s.rest ≡ ((((pos a.whole +ℤ pos b.whole) -ℤ pos (2 ^ 28)) *ℤ pos k) +ℤ pos a.rest) +ℤ pos b.rest → ShareOf (m +ℤ n) d s.whole s.rest
summed m n d k a b s e ea eb v = share_sum m n d a.whole a.rest b.whole b.rest s.whole s.rest ea eb (subst (λ k. (pos s.whole *ℤ pos k) +ℤ pos s.rest ≡ ((((pos a.whole +ℤ pos b.whole) -ℤ pos (2 ^ 28)) *ℤ pos k) +ℤ pos a.rest) +ℤ pos b.rest) e v)

renamed : (m n : ℤ) (d w r : ℕ) → m ≡ n → ShareOf m d w r → ShareOf n d w r
renamed m n d w r e h = sym e ∙ h

-- the shares of eight numbers, the first of which is 0
pub are_floors : (x y : ℤ) (d : ℕ) (one two three four five six seven : Share) → d < 2 ^ 31 → 0 < d →
    one.rest < d → two.rest < d → three.rest < d → four.rest < d → five.rest < d → six.rest < d → seven.rest < d →
    one.whole ≤ 2 ^ 29 + 2 → two.whole ≤ 2 ^ 29 + 2 → three.whole ≤ 2 ^ 29 + 2 → four.whole ≤ 2 ^ 29 + 2 → five.whole ≤ 2 ^ 29 + 2 → six.whole ≤ 2 ^ 29 + 2 → seven.whole ≤ 2 ^ 29 + 2 →
    ShareOf x d one.whole one.rest → ShareOf (x +ℤ x) d two.whole two.rest → ShareOf ((x +ℤ x) +ℤ x) d three.whole three.rest → ShareOf y d four.whole four.rest →
    ShareOf (y +ℤ x) d five.whole five.rest → ShareOf (y +ℤ (x +ℤ x)) d six.whole six.rest → ShareOf (y +ℤ ((x +ℤ x) +ℤ x)) d seven.whole seven.rest →
    AreFloors x y d (2 ^ 28 ∷ one.whole ∷ two.whole ∷ three.whole ∷ four.whole ∷ five.whole ∷ six.whole ∷ seven.whole ∷ []) (0 ∷ one.rest ∷ two.rest ∷ three.rest ∷ four.rest ∷ five.rest ∷ six.rest ∷ seven.rest ∷ [])
are_floors x y d one two three four five six seven small p r1 r2 r3 r4 r5 r6 r7 w1 w2 w3 w4 w5 w6 w7 s1 s2 s3 s4 s5 s6 s7 =
    let ws : List ℕ = 2 ^ 28 ∷ one.whole ∷ two.whole ∷ three.whole ∷ four.whole ∷ five.whole ∷ six.whole ∷ seven.whole ∷ [] in
    let rs : List ℕ = 0 ∷ one.rest ∷ two.rest ∷ three.rest ∷ four.rest ∷ five.rest ∷ six.rest ∷ seven.rest ∷ [] in
    record {
      small = small;
      eight_wholes = refl;
      eight_rests = refl;
      wholes_within = each_of_eight (λ j. slice_index_or ws j 0 ≤ 2 ^ 29 + 2) (omega arith) w1 w2 w3 w4 w5 w6 w7;
      rests_within = each_of_eight (λ j. slice_index_or rs j 0 < d) p r1 r2 r3 r4 r5 r6 r7;
      numbers = each_of_eight (λ j. ShareOf (number_at x y j) d (slice_index_or ws j 0) (slice_index_or rs j 0))
          (let e = none x y in let z : pos 0 ≡ (pos 0 *ℤ pos d) +ℤ pos 0 = omega (arith, ints) in e ∙ z)
          (renamed x (number_at x y 1) d one.whole one.rest (omega (arith, ints)) s1)
          (renamed (x +ℤ x) (number_at x y 2) d two.whole two.rest (omega (arith, ints)) s2)
          (renamed ((x +ℤ x) +ℤ x) (number_at x y 3) d three.whole three.rest (omega (arith, ints)) s3)
          (renamed y (number_at x y 4) d four.whole four.rest (omega (arith, ints)) s4)
          (renamed (y +ℤ x) (number_at x y 5) d five.whole five.rest (omega (arith, ints)) s5)
          (renamed (y +ℤ (x +ℤ x)) (number_at x y 6) d six.whole six.rest (omega (arith, ints)) s6)
          (renamed (y +ℤ ((x +ℤ x) +ℤ x)) (number_at x y 7) d seven.whole seven.rest (omega (arith, ints)) s7);
    }
  where
    none : (x y : ℤ) → number_at x y 0 ≡ pos 0
    none x y = omega (arith, ints)
