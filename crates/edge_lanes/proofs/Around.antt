-- Values in four lanes of 32 bits, as lanes compute them.
use Rattle.std.proofs.Common.{◌≡◌, ℕ, ℤ, pos, negsuc, neg_ℤ, zero, suc, ◌^◌, ◌+◌, ◌-◌, ◌*◌, ◌%◌, ◌<◌, ◌≤◌, ◌+ℤ◌, ◌-ℤ◌, ◌*ℤ◌, ◌≤ℤ◌, ◌<ℤ◌, Bool, true, false, cond, int_lt, FitsSigned, IsTrue, nat_eq, w32, to_z, of_z, refl, sym, subst, arith, List, [], ◌∷◌, map}
use Rattle.std.specs.Int.{int_div_euclid, int_max}
use Rattle.std.specs.Simd.Lanes.{mask_l, top}
use lib.Signed.{shr_z}
use Rattle.std.proofs.lemmas.Bool.Decides.{nat_tests}
use Rattle.std.proofs.lemmas.Int.{clamps, ints, to_z-of_z}
use Rattle.cull_base.specs.Bounds.{Bounded}
use Rattle.cull_base.proofs.Bounds.{bounded-mul}
use Rattle.edge_lanes.specs.Around.{AreBounded, around, lane, size_of}
use Rattle.edge_lanes.specs.Lines.{held_few}

pub bounded_around : (n : ℕ) (xs : List ℤ) (a b c : ℤ) → xs ≡ around a b c → Bounded n a → Bounded n b → Bounded n c → AreBounded n xs
bounded_around n xs a b c e p q r = rw e (record { are_three = refl; first = p; second = q; third = r })

pub around_same : (a b c x y z : ℤ) → a ≡ x → b ≡ y → c ≡ z → around a b c ≡ around x y z
around_same a b c x y z e f g = rw (e, f, g) refl

-- what a test says
lt_of : (x y : ℤ) → int_lt x y ≡ true → x <ℤ y
lt_of x y h = grind (arith, ints, h)

le_of : (x y : ℤ) → int_lt x y ≡ false → y ≤ℤ x
le_of x y h = grind (arith, ints, h)

-- four tests at once
bit-le : (b : Bool) → cond b 1 0 ≤ 1
bit-le true = omega arith
bit-le false = omega arith

bit-one : (b : Bool) → 1 ≤ cond b 1 0 → b ≡ true
bit-one true h = refl
bit-one false h = absurd (omega (arith, h))

pub all_set : (a b c d : Bool) → mask_l (a ∷ b ∷ c ∷ d ∷ []) % 18446744073709551616 ≡ 15 → (a ≡ true) × (b ≡ true) × (c ≡ true)
all_set a b c d h =
    let p = bit-le a in let q = bit-le b in let r = bit-le c in let s = bit-le d in
    (bit-one a (omega (arith, h)), bit-one b (omega (arith, h)), bit-one c (omega (arith, h)))

-- a lane's opposite
abbrev minus : ℕ → ℕ
minus m = (0 + (4294967296 - m)) % 4294967296

minus_is : (v : ℤ) → Bounded (2 ^ 30) v → minus (of_z w32 v) ≡ of_z w32 (neg_ℤ v)
minus_is (pos zero) b = refl
minus_is (pos (suc n)) b = omega (arith, ints, b)
minus_is (negsuc n) b = omega (arith, ints, b)

-- the greater of two lanes, as it is computed
abbrev pub greater : ℕ → ℕ → ℕ
greater m n = cond (top 31 (cond (int_lt (to_z w32 m) (to_z w32 n)) 4294967295 0)) n m

greater_is : (m n : ℕ) (v w : ℤ) (a : Bool) → to_z w32 m ≡ v → to_z w32 n ≡ w → int_lt (to_z w32 m) (to_z w32 n) ≡ a → to_z w32 (greater m n) ≡ int_max v w
greater_is m n v w true e f g = let p : to_z w32 m <ℤ to_z w32 n = lt_of _ _ g in rw g (omega (arith, ints, clamps, p, e, f))
greater_is m n v w false e f g = let p : to_z w32 n ≤ℤ to_z w32 m = le_of _ _ g in rw g (omega (arith, ints, clamps, p, e, f))

pub size_lane : (v : ℤ) → Bounded (2 ^ 30) v → to_z w32 (greater (of_z w32 v) (minus (of_z w32 v))) ≡ size_of v
size_lane v b =
    let f : FitsSigned w32 v = omega (arith, ints) in let g : FitsSigned w32 (neg_ℤ v) = omega (arith, ints) in
    rw (minus_is v b) (greater_is (of_z w32 v) (of_z w32 (neg_ℤ v)) v (neg_ℤ v) _ (to_z-of_z w32 v f) (to_z-of_z w32 (neg_ℤ v) g) refl)

-- a lane's test against a number
pub below_lane : (m : ℕ) (v : ℤ) → to_z w32 m ≡ v → top 31 (cond (int_lt (to_z w32 m) (pos 1024)) 4294967295 0) ≡ true → v <ℤ pos 1024
below_lane m v e h = by m v (int_lt (to_z w32 m) (pos 1024)) refl e h
  where
    by : (m : ℕ) (v : ℤ) (b : Bool) → int_lt (to_z w32 m) (pos 1024) ≡ b → to_z w32 m ≡ v → top 31 (cond b 4294967295 0) ≡ true → v <ℤ pos 1024
    by m v true g e h = let p : to_z w32 m <ℤ pos 1024 = lt_of _ _ g in omega (arith, ints, p, e)
    by m v false g e h = cc

-- a lane's size, and whether the greater of two sizes is below a number, as lanes tell it
abbrev size : ℤ → ℕ
size v = greater (of_z w32 v) (minus (of_z w32 v))

abbrev pub few_test : ℤ → ℤ → Bool
few_test a b = top 31 (cond (int_lt (to_z w32 (greater (size a) (size b))) (pos 1024)) 4294967295 0)

few_lane : (a b : ℤ) → Bounded (2 ^ 30) a → Bounded (2 ^ 30) b → few_test a b ≡ true → Bounded (2 ^ 10) a × Bounded (2 ^ 10) b
few_lane a b p q h =
    let is : to_z w32 (greater (size a) (size b)) ≡ int_max (size_of a) (size_of b) = greater_is (size a) (size b) (size_of a) (size_of b) _ (size_lane a p) (size_lane b q) refl in
    both a b (below_lane (greater (size a) (size b)) (int_max (size_of a) (size_of b)) is h)
  where
    both : (a b : ℤ) → int_max (size_of a) (size_of b) <ℤ pos 1024 → Bounded (2 ^ 10) a × Bounded (2 ^ 10) b
    both a b l = ((omega (arith, ints, clamps), omega (arith, ints, clamps)), (omega (arith, ints, clamps), omega (arith, ints, clamps)))

set_of : (m : ℕ) → IsTrue (nat_eq m 15) → m ≡ 15
set_of m h = grind (arith, nat_tests, h)

pub few_lanes : (xs ys : List ℤ) → AreBounded (2 ^ 30) xs → AreBounded (2 ^ 30) ys →
    IsTrue (nat_eq (mask_l (few_test (lane xs 0) (lane ys 0) ∷ few_test (lane xs 1) (lane ys 1) ∷ few_test (lane xs 2) (lane ys 2) ∷ few_test (lane xs 0) (lane ys 0) ∷ []) % 18446744073709551616) 15) →
    AreBounded (2 ^ 10) xs × AreBounded (2 ^ 10) ys
few_lanes xs ys f g h =
    let all = all_set (few_test (lane xs 0) (lane ys 0)) (few_test (lane xs 1) (lane ys 1)) (few_test (lane xs 2) (lane ys 2)) (few_test (lane xs 0) (lane ys 0)) (set_of _ h) in
    let a = few_lane (lane xs 0) (lane ys 0) f.first g.first all.0 in
    let b = few_lane (lane xs 1) (lane ys 1) f.second g.second all.1 in
    let c = few_lane (lane xs 2) (lane ys 2) f.third g.third all.2 in
    (record { are_three = f.are_three; first = a.0; second = b.0; third = c.0 }, record { are_three = g.are_three; first = a.1; second = b.1; third = c.1 })

-- a held lane: the lesser of it and a number, and then the greater of that and the number's opposite
abbrev lesser : ℕ → ℕ
lesser m = cond (top 31 (cond (int_lt (to_z w32 m) (pos 16384)) 4294967295 0)) m 16384

abbrev held : ℕ → ℤ
held m = to_z w32 (cond (top 31 (cond (int_lt (to_z w32 (lesser m)) (negsuc 16383)) 4294967295 0)) 4294950912 (lesser m))

held_is : (m : ℕ) (v : ℤ) (a b : Bool) → to_z w32 m ≡ v → int_lt (to_z w32 m) (pos 16384) ≡ a → int_lt (to_z w32 m) (negsuc 16383) ≡ b → held m ≡ held_few v
held_is m v true true e f g = let p : to_z w32 m <ℤ pos 16384 = lt_of _ _ f in let q : to_z w32 m <ℤ negsuc 16383 = lt_of _ _ g in rw (f, g) (omega (arith, ints, clamps, p, q, e))
held_is m v true false e f g = let p : to_z w32 m <ℤ pos 16384 = lt_of _ _ f in let q : negsuc 16383 ≤ℤ to_z w32 m = le_of _ _ g in rw (f, g, e) (omega (arith, ints, clamps, p, q, e))
held_is m v false b e f g = let p : pos 16384 ≤ℤ to_z w32 m = le_of _ _ f in rw f (omega (arith, ints, clamps, p, e))

pub held_lane : (v : ℤ) → FitsSigned w32 v → held (of_z w32 v) ≡ held_few v
held_lane v fits = held_is (of_z w32 v) v _ _ (to_z-of_z w32 v fits) refl refl

pub held_few-bounded : (v : ℤ) → Bounded (2 ^ 14) (held_few v)
held_few-bounded v = (omega (arith, ints, clamps), omega (arith, ints, clamps))

-- a bounded number fits, and a sum of two is bounded
pub fits_bounded : (n : ℕ) (v : ℤ) → n ≤ 2147483647 → Bounded n v → FitsSigned w32 v
fits_bounded n v l h = omega (arith, ints, l, h)

pub sum_bounded : (m n : ℕ) (a b : ℤ) → Bounded m a → Bounded n b → Bounded (m + n) (a +ℤ b)
sum_bounded m n a b p q = (omega (arith, ints, p, q), omega (arith, ints, p, q))

-- what sums and products of bounded lanes come to
product_fits : (m n : ℕ) (a b : ℤ) → m ≤ 2147483647 → n ≤ 2147483647 → m * n ≤ 2147483647 → Bounded m a → Bounded n b → FitsSigned w32 (to_z w32 (of_z w32 a) *ℤ to_z w32 (of_z w32 b))
product_fits m n a b lm ln l p q =
    let fa : FitsSigned w32 a = fits_bounded m a lm p in let fb : FitsSigned w32 b = fits_bounded n b ln q in
    let f : FitsSigned w32 (a *ℤ b) = fits_bounded (m * n) (a *ℤ b) l (bounded-mul m n a b p q) in
    simp to_z-of_z f

-- those of three such lanes and of the first again
abbrev pub Product : ℤ → ℤ → Type 0
Product a b = FitsSigned w32 (to_z w32 (of_z w32 a) *ℤ to_z w32 (of_z w32 b))

pub products_fit : (m n : ℕ) (a b c p q r : ℤ) → m ≤ 2147483647 → n ≤ 2147483647 → m * n ≤ 2147483647 → Bounded m a → Bounded m b → Bounded m c → Bounded n p → Bounded n q → Bounded n r →
    Product a p × (Product b q × (Product c r × (Product a p × Unit {0})))
products_fit m n a b c p q r lm ln l ha hb hc hp hq hr =
    let x = product_fits m n a p lm ln l ha hp in (x, (product_fits m n b q lm ln l hb hq, (product_fits m n c r lm ln l hc hr, (x, tt))))

pub sum_fits : (m n : ℕ) (a b : ℤ) → m ≤ 2147483647 → n ≤ 2147483647 → m + n ≤ 2147483647 → Bounded m a → Bounded n b → FitsSigned w32 (to_z w32 (of_z w32 a) +ℤ to_z w32 (of_z w32 b))
sum_fits m n a b lm ln l p q =
    let fa : FitsSigned w32 a = fits_bounded m a lm p in let fb : FitsSigned w32 b = fits_bounded n b ln q in
    let f : FitsSigned w32 (a +ℤ b) = fits_bounded (m + n) (a +ℤ b) l (sum_bounded m n a b p q) in
    simp to_z-of_z f

-- a product, and a sum of such lanes
pub product_is : (m n : ℕ) (a b : ℤ) → m ≤ 2147483647 → n ≤ 2147483647 → m * n ≤ 2147483647 → Bounded m a → Bounded n b → to_z w32 (of_z w32 (to_z w32 (of_z w32 a) *ℤ to_z w32 (of_z w32 b))) ≡ a *ℤ b
product_is m n a b lm ln l p q =
    let fa : FitsSigned w32 a = fits_bounded m a lm p in let fb : FitsSigned w32 b = fits_bounded n b ln q in
    let f : FitsSigned w32 (a *ℤ b) = fits_bounded (m * n) (a *ℤ b) l (bounded-mul m n a b p q) in
    simp to_z-of_z

-- the lanes' values
pub value_lane : (r b c g : ℤ) → Bounded (2 ^ 10) r → Bounded (2 ^ 11) b → Bounded (2 ^ 10) c → Bounded (2 ^ 11) g →
    FitsSigned w32 (to_z w32 (of_z w32 (to_z w32 (of_z w32 r) *ℤ to_z w32 (of_z w32 b))) +ℤ to_z w32 (of_z w32 (to_z w32 (of_z w32 c) *ℤ to_z w32 (of_z w32 g))))
    × (to_z w32 (of_z w32 (to_z w32 (of_z w32 (to_z w32 (of_z w32 r) *ℤ to_z w32 (of_z w32 b))) +ℤ to_z w32 (of_z w32 (to_z w32 (of_z w32 c) *ℤ to_z w32 (of_z w32 g))))) ≡ (r *ℤ b) +ℤ (c *ℤ g))
    × Bounded (2 ^ 22) ((r *ℤ b) +ℤ (c *ℤ g))
value_lane r b c g hr hb hc hg =
    let x = bounded-mul (2 ^ 10) (2 ^ 11) r b hr hb in let y = bounded-mul (2 ^ 10) (2 ^ 11) c g hc hg in
    let ex = product_is (2 ^ 10) (2 ^ 11) r b (omega arith) (omega arith) (omega arith) hr hb in
    let ey = product_is (2 ^ 10) (2 ^ 11) c g (omega arith) (omega arith) (omega arith) hc hg in
    let s = sum_bounded (2 ^ 21) (2 ^ 21) (r *ℤ b) (c *ℤ g) x y in
    let f : FitsSigned w32 ((r *ℤ b) +ℤ (c *ℤ g)) = fits_bounded (2 ^ 22) _ (omega arith) s in
    (rw (ex, ey) f, rw (ex, ey) (to_z-of_z w32 _ f), s)

-- a start moved by two products
pub moved_lane : (s c a r d : ℤ) → Bounded (2 ^ 20) s → Bounded (2 ^ 10) c → Bounded (2 ^ 19) a → Bounded (2 ^ 10) r → Bounded (2 ^ 19) d →
    FitsSigned w32 (to_z w32 (of_z w32 s) +ℤ to_z w32 (of_z w32 (to_z w32 (of_z w32 c) *ℤ to_z w32 (of_z w32 a))))
    × FitsSigned w32 (to_z w32 (of_z w32 (to_z w32 (of_z w32 s) +ℤ to_z w32 (of_z w32 (to_z w32 (of_z w32 c) *ℤ to_z w32 (of_z w32 a))))) +ℤ to_z w32 (of_z w32 (to_z w32 (of_z w32 r) *ℤ to_z w32 (of_z w32 d))))
    × (to_z w32 (of_z w32 (to_z w32 (of_z w32 (to_z w32 (of_z w32 s) +ℤ to_z w32 (of_z w32 (to_z w32 (of_z w32 c) *ℤ to_z w32 (of_z w32 a))))) +ℤ to_z w32 (of_z w32 (to_z w32 (of_z w32 r) *ℤ to_z w32 (of_z w32 d))))) ≡ (s +ℤ (c *ℤ a)) +ℤ (r *ℤ d))
    × Bounded (2 ^ 30 + 2 ^ 20) ((s +ℤ (c *ℤ a)) +ℤ (r *ℤ d))
moved_lane s c a r d hs hc ha hr hd =
    let fs : FitsSigned w32 s = fits_bounded (2 ^ 20) s (omega arith) hs in
    let x = bounded-mul (2 ^ 10) (2 ^ 19) c a hc ha in let y = bounded-mul (2 ^ 10) (2 ^ 19) r d hr hd in
    let es = to_z-of_z w32 s fs in
    let ex = product_is (2 ^ 10) (2 ^ 19) c a (omega arith) (omega arith) (omega arith) hc ha in
    let ey = product_is (2 ^ 10) (2 ^ 19) r d (omega arith) (omega arith) (omega arith) hr hd in
    let t = sum_bounded (2 ^ 20) (2 ^ 29) s (c *ℤ a) hs x in
    let u = sum_bounded (2 ^ 20 + 2 ^ 29) (2 ^ 29) (s +ℤ (c *ℤ a)) (r *ℤ d) t y in
    let ft : FitsSigned w32 (s +ℤ (c *ℤ a)) = fits_bounded (2 ^ 20 + 2 ^ 29) _ (omega arith) t in
    let et = to_z-of_z w32 (s +ℤ (c *ℤ a)) ft in
    let fu : FitsSigned w32 ((s +ℤ (c *ℤ a)) +ℤ (r *ℤ d)) = fits_bounded (2 ^ 30 + 2 ^ 20) _ (omega arith) u in
    (rw (es, ex) ft, rw (es, ex, et, ey) fu, rw (es, ex, et, ey) (to_z-of_z w32 _ fu), u)

-- a shift down is a quotient, rounded down
shift_is : (v : ℤ) (d : ℕ) → 0 < d → shr_z v d ≡ int_div_euclid v (pos d)
shift_is (pos n) d h = refl
shift_is (negsuc n) d h = refl

-- the sign of a bounded number, and its sixteenth
pub sign_bounded : (v : ℤ) → Bounded (2 ^ 22) v → Bounded 1 (int_div_euclid v (pos (2 ^ 31)))
sign_bounded (pos n) h = (omega (arith, ints, h), omega (arith, ints, h))
sign_bounded (negsuc n) h = (omega (arith, ints, h), omega (arith, ints, h))

pub sixteenth_bounded : (v : ℤ) → Bounded (2 ^ 22 + 1) v → Bounded (2 ^ 20) (int_div_euclid v (pos 16))
sixteenth_bounded (pos n) h = (omega (arith, ints, h), omega (arith, ints, h))
sixteenth_bounded (negsuc n) h = (omega (arith, ints, h), omega (arith, ints, h))

-- a lane's bias
pub bias_lane : (r c : ℤ) → Bounded (2 ^ 10) r → Bounded (2 ^ 10) c →
    (to_z w32 (of_z w32 (shr_z (to_z w32 (of_z w32 (to_z w32 (of_z w32 (to_z w32 (of_z w32 r) +ℤ to_z w32 (of_z w32 (to_z w32 (of_z w32 c) *ℤ pos 2048)))) -ℤ pos 1))) 2147483648))
    ≡ int_div_euclid ((r +ℤ (c *ℤ pos 2048)) -ℤ pos 1) (pos (2 ^ 31)))
    × Bounded 1 (int_div_euclid ((r +ℤ (c *ℤ pos 2048)) -ℤ pos 1) (pos (2 ^ 31)))
bias_lane r c hr hc =
    let v : ℤ = (r +ℤ (c *ℤ pos 2048)) -ℤ pos 1 in
    let b = sign_bounded v (lean r c hr hc) in
    let fr : FitsSigned w32 r = omega (arith, ints, hr) in let fc : FitsSigned w32 c = omega (arith, ints, hc) in
    let fp : FitsSigned w32 (c *ℤ pos 2048) = omega (arith, ints, hc) in
    let fs : FitsSigned w32 (r +ℤ (c *ℤ pos 2048)) = omega (arith, ints, hr, hc) in
    let fv : FitsSigned w32 ((r +ℤ (c *ℤ pos 2048)) -ℤ pos 1) = omega (arith, ints, hr, hc) in
    let e = shift_is v 2147483648 (omega arith) in
    let fb : FitsSigned w32 (int_div_euclid v (pos (2 ^ 31))) = fits_bounded 1 _ (omega arith) b in
    (simp to_z-of_z (rw e (to_z-of_z w32 _ fb)), b)
  where
    lean : (r c : ℤ) → Bounded (2 ^ 10) r → Bounded (2 ^ 10) c → Bounded (2 ^ 22) ((r +ℤ (c *ℤ pos 2048)) -ℤ pos 1)
    lean r c p q = (omega (arith, ints, p, q), omega (arith, ints, p, q))

-- a lane's sixteenth
pub sixteenth_lane : (v b : ℤ) → Bounded (2 ^ 22) v → Bounded 1 b →
    (to_z w32 (of_z w32 (shr_z (to_z w32 (of_z w32 (to_z w32 (of_z w32 v) +ℤ to_z w32 (of_z w32 b)))) 16)) ≡ int_div_euclid (v +ℤ b) (pos 16))
    × Bounded (2 ^ 20) (int_div_euclid (v +ℤ b) (pos 16))
sixteenth_lane v b hv hb =
    let s = sum_bounded (2 ^ 22) 1 v b hv hb in
    let k = sixteenth_bounded (v +ℤ b) s in
    let fv : FitsSigned w32 v = fits_bounded (2 ^ 22) v (omega arith) hv in let fb : FitsSigned w32 b = fits_bounded 1 b (omega arith) hb in
    let fs : FitsSigned w32 (v +ℤ b) = fits_bounded (2 ^ 22 + 1) _ (omega arith) s in
    let e = shift_is (v +ℤ b) 16 (omega arith) in
    let fk : FitsSigned w32 (int_div_euclid (v +ℤ b) (pos 16)) = fits_bounded (2 ^ 20) _ (omega arith) k in
    (simp to_z-of_z (rw e (to_z-of_z w32 _ fk)), k)

-- lanes as a call passes them
abbrev pub through : List ℤ → List ℤ
through xs = map (to_z w32) (map (of_z w32) xs)

pub lanes_back : (n : ℕ) (xs : List ℤ) → n ≤ 2147483647 → AreBounded n xs → through xs ≡ xs
lanes_back n xs l h =
    let e = h.are_three in
    let fa : FitsSigned w32 (lane xs 0) = fits_bounded n (lane xs 0) l h.first in let fb : FitsSigned w32 (lane xs 1) = fits_bounded n (lane xs 1) l h.second in let fc : FitsSigned w32 (lane xs 2) = fits_bounded n (lane xs 2) l h.third in
    rw e (around_same _ _ _ _ _ _ (to_z-of_z w32 (lane xs 0) fa) (to_z-of_z w32 (lane xs 1) fb) (to_z-of_z w32 (lane xs 2) fc))

pub lanes_through : (n : ℕ) (xs : List ℤ) → n ≤ 2147483647 → AreBounded n xs → AreBounded n (through xs)
lanes_through n xs l h = subst (AreBounded n) (sym (lanes_back n xs l h)) h

pub lanes_from : (m n : ℕ) (xs : List ℤ) → n ≤ 2147483647 → AreBounded n xs → AreBounded m (through xs) → AreBounded m xs
lanes_from m n xs l h g = subst (AreBounded m) (lanes_back n xs l h) g

pub lane_passed : (n : ℕ) (xs : List ℤ) (k : ℕ) → n ≤ 2147483647 → AreBounded n xs → Bounded n (lane xs k) → to_z w32 (of_z w32 (lane (through xs) k)) ≡ lane xs k
lane_passed n xs k l h b = let e = lanes_back n xs l h in let f : FitsSigned w32 (lane xs k) = fits_bounded n (lane xs k) l b in rw e (to_z-of_z w32 (lane xs k) f)

pub lane_passed-bounded : (n : ℕ) (xs : List ℤ) (k : ℕ) → n ≤ 2147483647 → AreBounded n xs → Bounded n (lane xs k) → Bounded n (to_z w32 (of_z w32 (lane (through xs) k)))
lane_passed-bounded n xs k l h b = subst (Bounded n) (sym (lane_passed n xs k l h b)) b
