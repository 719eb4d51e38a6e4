-- What lanes of 32 bits compute of signed numbers.
use Rattle.std.proofs.Common.{◌≡◌, ◌∙◌, ◌≤◌, ◌<◌, ℕ, ℤ, pos, negsuc, ◌+ℤ◌, ◌<ℤ◌, ◌≤ℤ◌, Bool, true, false, cond, int_lt, nat_eq, ◌&&◌, ◌%◌, FitsSigned, w32, to_z, of_z, refl, sym, subst, ap, ap₂, arith, [], ◌∷◌}
use Rattle.std.specs.Int.{int_min, int_max, int_div_euclid}
use Rattle.std.specs.Simd.Lanes.{mask_l, top}
use lib.Signed.{shr_z}
use Rattle.std.proofs.lemmas.Int.{clamps, ints, to_z-of_z}
use Rattle.cull_base.specs.Piece.{IsCoordinate, first_pixel}

pub four_same : (a b c d x y z w : ℤ) → a ≡ x → b ≡ y → c ≡ z → d ≡ w → a ∷ b ∷ c ∷ d ∷ [] ≡ x ∷ y ∷ z ∷ w ∷ []
four_same a b c d x y z w e f g h = rw (e, f, g, h) refl

-- what a test says
lt_of : (x y : ℤ) → int_lt x y ≡ true → x <ℤ y
lt_of x y h = grind (arith, ints, h)

le_of : (x y : ℤ) → int_lt x y ≡ false → y ≤ℤ x
le_of x y h = grind (arith, ints, h)

-- the top bit of a comparison's lane
pub lane_top : (b : Bool) → top 31 (cond b 4294967295 0) ≡ b
lane_top true = refl
lane_top false = refl

-- the lesser and the greater of two lanes, as they are computed
abbrev pub lesser : ℕ → ℕ → ℕ
lesser m n = cond (top 31 (cond (int_lt (to_z w32 m) (to_z w32 n)) 4294967295 0)) m n

abbrev pub greater : ℕ → ℕ → ℕ
greater m n = cond (top 31 (cond (int_lt (to_z w32 m) (to_z w32 n)) 4294967295 0)) n m

lesser_by : (m n : ℕ) (v w : ℤ) (a : Bool) → to_z w32 m ≡ v → to_z w32 n ≡ w → int_lt (to_z w32 m) (to_z w32 n) ≡ a → to_z w32 (lesser m n) ≡ int_min v w
lesser_by m n v w true e f g = let p : to_z w32 m <ℤ to_z w32 n = lt_of _ _ g in rw g (omega (arith, ints, clamps, p, e, f))
lesser_by m n v w false e f g = let p : to_z w32 n ≤ℤ to_z w32 m = le_of _ _ g in rw g (omega (arith, ints, clamps, p, e, f))

greater_by : (m n : ℕ) (v w : ℤ) (a : Bool) → to_z w32 m ≡ v → to_z w32 n ≡ w → int_lt (to_z w32 m) (to_z w32 n) ≡ a → to_z w32 (greater m n) ≡ int_max v w
greater_by m n v w true e f g = let p : to_z w32 m <ℤ to_z w32 n = lt_of _ _ g in rw g (omega (arith, ints, clamps, p, e, f))
greater_by m n v w false e f g = let p : to_z w32 n ≤ℤ to_z w32 m = le_of _ _ g in rw g (omega (arith, ints, clamps, p, e, f))

pub lesser_is : (m n : ℕ) (v w : ℤ) → to_z w32 m ≡ v → to_z w32 n ≡ w → to_z w32 (lesser m n) ≡ int_min v w
lesser_is m n v w e f = lesser_by m n v w (int_lt (to_z w32 m) (to_z w32 n)) e f refl

pub greater_is : (m n : ℕ) (v w : ℤ) → to_z w32 m ≡ v → to_z w32 n ≡ w → to_z w32 (greater m n) ≡ int_max v w
greater_is m n v w e f = greater_by m n v w (int_lt (to_z w32 m) (to_z w32 n)) e f refl

-- a lane that is read and held again
pub held_again : (m : ℕ) (v : ℤ) → to_z w32 m ≡ v → FitsSigned w32 v → to_z w32 (of_z w32 (to_z w32 m)) ≡ v
held_again m v e f = ap (λ (t : ℤ). to_z w32 (of_z w32 t)) e ∙ to_z-of_z w32 v f

-- the least and the greatest of three lanes
pub least_lane : (a b d : ℤ) → FitsSigned w32 a → FitsSigned w32 b → FitsSigned w32 d → to_z w32 (of_z w32 (to_z w32 (lesser (lesser (of_z w32 a) (of_z w32 b)) (of_z w32 d)))) ≡ int_min (int_min a b) d
least_lane a b d fa fb fd =
    let two = lesser_is (of_z w32 a) (of_z w32 b) a b (to_z-of_z w32 a fa) (to_z-of_z w32 b fb) in
    let three = lesser_is (lesser (of_z w32 a) (of_z w32 b)) (of_z w32 d) (int_min a b) d two (to_z-of_z w32 d fd) in
    held_again _ _ three (omega (arith, ints, clamps, fa, fb, fd))

pub greatest_lane : (a b d : ℤ) → FitsSigned w32 a → FitsSigned w32 b → FitsSigned w32 d → to_z w32 (of_z w32 (to_z w32 (greater (greater (of_z w32 a) (of_z w32 b)) (of_z w32 d)))) ≡ int_max (int_max a b) d
greatest_lane a b d fa fb fd =
    let two = greater_is (of_z w32 a) (of_z w32 b) a b (to_z-of_z w32 a fa) (to_z-of_z w32 b fb) in
    let three = greater_is (greater (of_z w32 a) (of_z w32 b)) (of_z w32 d) (int_max a b) d two (to_z-of_z w32 d fd) in
    held_again _ _ three (omega (arith, ints, clamps, fa, fb, fd))

-- a coordinate as a call passes it
pub passed : (v : ℤ) → IsCoordinate v → IsCoordinate (to_z w32 (of_z w32 v))
passed v h = let f : FitsSigned w32 v = omega (arith, ints, h.0, h.1) in simp to_z-of_z h

-- a shift down is a quotient, rounded down
shift_is : (v : ℤ) (d : ℕ) → 0 < d → shr_z v d ≡ int_div_euclid v (pos d)
shift_is (pos n) d h = refl
shift_is (negsuc n) d h = refl

sixteenth_fits : (v : ℤ) → FitsSigned w32 v → FitsSigned w32 (first_pixel v)
sixteenth_fits (pos n) f = omega (arith, ints, f)
sixteenth_fits (negsuc n) f = omega (arith, ints, f)

-- a lane's pixel, and so many past it
pixel_is : (v : ℤ) → FitsSigned w32 v → to_z w32 (of_z w32 (shr_z (to_z w32 (of_z w32 v)) 16)) ≡ first_pixel v
pixel_is v fv =
    let k = to_z-of_z w32 (first_pixel v) (sixteenth_fits v fv) in
    let e = shift_is v 16 (omega arith) in
    simp to_z-of_z (rw e k)

past_fits : (v : ℤ) (n : ℕ) → n ≤ 1 → FitsSigned w32 v → FitsSigned w32 (first_pixel v +ℤ pos n)
past_fits (pos m) n l f = omega (arith, ints, l, f)
past_fits (negsuc m) n l f = omega (arith, ints, l, f)

pub pixel_fits : (v : ℤ) (n : ℕ) → n ≤ 1 → FitsSigned w32 v → FitsSigned w32 (to_z w32 (of_z w32 (shr_z (to_z w32 (of_z w32 v)) 16)) +ℤ pos n)
pixel_fits v n l fv = subst (λ (t : ℤ). FitsSigned w32 (t +ℤ pos n)) (sym (pixel_is v fv)) (past_fits v n l fv)

pub pixel_lane : (v : ℤ) (n : ℕ) → n ≤ 1 → FitsSigned w32 v → to_z w32 (of_z w32 (to_z w32 (of_z w32 (to_z w32 (of_z w32 (shr_z (to_z w32 (of_z w32 v)) 16)) +ℤ pos n)))) ≡ first_pixel v +ℤ pos n
pixel_lane v n l fv =
    let k = to_z-of_z w32 (first_pixel v +ℤ pos n) (past_fits v n l fv) in
    ap (λ (t : ℤ). to_z w32 (of_z w32 (to_z w32 (of_z w32 (t +ℤ pos n))))) (pixel_is v fv) ∙ ap (λ (t : ℤ). to_z w32 (of_z w32 t)) k ∙ k

pub none_past : (v : ℤ) → v +ℤ pos 0 ≡ v
none_past (pos n) = omega (arith, ints)
none_past (negsuc n) = omega (arith, ints)

-- a lane's sample
pub sample_fits : (v : ℤ) (n : ℕ) → n ≤ 8 → IsCoordinate v → FitsSigned w32 (to_z w32 (of_z w32 v) +ℤ pos n)
sample_fits v n l h =
    let fv : FitsSigned w32 v = omega (arith, ints, h.0, h.1) in
    let fs : FitsSigned w32 (v +ℤ pos n) = omega (arith, ints, l, h.0, h.1) in
    simp to_z-of_z fs

pub sample_lane : (v : ℤ) (n : ℕ) → n ≤ 8 → IsCoordinate v → to_z w32 (of_z w32 (to_z w32 (of_z w32 (shr_z (to_z w32 (of_z w32 (to_z w32 (of_z w32 v) +ℤ pos n))) 16)))) ≡ first_pixel (v +ℤ pos n)
sample_lane v n l h =
    let fv : FitsSigned w32 v = omega (arith, ints, h.0, h.1) in
    let fs : FitsSigned w32 (v +ℤ pos n) = omega (arith, ints, l, h.0, h.1) in
    let k = to_z-of_z w32 (first_pixel (v +ℤ pos n)) (sixteenth_fits (v +ℤ pos n) fs) in
    let e = shift_is (v +ℤ pos n) 16 (omega arith) in
    simp to_z-of_z (rw e (ap (λ (t : ℤ). to_z w32 (of_z w32 t)) k ∙ k))

-- whether two tests of lanes both hold
pub both_hold : (a b : Bool) → nat_eq (mask_l (a ∷ b ∷ []) % 18446744073709551616) 3 ≡ (a && b)
both_hold true true = refl
both_hold true false = refl
both_hold false true = refl
both_hold false false = refl

-- whether some place lies from two numbers on and before two others
abbrev pub some_place : ℤ → ℤ → ℤ → ℤ → Bool
some_place a b d e = top 31 (cond (int_lt (to_z w32 (greater (of_z w32 a) (of_z w32 b))) (to_z w32 (lesser (of_z w32 d) (of_z w32 e)))) 4294967295 0)

pub some_place_is : (a b d e : ℤ) → FitsSigned w32 a → FitsSigned w32 b → FitsSigned w32 d → FitsSigned w32 e → some_place a b d e ≡ int_lt (int_max a b) (int_min d e)
some_place_is a b d e fa fb fd fe =
    lane_top _
    ∙ ap₂ int_lt (greater_is (of_z w32 a) (of_z w32 b) a b (to_z-of_z w32 a fa) (to_z-of_z w32 b fb)) (lesser_is (of_z w32 d) (of_z w32 e) d e (to_z-of_z w32 d fd) (to_z-of_z w32 e fe))
