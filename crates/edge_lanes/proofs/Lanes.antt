-- What lanes compute where nothing wraps.
use Rattle.std.proofs.Common.{ℕ, ◌<◌, ◌^◌, ◌+◌, negsuc, ◌*ℤ◌, ◌≤ℤ◌, ◌≡◌, ℤ, pos, ◌%◌, ◌+ℤ◌, arith, w32, w64, FitsSigned, to_z, of_z, Bool, true, false, cond, refl, ap, ◌∙◌, int_le, [], ◌∷◌}
use mir.Syntax.{Width}
use Rattle.std.specs.Cmp.{both_ways}
use Rattle.cull_base.specs.Bounds.{Bounded}
use Rattle.std.specs.Int.{int_div_euclid}
use Rattle.std.proofs.lemmas.Int.{ints, to_z-of_z}
use Rattle.std.proofs.lemmas.Simd.{mask_l-mod}
use Rattle.std.specs.Simd.Lanes.{mask_l, top}
use Rattle.edge_lanes.specs.Lanes.{is_not_negative}

-- the top bit of a comparison's lane
lane_top : (b : Bool) → top 63 (cond b 18446744073709551615 0) ≡ b
lane_top true = refl
lane_top false = refl

narrow_lane_top : (b : Bool) → top 31 (cond b 4294967295 0) ≡ b
narrow_lane_top true = refl
narrow_lane_top false = refl

-- the test of a lane that holds the sum of a start and an offset
pub lane_test : (s o : ℤ) → FitsSigned w64 s → FitsSigned w64 o → FitsSigned w64 (s +ℤ o) → top 63 (cond (int_le (pos 0) (to_z w64 (of_z w64 (to_z w64 (of_z w64 s) +ℤ to_z w64 (of_z w64 o))))) 18446744073709551615 0) ≡ is_not_negative (s +ℤ o)
lane_test s o fs fo f = let v : to_z w64 (of_z w64 (to_z w64 (of_z w64 s) +ℤ to_z w64 (of_z w64 o))) ≡ s +ℤ o = simp to_z-of_z in lane_top _ ∙ ap is_not_negative v

pub narrow_lane_test : (s o : ℤ) → FitsSigned w32 s → FitsSigned w32 o → FitsSigned w32 (s +ℤ o) → top 31 (cond (int_le (pos 0) (to_z w32 (of_z w32 (to_z w32 (of_z w32 s) +ℤ to_z w32 (of_z w32 o))))) 4294967295 0) ≡ is_not_negative (s +ℤ o)
narrow_lane_test s o fs fo f = let v : to_z w32 (of_z w32 (to_z w32 (of_z w32 s) +ℤ to_z w32 (of_z w32 o))) ≡ s +ℤ o = simp to_z-of_z in narrow_lane_top _ ∙ ap is_not_negative v

-- where both are bounded
pub bounded_test : (s o : ℤ) → Bounded (2 ^ 61 + 2 ^ 49) s → Bounded (2 ^ 40) o → top 63 (cond (int_le (pos 0) (to_z w64 (of_z w64 (to_z w64 (of_z w64 s) +ℤ to_z w64 (of_z w64 o))))) 18446744073709551615 0) ≡ is_not_negative (s +ℤ o)
bounded_test s o bs bo = lane_test s o (omega (arith, ints, bs)) (omega (arith, ints, bo)) (omega (arith, ints, bs, bo))

pub narrow_bounded_test : (s o : ℤ) → Bounded (2 ^ 30 + 2 ^ 24) s → Bounded (2 ^ 25) o → top 31 (cond (int_le (pos 0) (to_z w32 (of_z w32 (to_z w32 (of_z w32 s) +ℤ to_z w32 (of_z w32 o))))) 4294967295 0) ≡ is_not_negative (s +ℤ o)
narrow_bounded_test s o bs bo = narrow_lane_test s o (omega (arith, ints, bs)) (omega (arith, ints, bo)) (omega (arith, ints, bs, bo))

-- the four rows of a subtile, each below its first by so many steps, as lanes of a width compute them where nothing wraps
pub record AreRows (w : Width) (s o r : ℤ) : Type 0 where
  pub first : to_z w (of_z w (to_z w (of_z w s) +ℤ to_z w (of_z w o))) ≡ (s +ℤ (r *ℤ pos 0)) +ℤ o
  pub second : to_z w (of_z w (to_z w (of_z w (to_z w (of_z w s) +ℤ to_z w (of_z w o))) +ℤ to_z w (of_z w r))) ≡ (s +ℤ (r *ℤ pos 1)) +ℤ o
  pub third : to_z w (of_z w (to_z w (of_z w (to_z w (of_z w (to_z w (of_z w s) +ℤ to_z w (of_z w o))) +ℤ to_z w (of_z w r))) +ℤ to_z w (of_z w r))) ≡ (s +ℤ (r *ℤ pos 2)) +ℤ o
  pub fourth : to_z w (of_z w (to_z w (of_z w (to_z w (of_z w (to_z w (of_z w (to_z w (of_z w s) +ℤ to_z w (of_z w o))) +ℤ to_z w (of_z w r))) +ℤ to_z w (of_z w r))) +ℤ to_z w (of_z w r))) ≡ (s +ℤ (r *ℤ pos 3)) +ℤ o

pub are_rows : (w : Width) (s o r : ℤ) → FitsSigned w s → FitsSigned w o → FitsSigned w r → FitsSigned w (s +ℤ o) → FitsSigned w ((s +ℤ o) +ℤ r) → FitsSigned w (((s +ℤ o) +ℤ r) +ℤ r) → FitsSigned w ((((s +ℤ o) +ℤ r) +ℤ r) +ℤ r) → AreRows w s o r
are_rows w s o r fs fo fr f0 f1 f2 f3 = record {
  first = simp to_z-of_z (omega (arith, ints));
  second = simp to_z-of_z (omega (arith, ints));
  third = simp to_z-of_z (omega (arith, ints));
  fourth = simp to_z-of_z (omega (arith, ints));
}

narrow_rows : (s o r : ℤ) → Bounded (2 ^ 30 + 2 ^ 25) s → Bounded (2 ^ 25) o → Bounded (2 ^ 20) r → AreRows w32 s o r
narrow_rows s o r bs bo br =
    are_rows w32 s o r (omega (arith, ints)) (omega (arith, ints)) (omega (arith, ints)) (omega (arith, ints)) (omega (arith, ints)) (omega (arith, ints)) (omega (arith, ints))

pub first_row_test : (s o r : ℤ) → Bounded (2 ^ 30 + 2 ^ 25) s → Bounded (2 ^ 25) o → Bounded (2 ^ 20) r →
    top 31 (cond (int_le (pos 0) (to_z w32 (of_z w32 (to_z w32 (of_z w32 s) +ℤ to_z w32 (of_z w32 o))))) 4294967295 0) ≡ is_not_negative ((s +ℤ (r *ℤ pos 0)) +ℤ o)
first_row_test s o r bs bo br = narrow_lane_top _ ∙ ap is_not_negative (narrow_rows s o r bs bo br).first

pub second_row_test : (s o r : ℤ) → Bounded (2 ^ 30 + 2 ^ 25) s → Bounded (2 ^ 25) o → Bounded (2 ^ 20) r →
    top 31 (cond (int_le (pos 0) (to_z w32 (of_z w32 (to_z w32 (of_z w32 (to_z w32 (of_z w32 s) +ℤ to_z w32 (of_z w32 o))) +ℤ to_z w32 (of_z w32 r))))) 4294967295 0) ≡ is_not_negative ((s +ℤ (r *ℤ pos 1)) +ℤ o)
second_row_test s o r bs bo br = narrow_lane_top _ ∙ ap is_not_negative (narrow_rows s o r bs bo br).second

pub third_row_test : (s o r : ℤ) → Bounded (2 ^ 30 + 2 ^ 25) s → Bounded (2 ^ 25) o → Bounded (2 ^ 20) r →
    top 31 (cond (int_le (pos 0) (to_z w32 (of_z w32 (to_z w32 (of_z w32 (to_z w32 (of_z w32 (to_z w32 (of_z w32 s) +ℤ to_z w32 (of_z w32 o))) +ℤ to_z w32 (of_z w32 r))) +ℤ to_z w32 (of_z w32 r))))) 4294967295 0) ≡ is_not_negative ((s +ℤ (r *ℤ pos 2)) +ℤ o)
third_row_test s o r bs bo br = narrow_lane_top _ ∙ ap is_not_negative (narrow_rows s o r bs bo br).third

pub fourth_row_test : (s o r : ℤ) → Bounded (2 ^ 30 + 2 ^ 25) s → Bounded (2 ^ 25) o → Bounded (2 ^ 20) r →
    top 31 (cond (int_le (pos 0) (to_z w32 (of_z w32 (to_z w32 (of_z w32 (to_z w32 (of_z w32 (to_z w32 (of_z w32 (to_z w32 (of_z w32 s) +ℤ to_z w32 (of_z w32 o))) +ℤ to_z w32 (of_z w32 r))) +ℤ to_z w32 (of_z w32 r))) +ℤ to_z w32 (of_z w32 r))))) 4294967295 0) ≡ is_not_negative ((s +ℤ (r *ℤ pos 3)) +ℤ o)
fourth_row_test s o r bs bo br = narrow_lane_top _ ∙ ap is_not_negative (narrow_rows s o r bs bo br).fourth

-- eight lanes, one after the other
pub mask_of_eight : (f g : ℕ → Bool) → ((k : ℕ) → k < 8 → f k ≡ g k) →
    mask_l (f 0 ∷ f 1 ∷ f 2 ∷ f 3 ∷ f 4 ∷ f 5 ∷ f 6 ∷ f 7 ∷ []) % 18446744073709551616 ≡ mask_l (g 0 ∷ g 1 ∷ g 2 ∷ g 3 ∷ g 4 ∷ g 5 ∷ g 6 ∷ g 7 ∷ [])
mask_of_eight f g h =
    let a = h 0 (omega arith) in let b = h 1 (omega arith) in let c = h 2 (omega arith) in let d = h 3 (omega arith) in
    let i = h 4 (omega arith) in let j = h 5 (omega arith) in let k = h 6 (omega arith) in let l = h 7 (omega arith) in
    mask_l-mod (f 0 ∷ f 1 ∷ f 2 ∷ f 3 ∷ f 4 ∷ f 5 ∷ f 6 ∷ f 7 ∷ []) 64 (omega arith) ∙ cc

abbrev pub Eight : (ℕ → Type 0) → Type 0
Eight P = P 0 × (P 1 × (P 2 × (P 3 × (P 4 × (P 5 × (P 6 × (P 7 × Unit {0})))))))

pub all_of_eight : (P : ℕ → Type 0) → ((k : ℕ) → k < 8 → P k) → Eight P
all_of_eight P h =
    (h 0 (omega arith), (h 1 (omega arith), (h 2 (omega arith), (h 3 (omega arith), (h 4 (omega arith), (h 5 (omega arith), (h 6 (omega arith), (h 7 (omega arith), tt))))))))

-- a sixteenth, rounded down, and moved by sixteenths of steps isn't negative exactly where the value isn't
pub is_not_negative-sixteenth : (e k : ℤ) → is_not_negative (int_div_euclid e (pos 16) +ℤ k) ≡ is_not_negative (e +ℤ (pos 16 *ℤ k))
is_not_negative-sixteenth e k = both_ways _ _ (λ h. grind (arith, ints, forth e k)) (λ h. grind (arith, ints, back e k))
  where
    forth : (e k : ℤ) → pos 0 ≤ℤ (int_div_euclid e (pos 16) +ℤ k) → pos 0 ≤ℤ (e +ℤ (pos 16 *ℤ k))
    forth (pos n) k h = omega (arith, ints, h)
    forth (negsuc n) k h = omega (arith, ints, h)

    back : (e k : ℤ) → pos 0 ≤ℤ (e +ℤ (pos 16 *ℤ k)) → pos 0 ≤ℤ (int_div_euclid e (pos 16) +ℤ k)
    back (pos n) k h = omega (arith, ints, h)
    back (negsuc n) k h = omega (arith, ints, h)
