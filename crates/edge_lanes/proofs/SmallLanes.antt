-- What lanes of 16 bits compute of an edge of a few pixels, where nothing wraps.
use Rattle.std.proofs.Common.{ℕ, ◌<◌, ◌≤◌, ◌^◌, ◌+◌, ◌*◌, ◌/◌, ◌%◌, ◌*ℤ◌, ◌≤ℤ◌, ◌≡◌, ℤ, pos, ◌+ℤ◌, arith, w16, to_z, of_z, Bool, true, false, cond, refl, sym, ap, ◌∙◌, int_lt, negsuc, not}
use Rattle.std.specs.Cmp.{both_ways}
use Rattle.std.specs.Int.{int_min, int_max}
use Rattle.std.specs.Simd.Lanes.{top}
use Rattle.std.proofs.lemmas.Bool.Decides.{nat_tests}
use Rattle.std.proofs.lemmas.Int.{clamps, ints}
use Rattle.cull_base.specs.Bounds.{Bounded}
use Rattle.cull_base.specs.declared.place.Sub.{Sub}
use Rattle.edge_lanes.specs.Lanes.{is_not_negative}
use Rattle.edge_lanes.specs.Lines.{Line, held_few, inside_from, sub_value}
use Rattle.edge_lanes.proofs.Extremes.{step_least, step_most}
use Rattle.edge_lanes.proofs.Lanes.{AreRows, are_rows}
use Rattle.edge_lanes.proofs.Steps.{value-subtile}
use Rattle.edge_lanes.proofs.SubStarts.{BeginsSub}

-- the top bit of a comparison's lane
short_lane_top : (b : Bool) → top 15 (cond b 65535 0) ≡ b
short_lane_top true = refl
short_lane_top false = refl

-- what a comparison with 0 says
below_zero : (v : ℤ) → int_lt v (pos 0) ≡ not (is_not_negative v)
below_zero (pos n) = grind (arith, nat_tests)
below_zero (negsuc n) = refl

outside_lane : (x v : ℤ) → x ≡ v → top 15 (cond (int_lt x (pos 0)) 65535 0) ≡ not (is_not_negative v)
outside_lane x v e = rw e (short_lane_top (int_lt v (pos 0)) ∙ below_zero v)

short_rows : (s o r : ℤ) → Bounded (2 ^ 14) s → Bounded (2 ^ 13) o → Bounded (2 ^ 10) r → AreRows w16 s o r
short_rows s o r bs bo br =
    are_rows w16 s o r (omega (arith, ints)) (omega (arith, ints)) (omega (arith, ints)) (omega (arith, ints)) (omega (arith, ints)) (omega (arith, ints)) (omega (arith, ints))

-- of a row of a subtile, below its first by so many steps
pub first_short_test : (s o r : ℤ) → Bounded (2 ^ 14) s → Bounded (2 ^ 13) o → Bounded (2 ^ 10) r →
    top 15 (cond (int_lt (to_z w16 (of_z w16 (to_z w16 (of_z w16 s) +ℤ to_z w16 (of_z w16 o)))) (pos 0)) 65535 0) ≡ not (is_not_negative ((s +ℤ (r *ℤ pos 0)) +ℤ o))
first_short_test s o r bs bo br = outside_lane _ _ (short_rows s o r bs bo br).first

pub second_short_test : (s o r : ℤ) → Bounded (2 ^ 14) s → Bounded (2 ^ 13) o → Bounded (2 ^ 10) r →
    top 15 (cond (int_lt (to_z w16 (of_z w16 (to_z w16 (of_z w16 (to_z w16 (of_z w16 s) +ℤ to_z w16 (of_z w16 o))) +ℤ to_z w16 (of_z w16 r)))) (pos 0)) 65535 0) ≡ not (is_not_negative ((s +ℤ (r *ℤ pos 1)) +ℤ o))
second_short_test s o r bs bo br = outside_lane _ _ (short_rows s o r bs bo br).second

pub third_short_test : (s o r : ℤ) → Bounded (2 ^ 14) s → Bounded (2 ^ 13) o → Bounded (2 ^ 10) r →
    top 15 (cond (int_lt (to_z w16 (of_z w16 (to_z w16 (of_z w16 (to_z w16 (of_z w16 (to_z w16 (of_z w16 s) +ℤ to_z w16 (of_z w16 o))) +ℤ to_z w16 (of_z w16 r))) +ℤ to_z w16 (of_z w16 r)))) (pos 0)) 65535 0) ≡ not (is_not_negative ((s +ℤ (r *ℤ pos 2)) +ℤ o))
third_short_test s o r bs bo br = outside_lane _ _ (short_rows s o r bs bo br).third

pub fourth_short_test : (s o r : ℤ) → Bounded (2 ^ 14) s → Bounded (2 ^ 13) o → Bounded (2 ^ 10) r →
    top 15 (cond (int_lt (to_z w16 (of_z w16 (to_z w16 (of_z w16 (to_z w16 (of_z w16 (to_z w16 (of_z w16 (to_z w16 (of_z w16 s) +ℤ to_z w16 (of_z w16 o))) +ℤ to_z w16 (of_z w16 r))) +ℤ to_z w16 (of_z w16 r))) +ℤ to_z w16 (of_z w16 r)))) (pos 0)) 65535 0) ≡ not (is_not_negative ((s +ℤ (r *ℤ pos 3)) +ℤ o))
fourth_short_test s o r bs bo br = outside_lane _ _ (short_rows s o r bs bo br).fourth

-- a step of at most 2^10 taken as often as a subtile's samples ask for
pub few_steps-bounded : (s : ℤ) (k : ℕ) → k ≤ 7 → Bounded (2 ^ 10) s → Bounded (2 ^ 13) (s *ℤ pos k)
few_steps-bounded s k l b = between s (s *ℤ pos k) b (step_most s 7 k l) (step_least s 7 k l)
  where
    between : (s x : ℤ) → Bounded (2 ^ 10) s → x ≤ℤ int_max (s *ℤ pos 7) (pos 0) → int_min (s *ℤ pos 7) (pos 0) ≤ℤ x → Bounded (2 ^ 13) x
    between s x b p q = omega (arith, ints, clamps)

-- three of them, of a subtile's rows
three_steps-bounded : (s : ℤ) (k : ℕ) → k ≤ 3 → Bounded (2 ^ 10) s → Bounded (2 ^ 12) (s *ℤ pos k)
three_steps-bounded s k l b = between s (s *ℤ pos k) b (step_most s 3 k l) (step_least s 3 k l)
  where
    between : (s x : ℤ) → Bounded (2 ^ 10) s → x ≤ℤ int_max (s *ℤ pos 3) (pos 0) → int_min (s *ℤ pos 3) (pos 0) ≤ℤ x → Bounded (2 ^ 12) x
    between s x b p q = omega (arith, ints, clamps)

-- a held value moved by at most 2^13 + 2^12 keeps its sign
is_not_negative-held : (v d : ℤ) → Bounded (2 ^ 13 + 2 ^ 12) d → is_not_negative (held_few v +ℤ d) ≡ is_not_negative (v +ℤ d)
is_not_negative-held v d b = both_ways _ _ (λ h. grind (arith, ints, forth v d b)) (λ h. grind (arith, ints, back v d b))
  where
    forth : (v d : ℤ) → Bounded (2 ^ 13 + 2 ^ 12) d → pos 0 ≤ℤ (held_few v +ℤ d) → pos 0 ≤ℤ (v +ℤ d)
    forth v d b h = omega (arith, ints, clamps)

    back : (v d : ℤ) → Bounded (2 ^ 13 + 2 ^ 12) d → pos 0 ≤ℤ (v +ℤ d) → pos 0 ≤ℤ (held_few v +ℤ d)
    back v d b h = omega (arith, ints, clamps)

-- the samples of a subtile are less than 2^14 from its first
pub begins_held : (e : Line) (u : Sub) (s : ℤ) → Bounded (2 ^ 10) e.column → Bounded (2 ^ 10) e.row → s ≡ held_few (sub_value e u) → BeginsSub e u s
begins_held e u s bc br is = record { counts = λ k lt. ap (λ (v : ℤ). inside_from e v k) is ∙ near k lt ∙ ap is_not_negative (value-subtile e.start e.column e.row (8 * u.column) (4 * u.row) (k % 8) (k / 8)) }
  where
    regroup : (v c d : ℤ) → (v +ℤ c) +ℤ d ≡ v +ℤ (c +ℤ d)
    regroup v c d = omega (arith, ints)

    sums : (c d : ℤ) → Bounded (2 ^ 12) c → Bounded (2 ^ 13) d → Bounded (2 ^ 13 + 2 ^ 12) (c +ℤ d)
    sums c d r s = omega (arith, ints)

    near : (k : ℕ) → k < 32 → inside_from e (held_few (sub_value e u)) k ≡ inside_from e (sub_value e u) k
    near k lt =
        let c : ℤ = e.row *ℤ pos (k / 8) in let d : ℤ = e.column *ℤ pos (k % 8) in
        ap is_not_negative (regroup (held_few (sub_value e u)) c d)
        ∙ is_not_negative-held (sub_value e u) (c +ℤ d) (sums c d (three_steps-bounded e.row (k / 8) (omega arith) br) (few_steps-bounded e.column (k % 8) (omega arith) bc))
        ∙ ap is_not_negative (sym (regroup (sub_value e u) c d))
