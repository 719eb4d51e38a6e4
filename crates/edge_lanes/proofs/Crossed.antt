-- Where an edge crosses the rows of a row of tiles.
use Rattle.std.proofs.Common.{◌≡◌, ℕ, ℤ, pos, ◌^◌, ◌+◌, ◌-◌, ◌<◌, ◌≤◌, ◌+ℤ◌, ◌*ℤ◌, ◌≤ℤ◌, FitsSigned, to_z, of_z, w64, arith}
use Rattle.std.specs.Int.{int_min, int_max}
use Rattle.std.proofs.lemmas.Int.{clamps, ints, to_z-of_z}
use Rattle.cull_base.specs.Bounds.{Bounded}
use Rattle.edge_lanes.proofs.Extremes.{step_least, step_most}

-- a row's step taken as often as a screen has rows of tiles
pub rows_step-bounded : (s : ℤ) (n : ℕ) → n ≤ 2040 → Bounded (2 ^ 50) s → Bounded (2 ^ 61 - 2 ^ 53) (s *ℤ pos n)
rows_step-bounded s n l b = between s (s *ℤ pos n) b (step_most s 2040 n l) (step_least s 2040 n l)
  where
    between : (s x : ℤ) → Bounded (2 ^ 50) s → x ≤ℤ int_max (s *ℤ pos 2040) (pos 0) → int_min (s *ℤ pos 2040) (pos 0) ≤ℤ x → Bounded (2 ^ 61 - 2 ^ 53) x
    between s x b p q = omega (arith, ints, clamps)

-- it fits, and so does its sum with the crossing of the first row
pub record Moves (start step : ℤ) (n : ℕ) : Type 0 where
  pub step_fits : FitsSigned w64 (to_z w64 (of_z w64 step) *ℤ to_z w64 (of_z w64 (pos n)))
  pub sum_fits : FitsSigned w64 (to_z w64 (of_z w64 start) +ℤ to_z w64 (of_z w64 (to_z w64 (of_z w64 step) *ℤ to_z w64 (of_z w64 (pos n)))))
  pub value : to_z w64 (of_z w64 (to_z w64 (of_z w64 start) +ℤ to_z w64 (of_z w64 (to_z w64 (of_z w64 step) *ℤ to_z w64 (of_z w64 (pos n)))))) ≡ start +ℤ (step *ℤ pos n)
  pub bounded : Bounded (2 ^ 62 + 2 ^ 61) (to_z w64 (of_z w64 (to_z w64 (of_z w64 start) +ℤ to_z w64 (of_z w64 (to_z w64 (of_z w64 step) *ℤ to_z w64 (of_z w64 (pos n)))))))

pub moves : (start step : ℤ) (n : ℕ) → n ≤ 2040 → Bounded (2 ^ 62 + 2 ^ 12) start → Bounded (2 ^ 50) step → Moves start step n
moves start step n l bs bt =
    let b = rows_step-bounded step n l bt in
    let f : FitsSigned w64 start = omega (arith, ints) in let g : FitsSigned w64 step = omega (arith, ints) in let h : FitsSigned w64 (pos n) = omega (arith, ints) in
    let k : FitsSigned w64 (step *ℤ pos n) = fits (step *ℤ pos n) b in
    let s : FitsSigned w64 (start +ℤ (step *ℤ pos n)) = sum_fits start (step *ℤ pos n) bs b in
    let t = sum_bounded start (step *ℤ pos n) bs b in
    record {
      step_fits = simp to_z-of_z k;
      sum_fits = simp to_z-of_z s;
      value = simp to_z-of_z;
      bounded = simp to_z-of_z t;
    }
  where
    fits : (x : ℤ) → Bounded (2 ^ 61 - 2 ^ 53) x → FitsSigned w64 x
    fits x b = omega (arith, ints)

    sum_fits : (a x : ℤ) → Bounded (2 ^ 62 + 2 ^ 12) a → Bounded (2 ^ 61 - 2 ^ 53) x → FitsSigned w64 (a +ℤ x)
    sum_fits a x p q = omega (arith, ints)

    sum_bounded : (a x : ℤ) → Bounded (2 ^ 62 + 2 ^ 12) a → Bounded (2 ^ 61 - 2 ^ 53) x → Bounded (2 ^ 62 + 2 ^ 61) (a +ℤ x)
    sum_bounded a x p q = omega (arith, ints)

-- a row below the first of a row of tiles
pub record Lies (f step to : ℤ) (r : ℕ) : Type 0 where
  pub fits : FitsSigned w64 (to_z w64 (of_z w64 f) +ℤ to_z w64 (of_z w64 (step *ℤ pos r)))
  pub value : to_z w64 (of_z w64 (to_z w64 (of_z w64 f) +ℤ to_z w64 (of_z w64 (step *ℤ pos r)))) ≡ to

pub lies : (start step f : ℤ) (n r : ℕ) → r < 8 → f ≡ start +ℤ (step *ℤ pos n) → Bounded (2 ^ 62 + 2 ^ 61) f → Bounded (2 ^ 50) step → Lies f step (start +ℤ (step *ℤ pos (n + r))) r
lies start step f n r l e bf bs =
    let b = rows_step-bounded step r (omega arith) bs in
    let p : FitsSigned w64 f = omega (arith, ints) in
    let q : FitsSigned w64 (step *ℤ pos r) = fits (step *ℤ pos r) b in
    let s : FitsSigned w64 (f +ℤ (step *ℤ pos r)) = sum_fits step r f l bf bs in
    record { fits = simp to_z-of_z s; value = simp to_z-of_z (regroup start step f n r e) }
  where
    fits : (x : ℤ) → Bounded (2 ^ 61 - 2 ^ 53) x → FitsSigned w64 x
    fits x b = omega (arith, ints)

    between : (f s x : ℤ) → Bounded (2 ^ 62 + 2 ^ 61) f → Bounded (2 ^ 50) s → x ≤ℤ int_max (s *ℤ pos 7) (pos 0) → int_min (s *ℤ pos 7) (pos 0) ≤ℤ x → FitsSigned w64 (f +ℤ x)
    between f s x bf b p q = omega (arith, ints, clamps)

    sum_fits : (step : ℤ) (r : ℕ) (f : ℤ) → r < 8 → Bounded (2 ^ 62 + 2 ^ 61) f → Bounded (2 ^ 50) step → FitsSigned w64 (f +ℤ (step *ℤ pos r))
    sum_fits step r f l bf bs = between f step (step *ℤ pos r) bf bs (step_most step 7 r (omega arith)) (step_least step 7 r (omega arith))

    regroup : (start step f : ℤ) (n r : ℕ) → f ≡ start +ℤ (step *ℤ pos n) → f +ℤ (step *ℤ pos r) ≡ start +ℤ (step *ℤ pos (n + r))
    regroup start step f n r e = omega (arith, ints)
