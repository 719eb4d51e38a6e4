use Rattle.std.proofs.Common.{arith, rules, FitsSigned, w64, ℕ, ℤ, ◌<◌, ◌^◌, ◌*ℤ◌, ◌+ℤ◌, ◌≤ℤ◌, pos}
use Rattle.std.specs.Int.{int_min, int_max}
use Rattle.std.proofs.lemmas.Int.{clamps, ints, to_z-of_z}
use Rattle.cull_base.specs.Bounds.{Bounded}
use Rattle.edge_lanes.proofs.Extremes.{step_least, step_most}
use Rattle.edge_lanes.proofs.Lanes.{lane_test, mask_of_eight}
use Rattle.edge_lanes.proofs.wide_edge.WideEdge.columns.Goals as goal

offset_bounded : (t : ℤ) (k : ℕ) → k < 8 → Bounded (2 ^ 34) t → Bounded (2 ^ 37) (t *ℤ pos k)
offset_bounded t k l b = let most = step_most t 7 k (omega arith) in let least = step_least t 7 k (omega arith) in between t (t *ℤ pos k) b most least
  where
    between : (t v : ℤ) → Bounded (2 ^ 34) t → v ≤ℤ int_max (t *ℤ pos 7) (pos 0) → int_min (t *ℤ pos 7) (pos 0) ≤ℤ v → Bounded (2 ^ 37) v
    between t v b p q = omega (arith, ints, clamps)

offset_fits : (v : ℤ) → Bounded (2 ^ 37) v → FitsSigned w64 v
offset_fits v b = omega (arith, ints)

sum_fits : (s v : ℤ) → Bounded (2 ^ 62) s → Bounded (2 ^ 37) v → FitsSigned w64 (s +ℤ v)
sum_fits s v p q = omega (arith, ints)

pub overflow_add-result : goal.overflow_add-result
overflow_add-result c = omega (arith, ints, c.requires, c.args.self.now.column_bounded, c.ranges)

pub returns : goal.returns
returns c =
    let s = c.args.start in let t = c.args.self.now.column in
    let near = λ (k : ℕ) (l : k < 8). offset_bounded t k l c.args.self.now.column_bounded in
    let f : FitsSigned w64 t = search rules in
    simp to_z-of_z (mask_of_eight _ _ (λ (k : ℕ) (l : k < 8). lane_test s (t *ℤ pos k) c.ranges.start (offset_fits (t *ℤ pos k) (near k l)) (sum_fits s (t *ℤ pos k) c.requires (near k l))))
