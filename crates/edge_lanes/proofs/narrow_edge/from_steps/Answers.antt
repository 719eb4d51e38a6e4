use Rattle.std.proofs.Common.{arith, rules, ℤ, ◌^◌, FitsSigned, w32, w64, ◌*ℤ◌, pos}
use Rattle.std.proofs.lemmas.Int.{ints, to_z-of_z}
use Rattle.cull_base.specs.Bounds.{Bounded}
use Rattle.edge_lanes.proofs.Inside.{step-bounded}
use Rattle.edge_lanes.proofs.Lanes.{Eight, all_of_eight}
use Rattle.edge_lanes.proofs.narrow_edge.from_steps.Goals as goal

columns_fit : (t : ℤ) → Bounded (2 ^ 20) t → Eight (λ k. FitsSigned w32 (t *ℤ pos k))
columns_fit t near = all_of_eight (λ k. FitsSigned w32 (t *ℤ pos k)) (λ k l. let b = step-bounded t k (omega arith) near in omega (arith, ints, b))

pub invariant_of-result : goal.invariant_of-result
invariant_of-result c =
    let t = c.args.column in
    let near = c.requires.column in
    let fs : FitsSigned w64 c.args.start = c.ranges.start in
    let ft : FitsSigned w32 t = c.ranges.column in
    let fr : FitsSigned w32 c.args.row = c.ranges.row in
    let (p0, (p1, (p2, (p3, (p4, (p5, (p6, (p7, u)))))))) = columns_fit t near in
    let fh : FitsSigned w32 c.narrow_highest.result = search rules in
    let fl : FitsSigned w32 c.narrow_lowest.result = search rules in
    record {
      start_bounded = simp to_z-of_z c.requires.start;
      column_bounded = simp to_z-of_z c.requires.column;
      row_bounded = simp to_z-of_z c.requires.row;
      is_highest = let e = simp to_z-of_z at c.narrow_highest.ensures in simp to_z-of_z e;
      is_lowest = let e = simp to_z-of_z at c.narrow_lowest.ensures in simp to_z-of_z e;
      are_subtiles = let e = simp to_z-of_z at c.narrow_subtiles.ensures in simp to_z-of_z e;
      are_columns = simp to_z-of_z;
    }
