use Rattle.std.proofs.Common.{◌≡◌, ◌^◌, ℤ, pos, ◌*ℤ◌, FitsSigned, w16, w32, arith, rules, subst, sym}
use Rattle.std.proofs.lemmas.Int.{ints, to_z-of_z}
use Rattle.cull_base.specs.Bounds.{Bounded}
use Rattle.edge_lanes.proofs.Lanes.{Eight, all_of_eight}
use Rattle.edge_lanes.proofs.SmallLanes.{few_steps-bounded}
use Rattle.edge_lanes.proofs.small_edge.SmallEdge.of.Goals as goal

moved : (v w : ℤ) → v ≡ w → Bounded (2 ^ 10) w → Bounded (2 ^ 10) v
moved v w e h = subst (Bounded (2 ^ 10)) (sym e) h

columns_fit : (t : ℤ) → Bounded (2 ^ 10) t → Eight (λ k. FitsSigned w16 (t *ℤ pos k))
columns_fit t near = all_of_eight (λ k. FitsSigned w16 (t *ℤ pos k)) (λ k l. let b = few_steps-bounded t k (omega arith) near in omega (arith, ints, b))

pub invariant_of-result : goal.invariant_of-result
invariant_of-result c =
    let fc : FitsSigned w32 c.args.column = c.ranges.column in let fr : FitsSigned w32 c.args.row = c.ranges.row in
    let t = c.short-column.result in
    let ft : FitsSigned w16 t = search rules in let fs : FitsSigned w16 c.short.result = search rules in
    let near = moved t c.args.column (simp to_z-of_z at c.short-column.ensures) c.requires.column in
    let steep = moved c.short.result c.args.row (simp to_z-of_z at c.short.ensures) c.requires.row in
    let (p0, (p1, (p2, (p3, (p4, (p5, (p6, (p7, u)))))))) = columns_fit t near in
    record {
      column_bounded = simp to_z-of_z near;
      row_bounded = simp to_z-of_z steep;
      are_columns = simp to_z-of_z;
    }
