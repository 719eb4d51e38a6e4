use Rattle.std.proofs.Common.{rules, ap, sym, int_lt, ◌∙◌, ◌≡◌, pos, ◌-ℤ◌, ◌<ℤ◌, arith, FitsSigned, w32, w64}
use Rattle.std.proofs.lemmas.Bool.{cond-false, cond-true}
use Rattle.std.proofs.lemmas.Int.{ints, to_z-of_z}
use Rattle.edge_lanes.proofs.Turns.{AreTurned, are_turned_left, are_turned_right, is_left, is_right}
use Rattle.edge_lanes.proofs.turned.turn.Goals as goal
use Rattle.edge_lanes.proofs.turned.turn.Goals.{then-is_left, else-is_left, Joined-is_left}

turned : (c : Joined-is_left) → let v = c.args.edge.now in AreTurned v.start v.column v.row c.either.result c.either-2.result c.either-3.result c.if-is_left.result
turned c =
    let v = c.args.edge.now in
    let fc : FitsSigned w32 v.column = search rules in let fr : FitsSigned w32 v.row = search rules in
    let e : c.from-column.result ≡ v.column = simp to_z-of_z at c.from-column.ensures in
    let f : c.from-row.result ≡ v.row = simp to_z-of_z at c.from-row.ensures in
    let bs = v.start_bounded in let bc = v.column_bounded in let br = v.row_bounded in
    let gs : FitsSigned w64 v.start = omega (arith, ints, bs) in let gc : FitsSigned w64 c.from-column.result = omega (arith, ints, bc, e) in
    let gr : FitsSigned w64 c.from-row.result = omega (arith, ints, br, f) in
    let go : FitsSigned w64 (c.from-column.result -ℤ pos 1) = omega (arith, ints, bc, e) in
    let gl : FitsSigned w64 ((c.from-column.result -ℤ pos 1) -ℤ v.start) = omega (arith, ints, bs, bc, e) in
    let gd : FitsSigned w64 (v.start -ℤ c.from-column.result) = omega (arith, ints, bs, bc, e) in
    let gn : FitsSigned w64 (pos 0 -ℤ c.from-row.result) = omega (arith, ints, br, f) in
    let gm : FitsSigned w64 (pos 0 -ℤ c.from-column.result) = omega (arith, ints, bc, e) in
    elim c.if-is_left.branch [
      | then-is_left w ↦
          let t = w.if-is_left.true in let l = w.result-is in
          let lt : pos 0 <ℤ v.column = is_left v.column (ap (int_lt (pos 0)) (sym e) ∙ (simp to_z-of_z at t)) in
          let a : c.either.result ≡ (c.from-column.result -ℤ pos 1) -ℤ v.start = simp to_z-of_z at (c.either.ensures ∙ cond-true _ _ _ t) in
          let b : c.either-2.result ≡ pos 0 -ℤ c.from-row.result = simp to_z-of_z at (c.either-2.ensures ∙ cond-true _ _ _ t) in
          let d : c.either-3.result ≡ c.from-column.result = simp to_z-of_z at (c.either-3.ensures ∙ cond-true _ _ _ t) in
          rw l (are_turned_left v.start v.column v.row c.either.result c.either-2.result c.either-3.result bs bc br lt (omega (arith, ints, a, e)) (omega (arith, ints, b, f)) (d ∙ e))
      | else-is_left w ↦
          let t = w.if-is_left.false in let l = w.result-is in
          let lt : v.column <ℤ pos 0 = is_right v.column v.slants (ap (int_lt (pos 0)) (sym e) ∙ (simp to_z-of_z at t)) in
          let a : c.either.result ≡ v.start -ℤ c.from-column.result = simp to_z-of_z at (c.either.ensures ∙ cond-false _ _ _ t) in
          let b : c.either-2.result ≡ c.from-row.result = simp to_z-of_z at (c.either-2.ensures ∙ cond-false _ _ _ t) in
          let d : c.either-3.result ≡ pos 0 -ℤ c.from-column.result = simp to_z-of_z at (c.either-3.ensures ∙ cond-false _ _ _ t) in
          rw l (are_turned_right v.start v.column v.row c.either.result c.either-2.result c.either-3.result bs bc br lt (omega (arith, ints, a, e)) (b ∙ f) (omega (arith, ints, d, e)))
    ]

pub invariant_of-result : goal.invariant_of-result
invariant_of-result c =
    let t = turned (goal.at.invariant_of-result c).Joined-is_left in
    let fa : FitsSigned w64 c.either.result = search rules in let fb : FitsSigned w64 c.either-2.result = search rules in let fd : FitsSigned w64 c.either-3.result = search rules in
    record {
      start_bounded = simp to_z-of_z t.within.0;
      row_bounded = simp to_z-of_z t.within.1;
      positive = simp to_z-of_z t.sized.0;
      size_bounded = simp to_z-of_z t.sized.1;
      is_limit = t.is_limit;
    }

pub returns : goal.returns
returns c x y hx hy =
    let t = turned (goal.at.returns c).Joined-is_left in
    let fa : FitsSigned w64 c.either.result = search rules in let fb : FitsSigned w64 c.either-2.result = search rules in let fd : FitsSigned w64 c.either-3.result = search rules in
    simp to_z-of_z (t.counts x y hx)
