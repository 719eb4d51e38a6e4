use Rattle.std.proofs.Common.{◌≡◌, ℤ, pos, ◌<ℤ◌, ◌≤ℤ◌, FitsSigned, w32, arith, rules, slice_index_or}
use Rattle.std.proofs.lemmas.Int.{ints, to_z-of_z}
use Rattle.cull_base.specs.Piece.{doubled_area}
use Rattle.cull_base.proofs.screen_tri.ScreenTri.new.Goals as goal
use Rattle.cull_base.proofs.screen_tri.ScreenTri.new.Goals.{After-edge_value}

not_positive : (z a : ℤ) → z ≡ a → z ≤ℤ pos 0 → pos 0 <ℤ a → ⊥
not_positive z a e le lt = omega (arith, ints)

positive : (z a : ℤ) → z ≡ a → pos 0 <ℤ z → pos 0 <ℤ a
positive z a e lt = omega (arith, ints)

area_is : (c : After-edge_value) → c.edge_value.result ≡ doubled_area (record { xs = c.args.x; ys = c.args.y; qs = c.args.q })
area_is c =
    let x0 : FitsSigned w32 (slice_index_or c.args.x 0 (pos 0)) = search rules in
    let x1 : FitsSigned w32 (slice_index_or c.args.x 1 (pos 0)) = search rules in
    let x2 : FitsSigned w32 (slice_index_or c.args.x 2 (pos 0)) = search rules in
    let y0 : FitsSigned w32 (slice_index_or c.args.y 0 (pos 0)) = search rules in
    let y1 : FitsSigned w32 (slice_index_or c.args.y 1 (pos 0)) = search rules in
    let y2 : FitsSigned w32 (slice_index_or c.args.y 2 (pos 0)) = search rules in
    simp to_z-of_z at c.edge_value.ensures.value

pub returns-then-edge_value-le0 : goal.returns-then-edge_value-le0
returns-then-edge_value-le0 c =
    let e = area_is (goal.at.returns-then-edge_value-le0 c).After-edge_value in
    let le : c.edge_value.result ≤ℤ pos 0 = omega (arith, ints, c.if-edge_value-le0.true, c.edge_value.type_inv) in
    record { value = λ h. not_positive _ _ e le h.positive_area; given = λ h. absurd (not_positive _ _ e le h.positive_area) }

pub invariant_of-result : goal.invariant_of-result
invariant_of-result c =
    let e = area_is (goal.at.invariant_of-result c).After-edge_value in
    let gt : pos 0 <ℤ c.edge_value.result = omega (arith, ints, c.if-edge_value-le0.false, c.edge_value.type_inv) in
    record {
      positive_area = positive _ _ e gt;
      x_within = c.if-not-are_within.ensures.0 (search rules);
      y_within = c.if-not-are_within-2.ensures.0 (search rules);
      nearness_within = c.if-not-are_nearness.ensures.0 (search rules);
      three_x = search rules;
      three_y = search rules;
      three_q = search rules;
    }
