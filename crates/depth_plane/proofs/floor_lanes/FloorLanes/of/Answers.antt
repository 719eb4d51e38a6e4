use Rattle.std.proofs.Common.{ℕ, pos, ◌^◌, ◌*ℤ◌, ◌≤ℤ◌, neg_ℤ, subst, FitsSigned, w64, rules}
use Rattle.std.proofs.lemmas.Bool.{and_parts}
use Rattle.std.proofs.lemmas.Int.{to_z-of_z}
use Rattle.depth_plane.proofs.floor_lanes.FloorLanes.of.Goals as goal

pub lanes_of-requires-clause-right_above : goal.lanes_of-requires-clause-right_above
lanes_of-requires-clause-right_above c =
    let f : FitsSigned w64 c.args.right = c.ranges.right in
    let h : c.args.right ≤ℤ (pos (2 ^ 26) *ℤ pos c.number-number.result) = simp to_z-of_z at (c.is_gentle.ensures.above (and_parts c.is_gentle.result c.is_gentle-2.result c.if-gentle.true).0) in
    let i : c.args.right ≤ℤ (pos (2 ^ 26) *ℤ pos c.args.size) = subst (λ (n : ℕ). c.args.right ≤ℤ (pos (2 ^ 26) *ℤ pos n)) c.number-number.ensures.value h in
    search (rules, i)

pub lanes_of-requires-clause-right_below : goal.lanes_of-requires-clause-right_below
lanes_of-requires-clause-right_below c =
    let f : FitsSigned w64 c.args.right = c.ranges.right in
    let h : (neg_ℤ (pos (2 ^ 26)) *ℤ pos c.number-number.result) ≤ℤ c.args.right = simp to_z-of_z at (c.is_gentle.ensures.below (and_parts c.is_gentle.result c.is_gentle-2.result c.if-gentle.true).0) in
    let i : (neg_ℤ (pos (2 ^ 26)) *ℤ pos c.args.size) ≤ℤ c.args.right = subst (λ (n : ℕ). (neg_ℤ (pos (2 ^ 26)) *ℤ pos n) ≤ℤ c.args.right) c.number-number.ensures.value h in
    search (rules, i)

pub lanes_of-requires-clause-below_above : goal.lanes_of-requires-clause-below_above
lanes_of-requires-clause-below_above c =
    let f : FitsSigned w64 c.args.below = c.ranges.below in
    let h : c.args.below ≤ℤ (pos (2 ^ 26) *ℤ pos c.number-number.result) = simp to_z-of_z at (c.is_gentle-2.ensures.above (and_parts c.is_gentle.result c.is_gentle-2.result c.if-gentle.true).1) in
    let i : c.args.below ≤ℤ (pos (2 ^ 26) *ℤ pos c.args.size) = subst (λ (n : ℕ). c.args.below ≤ℤ (pos (2 ^ 26) *ℤ pos n)) c.number-number.ensures.value h in
    search (rules, i)

pub lanes_of-requires-clause-below_below : goal.lanes_of-requires-clause-below_below
lanes_of-requires-clause-below_below c =
    let f : FitsSigned w64 c.args.below = c.ranges.below in
    let h : (neg_ℤ (pos (2 ^ 26)) *ℤ pos c.number-number.result) ≤ℤ c.args.below = simp to_z-of_z at (c.is_gentle-2.ensures.below (and_parts c.is_gentle.result c.is_gentle-2.result c.if-gentle.true).1) in
    let i : (neg_ℤ (pos (2 ^ 26)) *ℤ pos c.args.size) ≤ℤ c.args.below = subst (λ (n : ℕ). (neg_ℤ (pos (2 ^ 26)) *ℤ pos n) ≤ℤ c.args.below) c.number-number.ensures.value h in
    search (rules, i)
