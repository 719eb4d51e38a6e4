use Rattle.std.proofs.Common.{◌≡◌, ◌^◌, ◌∙◌, ℤ, ap, arith, FitsSigned, rules, sym, subst, w16}
use Rattle.std.specs.Simd.Lanes.{mask_l}
use Rattle.std.proofs.lemmas.Int.{to_z-of_z}
use Rattle.cull_base.specs.Bounds.{Bounded}
use Rattle.cull_base.specs.State.{samples_of}
use Rattle.edge_lanes.specs.Inside.{inside_small, small_lines}
use Rattle.edge_lanes.proofs.Around.{lane_passed, lane_passed-bounded}
use Rattle.edge_lanes.proofs.Inside.{samples_of-mask_l_inside}
use Rattle.edge_lanes.proofs.SmallLanes.{begins_held}
use Rattle.edge_lanes.proofs.SubStarts.{inside_all-at_sub}
use Rattle.edge_lanes.proofs.small_edges.SmallEdges.mask.Goals as goal

pub short-requires : goal.short-requires
short-requires c = let h = c.starts.ensures.bounded in lane_passed-bounded (2 ^ 14) c.starts.result 0 (omega arith) h h.first

pub short-requires-2 : goal.short-requires-2
short-requires-2 c = let h = c.starts.ensures.bounded in lane_passed-bounded (2 ^ 14) c.starts.result 1 (omega arith) h h.second

pub short-requires-3 : goal.short-requires-3
short-requires-3 c = let h = c.starts.ensures.bounded in lane_passed-bounded (2 ^ 14) c.starts.result 2 (omega arith) h h.third

moved : (v w : ℤ) → v ≡ w → Bounded (2 ^ 14) w → Bounded (2 ^ 14) v
moved v w e h = subst (Bounded (2 ^ 14)) (sym e) h

pub rows-requires-clause-first : goal.rows-requires-clause-first
rows-requires-clause-first c =
    let f : FitsSigned w16 c.short.result = search rules in let h = c.starts.ensures.bounded in
    simp to_z-of_z (moved c.short.result _ (c.short.ensures ∙ lane_passed (2 ^ 14) c.starts.result 0 (omega arith) h h.first) h.first)

pub rows-requires-clause-second : goal.rows-requires-clause-second
rows-requires-clause-second c =
    let f : FitsSigned w16 c.short-2.result = search rules in let h = c.starts.ensures.bounded in
    simp to_z-of_z (moved c.short-2.result _ (c.short-2.ensures ∙ lane_passed (2 ^ 14) c.starts.result 1 (omega arith) h h.second) h.second)

pub rows-requires-clause-third : goal.rows-requires-clause-third
rows-requires-clause-third c =
    let f : FitsSigned w16 c.short-3.result = search rules in let h = c.starts.ensures.bounded in
    simp to_z-of_z (moved c.short-3.result _ (c.short-3.ensures ∙ lane_passed (2 ^ 14) c.starts.result 2 (omega arith) h h.third) h.third)

pub returns : goal.returns
unfolding inside_small
returns c =
    let e = c.args.self.now in let u = c.args.sub in let lines = small_lines e in
    let s = c.short.result in let t = c.short-2.result in let v = c.short-3.result in
    let fs : FitsSigned w16 s = search rules in let ft : FitsSigned w16 t = search rules in let fv : FitsSigned w16 v = search rules in
    let h = c.starts.ensures.bounded in let k = c.starts.ensures.value in
    let es = c.short.ensures ∙ lane_passed (2 ^ 14) c.starts.result 0 (omega arith) h h.first ∙ k.first in
    let et = c.short-2.ensures ∙ lane_passed (2 ^ 14) c.starts.result 1 (omega arith) h h.second ∙ k.second in
    let ev = c.short-3.ensures ∙ lane_passed (2 ^ 14) c.starts.result 2 (omega arith) h h.third ∙ k.third in
    ap samples_of (simp to_z-of_z at c.rows.ensures ∙ ap mask_l (inside_all-at_sub lines u s t v
    (begins_held lines.first u s e.first.column_bounded e.first.row_bounded es)
    (begins_held lines.second u t e.second.column_bounded e.second.row_bounded et)
    (begins_held lines.third u v e.third.column_bounded e.third.row_bounded ev)))
    ∙ samples_of-mask_l_inside lines u
