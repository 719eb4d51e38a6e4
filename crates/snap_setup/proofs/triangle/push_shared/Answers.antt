use Rattle.std.proofs.Common.{[], sym, ◌∙◌, arith, refl, option_to_list}
use Rattle.cull_base.specs.Grade.{top_of}
use Rattle.cull_base.specs.declared.triangle.Side.TheVariants.{Occluder}
use Rattle.snap_setup.proofs.KeptPieces.{few, few_by_option, past, held}
use Rattle.snap_setup.proofs.SharedVertices.{are_placed, past_guard_is, whole_of, none_behind}
use Rattle.snap_setup.proofs.Takes.{took_none, took_as}
use Rattle.snap_setup.proofs.triangle.push_shared.Goals as goal

pub piece-requires-clause-a : goal.piece-requires-clause-a
piece-requires-clause-a c =
    let o = c.args.occluders.now in
    (are_placed c.args.tri o.grade o.near.distance o.size c.args.winding c.args.corners.now c.requires.corners c.width-width.ensures.valid o.near.least o.near.most (sym c.are_all_placed.ensures ∙ c.if-are_all_placed.true)).first.within

pub piece-requires-clause-b : goal.piece-requires-clause-b
piece-requires-clause-b c =
    let o = c.args.occluders.now in
    (are_placed c.args.tri o.grade o.near.distance o.size c.args.winding c.args.corners.now c.requires.corners c.width-width.ensures.valid o.near.least o.near.most (sym c.are_all_placed.ensures ∙ c.if-are_all_placed.true)).second.within

pub piece-requires-clause-c : goal.piece-requires-clause-c
piece-requires-clause-c c =
    let o = c.args.occluders.now in
    (are_placed c.args.tri o.grade o.near.distance o.size c.args.winding c.args.corners.now c.requires.corners c.width-width.ensures.valid o.near.least o.near.most (sym c.are_all_placed.ensures ∙ c.if-are_all_placed.true)).third.within

pub returns-then-are_all_placed-clause-value : goal.returns-then-are_all_placed-clause-value
returns-then-are_all_placed-clause-value c =
    let o = c.args.occluders.now in
    let there = are_placed c.args.tri o.grade o.near.distance o.size c.args.winding c.args.corners.now c.requires.corners c.width-width.ensures.valid o.near.least o.near.most (sym c.are_all_placed.ensures ∙ c.if-are_all_placed.true) in
    took_as c.args.keeping c.args.list.now c.take_if.new.list c.take_if.result _ _ c.take_if.ensures (whole_of c.args.tri o.grade o.near.distance o.size c.args.winding c.args.corners.now c.requires.corners c.piece.result there c.piece.ensures)

pub returns-then-are_all_placed-clause-most : goal.returns-then-are_all_placed-clause-most
returns-then-are_all_placed-clause-most c =
    let o = c.args.occluders.now in
    let there = are_placed c.args.tri o.grade o.near.distance o.size c.args.winding c.args.corners.now c.requires.corners c.width-width.ensures.valid o.near.least o.near.most (sym c.are_all_placed.ensures ∙ c.if-are_all_placed.true) in
    few (option_to_list c.piece.result) _ (whole_of c.args.tri o.grade o.near.distance o.size c.args.winding c.args.corners.now c.requires.corners c.piece.result there c.piece.ensures) (few_by_option c.piece.result)

pub returns-then-is_any_past-clause-value : goal.returns-then-is_any_past-clause-value
returns-then-is_any_past-clause-value c =
    let o = c.args.occluders.now in
    let e = past_guard_is c.args.tri o.grade o.near.distance o.size c.args.winding c.args.corners.now c.requires.corners in
    let t = c.args.tri in
    took_none c.args.keeping c.args.list.now _ (past t.v0.now t.v1.now t.v2.now (top_of o.grade) o.near.distance o.size c.args.winding Occluder (sym e ∙ sym c.is_any_past.ensures ∙ c.if-is_any_past.true))

pub returns-then-is_any_past-clause-most : goal.returns-then-is_any_past-clause-most
returns-then-is_any_past-clause-most c =
    let o = c.args.occluders.now in
    let e = past_guard_is c.args.tri o.grade o.near.distance o.size c.args.winding c.args.corners.now c.requires.corners in
    let t = c.args.tri in
    few [] _ (past t.v0.now t.v1.now t.v2.now (top_of o.grade) o.near.distance o.size c.args.winding Occluder (sym e ∙ sym c.is_any_past.ensures ∙ c.if-is_any_past.true)) (omega arith)

pub push_clipped-requires-clause-guarded : goal.push_clipped-requires-clause-guarded
push_clipped-requires-clause-guarded c =
    let o = c.args.occluders.now in
    sym (past_guard_is c.args.tri o.grade o.near.distance o.size c.args.winding c.args.corners.now c.requires.corners) ∙ sym c.is_any_past.ensures ∙ c.if-is_any_past.false

pub returns-then-is_any_placed-clause-value : goal.returns-then-is_any_placed-clause-value
returns-then-is_any_placed-clause-value c =
    let o = c.args.occluders.now in
    let e = past_guard_is c.args.tri o.grade o.near.distance o.size c.args.winding c.args.corners.now c.requires.corners in
    let t = c.args.tri in
    took_as c.args.keeping c.args.list.now c.push_clipped.new.list c.push_clipped.result _ _ c.push_clipped.ensures.value
    (held t.v0.now t.v1.now t.v2.now (top_of o.grade) o.near.distance o.size c.args.winding Occluder _ (sym e ∙ sym c.is_any_past.ensures ∙ c.if-is_any_past.false) refl)

pub returns-then-is_any_placed-clause-most : goal.returns-then-is_any_placed-clause-most
returns-then-is_any_placed-clause-most c =
    let o = c.args.occluders.now in
    let e = past_guard_is c.args.tri o.grade o.near.distance o.size c.args.winding c.args.corners.now c.requires.corners in
    let t = c.args.tri in
    few _ _ (held t.v0.now t.v1.now t.v2.now (top_of o.grade) o.near.distance o.size c.args.winding Occluder _ (sym e ∙ sym c.is_any_past.ensures ∙ c.if-is_any_past.false) refl) c.push_clipped.ensures.most

pub returns-else-is_any_placed-clause-value : goal.returns-else-is_any_placed-clause-value
returns-else-is_any_placed-clause-value c =
    let o = c.args.occluders.now in
    took_none c.args.keeping c.args.list.now _ (none_behind c.args.tri o.grade o.near.distance o.size c.args.winding c.args.corners.now c.requires.corners (sym c.is_any_past.ensures ∙ c.if-is_any_past.false) (sym c.is_any_placed.ensures ∙ c.if-is_any_placed.false))

pub returns-else-is_any_placed-clause-most : goal.returns-else-is_any_placed-clause-most
returns-else-is_any_placed-clause-most c =
    let o = c.args.occluders.now in
    few [] _ (none_behind c.args.tri o.grade o.near.distance o.size c.args.winding c.args.corners.now c.requires.corners (sym c.is_any_past.ensures ∙ c.if-is_any_past.false) (sym c.is_any_placed.ensures ∙ c.if-is_any_placed.false)) (omega arith)
