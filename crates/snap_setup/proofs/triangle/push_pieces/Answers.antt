use Rattle.std.proofs.Common.{[], sym, ◌∙◌, arith, refl, option_to_list}
use Rattle.cull_base.specs.Grade.{top_of}
use Rattle.cull_base.specs.declared.triangle.Side.TheVariants.{Occluder}
use Rattle.snap_setup.proofs.KeptPieces.{few, few_by_option, past, held}
use Rattle.snap_setup.proofs.Takes.{took_none, took_as}
use Rattle.snap_setup.proofs.triangle.push_pieces.Goals as goal

pub returns-then-is_any_past_guard-clause-value : goal.returns-then-is_any_past_guard-clause-value
returns-then-is_any_past_guard-clause-value c =
    took_none c.args.keeping c.args.list.now _ (past c.args.tri.now.v0.now c.args.tri.now.v1.now c.args.tri.now.v2.now (top_of c.args.grade) c.args.near.distance c.args.size c.args.winding Occluder (sym c.is_any_past_guard.ensures ∙ c.if-is_any_past_guard.true))

pub returns-then-is_any_past_guard-clause-most : goal.returns-then-is_any_past_guard-clause-most
returns-then-is_any_past_guard-clause-most c =
    few [] _ (past c.args.tri.now.v0.now c.args.tri.now.v1.now c.args.tri.now.v2.now (top_of c.args.grade) c.args.near.distance c.args.size c.args.winding Occluder (sym c.is_any_past_guard.ensures ∙ c.if-is_any_past_guard.true)) (omega arith)

pub returns-then-is_all_in_front-clause-value : goal.returns-then-is_all_in_front-clause-value
returns-then-is_all_in_front-clause-value c =
    took_as c.args.keeping c.args.list.now c.take_if.new.list c.take_if.result _ _ c.take_if.ensures
    (held c.args.tri.now.v0.now c.args.tri.now.v1.now c.args.tri.now.v2.now (top_of c.args.grade) c.args.near.distance c.args.size c.args.winding Occluder (option_to_list c.whole_piece.result) (sym c.is_any_past_guard.ensures ∙ c.if-is_any_past_guard.false) c.whole_piece.ensures)

pub returns-then-is_all_in_front-clause-most : goal.returns-then-is_all_in_front-clause-most
returns-then-is_all_in_front-clause-most c =
    few (option_to_list c.whole_piece.result) _
    (held c.args.tri.now.v0.now c.args.tri.now.v1.now c.args.tri.now.v2.now (top_of c.args.grade) c.args.near.distance c.args.size c.args.winding Occluder (option_to_list c.whole_piece.result) (sym c.is_any_past_guard.ensures ∙ c.if-is_any_past_guard.false) c.whole_piece.ensures)
    (few_by_option c.whole_piece.result)

pub returns-else-is_all_in_front-clause-value : goal.returns-else-is_all_in_front-clause-value
returns-else-is_all_in_front-clause-value c =
    took_as c.args.keeping c.args.list.now c.push_clipped.new.list c.push_clipped.result _ _ c.push_clipped.ensures.value
    (held c.args.tri.now.v0.now c.args.tri.now.v1.now c.args.tri.now.v2.now (top_of c.args.grade) c.args.near.distance c.args.size c.args.winding Occluder _ (sym c.is_any_past_guard.ensures ∙ c.if-is_any_past_guard.false) refl)

pub returns-else-is_all_in_front-clause-most : goal.returns-else-is_all_in_front-clause-most
returns-else-is_all_in_front-clause-most c =
    few _ _
    (held c.args.tri.now.v0.now c.args.tri.now.v1.now c.args.tri.now.v2.now (top_of c.args.grade) c.args.near.distance c.args.size c.args.winding Occluder _ (sym c.is_any_past_guard.ensures ∙ c.if-is_any_past_guard.false) refl)
    c.push_clipped.ensures.most
