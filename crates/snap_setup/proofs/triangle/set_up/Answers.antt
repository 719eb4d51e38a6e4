use Rattle.std.proofs.Common.{sym, append-nil, ◌∙◌, option_to_list}
use Rattle.cull_base.specs.Grade.{top_of}
use Rattle.near_clip.specs.NearPart.{corner}
use Rattle.snap_setup.proofs.KeptPieces.{none_by, past, held}
use Rattle.snap_setup.proofs.triangle.set_up.Goals as goal

pub returns-then-is_any_past_guard-clause-value : goal.returns-then-is_any_past_guard-clause-value
returns-then-is_any_past_guard-clause-value c =
    let v = c.args.tri.now in
    c.none.ensures ∙ past (corner v 0) (corner v 1) (corner v 2) (top_of c.args.grade) c.args.near c.args.size c.args.winding c.args.side (sym c.is_any_past_guard.ensures ∙ c.if-is_any_past_guard.true)

pub returns-then-is_all_in_front-clause-value : goal.returns-then-is_all_in_front-clause-value
returns-then-is_all_in_front-clause-value c =
    let v = c.args.tri.now in
    held (corner v 0) (corner v 1) (corner v 2) (top_of c.args.grade) c.args.near c.args.size c.args.winding c.args.side c.of.result (sym c.is_any_past_guard.ensures ∙ c.if-is_any_past_guard.false)
    (c.of.ensures ∙ (append-nil (option_to_list c.whole_piece.result) ∙ c.whole_piece.ensures))

pub returns-then-is_all_in_front-clause-none : goal.returns-then-is_all_in_front-clause-none
returns-then-is_all_in_front-clause-none c =
    let v = c.args.tri.now in
    none_by (corner v 0) (corner v 1) (corner v 2) (top_of c.args.grade) c.args.near c.args.size c.args.winding c.args.side c.of.result (returns-then-is_all_in_front-clause-value c)

pub returns-else-is_all_in_front-clause-value : goal.returns-else-is_all_in_front-clause-value
returns-else-is_all_in_front-clause-value c =
    let v = c.args.tri.now in
    held (corner v 0) (corner v 1) (corner v 2) (top_of c.args.grade) c.args.near c.args.size c.args.winding c.args.side c.clipped_pieces.result (sym c.is_any_past_guard.ensures ∙ c.if-is_any_past_guard.false) c.clipped_pieces.ensures

pub returns-else-is_all_in_front-clause-none : goal.returns-else-is_all_in_front-clause-none
returns-else-is_all_in_front-clause-none c =
    let v = c.args.tri.now in
    none_by (corner v 0) (corner v 1) (corner v 2) (top_of c.args.grade) c.args.near c.args.size c.args.winding c.args.side c.clipped_pieces.result (returns-else-is_all_in_front-clause-value c)
