use Rattle.std.proofs.Common.{◌≡◌, ◌≤ℤ◌, ◌∙◌, sym, subst}
use Rattle.std.specs.Prelude.{slice_index_or}
use Rattle.cull_base.specs.Piece.{IsPiece, Piece, box_of}
use Rattle.cull_base.specs.declared.rect.Rect.{Rect}
use Rattle.depth_plane.proofs.Boxes.{covers-in_box}
use Rattle.masked_update.specs.Merged.{IsSubBox}
use Rattle.masked_update.specs.Samples.{HoldsSampled}
use Rattle.masked_update.specs.declared.sub_span.SubBox.{SubBox}
use Rattle.masked_update.proofs.Boxes.{box_ordered}
use Rattle.tile_queues.proofs.cell_bin.store_member.Goals as goal

-- the box has each sample that the piece covers
box_holds : (x : Piece) (r : Rect) (b : SubBox) → IsPiece x → r ≡ box_of x → IsSubBox r b → HoldsSampled x b
box_holds x r b valid is reached = (box_of x, λ px py on. covers-in_box x px py valid on, subst (λ (s : Rect). IsSubBox s b) is reached)

-- what isn't set up reaches nothing that is told
pub store_in_span-requires-clause-form : goal.store_in_span-requires-clause-form
store_in_span-requires-clause-form g c row = record { is = c.requires.is; formed = tt }

pub of-reached-requires-clause-across : goal.of-reached-requires-clause-across
of-reached-requires-clause-across g c = subst (λ (r : Rect). r.x0 ≤ℤ r.x1) (sym c.boxed.ensures) (box_ordered c.args.tri.now c.greatest_nearness.ensures.valid).0

pub of-reached-requires-clause-down : goal.of-reached-requires-clause-down
of-reached-requires-clause-down g c = subst (λ (r : Rect). r.y0 ≤ℤ r.y1) (sym c.boxed.ensures) (box_ordered c.args.tri.now c.greatest_nearness.ensures.valid).1

pub store_in_span-requires-in-Some-clause-form : goal.store_in_span-requires-in-Some-clause-form
store_in_span-requires-in-Some-clause-form g c row =
    let x = c.args.tri.now in
    let list = c.args.member.now.list.now.list in
    let same : c.in-Some.piece ≡ x = c.in-Some.ensures in
    let holds = box_holds x c.boxed.result c.of-reached.result c.greatest_nearness.ensures.valid c.boxed.ensures c.of-reached.ensures.reached in
    record {
      is = subst (λ (y : Piece). slice_index_or list.members c.args.member.now.index y ≡ y) (sym same) c.requires.is;
      formed = (subst (λ (y : Piece). HoldsSampled y c.of-reached.result) (sym same) holds, c.of-reached.ensures.size ∙ c.size.ensures);
    }

pub store_set_up-requires-clause-reached : goal.store_set_up-requires-clause-reached
store_set_up-requires-clause-reached g c =
    box_holds c.args.tri.now c.boxed.result c.of-reached.result c.greatest_nearness.ensures.valid c.boxed.ensures c.of-reached.ensures.reached

pub store_set_up-requires-clause-size : goal.store_set_up-requires-clause-size
store_set_up-requires-clause-size g c = c.of-reached.ensures.size ∙ c.size.ensures
