use Rattle.std.proofs.Common.{◌≡◌, ℕ, ◌+◌, true, false, sym, ap, ◌∙◌, subst}
use Rattle.cull_base.specs.Piece.{box_of}
use Rattle.cull_base.specs.Rectangle.{meets}
use Rattle.cull_base.specs.Screen.{tile_rect_of}
use Rattle.cull_base.specs.Tiles.{PieceList}
use Rattle.masked_update.specs.Taken.{IsMember}
use Rattle.tile_cells.specs.Cells.{Writing, IsAt}
use Rattle.tile_cells.proofs.Members.{is_member, rank_met, rank_missed}
use Rattle.cells_tests.proofs.tests.cells.offer.Goals as goal

pub take_next-requires-clause-next : goal.take_next-requires-clause-next
take_next-requires-clause-next g c =
    let list = c.args.list.now.list in
    let x = c.get-piece.result.now in
    let s = c.requires.stands in
    let rect : c.tile_rect.result ≡ tile_rect_of list.size c.args._tile = c.tile_rect.ensures ∙ (λ i. tile_rect_of (c.size.ensures i) ((c.tile.ensures ∙ s.tile_is) i)) in
    let met : meets (box_of x) (tile_rect_of list.size c.args._tile) ≡ true = sym (λ i. meets (c.boxed.ensures i) (rect i)) ∙ sym c.meets.ensures.value ∙ c.if-meets.true in
    subst (λ (z : ℕ × ℕ × PieceList). IsMember z.0 z.1 z.2 x) (λ i. (sym s.tile_is i, sym s.count i, sym s.list_is i)) (is_member c.args._tile list c.args.index x c.requires.index (sym c.get-piece.ensures) met)

pub returns-then-meets : goal.returns-then-meets
returns-then-meets g c =
    let list = c.args.list.now.list in
    let x = c.get-piece.result.now in
    let s = c.requires.stands in
    let t = c.take_next.ensures in
    let rect : c.tile_rect.result ≡ tile_rect_of list.size c.args._tile = c.tile_rect.ensures ∙ (λ i. tile_rect_of (c.size.ensures i) ((c.tile.ensures ∙ s.tile_is) i)) in
    let met : meets (box_of x) (tile_rect_of list.size c.args._tile) ≡ true = sym (λ i. meets (c.boxed.ensures i) (rect i)) ∙ sym c.meets.ensures.value ∙ c.if-meets.true in
    record {
      at = subst (λ z. IsAt c.args.cells.now c.args._tile z) (sym (ap (λ (w : Writing). w.cell) t)) s.at;
      tile_is = ap (λ (w : Writing). w.tile) t ∙ s.tile_is;
      list_is = ap (λ (w : Writing). w.list) t ∙ s.list_is;
      count = ap (λ (w : Writing). w.count) t ∙ ap (λ n. n + 1) s.count ∙ sym (rank_met c.args._tile list c.args.index x c.requires.index (sym c.get-piece.ensures) met);
    }

pub returns-else-meets : goal.returns-else-meets
returns-else-meets g c =
    let list = c.args.list.now.list in
    let x = c.get-piece.result.now in
    let s = c.requires.stands in
    let rect : c.tile_rect.result ≡ tile_rect_of list.size c.args._tile = c.tile_rect.ensures ∙ (λ i. tile_rect_of (c.size.ensures i) ((c.tile.ensures ∙ s.tile_is) i)) in
    let missed : meets (box_of x) (tile_rect_of list.size c.args._tile) ≡ false = sym (λ i. meets (c.boxed.ensures i) (rect i)) ∙ sym c.meets.ensures.value ∙ c.if-meets.false in
    record { at = s.at; tile_is = s.tile_is; list_is = s.list_is; count = s.count ∙ sym (rank_missed c.args._tile list c.args.index x c.requires.index (sym c.get-piece.ensures) missed) }
