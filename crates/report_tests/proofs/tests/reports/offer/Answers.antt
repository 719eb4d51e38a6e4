use Rattle.std.proofs.Common.{◌≡◌, ℕ, true, sym, ◌∙◌, subst}
use Rattle.cull_base.specs.Piece.{box_of}
use Rattle.cull_base.specs.Rectangle.{meets}
use Rattle.cull_base.specs.Screen.{tile_rect_of}
use Rattle.cull_base.specs.Tiles.{PieceList}
use Rattle.masked_update.specs.Taken.{IsMember}
use Rattle.tile_cells.proofs.Members.{is_member}
use Rattle.report_tests.proofs.tests.reports.offer.Goals as goal

pub take_next-requires-clause-next : goal.take_next-requires-clause-next
take_next-requires-clause-next g c =
    let list = c.args.list.now.list in
    let x = c.get-piece.result.now in
    let s = c.requires.stands in
    let rect : c.tile_rect.result ≡ tile_rect_of list.size c.args._tile = c.tile_rect.ensures ∙ (λ i. tile_rect_of (c.size.ensures i) ((c.tile.ensures ∙ s.tile_is) i)) in
    let met : meets (box_of x) (tile_rect_of list.size c.args._tile) ≡ true = sym (λ i. meets (c.boxed.ensures i) (rect i)) ∙ sym c.meets.ensures.value ∙ c.if-meets.true in
    subst (λ (z : ℕ × ℕ × PieceList). IsMember z.0 z.1 z.2 x) (λ i. (sym s.tile_is i, sym s.count i, sym s.list_is i)) (is_member c.args._tile list 0 x c.requires.some (sym c.get-piece.ensures) met)
