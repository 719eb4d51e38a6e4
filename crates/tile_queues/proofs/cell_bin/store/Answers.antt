use Rattle.std.proofs.Common.{ℕ, ◌+◌, refl, sym, ap, ◌∙◌, subst}
use Rattle.cull_base.specs.Screen.{tile_place}
use Rattle.cull_base.specs.Tiles.{PieceList}
use Rattle.masked_update.specs.Forms.{IsFormOn, piece_of_form}
use Rattle.masked_update.specs.Taken.{IsMember}
use Rattle.tile_cells.specs.Cells.{Writing, IsAt}
use Rattle.tile_cells.specs.Standing.{rank}
use Rattle.tile_cells.proofs.Members.{is_member, rank_met}
use Rattle.tile_queues.proofs.cell_bin.store.Goals as goal

pub take_form-requires-clause-next : goal.take_form-requires-clause-next
take_form-requires-clause-next g c =
    let x = piece_of_form c.args.form in
    let w = c.args.writer.now in
    let s = c.requires.stands in
    subst (λ (z : ℕ × PieceList). IsMember w.tile z.0 z.1 x) (λ i. (sym s.count i, sym s.list_is i)) (is_member w.tile c.args.member.now.list.now.list c.args.member.now.index x c.args.member.now.inside c.requires.form.is c.requires.met)

pub take_form-requires-clause-form : goal.take_form-requires-clause-form
take_form-requires-clause-form g c = subst (λ (l : PieceList). IsFormOn l.size (tile_place l.size c.args.writer.now.tile).row c.args.form) (sym c.requires.stands.list_is) c.requires.form.formed

pub returns-clause-stands : goal.returns-clause-stands
returns-clause-stands g c =
    let list = c.args.member.now.list.now.list in
    let w = c.args.writer.now in
    let s = c.requires.stands in
    let t = c.take_form.ensures in
    record {
      at = subst (λ (z : Writing). IsAt c.args.member.now.cells.now z.tile z.cell) (sym t) s.at;
      tile_is = refl;
      list_is = ap (λ (z : Writing). z.list) t ∙ s.list_is;
      count = ap (λ (z : Writing). z.count) t ∙ ap (λ n. n + 1) s.count ∙ sym (rank_met w.tile list c.args.member.now.index (piece_of_form c.args.form) c.args.member.now.inside c.requires.form.is c.requires.met)
          ∙ ap (λ u. rank u list (c.args.member.now.index + 1)) (sym (ap (λ (z : Writing). z.tile) t));
    }
