use Rattle.std.proofs.Common.{sym, subst}
use Rattle.std.proofs.lemmas.Option.{slice_get_within}
use Rattle.cull_base.specs.Screen.{Dimensions, tile_place}
use Rattle.cull_base.specs.declared.place.Tile.{Tile}
use Rattle.masked_update.specs.Forms.{IsFormOn, piece_of_form}
use Rattle.masked_update.specs.Taken.{IsMember}
use Rattle.tile_cells.specs.Cells.{Writing, IsAt}
use Rattle.tile_cells.proofs.Writing.{few_taken, next_holds, next_is}
use Rattle.tile_cells.proofs.writer.TileWriter.take_form.Goals as goal

pub take_form-requires-clause-count : goal.take_form-requires-clause-count
take_form-requires-clause-count g c =
    let s = c.self.inside in
    let x = piece_of_form c.args.form in
    few_taken s.tile s.place s.size s.state s.pass x c.self.invariant (subst (λ (w : Writing). IsMember w.tile w.count w.list x) (sym c.self.view_is) c.requires.next)

pub take_form-requires-clause-form : goal.take_form-requires-clause-form
take_form-requires-clause-form g c =
    let s = c.self.inside in
    let of_list = subst (λ (w : Writing). IsFormOn w.list.size (tile_place w.list.size w.tile).row c.args.form) (sym c.self.view_is) c.requires.form in
    let here = subst (λ (z : Dimensions). IsFormOn z (tile_place z s.tile).row c.args.form) (sym c.self.invariant.size_is) of_list in
    subst (λ (p : Tile). IsFormOn s.size p.row c.args.form) (sym c.self.invariant.place_is) here

pub cell-requires : goal.cell-requires
cell-requires g c =
    let at = subst (λ (w : Writing). IsAt c.args.cells.now w.tile w.cell) (sym c.self.view_is) c.requires.of in
    slice_get_within c.args.cells.now c.self.inside.tile _ at

pub store-requires-clause-next : goal.store-requires-clause-next
store-requires-clause-next g c =
    let s = c.self.inside in
    let x = piece_of_form c.args.form in
    next_holds s.tile s.place s.size s.state s.pass x c.self.invariant (subst (λ (w : Writing). IsMember w.tile w.count w.list x) (sym c.self.view_is) c.requires.next)
    _ _ c.take_form.ensures c.words_of-words.ensures.value c.words_of-words.ensures.possible

pub invariant_of-self : goal.invariant_of-self
invariant_of-self g c =
    let s = c.self.inside in
    let x = piece_of_form c.args.form in
    next_is s.tile s.place s.size s.state s.pass x c.self.invariant (subst (λ (w : Writing). IsMember w.tile w.count w.list x) (sym c.self.view_is) c.requires.next)
    _ _ c.take_form.ensures c.words_of-words.ensures.possible c.store.ensures.stored
