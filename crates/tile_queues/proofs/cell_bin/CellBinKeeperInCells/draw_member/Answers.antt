use Rattle.std.proofs.Common.{◌≡◌, ℕ, ◌+◌, List, length, rules, refl, sym, ap, ◌∙◌, subst}
use Rattle.std.proofs.lemmas.List.{with_items_is}
use Rattle.std.specs.Prelude.{slice_index_or}
use Rattle.binning.specs.Bins.{bin_span_of}
use Rattle.cull_base.specs.Screen.{Dimensions, tile_place}
use Rattle.cull_base.specs.Span.{HasTilesOf, number_in, tiles_in}
use Rattle.cull_base.specs.declared.tile_span.TileSpan.{TileSpan}
use Rattle.masked_update.specs.Canvas.{IsInWindow}
use Rattle.masked_update.proofs.Walks.{met_in_cut}
use Rattle.tile_cells.specs.Cells.{Writing}
use Rattle.tile_cells.specs.Standing.{StandsAt}
use Rattle.tile_queues.proofs.Storing.{all_stored}
use Rattle.tile_queues.proofs.cell_bin.CellBinKeeperInCells.draw_member.Goals as goal

pub store_member-requires-clause-met : goal.store_member-requires-clause-met
store_member-requires-clause-met g c =
    let list = c.args.list.now.list in
    let window = c.args.self.now.window in
    let tiles = subst (λ (s : Dimensions). HasTilesOf c.of.result s c.boxed.result) c.size.ensures c.of.ensures.tiles in
    met_in_cut list.size c.get-tri.result.now window window c.of.result c.cut-span.result c.boxed.result refl c.boxed.ensures tiles c.cut-span.ensures.tiles

pub returns : goal.returns
returns g c =
    let list = c.args.list.now.list in
    let cells = c.args.beside.now.cells.now in
    let window = c.args.self.now.window in
    let x = c.get-tri.result.now in
    let new = c.store_member.new.writers in
    let at = c.requires.stands in
    let tiles = subst (λ (s : Dimensions). HasTilesOf c.of.result s c.boxed.result) c.size.ensures c.of.ensures.tiles in
    let met = met_in_cut list.size x window window c.of.result c.cut-span.result c.boxed.result refl c.boxed.ensures tiles c.cut-span.ensures.tiles in
    let each = all_stored cells list window c.cut-span.result c.args.index x new c.requires.index (sym c.get-tri.ensures) met c.store_member.ensures in
    let same : length new ≡ c.args.self.now.writers.len = search rules in
    let is = with_items_is c.args.self.now.writers new same in
    let placed = subst (λ (w : TileSpan). (t : ℕ) (d : Writing) → IsInWindow list.size w t → StandsAt cells list (c.args.index + 1) t (slice_index_or new (number_in w (tile_place list.size t)) d)) at.window_is each in
    record {
      window_is = at.window_is;
      whole = ap length is ∙ c.store_member.ensures.whole ∙ ap tiles_in at.window_is;
      each = λ t d within. subst (λ (ws : List Writing). StandsAt cells list (c.args.index + 1) t (slice_index_or ws (number_in (bin_span_of list.size c.args._cut.now c.args._bin) (tile_place list.size t)) d)) (sym is) (placed t d within);
    }
