use Rattle.std.proofs.Common.{◌≡◌, ◌<◌, length, length-set, ap, sym, ◌∙◌, subst, arith}
use Rattle.std.specs.Prelude.{slice_index_or}
use Rattle.cull_base.proofs.Lists.{set_each}
use Rattle.tile_cells.specs.Cells.{Noted, Reading, IsAt}
use Rattle.tile_cells.specs.Standing.{IsReading}
use Rattle.tile_cells.proofs.Making.{some_tiles}
use Rattle.cells_tests.proofs.tests.cells.hear_and_look.Goals as goal

pub learn-requires-clause-note : goal.learn-requires-clause-note
learn-requires-clause-note g c =
    let some = some_tiles c.size-size.result c.args.list.now.list.size c.tile_columns-columns.result c.tile_rows-rows.result (length c.args.cells.now) c.size-size.ensures c.tile_columns-columns.ensures.value c.tile_rows-rows.ensures.value c.tile_columns-columns.ensures.some c.tile_rows-rows.ensures.some c.requires.whole in
    let w = c.index_mut.result.now in
    let at = c.requires.stand.each 0 w some in
    let is = sym c.index_mut.ensures.value in
    let noted = c.note-note.ensures.noted in
    let r = c.requires.read 0 c.index_mut-reader.result.now c.requires.some in
    let reader = c.index_mut-reader.ensures.value in (
      subst (λ (n : Noted). IsAt c.args.cells.now n.tile n.cell) (sym noted) (subst (λ z. IsAt c.args.cells.now z.tile z.cell) is (subst (λ t. IsAt c.args.cells.now t (slice_index_or c.args.writers.now.items 0 w).cell) (sym at.tile_is) at.at)),
      ap (λ (n : Noted). n.list) noted ∙ ap (λ z. z.list) (sym is) ∙ at.list_is ∙ sym r.list_is ∙ ap (λ (z : Reading). z.list) (sym reader),
    )

pub returns-clause-read : goal.returns-clause-read
returns-clause-read g c k d kl =
    let cells = c.args.cells.now in
    let list = c.args.list.now.list in
    let items = c.args.readers.now.items in
    let r = c.requires.read 0 c.index_mut-reader.result.now c.requires.some in
    let reader = subst (IsReading cells list) (sym c.index_mut-reader.ensures.value) r in
    let read = c.snapshot.ensures.read in
    let mine : IsReading cells list c.snapshot.new.self =
    record { of = read.cells ∙ ap (λ (z : Reading). z.cells) c.learn.ensures ∙ reader.of; list_is = read.list ∙ ap (λ (z : Reading). z.list) c.learn.ensures ∙ reader.list_is } in
    set_each (λ _ (x : Reading). IsReading cells list x) items 0 c.snapshot.new.self (length items) c.requires.some (λ j e jl _. c.requires.read j e jl) mine k d (omega (arith, kl, length-set items 0 c.snapshot.new.self))
