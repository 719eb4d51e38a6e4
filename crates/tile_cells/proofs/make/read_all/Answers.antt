use Rattle.std.proofs.Common.{rules, ◌≡◌, length, replicate, ap, ◌∙◌, subst}
use Rattle.tile_cells.specs.declared.rule.View.{View}
use Rattle.tile_cells.proofs.Making.{AreNewTo, new_reader, reads_new, some_tiles, zeros}
use Rattle.tile_cells.proofs.make.read_all.Goals as goal

pub of-requires-clause-passes : goal.of-requires-clause-passes
of-requires-clause-passes c =
    let all : c.loop-tile.tile ≡ length c.args.cells.now = search rules in
    let new = subst (λ n. AreNewTo c.args.cells.now c.args.list.now.list n c.loop-tile.passes.items) all c.loop-tile.invariant.new in
    let some = some_tiles c.size-size.result c.args.list.now.list.size c.tile_columns-columns.result c.tile_rows-rows.result (length c.args.cells.now) c.size-size.ensures c.tile_columns-columns.ensures.value c.tile_rows-rows.ensures.value c.tile_columns-columns.ensures.some c.tile_rows-rows.ensures.some c.requires.whole in
    reads_new c.args.cells.now c.args.list.now.list c.loop-tile.passes.items new some c.requires.whole

pub of-requires-clause-seen : goal.of-requires-clause-seen
of-requires-clause-seen c =
    let new = c.loop-tile.invariant.new in
    let items : c.in_ok-seen.seen.items ≡ replicate c.loop-tile.tile 0 = search rules in
    items ∙ zeros c.loop-tile.passes.items c.loop-tile.tile new.whole (λ t d lt. ap (λ (v : View). v.number) (new.views t d lt))

pub returns-clause-new : goal.returns-clause-new
returns-clause-new c =
    let all : c.loop-tile.tile ≡ length c.args.cells.now = search rules in
    let new = subst (λ n. AreNewTo c.args.cells.now c.args.list.now.list n c.loop-tile.passes.items) all c.loop-tile.invariant.new in
    let some = some_tiles c.size-size.result c.args.list.now.list.size c.tile_columns-columns.result c.tile_rows-rows.result (length c.args.cells.now) c.size-size.ensures c.tile_columns-columns.ensures.value c.tile_rows-rows.ensures.value c.tile_columns-columns.ensures.some c.tile_rows-rows.ensures.some c.requires.whole in
    new_reader c.args.cells.now c.args.list.now.list c.loop-tile.passes.items new some c.of.result c.of.ensures
