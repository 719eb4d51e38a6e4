use Rattle.std.proofs.Common.{◌≡◌, ◌+◌, ◌*◌, ◌<◌, ap, sym, ◌∙◌, subst, arith}
use Rattle.cull_base.specs.Screen.{tile_columns_of, tile_count_of}
use Rattle.cull_base.specs.Tiles.{PieceList}
use Rattle.tile_cells.specs.Snapshots.{SnapshotOf}
use Rattle.tile_cells.proofs.Areas.{columns_read, number_on, one_read}
use Rattle.tile_cells.proofs.reader.TileReader.read_row.Goals as goal

pub put-requires : goal.put-requires
put-requires g c =
    let size = c.args.into.now.size in
    let columns : c.tile_columns.result ≡ tile_columns_of size = c.tile_columns.ensures.value ∙ ap tile_columns_of c.size-size.ensures in
    subst (λ s. c.args.row * c.tile_columns.result + c.loop-column.column < tile_count_of s) (sym c.loop-column.invariant.0.size)
    (number_on size c.args.span c.args.row c.loop-column.column c.tile_columns.result columns c.requires.span c.requires.row c.loop-column-test.true)

pub read-state-requires-clause-tile : goal.read-state-requires-clause-tile
read-state-requires-clause-tile g c =
    let size = c.args.into.now.size in
    let columns : c.tile_columns.result ≡ tile_columns_of size = c.tile_columns.ensures.value ∙ ap tile_columns_of c.size-size.ensures in
    let own : size ≡ c.loop-column.self.list.size = c.requires.size ∙ ap (λ (l : PieceList). l.size) (sym c.loop-column.invariant.0.list) in
    subst (λ s. c.args.row * c.tile_columns.result + c.loop-column.column < tile_count_of s) own
    (number_on size c.args.span c.args.row c.loop-column.column c.tile_columns.result columns c.requires.span c.requires.row c.loop-column-test.true)

pub loop-column-preserved : goal.loop-column-preserved
loop-column-preserved g c =
    let size = c.args.into.now.size in
    let i = c.loop-column.invariant in
    let columns : c.tile_columns.result ≡ tile_columns_of size = c.tile_columns.ensures.value ∙ ap tile_columns_of c.size-size.ensures in
    let own : c.loop-column.into.size ≡ c.loop-column.self.list.size = i.0.size ∙ c.requires.size ∙ ap (λ (l : PieceList). l.size) (sym i.0.list) in
    let r = c.read-state.ensures in
    let on = subst (λ s. c.args.row * c.tile_columns.result + c.loop-column.column < tile_count_of s) (sym i.0.size)
    (number_on size c.args.span c.args.row c.loop-column.column c.tile_columns.result columns c.requires.span c.requires.row c.loop-column-test.true) in
    let one = one_read c.loop-column.self c.read-state.new.self c.loop-column.into c.put.new.self (c.args.row * c.tile_columns.result + c.loop-column.column) (tile_count_of c.loop-column.self.list.size) c.read-state.result
    on (ap tile_count_of own) r.seen r.loads c.put.ensures.whole r.read c.put.ensures.value r.rises r.within r.state in (
      columns_read c.args.self.now c.loop-column.self c.read-state.new.self c.args.into.now c.loop-column.into c.put.new.self (tile_columns_of size) c.args.row c.args.span.first_column c.loop-column.column _
          (omega (arith, c.loop-column-test.true, c.requires.span.columns_within)) c.loop-column.auto.column (ap (λ n. c.args.row * n + c.loop-column.column) columns) i.0 one,
      ap (λ (s : SnapshotOf). s.span) c.put.ensures.value ∙ i.1,
    )
