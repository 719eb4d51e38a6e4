use Rattle.std.proofs.Common.{rules, ◌≡◌, ◌∙◌, arith}
use Rattle.tile_cells.proofs.Making.{opened_by}
use Rattle.tile_cells.proofs.make.open_all.Goals as goal

pub loop-tile-preserved : goal.loop-tile-preserved
loop-tile-preserved c =
    let i = c.loop-tile.invariant in
    let own : c.in_ok-cell.pass.table_id ≡ c.in_ok-cell.cell.table.shared.table_id = search rules in
    let more = opened_by (λ k. k.table.shared.table_id) c.args.list.now.list c.loop-tile.tile c.loop-tile.cells.items c.loop-tile.passes.items c.in_ok-cell.cell c.name.new.pass i.opened (c.name.ensures.own.0 ∙ own) c.name.ensures.named in
    record {
      opened = rw (c.push_reserved.ensures.items, c.push_reserved-in-loop-tile.ensures.items) more;
      room_of_cells = omega (arith, i.room_of_cells, c.push_reserved.ensures.capacity);
      room_of_passes = omega (arith, i.room_of_passes, c.push_reserved-in-loop-tile.ensures.capacity);
    }
