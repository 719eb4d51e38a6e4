use Rattle.std.proofs.Common.{◌≤◌, length, arith}
use Rattle.tile_cells.proofs.Writing.{first_is}
use Rattle.tile_cells.proofs.writer.TileWriter.first.Goals as goal

pub invariant_of-result : goal.invariant_of-result
invariant_of-result c =
    let len = c.len-length.ensures in
    let few : length c.args.list.now.list.members ≤ 131072 = omega (arith, len.value, len.within, len.small) in
    first_is c.args.tile c.tile_at.result c.size-size.result c.empty.result c.args.pass c.args.list.now.list c.requires.new c.size-size.ensures c.requires.tile c.tile_at.ensures.value few c.empty.ensures
