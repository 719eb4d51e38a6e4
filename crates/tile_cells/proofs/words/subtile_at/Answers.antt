use Rattle.masked_update.specs.TileOf.{sub_at}
use Rattle.tile_cells.proofs.Packing.{packed_at, are_packed}
use Rattle.tile_cells.proofs.words.subtile_at.Goals as goal

pub subtile_of-requires : goal.subtile_of-requires
subtile_of-requires c = are_packed c.args.words.now c.args.j c.mask_in.result c.requires.words c.requires.j c.mask_in.ensures

pub returns : goal.returns
returns c t is e = c.subtile_of.ensures (sub_at t c.args.j) (is.subtiles c.args.j c.requires.j) (packed_at t c.args.words.now c.args.j c.mask_in.result is e c.requires.j c.mask_in.ensures)
