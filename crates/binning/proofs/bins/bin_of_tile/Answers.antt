use Rattle.std.proofs.Common.{ap}
use Rattle.cull_base.specs.declared.place.Tile.{Tile}
use Rattle.binning.specs.Bins.{bin_of}
use Rattle.binning.proofs.bins.bin_of_tile.Goals as goal

pub returns-clause-value : goal.returns-clause-value
unfolding bin_of
returns-clause-value c =
    let place = c.tile_at-place.ensures.value in
    cc (ap (λ (p : Tile). p.column) place, ap (λ (p : Tile). p.row) place, c.bin_of-row.ensures.value, c.bin_of-column.ensures.value)
