use Rattle.std.proofs.Common.{◌≤◌, subst}
use Rattle.masked_update.specs.TileOf.{TileOf, sub_at}
use Rattle.masked_update.specs.Taken.{standing_at}
use Rattle.tile_cells.specs.Cells.{Writing}
use Rattle.tile_cells.proofs.writer.TileWriter.least_reference.Goals as goal

pub returns : goal.returns
returns c j lt =
    let near = c.least_reference.result in
    let here = subst (λ (t : TileOf). near ≤ (sub_at t j).reference) c.self.invariant.state_is (c.least_reference.ensures.least j lt) in
    subst (λ (w : Writing). near ≤ (sub_at (standing_at w.tile w.count w.list) j).reference) c.self.view_is here
