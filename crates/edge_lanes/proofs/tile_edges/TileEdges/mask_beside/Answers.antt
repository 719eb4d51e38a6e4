use Rattle.std.proofs.Common.{◌∙◌, ap, sym}
use Rattle.std.proofs.lemmas.Nat.Bits.{shr_and_one}
use Rattle.cull_base.specs.State.{samples_of}
use Rattle.edge_lanes.proofs.Tiles.{samples_of-mask_l_inside_at}
use Rattle.edge_lanes.proofs.tile_edges.TileEdges.mask_beside.Goals as goal

pub returns-then-whole-j-eq1-clause-samples : goal.returns-then-whole-j-eq1-clause-samples
returns-then-whole-j-eq1-clause-samples c =
    let bit = sym (shr_and_one c.args.whole c.args.j) ∙ c.if-whole-j-eq1.true in
    ap samples_of (sym (c.requires.whole c.args.j c.requires.j bit)) ∙ samples_of-mask_l_inside_at c.args.self.now c.args.j
