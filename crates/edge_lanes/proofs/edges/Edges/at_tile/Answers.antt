use Rattle.std.proofs.Common.{refl}
use Rattle.edge_lanes.specs.Tiles.{inside_at}
use Rattle.edge_lanes.proofs.edges.Edges.at_tile.Goals as goal
use Rattle.edge_lanes.proofs.edges.Edges.at_tile.Goals.{in-Narrow, in-Wide}

pub returns : goal.returns
unfolding inside_at
returns c =
    elim c.match-self.branch [
      | in-Narrow w ↦ λ j. let e = w.result-is in rw e refl
      | in-Wide w ↦ λ j. let e = w.result-is in rw e refl
    ]
