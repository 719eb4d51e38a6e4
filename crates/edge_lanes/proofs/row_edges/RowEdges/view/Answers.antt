use Rattle.std.proofs.Common.{ap, sym}
use Rattle.edge_lanes.specs.Crossings.{inside_kind, inside_rows, inside_view}
use Rattle.edge_lanes.specs.declared.row_edges.RowKind.{RowKind}
use Rattle.edge_lanes.proofs.row_edges.RowEdges.view.Goals as goal

pub returns-in-Crossed : goal.returns-in-Crossed
unfolding inside_rows inside_view
returns-in-Crossed c u = ap (λ (k : RowKind). inside_kind k u) (sym c.in-Crossed.is)

pub returns-in-Plain : goal.returns-in-Plain
unfolding inside_rows inside_view
returns-in-Plain c u = ap (λ (k : RowKind). inside_kind k u) (sym c.in-Plain.is)
