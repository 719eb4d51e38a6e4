use Rattle.edge_lanes.specs.Inside.{inside_of, narrow_lines, wide_lines}
use Rattle.edge_lanes.proofs.Sides.{inside_lines-covered, inside_lines-touched}
use Rattle.edge_lanes.proofs.edges.Edges.of.Goals as goal

pub returns-then-is_narrow-clause-covered : goal.returns-then-is_narrow-clause-covered
unfolding inside_of
returns-then-is_narrow-clause-covered c = inside_lines-covered (narrow_lines c.of.result) c.args.side c.args.tri.now c.of.ensures

pub returns-then-is_narrow-clause-touched : goal.returns-then-is_narrow-clause-touched
unfolding inside_of
returns-then-is_narrow-clause-touched c = inside_lines-touched (narrow_lines c.of.result) c.args.side c.args.tri.now c.of.ensures

pub returns-else-is_narrow-clause-covered : goal.returns-else-is_narrow-clause-covered
unfolding inside_of
returns-else-is_narrow-clause-covered c = inside_lines-covered (wide_lines c.of-else-is_narrow.result) c.args.side c.args.tri.now c.of-else-is_narrow.ensures

pub returns-else-is_narrow-clause-touched : goal.returns-else-is_narrow-clause-touched
unfolding inside_of
returns-else-is_narrow-clause-touched c = inside_lines-touched (wide_lines c.of-else-is_narrow.result) c.args.side c.args.tri.now c.of-else-is_narrow.ensures
