use Rattle.tile_cells.proofs.Standing.{fresh_stands}
use Rattle.report_tests.proofs.tests.reports.opened.Goals as goal

pub returns-clause-writers : goal.returns-clause-writers
returns-clause-writers g c = fresh_stands c.in_ok-cells.cells c.args.list.now.list c.in_ok-cells.writers.items c.in_ok-cells.ensures.writers
