use Rattle.tile_queues.specs.Owners.{cells_of}
use Rattle.tile_queues.proofs.make_queues.make_over_cells.Given as goal

abbrev pub ghost-open_over : goal.ghost-open_over
ghost-open_over a = cells_of a._writers.now

abbrev pub ghost-deal_writers : goal.ghost-deal_writers
ghost-deal_writers a = cells_of a.writers.items
