use Rattle.tile_cells.proofs.steps.name.Given as goal

abbrev pub ghosts-named : goal.ghosts-named
ghosts-named a = record { list = a._list.now.list; tile = a._tile }
