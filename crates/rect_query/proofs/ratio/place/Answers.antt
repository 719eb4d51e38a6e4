use Rattle.std.proofs.lemmas.Int.{to_z-of_z}
use Rattle.snap_setup.proofs.BoxSteps.{coordinate_fits}
use Rattle.rect_query.proofs.ratio.place.Goals as goal

pub returns-in-Across-clause-value : goal.returns-in-Across-clause-value
returns-in-Across-clause-value c = let is = c.in-Across.is in let fits = coordinate_fits c.place_across.result c.place_across.ensures.within in rw is (simp to_z-of_z c.place_across.ensures.value)

pub returns-in-Down-clause-value : goal.returns-in-Down-clause-value
returns-in-Down-clause-value c = let is = c.in-Down.is in let fits = coordinate_fits c.place_down.result c.place_down.ensures.within in rw is (simp to_z-of_z c.place_down.ensures.value)
