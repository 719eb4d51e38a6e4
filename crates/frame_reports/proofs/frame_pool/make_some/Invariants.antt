use Rattle.frame_reports.specs.Windows.{HasPlaces}
use Rattle.frame_reports.proofs.frame_pool.make_some.Given as goal

abbrev pub invariant-loop : goal.invariant-loop
invariant-loop g l = HasPlaces l.window.drawing.now.scene.now l.maker.room
