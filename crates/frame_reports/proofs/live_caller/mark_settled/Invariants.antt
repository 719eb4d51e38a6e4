use Rattle.std.proofs.Common.{◌≡◌, ℕ, length}
use Rattle.cull_report.specs.Scene.{frame_list, size_of}
use Rattle.tile_cells.specs.Standing.{IsReading}
use Rattle.tile_queues.specs.Callers.{Follows}
use Rattle.frame_reports.specs.LiveFrames.{AreMarks}
use Rattle.frame_reports.proofs.Marks.{MarkedTo}
use Rattle.frame_reports.proofs.live_caller.mark_settled.Given as goal

abbrev pub invariant-loop-object : goal.invariant-loop-object
invariant-loop-object g l = record {
  told : (seen : ℕ → ℕ → ℕ) × AreMarks l.watched.scene.now l.watched.frame seen l.fn.reader l.reader l.object l.marks.items;
  marked : MarkedTo l.watched.scene.now l.watched.frame l.object l.marks.items;
  reader : IsReading l.cells (frame_list l.watched.scene.now l.watched.frame) l.reader;
  follows : Follows l.fn.reader l.reader;
  size : l.snapshot.size ≡ size_of l.watched.scene.now;
  count : length l.marks.items ≡ length l.fn.marks.items;
}
