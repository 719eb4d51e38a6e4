use Rattle.std.proofs.Common.{ℕ, ◌≡◌, length}
use Rattle.cull_report.specs.Scene.{frame_list, size_of}
use Rattle.tile_cells.specs.Standing.{IsReading}
use Rattle.tile_queues.specs.Callers.{Follows}
use Rattle.frame_reports.specs.LiveFrames.{HaveRoom}
use Rattle.frame_reports.proofs.LiveLooks.{SoFar}
use Rattle.frame_reports.proofs.live_caller.LiveCallerCaller.beside.Given as goal

abbrev pub invariant-loop-place : goal.invariant-loop-place
invariant-loop-place g l = record {
  looked : (seen : ℕ → ℕ → ℕ) × SoFar l.self.watched.scene.now l.self.watched.frame l.self.watched.objects seen l.place l.self.lines.items l.reader;
  reader : IsReading l.cells (frame_list l.self.watched.scene.now l.self.watched.frame) l.reader;
  follows : Follows l.fn.reader l.reader;
  size : l.self.snapshot.size ≡ size_of l.self.watched.scene.now;
  room : HaveRoom l.self.watched.scene.now l.self.watched.frame l.self.watched.objects l.self.lines.items;
  same : l.self.watched ≡ l.fn.self.watched;
  count : length l.self.lines.items ≡ length l.fn.self.lines.items;
  marks : l.self.settled.items ≡ l.fn.self.settled.items;
}
