use Rattle.std.proofs.Common.{◌≡◌, ◌≤◌, length, vec_capacity}
use Rattle.frame_reports.specs.LiveFrames.{HaveRoom}
use Rattle.frame_reports.proofs.live_frame.make_lines.Given as goal

abbrev pub invariant-loop-place : goal.invariant-loop-place
invariant-loop-place l = record {
  count : length l.lines.items ≡ l.place;
  space : l.count ≤ vec_capacity l.lines;
  room : HaveRoom l.watched.scene.now l.watched.frame l.watched.objects l.lines.items;
}
