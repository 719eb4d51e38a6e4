-- How a frame's lines are written, part after part.
use Rattle.std.proofs.Common.{ℕ, ◌≤◌, ◌++◌, List, Result, Err}
use Rattle.std.specs.Prelude.{count_by}
use Rattle.cull_base.specs.Stream.{SinkSays, Appends, Writes}
use Rattle.cull_base.specs.declared.memory.SinkError.{SinkError}
use Rattle.cull_base.specs.declared.scene_types.Verdict.{Verdict}
use Rattle.cull_base.proofs.Streams.{writes_then, writes_no_more}
use Rattle.cull_report.specs.Text.{frame_line, verdict_lines, end_line, frame_text, is_visible, is_occluded, is_outside}

abbrev pub last_line : ℕ → List Verdict → List ℕ
last_line frame verdicts = end_line frame (count_by is_visible verdicts) (count_by is_occluded verdicts) (count_by is_outside verdicts)

-- the first line couldn't be written whole
pub line_failed : (frame pieces : ℕ) (verdicts : List Verdict) (s0 s1 : SinkSays) (e : SinkError) → Writes s0 s1 (Err e) (frame_line frame pieces) → Writes s0 s1 (Err e) (frame_text frame pieces verdicts)
unfolding frame_text
line_failed frame pieces verdicts s0 s1 e failed = writes_no_more s0 s1 e (frame_line frame pieces) (verdict_lines 0 verdicts ++ last_line frame verdicts) failed

-- the lines of the verdicts couldn't
pub verdicts_failed : (frame pieces : ℕ) (verdicts : List Verdict) (s0 s1 s2 : SinkSays) (e : SinkError) (r : Result (Unit {0}) SinkError) → Writes s0 s1 r (frame_line frame pieces) → Appends s0 s1 (frame_line frame pieces)
    → Writes s1 s2 (Err e) (verdict_lines 0 verdicts) → Writes s0 s2 (Err e) (frame_text frame pieces verdicts)
unfolding frame_text
verdicts_failed frame pieces verdicts s0 s1 s2 e r first wrote failed =
    writes_then s0 s1 s2 (Err e) (frame_line frame pieces) (verdict_lines 0 verdicts ++ last_line frame verdicts) wrote first.faults_stay first.refusals_stay
    (writes_no_more s1 s2 e (verdict_lines 0 verdicts) (last_line frame verdicts) failed)

-- the last line was written, or it couldn't be
pub frame_ends : (frame pieces : ℕ) (verdicts : List Verdict) (s0 s1 s2 s3 : SinkSays) (r1 r : Result (Unit {0}) SinkError) → Writes s0 s1 r1 (frame_line frame pieces) → Appends s0 s1 (frame_line frame pieces)
    → s1.faults ≤ s2.faults → s1.refusals ≤ s2.refusals → Appends s1 s2 (verdict_lines 0 verdicts) → Writes s2 s3 r (last_line frame verdicts) → Writes s0 s3 r (frame_text frame pieces verdicts)
unfolding frame_text
frame_ends frame pieces verdicts s0 s1 s2 s3 r1 r first wrote faults refusals listed ended =
    writes_then s0 s1 s3 r (frame_line frame pieces) (verdict_lines 0 verdicts ++ last_line frame verdicts) wrote first.faults_stay first.refusals_stay
    (writes_then s1 s2 s3 r (verdict_lines 0 verdicts) (last_line frame verdicts) listed faults refusals ended)
