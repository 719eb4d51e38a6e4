use Rattle.std.proofs.Common.{◌≡◌, ℕ, ◌<◌, [], get_or}
use Rattle.cull_base.specs.declared.clip.ClipVertex.{ClipVertex}
use Rattle.camera_path.specs.Clip.{clip_of}
use Rattle.frame_reports.proofs.frame_pool.clip_alone.Given as goal

abbrev pub invariant-loop-i : goal.invariant-loop-i
invariant-loop-i l = (k : ℕ) (d : ClipVertex) → k < l.i → get_or l.clips k d ≡ clip_of l.camera.0 (get_or l.vertices k [])
