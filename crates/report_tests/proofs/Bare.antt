-- Scenes without vertices.
use Rattle.std.proofs.Common.{◌≡◌, ℕ, List, [], ◌∷◌, length, arith, refl, ◌∙◌}
use Rattle.cull_base.specs.declared.clip.ClipVertex.{ClipVertex}
use Rattle.scene_reader.specs.Layout.{Parts}
use Rattle.cull_report.specs.Scene.{frame_clips}
use Rattle.cull_report.proofs.Forms.{clip_count}

none : (clips : List ClipVertex) → length clips ≡ 0 → [] ≡ clips
none [] e = refl
none (c ∷ cs) e = absurd (omega (arith, e))

-- a frame of them has no clip vertices
pub no_clips : (s : Parts) (frame : ℕ) → length s.vertices ≡ 0 → [] ≡ frame_clips s frame
no_clips s frame empty = none (frame_clips s frame) (clip_count s frame ∙ empty)
