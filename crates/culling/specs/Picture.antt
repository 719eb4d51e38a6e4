-- The picture of a scene's frame, and what its numbers say of what is drawn.
use Rattle.std.specs.Prelude.{ℕ, ◌≡◌, ◌*◌, ◌<◌, List}
use Rattle.cull_base.specs.declared.nearness.Grade.{Grade}
use Rattle.cull_base.specs.declared.nearness.Grade.TheVariants.{Narrow, Wide}
use Rattle.cull_base.specs.declared.place.Sub.{Sub}
use Rattle.cull_base.specs.Fold.{BestAtLeast, after}
use Rattle.cull_base.specs.Piece.{middle}
use Rattle.cull_base.specs.State.{State}
use Rattle.scene_reader.specs.Layout.{Parts}
use Rattle.depth_image.specs.Picture.{picture_text, shade_at}
use Rattle.cull_report.specs.Scene.{frame_pieces, size_of}

-- the states after the frame's whole list
abbrev pub frame_states : Parts → ℕ → Sub → State
frame_states s frame u = after u (frame_pieces s frame)

-- their picture, by the scene's grade
unfoldable pub frame_picture : Parts → ℕ → List ℕ
frame_picture s frame = picture_text (size_of s) s.grade (frame_states s frame)

-- the nearness that a number stands for at least
abbrev pub nearness_of_shade : Grade → ℕ → ℕ
nearness_of_shade Narrow shade = shade
nearness_of_shade Wide shade = 256 * shade

-- at each sample of the screen whose number isn't 0, the frame's best depth is there, and is at least what the number stands for
abbrev pub ShowsTruly : Parts → ℕ → Type 0
ShowsTruly s frame =
    (px py : ℕ) → px < s.width → py < s.height → let shade = shade_at s.grade (frame_states s frame) px py in
    (shade ≡ 0 → ⊥) → BestAtLeast (frame_pieces s frame) (middle px py) (nearness_of_shade s.grade shade)
