-- The picture of a frame: that of what its tiles hold, whose bounds are within the grade's top and no nearer than what is drawn.
use Rattle.std.proofs.Common.{◌≡◌, ℕ, ◌<◌, ◌≤◌, length, arith, ap, ◌∙◌, subst, inl, inr}
use Rattle.std.specs.List.{Contains}
use Rattle.cull_base.specs.declared.nearness.Grade.{Grade}
use Rattle.cull_base.specs.declared.nearness.Grade.TheVariants.{Narrow, Wide}
use Rattle.cull_base.specs.declared.place.Sub.{Sub}
use Rattle.cull_base.specs.Depth.{greatest_nearness}
use Rattle.cull_base.specs.Fold.{BestAtLeast}
use Rattle.cull_base.specs.Grade.{top_of}
use Rattle.cull_base.specs.Piece.{Piece, Point, middle}
use Rattle.cull_base.specs.Pixels.{sample_of_pixel, sub_of_pixel}
use Rattle.cull_base.specs.Screen.{Dimensions, tile_count_of}
use Rattle.cull_base.specs.State.{State, bound_at}
use Rattle.cull_base.specs.Tiles.{tile_after}
use Rattle.cull_base.proofs.Pixels.{sample_below, sample_is_middle}
use Rattle.masked_update.specs.TileOf.{TileOf}
use Rattle.masked_update.specs.Views.{state_in}
use Rattle.masked_update.proofs.Drawing.{after_is_sound}
use Rattle.masked_update.proofs.WithinTop.{best_less, bound_within}
use Rattle.snap_setup.proofs.WithinTop.{members_within}
use Rattle.depth_image.specs.Picture.{AreUpTo, bound_of_pixel, picture_text, shade_at, shade_of}
use Rattle.depth_image.proofs.Pictures.{picture_alike, picture_some}
use Rattle.scene_reader.specs.Layout.{Parts, IsScene}
use Rattle.cull_report.specs.Scene.{frame_clips, frame_list, frame_pieces, size_of}
use Rattle.cull_report.proofs.TileStates.{drawn_agrees}
use Rattle.culling.specs.Picture.{ShowsTruly, frame_picture, frame_states, nearness_of_shade}
use Rattle.frame_reports.proofs.ScenePieces.{frame_pieces_are}

-- no piece of a frame is nearer than the top of the scene's grade
frame_within : (s : Parts) (frame : ℕ) (t : Piece) → IsScene s → Contains (frame_pieces s frame) t → greatest_nearness t ≤ top_of s.grade
unfolding frame_list
frame_within s frame t scene has =
    members_within (frame_clips s frame) s.occluders (top_of s.grade) s.near (size_of s) s.batches t scene.near_some scene.near_within has

-- and so no bound after its pieces
state_within : (s : Parts) (frame : ℕ) (u : Sub) (k : ℕ) → IsScene s → k < 32 → bound_at (frame_states s frame u) k ≤ top_of s.grade
state_within s frame u k scene lt =
    let all = frame_pieces_are s frame scene in
    bound_within u (frame_pieces s frame) (frame_states s frame u) (top_of s.grade) k all (λ t has. frame_within s frame t scene has) (after_is_sound u (frame_pieces s frame) all) lt

-- nor is a bound that tiles hold after them
pub tiles_within : (s : Parts) (frame : ℕ) (tile_of : ℕ → TileOf) → IsScene s → ((t : ℕ) → t < tile_count_of (size_of s) → (tile_of t).subs ≡ tile_after (size_of s) t (frame_pieces s frame))
    → AreUpTo (top_of s.grade) (size_of s) (state_in (size_of s) tile_of)
tiles_within s frame tile_of scene drawn px py x y =
    let k = sample_of_pixel px py in
    let same = drawn_agrees (size_of s) (frame_pieces s frame) tile_of drawn px py x y in
    let within = state_within s frame (sub_of_pixel px py) k scene (sample_below px py) in
    le_from _ _ (top_of s.grade) (ap (λ (z : State). bound_at z k) same) within
  where
    le_from : (a b top : ℕ) → a ≡ b → b ≤ top → a ≤ top
    le_from a b top e le = omega (arith, e, le)

-- what they hold makes the frame's picture
pub tiles_show : (s : Parts) (frame : ℕ) (tile_of : ℕ → TileOf) → ((t : ℕ) → t < tile_count_of (size_of s) → (tile_of t).subs ≡ tile_after (size_of s) t (frame_pieces s frame))
    → picture_text (size_of s) s.grade (state_in (size_of s) tile_of) ≡ frame_picture s frame
unfolding frame_picture
tiles_show s frame tile_of drawn = picture_alike (size_of s) s.grade (state_in (size_of s) tile_of) (frame_states s frame) (drawn_agrees (size_of s) (frame_pieces s frame) tile_of drawn)

-- by a size and a grade that are the scene's
pub text_shows : (s : Parts) (frame : ℕ) (size : Dimensions) (grade : Grade) (tile_of : ℕ → TileOf) → size ≡ size_of s → grade ≡ s.grade
    → ((t : ℕ) → t < tile_count_of (size_of s) → (tile_of t).subs ≡ tile_after (size_of s) t (frame_pieces s frame)) → picture_text size grade (state_in size tile_of) ≡ frame_picture s frame
text_shows s frame size grade tile_of sized graded drawn =
    ap (λ (n : Dimensions). picture_text n grade (state_in n tile_of)) sized ∙ ap (λ (x : Grade). picture_text (size_of s) x (state_in (size_of s) tile_of)) graded ∙ tiles_show s frame tile_of drawn

pub picture_not_empty : (s : Parts) (frame : ℕ) → 0 < length (frame_picture s frame)
unfolding frame_picture
picture_not_empty s frame = picture_some (size_of s) s.grade (frame_states s frame)

-- ---- what a number says

no_shade : (grade : Grade) (bound : ℕ) → bound ≡ 0 → shade_of grade bound ≡ 0
no_shade Narrow bound e = e
no_shade Wide bound e = omega (arith, e)

shade_below : (grade : Grade) (bound : ℕ) → nearness_of_shade grade (shade_of grade bound) ≤ bound
shade_below Narrow bound = omega arith
shade_below Wide bound = omega arith

-- at each sample whose number isn't 0 something is drawn as near as it says
pub shows_truly : (s : Parts) (frame : ℕ) → IsScene s → ShowsTruly s frame
shows_truly s frame scene px py x y some =
    let u = sub_of_pixel px py in let k = sample_of_pixel px py in
    let pieces = frame_pieces s frame in
    let bound = bound_of_pixel (frame_states s frame) px py in
    let all = frame_pieces_are s frame scene in
    elim (after_is_sound u pieces all k (sample_below px py)) [
      | inl none ↦ absurd (some (no_shade s.grade bound none))
      | inr best ↦
          let here : BestAtLeast pieces (middle px py) bound = subst (λ (p : Point). BestAtLeast pieces p bound) (sample_is_middle px py) best in
          best_less pieces (middle px py) bound (nearness_of_shade s.grade (shade_at s.grade (frame_states s frame) px py)) all (shade_below s.grade bound) here
    ]
