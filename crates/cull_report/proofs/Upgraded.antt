-- The texts of a scene don't speak of its version.
use Rattle.std.proofs.Common.{◌≡◌, ℕ, ◌++◌, length, map, refl}
use Rattle.std.specs.List.{flat_map, range_with_len}
use Rattle.cull_base.specs.declared.scene_types.Object.{Object}
use Rattle.cull_base.specs.declared.scene_types.Object.TheVariants.{Area, Block, Mesh}
use Rattle.cull_base.specs.Fold.{after}
use Rattle.cull_base.specs.Shape.{area_of, verdict_of}
use Rattle.masked_update.specs.Taken.{standing_at}
use Rattle.masked_update.specs.Views.{state_in}
use Rattle.scene_reader.specs.Layout.{Parts, upgraded}
use Rattle.cull_report.specs.Live.{live_line, frame_live, frames_live, object_at, object_line, tile_count, tiles_met, watched}
use Rattle.cull_report.specs.Scene.{frame_clips, frame_list, frame_verdicts, frames_text, object_shape, report_text, scene_header, size_of}
use Rattle.cull_report.specs.Text.{frame_text}
use Rattle.cull_report.specs.Upgraded.{KeepsReport, KeepsLive}

same_shape : (s : Parts) (frame : ℕ) (x : Object) → object_shape (upgraded s) frame x ≡ object_shape s frame x
unfolding object_shape frame_clips
same_shape s frame (Area r w) = refl
same_shape s frame (Block low high) = refl
same_shape s frame (Mesh first count) = refl

same_list : (s : Parts) (frame : ℕ) → frame_list (upgraded s) frame ≡ frame_list s frame
unfolding frame_list frame_clips
same_list s frame = refl

same_verdicts : (s : Parts) (frame : ℕ) → frame_verdicts (upgraded s) frame ≡ frame_verdicts s frame
unfolding frame_verdicts
same_verdicts s frame =
    let list = same_list s frame in
    λ i. map (λ (x : Object). verdict_of (size_of s) (λ u. after u (list i).members) (same_shape s frame x i)) s.objects

pub same_report : KeepsReport
unfolding report_text frames_text
same_report s =
    λ i. scene_header s ++ flat_map (λ frame. frame_text frame (length (same_list s frame i).members) (same_verdicts s frame i)) (range_with_len 0 (length s.cameras))

same_line : (s : Parts) (frame round o : ℕ) (count : ℕ → ℕ) → object_line (upgraded s) frame round o count ≡ object_line s frame round o count
unfolding object_line
same_line s frame round o count =
    let list = same_list s frame in
    let shape = same_shape s frame (object_at s o) in
    let size = size_of s in
    λ i. live_line frame round o (verdict_of size (state_in size (λ t. standing_at t (count t) (list i))) (shape i)) (map (λ t. tile_count t (count t)) (tiles_met size (area_of size (shape i))))

pub same_live : KeepsLive
unfolding frames_live frame_live
same_live s rounds watch counts =
    λ i. flat_map (λ frame. flat_map (λ round. flat_map (λ o. same_line s frame round o (counts frame round o) i) (range_with_len 0 (watched s watch))) (range_with_len 0 rounds)) (range_with_len 0 (length s.cameras))
