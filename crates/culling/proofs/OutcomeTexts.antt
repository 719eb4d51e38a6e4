-- The texts of an outcome.
use Rattle.std.proofs.Common.{◌≡◌, ℕ, ◌<◌, ◌++◌, ◌∷◌, List, [], length, map, Option, Some, None, arith, refl, ap}
use Rattle.std.specs.Prelude.{codes}
use Rattle.std.specs.Fmt.{decimal}
use Rattle.std.specs.List.{flat_map, join_with_byte, range_with_len}
use Rattle.std.proofs.lemmas.List.{length-append}
use Rattle.std.proofs.lemmas.List.Folds.{flat_map-map}
use Rattle.std.proofs.lemmas.List.FromFn.{length-map-range_with_len}
use Rattle.text_lines.specs.Lines.{line}
use Rattle.cull_report.specs.Live.{Counts, frame_live, frames_live, live_text}
use Rattle.cull_report.specs.Scene.{frame_report, frames_text, report_text, scene_header}
use Rattle.cull_report.specs.Text.{header_text}
use Rattle.demo_scene.specs.Demo.{box_count, demo_of, frame_count}
use Rattle.scene_reader.specs.Layout.{Parts}
use Rattle.group_query.specs.Text.{frame_groups}
use Rattle.frame_reports.specs.OutcomeOf.{joined, report_of}
use Rattle.culling.specs.Outcomes.{group_frames, group_notes, live_frames, report_and}
use Rattle.culling.specs.Summary.{demo_line, frames_summary, summary_text}

-- ---- texts of a list that is a function's

pub joined_is : (f : ℕ → List ℕ) (n : ℕ) → joined (map f (range_with_len 0 n)) ≡ flat_map f (range_with_len 0 n)
joined_is f n = flat_map-map (λ (t : List ℕ). t) f (range_with_len 0 n)

-- ---- a scene's report and its live text

pub report_is : (s : Parts) (notes : List (List ℕ)) → report_of (report_and s notes) ≡ report_text s
unfolding report_text frames_text
report_is s notes = ap (λ (t : List ℕ). scene_header s ++ t) (joined_is (frame_report s) (length s.cameras))

pub live_is : (s : Parts) (rounds watch : ℕ) (counts : Counts) → joined (live_frames s rounds watch counts) ≡ live_text s rounds watch counts
unfolding frames_live
live_is s rounds watch counts = joined_is (λ frame. frame_live s rounds watch (counts frame) frame) (length s.cameras)

pub live_frames_are : (s : Parts) (rounds watch : ℕ) (counts : Counts) → length (live_frames s rounds watch counts) ≡ length s.cameras
live_frames_are s rounds watch counts = length-map-range_with_len (λ frame. frame_live s rounds watch (counts frame) frame) 0 (length s.cameras)

-- ---- the lines of groups of all frames

pub group_frames_are : (s : Parts) (most : ℕ) → length (group_frames s (Some most)) ≡ length s.cameras
group_frames_are s most = length-map-range_with_len (frame_groups s most) 0 (length s.cameras)

pub group_notes_are : (s : Parts) (group : Option ℕ) → joined (group_frames s group) ≡ group_notes s group
group_notes_are s None = refl
group_notes_are s (Some most) = joined_is (frame_groups s most) (length s.cameras)

-- ---- texts that aren't empty

pub ended_by : (fields : List (List ℕ)) → 0 < length (line fields)
ended_by fields = omega (arith, length-append (join_with_byte 32 fields) (10 ∷ []))

pub header_some : (s : Parts) → 0 < length (scene_header s)
unfolding header_text
header_some s = ended_by (codes "msoc-report" ∷ decimal 1 ∷ decimal s.width ∷ decimal s.height ∷ decimal (length s.cameras) ∷ decimal (length s.objects) ∷ [])

demo_line_some : (seed m : ℕ) → 0 < length (demo_line seed m)
unfolding demo_line
demo_line_some seed m =
    ended_by (codes "demo" ∷ codes "seed" ∷ decimal seed ∷ codes "triangles" ∷ decimal m ∷ codes "boxes" ∷ decimal box_count ∷ codes "frames" ∷ decimal frame_count ∷ [])

pub summary_some : (seed m : ℕ) → 0 < length (summary_text seed m)
unfolding summary_text
summary_some seed m = omega (arith, demo_line_some seed m, length-append (demo_line seed m) (frames_summary (demo_of seed m) frame_count))

pub not_empty : (xs ys : List ℕ) → 0 < length xs → xs ++ ys ≡ [] → ⊥
not_empty xs ys some is = omega (arith, some, ap length is, length-append xs ys)
