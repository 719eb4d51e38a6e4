-- The summary of `demo`: how many pieces each frame has, and how many objects of each verdict.
use Rattle.std.specs.Prelude.{ℕ, List, [], ◌∷◌, ◌++◌, length, codes}
use Rattle.std.specs.Fmt.{decimal}
use Rattle.std.specs.List.{flat_map, range_with_len}
use Rattle.scene_reader.specs.Layout.{Parts}
use Rattle.text_lines.specs.Lines.{line}
use Rattle.cull_report.specs.Scene.{frame_pieces, frame_verdicts}
use Rattle.demo_scene.specs.Demo.{demo_of, box_count, frame_count}
use Rattle.frame_reports.specs.SummaryLine.{summary_line}

unfoldable pub demo_line : ℕ → ℕ → List ℕ
demo_line seed m = line (codes "demo" ∷ codes "seed" ∷ decimal seed ∷ codes "triangles" ∷ decimal m
    ∷ codes "boxes" ∷ decimal box_count ∷ codes "frames" ∷ decimal frame_count ∷ [])

abbrev pub frame_summary : Parts → ℕ → List ℕ
frame_summary s frame = summary_line frame (length (frame_pieces s frame)) (frame_verdicts s frame)

-- the lines of the first so many frames
unfoldable pub frames_summary : Parts → ℕ → List ℕ
frames_summary s count = flat_map (frame_summary s) (range_with_len 0 count)

unfoldable pub summary_text : ℕ → ℕ → List ℕ
summary_text seed m = demo_line seed m ++ frames_summary (demo_of seed m) frame_count
