-- A frame's line of the summary: how many pieces it has, and how many objects of each verdict.
use Rattle.std.specs.Prelude.{ℕ, List, [], ◌∷◌, codes, count_by}
use Rattle.std.specs.Fmt.{decimal}
use Rattle.cull_base.specs.declared.scene_types.Verdict.{Verdict}
use Rattle.text_lines.specs.Lines.{line}
use Rattle.cull_report.specs.Text.{is_visible, is_occluded, is_outside}

-- the line of a frame, by its pieces and how many objects have each verdict
unfoldable pub counts_line : ℕ → ℕ → ℕ → ℕ → ℕ → List ℕ
counts_line frame pieces visible occluded outside = line (codes "frame" ∷ decimal frame ∷ codes "pieces" ∷ decimal pieces
    ∷ codes "visible" ∷ decimal visible ∷ codes "occluded" ∷ decimal occluded ∷ codes "outside" ∷ decimal outside ∷ [])

-- the same by its verdicts
abbrev pub summary_line : ℕ → ℕ → List Verdict → List ℕ
summary_line frame pieces verdicts =
    counts_line frame pieces (count_by is_visible verdicts) (count_by is_occluded verdicts) (count_by is_outside verdicts)
