-- The report's text.
use Rattle.std.specs.Prelude.{ℕ, ◌+◌, List, [], ◌∷◌, ◌++◌, Bool, true, false, count_by, codes}
use Rattle.std.specs.Fmt.{decimal}
use Rattle.cull_base.specs.declared.scene_types.Verdict.{Verdict}
use Rattle.cull_base.specs.declared.scene_types.Verdict.TheVariants.{Visible, Occluded, Outside}
use Rattle.text_lines.specs.Lines.{line}

abbrev pub verdict_word : Verdict → List ℕ
verdict_word Visible = codes "visible"
verdict_word Occluded = codes "occluded"
verdict_word Outside = codes "outside"

abbrev pub is_visible : Verdict → Bool
is_visible Visible = true
is_visible Occluded = false
is_visible Outside = false

abbrev pub is_occluded : Verdict → Bool
is_occluded Visible = false
is_occluded Occluded = true
is_occluded Outside = false

abbrev pub is_outside : Verdict → Bool
is_outside Visible = false
is_outside Occluded = false
is_outside Outside = true

-- the report's version, the screen's size, the number of frames and of objects
unfoldable pub header_text : ℕ → ℕ → ℕ → ℕ → List ℕ
header_text width height frames objects = line (codes "msoc-report" ∷ decimal 1 ∷ decimal width ∷ decimal height ∷ decimal frames ∷ decimal objects ∷ [])

unfoldable pub frame_line : ℕ → ℕ → List ℕ
frame_line frame pieces = line (codes "frame" ∷ decimal frame ∷ codes "pieces" ∷ decimal pieces ∷ [])

unfoldable pub verdict_line : ℕ → Verdict → List ℕ
verdict_line object verdict = line (decimal object ∷ verdict_word verdict ∷ [])

-- one line an object, numbered from the first number on
abbrev pub verdict_lines : ℕ → List Verdict → List ℕ
verdict_lines object [] = []
verdict_lines object (verdict ∷ verdicts) = verdict_line object verdict ++ verdict_lines (object + 1) verdicts

unfoldable pub end_line : ℕ → ℕ → ℕ → ℕ → List ℕ
end_line frame visible occluded outside =
    line (codes "end" ∷ decimal frame ∷ codes "visible" ∷ decimal visible ∷ codes "occluded" ∷ decimal occluded ∷ codes "outside" ∷ decimal outside ∷ [])

unfoldable pub frame_text : ℕ → ℕ → List Verdict → List ℕ
frame_text frame pieces verdicts =
    frame_line frame pieces ++ (verdict_lines 0 verdicts ++ end_line frame (count_by is_visible verdicts) (count_by is_occluded verdicts) (count_by is_outside verdicts))
