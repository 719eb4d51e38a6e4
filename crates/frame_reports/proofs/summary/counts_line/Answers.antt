use Rattle.std.proofs.Common.{◌≡◌, ℕ, List, ◌++◌, ◌∷◌, [], append_assoc}
use Rattle.std.specs.Prelude.{codes}
use Rattle.std.specs.Fmt.{decimal}
use Rattle.text_lines.specs.Lines.{line}
use Rattle.frame_reports.specs.SummaryLine.{counts_line}
use Rattle.frame_reports.proofs.summary.counts_line.Goals as goal

-- the fields one after the other are the line
put_together : (frame pieces visible occluded outside : List ℕ) →
    (((((((((codes "frame" ++ (32 ∷ frame)) ++ (32 ∷ codes "pieces")) ++ (32 ∷ pieces)) ++ (32 ∷ codes "visible")) ++ (32 ∷ visible))
    ++ (32 ∷ codes "occluded")) ++ (32 ∷ occluded)) ++ (32 ∷ codes "outside")) ++ (32 ∷ outside)) ++ 10 ∷ []
    ≡ line (codes "frame" ∷ frame ∷ codes "pieces" ∷ pieces ∷ codes "visible" ∷ visible ∷ codes "occluded" ∷ occluded ∷ codes "outside" ∷ outside ∷ [])
put_together frame pieces visible occluded outside = simp append_assoc

pub returns : goal.returns
unfolding counts_line
returns c =
    let counts = c.args.counts in
    rw (
      c.end.ensures,
      c.number-5.ensures.value,
      c.word-4.ensures,
      c.number-4.ensures.value,
      c.word-3.ensures,
      c.number-3.ensures.value,
      c.word-2.ensures,
      c.number-2.ensures.value,
      c.word.ensures,
      c.number.ensures.value,
      c.begin-line.ensures,
      c.from.ensures,
      c.from-2.ensures,
    )
    (put_together (decimal c.args.frame) (decimal c.args.pieces) (decimal counts.visible) (decimal counts.occluded) (decimal counts.outside))
