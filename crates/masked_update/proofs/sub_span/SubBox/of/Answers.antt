use Rattle.std.proofs.Common.{◌-◌, ◌*◌, ℕ, List, min, ap, subst, slice_index}
use Rattle.masked_update.proofs.SubSpans.{IsBefore, sub_span_is}
use Rattle.masked_update.proofs.sub_span.SubBox.of.Goals as goal

pub returns-clause-reached : goal.returns-clause-reached
returns-clause-reached c place =
    let r = c.args.rect.now in
    let p = c.pixels_before-pixels in
    let is = c.subtiles.ensures in
    sub_span_is r c.args.size place (slice_index p.result 0) (slice_index p.result 2) (slice_index p.result 1) (slice_index p.result 3) _ _ _ _
    c.width.ensures.valid c.requires.across c.requires.down
    (subst (λ w. IsBefore w r.x0 (slice_index p.result 0)) c.width.ensures.value p.ensures.first_column)
    (subst (λ w. IsBefore w r.x1 (slice_index p.result 2)) c.width.ensures.value p.ensures.end_column)
    (subst (λ h. IsBefore h r.y0 (slice_index p.result 1)) c.height.ensures.value p.ensures.first_row)
    (subst (λ h. IsBefore h r.y1 (slice_index p.result 3)) c.height.ensures.value p.ensures.end_row)
    (ap (λ (v : List ℕ). min (slice_index v 0 - 4 * place.column) 4) is)
    (ap (λ (v : List ℕ). min (slice_index v 2 - 4 * place.column) 4) is)
    (ap (λ (v : List ℕ). min (slice_index v 1 - 2 * place.row) 2) is)
    (ap (λ (v : List ℕ). min (slice_index v 3 - 2 * place.row) 2) is)
