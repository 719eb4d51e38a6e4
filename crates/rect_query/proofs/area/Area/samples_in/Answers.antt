use Rattle.std.proofs.Common.{◌≡◌, ◌+◌, ◌*◌, arith, refl}
use Rattle.cull_base.specs.Span.{is_between}
use Rattle.cull_base.proofs.Ranges.{mask_of_rows}
use Rattle.rect_query.proofs.area.Area.samples_in.Goals as goal

pub returns : goal.returns
returns c =
    let a = c.args.self.now in
    mask_of_rows (λ k. is_between a.x0 a.x1 (8 * c.args.column + k)) (λ r. is_between a.y0 a.y1 (4 * c.args.row + r)) c.bits_between-columns.result _ c.bits_between-columns.ensures.value
    (let first : 4 * c.args.row + 0 ≡ 4 * c.args.row = omega arith in rw (first, c.row.ensures, c.row-2.ensures, c.row-3.ensures, c.row-4.ensures) refl)
