use Rattle.std.proofs.Common.{FitsSigned, w32, rules}
use Rattle.masked_update.proofs.HeldLanes.{held_before, held_casts}
use Rattle.masked_update.proofs.sub_span.pixels_before.Goals as goal

pub overflow_cast-result : goal.overflow_cast-result
overflow_cast-result c =
    let r = c.args.rect.now in
    let w = c.from-columns in let h = c.from-rows in
    let f0 : FitsSigned w32 r.x0 = search rules in let f1 : FitsSigned w32 r.x1 = search rules in
    let g0 : FitsSigned w32 r.y0 = search rules in let g1 : FitsSigned w32 r.y1 = search rules in (
      held_casts r.x0 w.result c.args.width f0 w.ensures c.ranges.width.fits,
      (
        held_casts r.y0 h.result c.args.height g0 h.ensures c.ranges.height.fits,
        (held_casts r.x1 w.result c.args.width f1 w.ensures c.ranges.width.fits, (held_casts r.y1 h.result c.args.height g1 h.ensures c.ranges.height.fits, tt)),
      ),
    )

pub returns-clause-first_column : goal.returns-clause-first_column
returns-clause-first_column c =
    let r = c.args.rect.now in let f : FitsSigned w32 r.x0 = search rules in
    held_before r.x0 c.from-columns.result c.args.width f c.from-columns.ensures c.ranges.width.fits

pub returns-clause-first_row : goal.returns-clause-first_row
returns-clause-first_row c =
    let r = c.args.rect.now in let f : FitsSigned w32 r.y0 = search rules in
    held_before r.y0 c.from-rows.result c.args.height f c.from-rows.ensures c.ranges.height.fits

pub returns-clause-end_column : goal.returns-clause-end_column
returns-clause-end_column c =
    let r = c.args.rect.now in let f : FitsSigned w32 r.x1 = search rules in
    held_before r.x1 c.from-columns.result c.args.width f c.from-columns.ensures c.ranges.width.fits

pub returns-clause-end_row : goal.returns-clause-end_row
returns-clause-end_row c =
    let r = c.args.rect.now in let f : FitsSigned w32 r.y1 = search rules in
    held_before r.y1 c.from-rows.result c.args.height f c.from-rows.ensures c.ranges.height.fits
