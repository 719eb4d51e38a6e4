use Rattle.std.proofs.Common.{arith}
use Rattle.std.proofs.lemmas.Bool.{both_ways}
use Rattle.masked_update.specs.Least.{NoneBelow}
use Rattle.masked_update.proofs.Walks.{held_in_rows, rows_begin}
use Rattle.masked_update.proofs.walk.first_row_ahead.Goals as goal

pub loop-row-init : goal.loop-row-init
loop-row-init c = record { from = omega arith; behind = λ p h on. absurd (both_ways _ (rows_begin c.args.span p) on) }

pub loop-row-preserved : goal.loop-row-preserved
loop-row-preserved c =
    let inv = c.loop-row.invariant in
    record { from = omega (arith, inv.from); behind = held_in_rows c.args.span (NoneBelow c.args.nearest) c.args.canvas.now c.loop-row.row inv.behind (c.is_behind_in_row.ensures c.if-is_behind_in_row.true) }
