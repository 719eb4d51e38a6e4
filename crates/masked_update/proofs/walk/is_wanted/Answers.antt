use Rattle.std.proofs.Common.{arith}
use Rattle.std.proofs.lemmas.Bool.{both_ways}
use Rattle.masked_update.proofs.Tiles.{stands}
use Rattle.masked_update.proofs.Walks.{among_before, rows_begin, stay_in_rows}
use Rattle.masked_update.proofs.walk.is_wanted.Goals as goal

pub loop-row-init : goal.loop-row-init
loop-row-init c = record { from = omega arith; stay = λ p h on. absurd (both_ways _ (rows_begin c.args.span p) on) }

pub loop-row-preserved : goal.loop-row-preserved
loop-row-preserved c =
    let inv = c.loop-row.invariant in
    record {
      from = omega (arith, inv.from);
      stay = stay_in_rows c.args.span c.args.reached.now.size c.args.tri.now c.args.canvas.now c.loop-row.row inv.stay (c.is_wanted_in_row.ensures c.if-is_wanted_in_row.false);
    }

pub returns : goal.returns
returns c is p h on =
    let before = (stands c.args.span p on).row_before in
    c.loop-row.invariant.stay p h (among_before c.args.span c.loop-row.row p on (omega (arith, before, c.loop-row-test.false)))
