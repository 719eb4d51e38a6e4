use Rattle.std.proofs.Common.{arith, ap, ◌∙◌}
use Rattle.std.specs.Int.{bit_at}
use Rattle.std.proofs.lemmas.Nat.Bits.{bit_at-zero}
use Rattle.masked_update.proofs.Marks.{behind_more}
use Rattle.masked_update.proofs.walk.is_behind_in_row.Goals as goal

pub loop-column-preserved : goal.loop-column-preserved
loop-column-preserved c =
    let inv = c.loop-column.invariant in
    let lt = c.loop-column-test.true in
    record {
      from = omega (arith, inv.from);
      to = omega (arith, c.min-count.ensures, lt);
      behind = behind_more c.args.span c.args.nearest c.args.row c.loop-column.column c.min-count.result c.args.canvas.now
          (λ i below. c.marks.ensures.behind i below (ap (λ n. bit_at n i) c.if-marks-ne0.false ∙ bit_at-zero i)) inv.behind;
    }
