use Rattle.std.proofs.Common.{◌≡◌, ◌∙◌, sym, ap, Bool, false, get_or}
use Rattle.scene_reader.specs.Fault.{is_bad_row, fault_if}
use Rattle.scene_reader.proofs.First.{first_step}
use Rattle.scene_reader.proofs.checks.first_bad_row.Goals as goal

pub loop-i-preserved : goal.loop-i-preserved
loop-i-preserved g c =
    let rows = c.args.rows.now in
    let i = c.loop-i.i in
    let row = c.index-rows-i.result in
    let clear : is_bad_row (get_or rows i row) ≡ false = ap is_bad_row (sym c.index-rows-i.is) ∙ sym c.is_bad_row.ensures ∙ c.if-is_bad_row.false in
    first_step (λ k row. fault_if (is_bad_row row) k) rows i row c.loop-i-test.true (ap (λ (b : Bool). fault_if b i) clear) ∙ c.loop-i.invariant
