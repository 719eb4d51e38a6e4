use Rattle.std.proofs.Common.{◌∙◌, sym, ap, option_map}
use Rattle.command_words.specs.Table.{ACommand}
use Rattle.command_words.proofs.AskedWords.{no_row, row_met, row_passed}
use Rattle.command_words.proofs.words.kind_named.Goals as goal

pub loop-row-preserved : goal.loop-row-preserved
loop-row-preserved c = c.loop-row.invariant ∙ row_passed c.args.name.now c.args.rows.now c.loop-row.row-index _ c.loop-row-test.true (sym c.eq.ensures ∙ c.if-eq.false)

pub returns-then-eq : goal.returns-then-eq
returns-then-eq c = sym (ap (option_map (λ (row : ACommand). row.kind)) (c.loop-row.invariant ∙ row_met c.args.name.now c.args.rows.now c.loop-row.row-index _ c.loop-row-test.true (sym c.eq.ensures ∙ c.if-eq.true)))

pub returns : goal.returns
returns c = sym (ap (option_map (λ (row : ACommand). row.kind)) (c.loop-row.invariant ∙ no_row c.args.name.now c.args.rows.now c.loop-row.row-index c.loop-row-test.false))
