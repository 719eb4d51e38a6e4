use Rattle.std.proofs.Common.{◌∙◌, arith, ap, sym}
use Rattle.std.proofs.lemmas.List.{take_all}
use Rattle.cull_base.specs.declared.scene_types.Verdict.TheVariants.{Visible}
use Rattle.cull_report.specs.Text.{verdict_lines}
use Rattle.cull_report.proofs.ReportLines.{verdict_lines-push}
use Rattle.cull_report.proofs.report.lines_from.Goals as goal

pub push_verdict_line-requires : goal.push_verdict_line-requires
push_verdict_line-requires c = omega (arith, c.loop-k.invariant.short, c.loop-k-test.true, c.requires.room)

pub loop-k-preserved : goal.loop-k-preserved
loop-k-preserved c =
    record {
      are = rw (c.push_verdict_line.ensures.value, c.loop-k.invariant.are) (sym (verdict_lines-push c.args.first c.args.verdicts.now c.loop-k.k Visible c.loop-k-test.true));
      short = omega (arith, c.loop-k.invariant.short, c.push_verdict_line.ensures.short);
      within = omega (arith, c.loop-k-test.true);
    }

pub returns-clause-short : goal.returns-clause-short
returns-clause-short c = omega (arith, c.loop-k.invariant.short, c.loop-k.invariant.within)

pub returns-clause-value : goal.returns-clause-value
returns-clause-value c = c.loop-k.invariant.are ∙ ap (verdict_lines c.args.first) (take_all c.loop-k.k c.args.verdicts.now c.loop-k-test.false)
