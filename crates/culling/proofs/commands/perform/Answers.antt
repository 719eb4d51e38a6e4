use Rattle.std.proofs.Common.{◌≡◌, subst, sym}
use Rattle.command_words.specs.declared.table.Command.{Command}
use Rattle.frame_reports.specs.Failures.{status_by}
use Rattle.frame_reports.specs.Leaves.{AwaitsNote}
use Rattle.culling.specs.Runs.{Comes, streams}
use Rattle.culling.proofs.commands.perform.Goals as goal

pub returns-in-Demo-clause-outcome : goal.returns-in-Demo-clause-outcome
returns-in-Demo-clause-outcome g c =
    let r = c.demo.result in let i = g.S.Source.says c.args.input.now in
    let before = streams i (g.W.Sink.says c.args.report.now) (g.E.Sink.says c.args.notes.now) in
    let after = streams i (g.W.Sink.says c.demo.new.report) (g.E.Sink.says c.demo.new.notes) in
    subst (λ (command : Command). Comes command (status_by r) before after (AwaitsNote r) (c.demo.new.report ≡ c.args.report.now) (c.demo.new.notes ≡ c.args.notes.now)) (sym c.in-Demo.is)
    (c.demo.ensures.outcome i)
