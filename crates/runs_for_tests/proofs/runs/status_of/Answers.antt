use Rattle.std.proofs.Common.{◌≡◌, map, string_bytes, ap}
use Rattle.culling.specs.Runs.{streams}
use Rattle.culling.proofs.Endings.{asked_ran}
use Rattle.runs_for_tests.proofs.runs.status_of.Goals as goal

pub returns : goal.returns
returns g c =
    let before = streams (g.S.Source.says c.args.input.now) (g.W.Sink.says c.args.report.now) (g.E.Sink.says c.args.notes.now) in
    let after = streams (g.S.Source.says c.run.new.input) (g.W.Sink.says c.run.new.report) (g.E.Sink.says c.run.new.notes) in
    record {
      ran = asked_ran (map string_bytes c.args.words.now) c.run.result before after (c.run.new.report ≡ c.args.report.now) (c.run.new.notes ≡ c.args.notes.now)
          (λ same. ap g.W.Sink.says same) (λ same. ap g.E.Sink.says same) c.run.ensures.outcome;
    }
