use Rattle.std.proofs.Common.{◌≡◌, ℕ, List, subst}
use Rattle.cull_base.specs.Stream.{Writes}
use Rattle.frame_reports.specs.SummaryLine.{summary_line}
use Rattle.frame_reports.proofs.summary.write_summary.Goals as goal

pub returns : goal.returns
returns g c =
    let counts = c.counts.ensures in
    let line : c.counts_line.result ≡ summary_line c.args.frame c.args.pieces c.args.verdicts.now = rw (← counts.visible, ← counts.occluded, ← counts.outside) c.counts_line.ensures in
    subst (λ (text : List ℕ). Writes (g.W.Sink.says c.args.sink.now) (g.W.Sink.says c.write_to.new.sink) c.write_to.result text) line c.write_to.ensures
