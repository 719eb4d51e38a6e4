use Rattle.std.proofs.Common.{◌≡◌, ◌+◌, ◌≤◌, length, drop, arith, ap, ◌∙◌}
use Rattle.std.proofs.lemmas.List.{length-drop, drop-drop}
use Rattle.cull_base.proofs.Streams.{appends_more}
use Rattle.cull_base.proofs.sink.write_whole.Goals as goal

pub loop-rest-preserved : goal.loop-rest-preserved
loop-rest-preserved g c =
    let part = c.loop-rest.invariant.part in
    let n = c.in_ok-n.n in
    let piece = c.args.piece.now in
    let rest : c.loop-rest.rest.now ≡ drop part.0 piece = part.2 in
    let within : n ≤ length (drop part.0 piece) = rw (← rest) c.in_ok-n.ensures.within in
    record {
      part = (
        part.0 + n,
        omega (arith, length-drop part.0 piece, within, part.1),
        c.behind-rest.ensures ∙ ap (drop n) rest ∙ drop-drop n part.0 piece,
        appends_more (g.W.Sink.says c.args.sink.now) (g.W.Sink.says c.loop-rest.sink) (g.W.Sink.says c.write.new.self) piece c.loop-rest.rest.now part.0 n rest part.3 c.in_ok-n.ensures.appended,
      );
      faults = omega (arith, c.loop-rest.invariant.faults, c.in_ok-n.ensures.faults_stay);
      refusals = omega (arith, c.loop-rest.invariant.refusals, c.in_ok-n.ensures.refusals_stay);
    }
