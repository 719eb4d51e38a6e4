use Rattle.std.proofs.Common.{◌≡◌, length, arith}
use Rattle.std.proofs.Math.Seq.{take-length}
use Rattle.live_check.proofs.Frames.{came_as, came_none}
use Rattle.live_check.proofs.ByBytes.{text_next, text_stops}
use Rattle.live_check.proofs.words.takes_text.Goals as goal

pub loop-place-init : goal.loop-place-init
loop-place-init g c = record { came = came_none _; faults = omega arith }

pub loop-place-preserved : goal.loop-place-preserved
loop-place-preserved g c =
    let i = c.loop-place.invariant in
    record {
      came = text_next _ _ _ c.args.text.now c.loop-place.place c.loop-place-test.true i.came (c.in_ok-takes_byte.ensures.came c.if-not-branch.false);
      faults = omega (arith, i.faults, c.in_ok-takes_byte.ensures.fails.faults_stay);
    }

pub returns-then-not-branch-clause-other : goal.returns-then-not-branch-clause-other
returns-then-not-branch-clause-other g c _ =
    text_stops _ _ c.args.text.now c.loop-place.place c.loop-place-test.true c.loop-place.invariant.came (c.in_ok-takes_byte.ensures.other c.if-not-branch.true)

pub returns-clause-came : goal.returns-clause-came
returns-clause-came g c _ =
    let end : c.loop-place.place ≡ length c.args.text.now = omega (arith, c.loop-place-test.false, c.loop-place.auto.place-end) in
    came_as _ _ _ _ (rw end (take-length c.args.text.now)) c.loop-place.invariant.came
