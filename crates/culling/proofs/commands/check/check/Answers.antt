use Rattle.std.proofs.Common.{◌≤◌, arith, ap, refl, inl, Err}
use Rattle.std.proofs.lemmas.Result.{err_from_is_err_and}
use Rattle.command_words.specs.declared.table.Command.TheVariants.{Check}
use Rattle.cull_base.specs.Stream.{Rose, SourceSays}
use Rattle.live_check.specs.declared.answer.LogAnswer.TheVariants.{Accepted, Refused}
use Rattle.culling.proofs.Checking.{part_ended, part_fault, part_judged, part_scene}
use Rattle.culling.proofs.Comings.{answer_unwritten, answer_written, failed_read, log_unread, no_number}
use Rattle.culling.proofs.commands.check.check.Goals as goal

pub returns-in_err-most : goal.returns-in_err-most
returns-in_err-most g c =
    let p = err_from_is_err_and c.from_residual.result c.from_residual.ensures.1 in
    rw (p.1, p.2)
    (record {
      outcome = no_number c.args.words.now c.in_err-most.field-0.0 (g.S.Source.says c.args.input.now) (g.S.Source.says c.take_number.new.input) (g.W.Sink.says c.args.report.now) (g.E.Sink.says c.args._notes.now) _ _
          c.in_err-most.ensures.none refl refl;
    })

pub returns-in_err-scene : goal.returns-in_err-scene
returns-in_err-scene g c =
    let p = err_from_is_err_and c.from_residual-in_err-scene.result c.from_residual-in_err-scene.ensures.1 in
    let i0 = g.S.Source.says c.args.input.now in let i1 = g.S.Source.says c.take_number.new.input in
    let read = c.in_err-scene.ensures in
    rw (p.1, p.2)
    (record {
      outcome = failed_read (Check c.args.words.now) i0 (g.S.Source.says c.read_part.new.source) (g.W.Sink.says c.args.report.now)
          (g.E.Sink.says c.args._notes.now) c.in_err-scene.field-0.0 _ _ refl
          (λ refusal. part_fault c.args.words.now i0 i1 c.in_ok-most.most _ c.in_ok-most.ensures.number (read.refused refusal))
          (λ is. rose_before i0 i1 (g.S.Source.says c.read_part.new.source) c.take_number.ensures.faults_stay (read.read (ap Err is))) refl refl;
    })
  where
    rose_before : (a b d : SourceSays) → a.faults ≤ b.faults → Rose b.faults d.faults → Rose a.faults d.faults
    rose_before a b d le rose = let x : Rose a.faults d.faults = omega (arith, le, rose) in x

pub returns-in_err-answer : goal.returns-in_err-answer
returns-in_err-answer g c =
    let p = err_from_is_err_and c.from_residual-in_err-answer.result c.from_residual-in_err-answer.ensures.1 in
    let i0 = g.S.Source.says c.args.input.now in let i1 = g.S.Source.says c.take_number.new.input in
    let i2 = g.S.Source.says c.read_part.new.source in let i3 = g.S.Source.says c.check_log.new.log in
    rw (p.1, p.2)
    (record {
      outcome = log_unread (Check c.args.words.now) c.in_err-answer.field-0.0 i0 i3 (g.W.Sink.says c.args.report.now) (g.E.Sink.says c.args._notes.now) _ _ refl
          (λ is. rose_later i0 i1 i2 i3 c.take_number.ensures.faults_stay c.read_part.ensures.faults_stay (c.in_err-answer.ensures.read (ap Err is))) refl refl;
    })
  where
    rose_later : (a b d e : SourceSays) → a.faults ≤ b.faults → b.faults ≤ d.faults → Rose d.faults e.faults → Rose a.faults e.faults
    rose_later a b d e le more rose = let x : Rose a.faults e.faults = omega (arith, le, more, rose) in x

pub returns-in_err-write_answer : goal.returns-in_err-write_answer
returns-in_err-write_answer g c =
    let e = c.in_err-write_answer.field-0.0 in
    let p = err_from_is_err_and c.from_residual-in_err-write_answer.result c.from_residual-in_err-write_answer.ensures.1 in
    let i0 = g.S.Source.says c.args.input.now in let i1 = g.S.Source.says c.take_number.new.input in
    let i2 = g.S.Source.says c.read_part.new.source in let i3 = g.S.Source.says c.check_log.new.log in
    let n = c.in_ok-most.most in let s = c.in_ok-scene.scene in let answer = c.in_ok-answer.answer in
    let number = c.in_ok-most.ensures.number in let takes = c.in_ok-scene.ensures.layout in
    let scene = part_scene c.args.words.now i0 i1 i2 n s number c.in_ok-scene.ensures.ok takes in
    let judged = part_judged c.args.words.now i0 i1 i2 i3 n s answer number takes c.in_ok-answer.ensures.answered in
    rw (p.1, p.2)
    (record {
      outcome = answer_unwritten (Check c.args.words.now) answer e i0 i3 (g.W.Sink.says c.args.report.now) (g.W.Sink.says c.write_answer.new.report) (g.E.Sink.says c.args._notes.now) _ _
          (inl (s, scene, (answer, judged, refl))) c.in_err-write_answer.ensures refl;
    })

pub returns-in-Accepted : goal.returns-in-Accepted
returns-in-Accepted g c =
    let i0 = g.S.Source.says c.args.input.now in let i1 = g.S.Source.says c.take_number.new.input in
    let i2 = g.S.Source.says c.read_part.new.source in let i3 = g.S.Source.says c.check_log.new.log in
    let n = c.in_ok-most.most in let s = c.in_ok-scene.scene in
    let number = c.in_ok-most.ensures.number in let takes = c.in_ok-scene.ensures.layout in
    let scene = part_scene c.args.words.now i0 i1 i2 n s number c.in_ok-scene.ensures.ok takes in
    let answered = rw c.in-Accepted.is at c.in_ok-answer.ensures.answered in
    let judged = part_judged c.args.words.now i0 i1 i2 i3 n s Accepted number takes answered in
    record {
      outcome = answer_written (Check c.args.words.now) Accepted i0 i3 (g.W.Sink.says c.args.report.now) (g.W.Sink.says c.write_answer.new.report) (g.E.Sink.says c.args._notes.now) _ _
          (inl (s, scene, (Accepted, judged, refl))) (rw c.in-Accepted.is at c.in_ok-write_answer.ensures.ok) refl
          (λ is. part_ended c.args.words.now i0 i1 i2 i3 n s Accepted number takes answered refl);
    }

pub returns : goal.returns
returns g c =
    let i0 = g.S.Source.says c.args.input.now in let i1 = g.S.Source.says c.take_number.new.input in
    let i2 = g.S.Source.says c.read_part.new.source in let i3 = g.S.Source.says c.check_log.new.log in
    let n = c.in_ok-most.most in let s = c.in_ok-scene.scene in let good = c.in-Refused.field-0 in
    let number = c.in_ok-most.ensures.number in let takes = c.in_ok-scene.ensures.layout in
    let scene = part_scene c.args.words.now i0 i1 i2 n s number c.in_ok-scene.ensures.ok takes in
    let answered = rw c.in-Refused.is at c.in_ok-answer.ensures.answered in
    let judged = part_judged c.args.words.now i0 i1 i2 i3 n s (Refused good) number takes answered in
    record {
      outcome = answer_written (Check c.args.words.now) (Refused good) i0 i3 (g.W.Sink.says c.args.report.now) (g.W.Sink.says c.write_answer.new.report) (g.E.Sink.says c.args._notes.now) _ _
          (inl (s, scene, (Refused good, judged, refl))) (rw c.in-Refused.is at c.in_ok-write_answer.ensures.ok) refl (λ is. absurd cc);
    }
