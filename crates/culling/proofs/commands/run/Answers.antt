use Rattle.std.proofs.Common.{◌≡◌, map, string_bytes, refl, inl, inr}
use Rattle.frame_reports.specs.declared.failure.Status.TheVariants as statuses
use Rattle.frame_reports.specs.Notes.{IsNotedBehind}
use Rattle.culling.specs.Outcomes.{IsTrue}
use Rattle.culling.specs.Runs.{Comes, streams}
use Rattle.culling.proofs.Comings.{asked_all, asked_by, comes_done, comes_noted, failed_as, refused_comes, refused_complete, refused_is, refused_noted, truth}
use Rattle.culling.proofs.commands.run.Goals as goal

-- ---- the words are refused

pub returns-in-Err-clause-outcome : goal.returns-in-Err-clause-outcome
returns-in-Err-clause-outcome g c =
    refused_comes (map string_bytes c.args.words.now) c.in-Err.refusal c.end_refused.result (g.S.Source.says c.args.input.now) (g.W.Sink.says c.args.report.now)
    (g.E.Sink.says c.args.notes.now) (g.E.Sink.says c.end_refused.new.notes) _ _ c.end_refused.ensures.value c.in-Err.ensures.none c.end_refused.ensures.noted_memory refl

pub returns-in-Err-clause-complete : goal.returns-in-Err-clause-complete
returns-in-Err-clause-complete g c sound =
    refused_complete (map string_bytes c.args.words.now) c.in-Err.refusal c.end_refused.result (g.S.Source.says c.args.input.now) c.end_refused.ensures.value c.in-Err.ensures.none

pub returns-in-Err-clause-truth : goal.returns-in-Err-clause-truth
returns-in-Err-clause-truth g c =
    let source = g.S.Source.says c.args.input.now in
    asked_all (map string_bytes c.args.words.now) (λ command. IsTrue command source) (λ command. truth command source)

pub returns-in-Err-clause-asked : goal.returns-in-Err-clause-asked
returns-in-Err-clause-asked g c not_usage not_memory = absurd (elim (refused_is c.in-Err.refusal) [
  | inl usage ↦ let is : c.end_refused.result ≡ statuses.Usage = cc in not_usage is
  | inr memory ↦ let is : c.end_refused.result ≡ statuses.Memory = cc in not_memory is
])

pub returns-in-Err-clause-unasked : goal.returns-in-Err-clause-unasked
returns-in-Err-clause-unasked g c none =
    refused_noted c.in-Err.refusal c.end_refused.result (g.E.Sink.says c.args.notes.now) (g.E.Sink.says c.end_refused.new.notes) c.end_refused.ensures.value
    c.end_refused.ensures.noted_words c.end_refused.ensures.noted_memory

-- ---- the command failed

pub returns-in-Err-perform-clause-outcome : goal.returns-in-Err-perform-clause-outcome
returns-in-Err-perform-clause-outcome g c =
    let i0 = g.S.Source.says c.args.input.now in let i1 = g.S.Source.says c.perform.new.input in
    let r0 = g.W.Sink.says c.args.report.now in let r1 = g.W.Sink.says c.perform.new.report in
    let n0 = g.E.Sink.says c.args.notes.now in let n1 = g.E.Sink.says c.perform.new.notes in let n2 = g.E.Sink.says c.end.new.notes in
    let f = c.in-Err-perform.failure in
    let P : Type 0 = c.perform.new.report ≡ c.args.report.now in let Q : Type 0 = c.perform.new.notes ≡ c.args.notes.now in
    let h = comes_noted c.in-Ok.command f i0 i1 r0 r1 n0 n1 n2 P Q c.in-Err-perform.ensures.outcome c.end.ensures.noted c.end.ensures.faults_stay in
    asked_by (map string_bytes c.args.words.now) c.in-Ok.command (λ command. Comes command c.end.result (streams i0 r0 n0) (streams i1 r1 n2) IsNotedBehind P (c.end.result ≡ statuses.Done → c.end.new.notes ≡ c.args.notes.now)) c.in-Ok.ensures.some
    (failed_as c.in-Ok.command f c.end.result (streams i0 r0 n0) (streams i1 r1 n2) P Q (c.end.new.notes ≡ c.args.notes.now) c.end.ensures.value h)

pub returns-in-Err-perform-clause-truth : goal.returns-in-Err-perform-clause-truth
returns-in-Err-perform-clause-truth g c =
    let source = g.S.Source.says c.args.input.now in
    asked_all (map string_bytes c.args.words.now) (λ command. IsTrue command source) (λ command. truth command source)

pub returns-in-Err-perform-clause-unread : goal.returns-in-Err-perform-clause-unread
returns-in-Err-perform-clause-unread g c none = c.in-Err-perform.ensures.unread (λ reads. none (c.in-Ok.command, c.in-Ok.ensures.some, reads))

-- ---- the command did its work

pub returns-in-Ok-perform-clause-outcome : goal.returns-in-Ok-perform-clause-outcome
returns-in-Ok-perform-clause-outcome g c =
    let i0 = g.S.Source.says c.args.input.now in let i1 = g.S.Source.says c.perform.new.input in
    let r0 = g.W.Sink.says c.args.report.now in let r1 = g.W.Sink.says c.perform.new.report in
    let n0 = g.E.Sink.says c.args.notes.now in let n1 = g.E.Sink.says c.perform.new.notes in
    let P : Type 0 = c.perform.new.report ≡ c.args.report.now in let Q : Type 0 = c.perform.new.notes ≡ c.args.notes.now in
    asked_by (map string_bytes c.args.words.now) c.in-Ok.command (λ command. Comes command statuses.Done (streams i0 r0 n0) (streams i1 r1 n1) IsNotedBehind P (statuses.Done ≡ statuses.Done → Q)) c.in-Ok.ensures.some
    (comes_done c.in-Ok.command tt i0 i1 r0 r1 n0 n1 P Q c.in-Ok-perform.ensures.outcome)

pub returns-in-Ok-perform-clause-truth : goal.returns-in-Ok-perform-clause-truth
returns-in-Ok-perform-clause-truth g c =
    let source = g.S.Source.says c.args.input.now in
    asked_all (map string_bytes c.args.words.now) (λ command. IsTrue command source) (λ command. truth command source)
