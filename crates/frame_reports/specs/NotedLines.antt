-- What lines leave on the notes.
use Rattle.std.specs.Prelude.{ℕ, ◌≡◌, ◌⊎◌, ◌≤◌, List, Result, OnOk, OnErr, IfErr}
use Rattle.cull_base.specs.Stream.{SinkSays, Rose, Appends, AppendsProperPrefix}
use Rattle.frame_reports.specs.declared.failure.Failure.{Failure}
use Rattle.frame_reports.specs.declared.failure.Failure.TheVariants.{NotesFault, Memory}

-- no count fell
pub record CountsStay (before after : SinkSays) : Type 0 where
  pub faults : before.faults ≤ after.faults
  pub refusals : before.refusals ≤ after.refusals

-- lines were noted, or after a failure a beginning of them that isn't the whole
pub record NotesLines (before after : SinkSays) (result : Result (Unit {0}) Failure) (text : List ℕ) : Type 0 where
  pub ok : OnOk result (Appends before after text)
  pub err : OnErr result (AppendsProperPrefix before after text)
  pub cause : IfErr result (λ f. (f ≡ Memory) ⊎ ((f ≡ NotesFault) × Rose before.faults after.faults))
  pub stay : CountsStay before after
