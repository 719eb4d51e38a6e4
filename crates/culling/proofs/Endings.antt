-- From a call of `run` to the laws: what its clause `outcome` says of a command is what they speak of.
use Rattle.std.proofs.Common.{◌≡◌, List, Option, Some, None}
use Rattle.std.specs.Prelude.{IfSome}
use Rattle.clap.specs.Words.{Text}
use Rattle.command_words.specs.Words.{command_of}
use Rattle.command_words.specs.declared.table.Command.{Command}
use Rattle.frame_reports.specs.Notes.{IsNotedBehind}
use Rattle.culling.specs.Outcomes.{IfAsked}
use Rattle.culling.specs.Promises.{Ran}
use Rattle.culling.specs.Runs.{Comes, Streams}
use Rattle.frame_reports.specs.declared.failure.Status.{Status}
use Rattle.frame_reports.specs.declared.failure.Status.TheVariants as statuses

-- a sink that is as it was says what it said
pub ran_of : (c : Command) (status : Status) (before after : Streams) (P Q : Type 0) → (P → after.report ≡ before.report) → (Q → after.notes ≡ before.notes)
    → Comes c status before after IsNotedBehind P (status ≡ statuses.Done → Q) → Ran c status before after
ran_of c status before after P Q report notes h = record {
  outcome = h.outcome;
  ends = h.ends;
  leaves = h.leaves;
  causes = h.causes;
  untouched = λ is. report (h.untouched is);
  unnoted = λ is done. notes (h.unnoted is done);
  taken = h.taken;
}

-- so of whatever the words ask for
pub asked_ran : (words : List Text) (status : Status) (before after : Streams) (P Q : Type 0) → (P → after.report ≡ before.report) → (Q → after.notes ≡ before.notes)
    → IfAsked words (λ c. Comes c status before after IsNotedBehind P (status ≡ statuses.Done → Q)) → IfAsked words (λ c. Ran c status before after)
asked_ran words status before after P Q report notes asked = by (command_of words) asked
  where
    by : (o : Option Command) → IfSome o (λ c. Comes c status before after IsNotedBehind P (status ≡ statuses.Done → Q)) → IfSome o (λ c. Ran c status before after)
    by None h = h
    by (Some c) h = ran_of c status before after P Q report notes h
