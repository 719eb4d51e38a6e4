-- What a run comes to: a status, what is noted of it, and texts for the report and the notes.
use Rattle.std.specs.Prelude.{ℕ, ◌++◌, List, [], take, slice_index_or}
use Rattle.std.specs.List.{flat_map}
use Rattle.frame_reports.specs.declared.failure.Status.{Status}
use Rattle.frame_reports.specs.declared.failure.Status.TheVariants as statuses

-- A status, and what is noted of it; the report's text, which is a head and a text of each frame; and the notes' text of each frame.
pub record OutcomeOf : Type 0 where
  pub status : Status
  pub note : List ℕ
  pub head : List ℕ
  pub frames : List (List ℕ)
  pub notes : List (List ℕ)

-- one text behind the other
abbrev pub joined : List (List ℕ) → List ℕ
joined texts = flat_map (λ t. t) texts

-- the report, whole and before a frame
abbrev pub report_of : OutcomeOf → List ℕ
report_of o = o.head ++ joined o.frames

abbrev pub report_before : OutcomeOf → ℕ → List ℕ
report_before o frame = o.head ++ joined (take frame o.frames)

-- the notes' text, before a frame and of it
abbrev pub notes_before : OutcomeOf → ℕ → List ℕ
notes_before o frame = joined (take frame o.notes)

abbrev pub notes_at : OutcomeOf → ℕ → List ℕ
notes_at o frame = slice_index_or o.notes frame []

-- one text on the report
abbrev pub text_alone : List ℕ → OutcomeOf
text_alone text = record { status = statuses.Done; note = []; head = text; frames = []; notes = [] }
