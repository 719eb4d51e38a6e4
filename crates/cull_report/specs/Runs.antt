-- Runs of a frame's objects, so many each, with their verdicts and lines, and what is counted of them.
use Rattle.std.specs.Prelude.{ℕ, ◌≡◌, ◌*◌, ◌+◌, ◌<◌, ◌≤◌, min, List, [], length, take, drop, vec_capacity, slice_index_or}
use Rattle.std.proofs.Props.{props}
use Rattle.cull_base.specs.declared.scene_types.Verdict.{Verdict}
use Rattle.cull_report.specs.Tallies.{Adds}
use Rattle.cull_report.specs.Text.{verdict_lines}
use Rattle.cull_report.specs.declared.runs.Run.{Run}
use Rattle.cull_report.specs.declared.tally.Tally.{Tally}

-- a run has at least one object and at most so many, whose lines a text has room for
pub record IsRunSize (size : ℕ) : Type 0 where
  pub some : 0 < size
  pub few : size ≤ 128

-- the verdicts of a run, by its number
abbrev pub run_of : List Verdict → ℕ → ℕ → List Verdict
run_of all size number = take size (drop (size * number) all)

-- where a run begins: at the end of all objects where there is no such run
abbrev pub run_place : ℕ → ℕ → ℕ → ℕ
run_place objects size number = min (size * number) objects

-- a run that waits: it has room for the verdicts and the lines of so many objects
pub record IsWaitingRun (size : ℕ) (r : Run) : Type 0 where
  pub no_verdicts : r.verdicts.items ≡ []
  pub no_lines : r.lines.items ≡ []
  pub verdict_room : size ≤ vec_capacity r.verdicts
  pub line_room : 30 * size ≤ vec_capacity r.lines

-- a run that is made: its verdicts, and their lines
pub record IsMadeRun (all : List Verdict) (size number : ℕ) (r : Run) : Type 0 where
  pub verdicts_are : r.verdicts.items ≡ run_of all size number
  pub lines_are : r.lines.items ≡ verdict_lines (size * number) (run_of all size number)

-- and what is counted of its objects, of so many
abbrev pub IsToldRun : ℕ → (ℕ → Tally) → ℕ → ℕ → Run → Type 0
IsToldRun objects told size number r = Adds (told (run_place objects size number)) r.tally (told (run_place objects size (number + 1)))

-- the run of a number waits, and it has an object
abbrev pub Waits : ℕ → ℕ → ℕ → Run → Type 0
Waits objects size number r = (size * number < objects) × IsWaitingRun size r

pub Waits-prop : (objects size number : ℕ) (r : Run) → IsProp (Waits objects size number r)
Waits-prop objects size number r = hlevel props

-- or it is made
abbrev pub IsWhole : List Verdict → (ℕ → Tally) → ℕ → ℕ → Run → Type 0
IsWhole all told size number r = IsMadeRun all size number r × IsToldRun (length all) told size number r

pub IsWhole-prop : (all : List Verdict) (told : ℕ → Tally) (size number : ℕ) (r : Run) → IsProp (IsWhole all told size number r)
IsWhole-prop all told size number r = hlevel props

-- so many runs have all objects, and each has one
pub record AreRunsFor (objects size count : ℕ) : Type 0 where
  pub whole : objects ≤ size * count
  pub some : (k : ℕ) → k < count → size * k < objects

-- all runs in order
pub record AreRunsOf (all : List Verdict) (size : ℕ) (runs : List Run) : Type 0 where
  pub each : (k : ℕ) (d : Run) → k < length runs → IsMadeRun all size k (slice_index_or runs k d)
  pub whole : length all ≤ size * length runs

-- and what is counted of each
pub record AreToldRuns (objects : ℕ) (told : ℕ → Tally) (size : ℕ) (runs : List Run) : Type 0 where
  pub each : (k : ℕ) (d : Run) → k < length runs → IsToldRun objects told size k (slice_index_or runs k d)
  pub whole : objects ≤ size * length runs
