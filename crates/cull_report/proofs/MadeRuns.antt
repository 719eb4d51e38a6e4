-- Runs of verdicts: how one is made, and runs one after the other.
use Rattle.std.proofs.Common.{◌≡◌, ℕ, ◌+◌, ◌-◌, ◌*◌, ◌<◌, ◌≤◌, min, List, [], ◌∷◌, ◌++◌, map, length, take, drop, get_or, arith, refl, sym, ap, subst, ◌∙◌}
use Rattle.std.proofs.Math.Seq.{take-add}
use Rattle.std.proofs.lemmas.List.{take_all, take_min, take_more, length-append, length-drop, length-map, length-take, get_or-drop, get_or-map}
use Rattle.std.proofs.lemmas.Nat.{mul-le}
use Rattle.cull_base.specs.declared.scene_types.Object.{Object}
use Rattle.cull_base.specs.declared.scene_types.Verdict.{Verdict}
use Rattle.cull_report.specs.Runs.{AreRunsOf, AreToldRuns, IsMadeRun, IsToldRun, run_of, run_place}
use Rattle.cull_report.specs.Tallies.{Adds, IsFew}
use Rattle.cull_report.specs.Text.{verdict_lines}
use Rattle.cull_report.specs.declared.runs.Run.{Run}
use Rattle.cull_report.specs.declared.tally.Tally.{Tally}
use Rattle.cull_report.proofs.ReportLines.{verdict_lines-batch}

-- ---- a run that is made

-- the verdict of the next object
at_next : (f : Object → Verdict) (objects : List Object) (first k : ℕ) (d : Object) → first + k < length objects → get_or (drop first (map f objects)) k (f d) ≡ f (get_or objects (first + k) d)
at_next f objects first k d lt = get_or-drop first (map f objects) k (f d) ∙ get_or-map f objects (first + k) d (f d) lt

below_rest : (f : Object → Verdict) (objects : List Object) (first k : ℕ) → first + k < length objects → k < length (drop first (map f objects))
below_rest f objects first k lt = omega (arith, lt, length-drop first (map f objects), length-map objects f)

pub next_verdict : (f : Object → Verdict) (objects : List Object) (first k : ℕ) (d : Object) → first + k < length objects
    → take (k + 1) (drop first (map f objects)) ≡ take k (drop first (map f objects)) ++ f (get_or objects (first + k) d) ∷ []
next_verdict f objects first k d lt =
    let rest = drop first (map f objects) in
    take_more rest k (f d) (below_rest f objects first k lt) ∙ ap (λ (v : Verdict). take k rest ++ v ∷ []) (at_next f objects first k d lt)

-- all objects of a run: so many, or those that are left
pub whole_run : (all : List Verdict) (first size count : ℕ) → count ≡ min size (length all - first) → take count (drop first all) ≡ take size (drop first all)
whole_run all first size count is =
    let rest = drop first all in
    let n : count ≡ min size (length rest) = omega (arith, is, length-drop first all) in
    ap (λ (m : ℕ). take m rest) n ∙ take_min size rest

pub drop_none : (xs : List Verdict) → drop 0 xs ≡ xs
drop_none [] = refl
drop_none (x ∷ xs) = refl

-- how many verdicts those of a run are behind the ones before
pub run_length : (old all more : List Verdict) (first count : ℕ) → more ≡ old ++ take count (drop first all) → length more ≤ length old + count
run_length old all more first count is =
    let n = ap length is in
    omega (arith, n, length-append old (take count (drop first all)), length-take count (drop first all))

-- ---- runs one after the other

pub next_run : (size k : ℕ) → size * (k + 1) ≡ size * k + size
next_run size k = omega arith

-- the verdicts so far and those of the next run
pub joined_more : (all : List Verdict) (size k : ℕ) → take (size * (k + 1)) all ≡ take (size * k) all ++ run_of all size k
joined_more all size k = ap (λ (n : ℕ). take n all) (next_run size k) ∙ take-add (size * k) size all

-- the lines so far and those of the next run
pub lines_more : (all : List Verdict) (size k : ℕ) → verdict_lines 0 (take (size * (k + 1)) all) ≡ verdict_lines 0 (take (size * k) all) ++ verdict_lines (size * k) (run_of all size k)
lines_more all size k = ap (λ (n : ℕ). verdict_lines 0 (take n all)) (next_run size k) ∙ verdict_lines-batch all (size * k) size

-- all runs
pub joined_all : (all : List Verdict) (size k : ℕ) (runs : List Run) → AreRunsOf all size runs → length runs ≤ k → take (size * k) all ≡ all
joined_all all size k runs are le = take_all (size * k) all (omega (arith, are.whole, mul-le size (length runs) size k (omega arith) le))

-- the run of a place, as a loop reads it
pub run_at : (all : List Verdict) (size k : ℕ) (runs : List Run) (run : Run) → AreRunsOf all size runs → k < length runs → run ≡ get_or runs k run → IsMadeRun all size k run
run_at all size k runs run are lt is = subst (IsMadeRun all size k) (sym is) (are.each k run lt)

-- and what is counted of it
pub told_at : (objects : ℕ) (told : ℕ → Tally) (size k : ℕ) (runs : List Run) (run : Run) → AreToldRuns objects told size runs → k < length runs → run ≡ get_or runs k run → IsToldRun objects told size k run
told_at objects told size k runs run are lt is = subst (IsToldRun objects told size k) (sym is) (are.each k run lt)

-- with what is counted of the runs before it
abbrev pub tally_and : Tally → Tally → Tally
tally_and t more = record { hidden = t.hidden + more.hidden; members = t.members + more.members }

pub told_more : (objects : ℕ) (told : ℕ → Tally) (size k : ℕ) (runs : List Run) (run : Run) (before so_far : Tally) → AreToldRuns objects told size runs → k < length runs → run ≡ get_or runs k run
    → Adds before so_far (told (run_place objects size k)) → Adds before (tally_and so_far run.tally) (told (run_place objects size (k + 1)))
told_more objects told size k runs run before so_far are lt is adds =
    let here : Adds (told (run_place objects size k)) run.tally (told (run_place objects size (k + 1))) = told_at objects told size k runs run are lt is in
    record { hidden = omega (arith, adds.hidden, here.hidden); members = omega (arith, adds.members, here.members) }

-- which is no more than of all
pub few_so_far : (before so_far after : Tally) → Adds before so_far after → IsFew after → IsFew so_far
few_so_far before so_far after adds few = record { hidden = omega (arith, adds.hidden, few.hidden); members = omega (arith, adds.members, few.members) }
