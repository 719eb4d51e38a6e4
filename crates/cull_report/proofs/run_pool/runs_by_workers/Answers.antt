use Rattle.std.proofs.Common.{◌≡◌, ◌*◌, ◌<◌, ◌≤◌, ℕ, List, length, arith, ap, subst}
use Rattle.std.proofs.lemmas.Result.{IfOk-weaker}
use Rattle.cull_base.specs.declared.scene_types.Verdict.{Verdict}
use Rattle.seats.specs.Things.{AreAllMade}
use Rattle.cull_report.specs.Runs.{AreRunsFor, AreRunsOf, AreToldRuns, IsWhole}
use Rattle.cull_report.specs.declared.runs.Run.{Run}
use Rattle.cull_report.specs.declared.tally.Tally.{Tally}
use Rattle.cull_report.proofs.run_pool.runs_by_workers.Goals as goal

-- whole runs are made, and what is counted of each is told
runs_of : (all : List Verdict) (told : ℕ → Tally) (objects size count : ℕ) (runs : List Run) → objects ≡ length all → AreRunsFor objects size count → AreAllMade (IsWhole all told size) count runs → AreRunsOf all size runs
runs_of all told objects size count runs is for made =
    let whole : length all ≤ size * length runs = omega (arith, for.whole, is, ap (λ n. size * n) made.count_is) in
    record { each = λ k d lt. (made.each k d (omega (arith, lt, made.count_is))).0; whole = whole }

told_of : (all : List Verdict) (told : ℕ → Tally) (objects size count : ℕ) (runs : List Run) → objects ≡ length all → AreRunsFor objects size count → AreAllMade (IsWhole all told size) count runs → AreToldRuns (length all) told size runs
told_of all told objects size count runs is for made =
    let whole : length all ≤ size * length runs = omega (arith, for.whole, is, ap (λ n. size * n) made.count_is) in
    record { each = λ k d lt. (made.each k d (omega (arith, lt, made.count_is))).1; whole = whole }

pub make_each-requires-clause-has : goal.make_each-requires-clause-has
make_each-requires-clause-has g c κs within = λ k lt. subst (λ n. c.args.size * k < n) c.count.ensures.count (c.run_count-count.ensures.some k lt)

pub returns-clause-runs : goal.returns-clause-runs
returns-clause-runs g c =
    IfOk-weaker c.make_each.result _ _
    (λ v made. runs_of (g.A.Answering.all c.args.asked.now) (g.A.Answering.told c.args.asked.now) _ c.args.size _ v.items c.count.ensures.count c.run_count-count.ensures made) c.make_each.ensures

pub returns-clause-counted : goal.returns-clause-counted
returns-clause-counted g c =
    IfOk-weaker c.make_each.result _ _
    (λ v made. told_of (g.A.Answering.all c.args.asked.now) (g.A.Answering.told c.args.asked.now) _ c.args.size _ v.items c.count.ensures.count c.run_count-count.ensures made) c.make_each.ensures
