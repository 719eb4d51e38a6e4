use Rattle.std.proofs.Common.{ℕ, ◌+◌, ◌*◌, ◌<◌, ◌≤◌, arith}
use Rattle.std.proofs.lemmas.Nat.{mul-le}
use Rattle.live_check.proofs.Rounds.{frame_begin, frame_end, frame_next, frame_stop}
use Rattle.live_check.proofs.frame.takes_rounds.Goals as goal

-- the number of a line of a frame
few_lines : (round objects object : ℕ) → round < 8 → objects ≤ 8 → object < objects → round * objects + object < 64
few_lines round objects object r few lt = let most = mul-le round objects 7 8 (omega (arith, r)) few in omega (arith, most, lt, few)

pub loop-round-init : goal.loop-round-init
loop-round-init g c = record {
  standing = c.requires.standing;
  came = λ watch objects. frame_begin _ watch _ _ _ c.requires.none;
  faults = omega arith;
}

pub loop-round-preserved : goal.loop-round-preserved
loop-round-preserved g c =
    let i = c.loop-round.invariant in
    let round = c.in_ok-object.ensures in
    record {
      standing = round.standing c.in_default.is;
      came = λ watch objects.
          let so = i.came watch objects in
          frame_next _ watch _ c.loop-round.round _ _ _ _ _ so (round.comes so.counts watch objects so.rising so.last c.in_default.is);
      faults = omega (arith, i.faults, round.fails.faults_stay);
    }

pub returns-in-Some-clause-stops : goal.returns-in-Some-clause-stops
returns-in-Some-clause-stops g c watch objects =
    let i = c.loop-round.invariant in
    let so = i.came watch objects in
    frame_stop _ c.args.plan.now.rounds watch _ c.loop-round.round c.args.plan.now.objects c.in-Some.object _ _ _ (omega (arith, c.loop-round-test.true)) objects so
    (rw c.in-Some.is at (c.in_ok-object.ensures.stops so.counts watch objects so.rising so.last))

pub returns-clause-comes : goal.returns-clause-comes
returns-clause-comes g c watch objects =
    let i = c.loop-round.invariant in
    λ is. frame_end _ c.args.plan.now.rounds watch _ c.loop-round.round _ _ _ (omega (arith, c.loop-round-test.false, c.loop-round.auto.round-end)) (i.came watch objects)

pub returns-clause-standing : goal.returns-clause-standing
returns-clause-standing g c _ = c.loop-round.invariant.standing

-- a round has at most 8 lines, and a frame at most 8 rounds
pub returns-in-Some-clause-few : goal.returns-in-Some-clause-few
returns-in-Some-clause-few g c =
    let p = c.args.plan.now in
    let object = rw c.in-Some.is at c.in_ok-object.ensures.within in
    omega (arith, few_lines c.loop-round.round p.objects c.in-Some.object (omega (arith, c.loop-round-test.true, p.few_rounds)) p.few_objects object)

pub overflow_mul-result : goal.overflow_mul-result
overflow_mul-result g c = let p = c.args.plan.now in omega (arith, few_lines c.loop-round.round p.objects 0 (omega (arith, c.loop-round-test.true, p.few_rounds)) p.few_objects (omega (arith, p.some_objects)))
