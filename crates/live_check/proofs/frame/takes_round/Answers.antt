use Rattle.std.proofs.Common.{arith}
use Rattle.live_check.proofs.Rounds.{round_begin, round_end, round_next, round_stop}
use Rattle.live_check.proofs.frame.takes_round.Goals as goal

pub loop-object-init : goal.loop-object-init
loop-object-init g c = record {
  standing = c.requires.standing;
  came = λ counts watch objects rising last. round_begin _ watch _ counts _ _ _ rising last;
  faults = omega arith;
}

pub takes_line-requires : goal.takes_line-requires
takes_line-requires g c =
    let lt = c.loop-object-test.true in
    record {
      object = omega (arith, lt, c.requires.within);
      span = (c.requires.spans c.loop-object.object _ lt).0;
      within = (c.requires.spans c.loop-object.object _ lt).1;
      standing = c.loop-object.invariant.standing;
    }

pub loop-object-preserved : goal.loop-object-preserved
loop-object-preserved g c =
    let i = c.loop-object.invariant in
    let line = c.in_ok-takes_line.ensures in
    record {
      standing = line.standing c.if-not-branch.false;
      came = λ counts watch objects rising last.
          round_next _ watch _ counts c.args.round c.loop-object.object _ _ _ _ _ (omega (arith, c.loop-object-test.true, objects)) (i.came counts watch objects rising last) (line.yes c.if-not-branch.false);
      faults = omega (arith, i.faults, line.fails.faults_stay);
    }

-- a line doesn't come
pub returns-then-not-branch-clause-stops : goal.returns-then-not-branch-clause-stops
returns-then-not-branch-clause-stops g c counts watch objects rising last =
    let i = c.loop-object.invariant in
    round_stop _ watch _ counts c.args.round c.loop-object.object _ _ _ (omega (arith, c.loop-object-test.true, objects)) (i.came counts watch objects rising last) (c.in_ok-takes_line.ensures.no c.if-not-branch.true)

-- all came
pub returns-clause-comes : goal.returns-clause-comes
returns-clause-comes g c counts watch objects rising last =
    let i = c.loop-object.invariant in
    λ is. round_end _ watch _ counts c.args.round c.loop-object.object _ _ _ (omega (arith, c.loop-object-test.false, c.loop-object.auto.object-end, objects)) (i.came counts watch objects rising last)

pub returns-then-not-branch-clause-within : goal.returns-then-not-branch-clause-within
returns-then-not-branch-clause-within g c = c.loop-object-test.true

pub returns-clause-standing : goal.returns-clause-standing
returns-clause-standing g c _ = c.loop-object.invariant.standing
