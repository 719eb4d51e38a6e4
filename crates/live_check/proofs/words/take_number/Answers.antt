use Rattle.std.proofs.Common.{◌≡◌, ℕ, zero, suc, ◌+◌, ◌*◌, ◌^◌, ◌<◌, ◌≤◌, arith, ◌∙◌}
use Rattle.live_check.proofs.ByBytes.{length_first, number_first, number_longer, number_more, only_ended, only_long, only_none, only_zero}
use Rattle.live_check.proofs.words.take_number.Goals as goal

-- the numbers of so many digits
below : (n place : ℕ) → place ≤ 6 → n < 10 ^ place → n < 10 ^ 6
below n zero le small = omega (arith, small)
below n (suc zero) le small = omega (arith, small)
below n (suc (suc zero)) le small = omega (arith, small)
below n (suc (suc (suc zero))) le small = omega (arith, small)
below n (suc (suc (suc (suc zero)))) le small = omega (arith, small)
below n (suc (suc (suc (suc (suc zero))))) le small = omega (arith, small)
below n (suc (suc (suc (suc (suc (suc zero)))))) le small = small
below n (suc (suc (suc (suc (suc (suc (suc k))))))) le small = absurd (omega (arith, le))

grown : (n d place : ℕ) → place < 6 → d < 10 → n < 10 ^ place → 10 * n + d < 10 ^ (place + 1)
grown n d zero le digit small = omega (arith, digit, small)
grown n d (suc zero) le digit small = omega (arith, digit, small)
grown n d (suc (suc zero)) le digit small = omega (arith, digit, small)
grown n d (suc (suc (suc zero))) le digit small = omega (arith, digit, small)
grown n d (suc (suc (suc (suc zero)))) le digit small = omega (arith, digit, small)
grown n d (suc (suc (suc (suc (suc zero))))) le digit small = omega (arith, digit, small)
grown n d (suc (suc (suc (suc (suc (suc k)))))) le digit small = absurd (omega (arith, le))

pub returns-in_default-clause-only : goal.returns-in_default-clause-only
returns-in_default-clause-only g c = only_none _ (c.in_ok-first.ensures.none c.in_default.is).1

pub returns-then-first-eq0-clause-came : goal.returns-then-first-eq0-clause-came
returns-then-first-eq0-clause-came g c =
    number_first _ _ 0 (omega arith) (rw (c.in-Some.is, c.if-first-eq0.true) at c.in_ok-first.ensures.came).1

pub returns-then-first-eq0-clause-only : goal.returns-then-first-eq0-clause-only
returns-then-first-eq0-clause-only g c = only_zero _ _ (rw (c.in-Some.is, c.if-first-eq0.true) at c.in_ok-first.ensures.came).1

pub loop-place-init : goal.loop-place-init
loop-place-init g c =
    let first = rw c.in-Some.is at c.in_ok-first.ensures.came in
    record {
      came = number_first _ _ c.in-Some.first first.0 first.1;
      some = omega (arith, c.if-first-eq0.false);
      small = omega (arith, first.0);
      digits = length_first c.in-Some.first first.0;
      within = omega arith;
      faults = c.in_ok-first.ensures.fails.faults_stay;
    }

pub overflow_mul-number : goal.overflow_mul-number
overflow_mul-number g c = let i = c.loop-place.invariant in omega (arith, below c.loop-place.number c.loop-place._place i.within i.small)

pub overflow_add-number : goal.overflow_add-number
overflow_add-number g c =
    let i = c.loop-place.invariant in
    let digit = rw c.in-Some-2.is at c.in_ok-digit.ensures.came in
    omega (arith, below c.loop-place.number c.loop-place._place i.within i.small, digit.0)

pub loop-place-preserved : goal.loop-place-preserved
loop-place-preserved g c =
    let i = c.loop-place.invariant in
    let digit = rw c.in-Some-2.is at c.in_ok-digit.ensures.came in
    let n = c.loop-place.number in let d = c.in-Some-2.digit in
    let few = below n c.loop-place._place i.within i.small in
    record {
      came = number_more _ _ _ n d i.some digit.0 (omega (arith, few)) i.came digit.1;
      some = omega (arith, i.some);
      small = grown n d c.loop-place._place c.loop-place-test.true digit.0 i.small;
      digits = number_longer n d c.loop-place._place i.some digit.0 (omega (arith, few)) i.digits;
      within = omega (arith, c.loop-place-test.true);
      faults = omega (arith, i.faults, c.in_ok-digit.ensures.fails.faults_stay);
    }

-- no digit follows
pub returns-in_default-2-clause-came : goal.returns-in_default-2-clause-came
returns-in_default-2-clause-came g c = rw (c.in_ok-digit.ensures.none c.in_default-2.is).0 c.loop-place.invariant.came

pub returns-in_default-2-clause-only : goal.returns-in_default-2-clause-only
returns-in_default-2-clause-only g c =
    let i = c.loop-place.invariant in
    only_ended _ _ c.loop-place.number (below c.loop-place.number c.loop-place._place i.within i.small) i.came (c.in_ok-digit.ensures.none c.in_default-2.is).1

pub returns-in_default-2-clause-small : goal.returns-in_default-2-clause-small
returns-in_default-2-clause-small g c = let i = c.loop-place.invariant in below c.loop-place.number c.loop-place._place i.within i.small

-- six digits came
pub returns-clause-only : goal.returns-clause-only
returns-clause-only g c =
    let i = c.loop-place.invariant in
    let end : c.loop-place._place ≡ 6 = omega (arith, c.loop-place-test.false, i.within) in
    only_long _ _ c.loop-place.number (below c.loop-place.number c.loop-place._place i.within i.small) (i.digits ∙ end) i.came

pub returns-clause-small : goal.returns-clause-small
returns-clause-small g c = let i = c.loop-place.invariant in below c.loop-place.number c.loop-place._place i.within i.small
