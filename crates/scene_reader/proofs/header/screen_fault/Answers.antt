use Rattle.std.proofs.Common.{◌≡◌, true, refl}
use Rattle.std.proofs.lemmas.Bool.{true_from_ne_false, both_ways}
use Rattle.scene_reader.specs.Fault.{screen_fault, is_bad_size}
use Rattle.scene_reader.proofs.Valid.{in_range, off_range, size_valid, size_good}
use Rattle.scene_reader.proofs.header.screen_fault.Goals as goal

pub returns-then-is_none-clause-value : goal.returns-then-is_none-clause-value
unfolding screen_fault
returns-then-is_none-clause-value c =
    let bad : is_bad_size c.args.width c.args.height ≡ true = true_from_ne_false _ (λ e. both_ways _ c.if-is_none.ensures (c.new.ensures.given (size_valid c.args.width c.args.height e))) in
    rw bad refl

pub returns-then-near-eq0-clause-value : goal.returns-then-near-eq0-clause-value
unfolding screen_fault
returns-then-near-eq0-clause-value c =
    let good = size_good c.args.width c.args.height (c.new.ensures.valid c.if-is_none.ensures) in
    rw (good, off_range c.args.near 1024 c.then-near-eq0.either) refl

pub returns-clause-value : goal.returns-clause-value
unfolding screen_fault
returns-clause-value c =
    let good = size_good c.args.width c.args.height (c.new.ensures.valid c.if-is_none.ensures) in
    rw (good, in_range c.args.near 1024 c.if-near-eq0.false c.if-near-gt1024.false) refl
