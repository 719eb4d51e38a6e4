use Rattle.std.proofs.Common.{ℕ, get_or, sym, subst, rules}
use Rattle.lane_numbers.specs.Reciprocals.{CanStep}
use Rattle.lane_numbers.proofs.Turned.{AreMade, made_at, reciprocal_is, steps}
use Rattle.lane_numbers.proofs.reciprocals.Reciprocals.of.Goals as goal

pub nearer-once-requires-clause-good : goal.nearer-once-requires-clause-good
nearer-once-requires-clause-good c j lt =
    let ds = c.args.numbers in let ns = c.all_normalized-normalized.result in let gs = c.guesses_of-guesses.result in
    let m : AreMade ds ns gs = record { some = c.requires; small = (λ j. search rules); product = c.all_normalized-normalized.ensures.value; near = c.guesses_of-guesses.ensures.near; within = c.guesses_of-guesses.ensures.within } in
    (steps _ _ _ (made_at ds ns gs m j lt)).first

pub nearer-requires-clause-good : goal.nearer-requires-clause-good
nearer-requires-clause-good c j lt =
    let ds = c.args.numbers in let ns = c.all_normalized-normalized.result in let gs = c.guesses_of-guesses.result in
    let m : AreMade ds ns gs = record { some = c.requires; small = (λ j. search rules); product = c.all_normalized-normalized.ensures.value; near = c.guesses_of-guesses.ensures.near; within = c.guesses_of-guesses.ensures.within } in
    let second = (steps _ _ _ (made_at ds ns gs m j lt)).second in
    subst (λ (x : ℕ). CanStep (get_or ns j 0) x) (sym (c.nearer-once.ensures.value j lt)) second

pub returns-clause-lanes : goal.returns-clause-lanes
returns-clause-lanes c j lt =
    let ds = c.args.numbers in let ns = c.all_normalized-normalized.result in let gs = c.guesses_of-guesses.result in
    let m : AreMade ds ns gs = record { some = c.requires; small = (λ j. search rules); product = c.all_normalized-normalized.ensures.value; near = c.guesses_of-guesses.ensures.near; within = c.guesses_of-guesses.ensures.within } in
    reciprocal_is _ _ _ _ _ _ (made_at ds ns gs m j lt) (c.powers_of-powers.ensures j lt) (c.nearer-once.ensures.value j lt) (c.nearer.ensures.value j lt)
