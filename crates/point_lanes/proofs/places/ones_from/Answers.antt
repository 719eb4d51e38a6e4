use Rattle.std.proofs.Common.{nat_le, get_or, replicate, refl, ◌∙◌, ap₂, cond, ℕ}
use Rattle.std.proofs.lemmas.Simd.{get_or-replicate}
use Rattle.point_lanes.proofs.Lanes.{at_chosen, long_chosen}
use Rattle.point_lanes.proofs.places.ones_from.Goals as goal

pub returns-clause-value : goal.returns-clause-value
returns-clause-value c j lt =
    at_chosen nat_le c.args.divisors c.args.rests (replicate 8 1) (replicate 8 0) c.fits-divisors.0 c.fits-rests.0 refl refl j lt
    ∙ ap₂ (λ (a b : ℕ). cond (nat_le (get_or c.args.divisors j 0) (get_or c.args.rests j 0)) a b) (get_or-replicate 8 j 1 0 lt) (get_or-replicate 8 j 0 0 lt)

pub returns-clause-eight : goal.returns-clause-eight
returns-clause-eight c = long_chosen nat_le c.args.divisors c.args.rests (replicate 8 1) (replicate 8 0) c.fits-divisors.0 c.fits-rests.0 refl refl
