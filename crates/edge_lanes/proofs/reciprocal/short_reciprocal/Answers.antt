use Rattle.std.proofs.Common.{◌≡◌, ℕ, ◌+◌, ◌-◌, ◌*◌, ◌/◌, ◌<◌, ◌^◌, arith, refl}
use Rattle.edge_lanes.proofs.Reciprocals.{Divides, Fit, IsShort, divides, fit, is_short}
use Rattle.edge_lanes.proofs.reciprocal.short_reciprocal.Goals as goal

-- what the code divides and computes
divided : (d g : ℕ) → 0 < d → g ≡ 4294967295 / d → Divides d g (4294967296 - g * d)
divided d g h e = divides d g (4294967296 - g * d) h e refl

fits : (d g : ℕ) → 0 < d → d < 2 ^ 16 → g ≡ 4294967295 / d → Fit d g (4294967296 - g * d)
fits d g h small e = fit d g (4294967296 - g * d) small (divided d g h e)

short : (d g : ℕ) → 0 < d → d < 2 ^ 16 → g ≡ 4294967295 / d → IsShort d ((g * 4294967296 + (4294967296 - g * d) * g) + (4294967296 - g * d) * (4294967296 - g * d) * g / 4294967296)
short d g h small e = is_short d g (4294967296 - g * d) _ h small (divided d g h e) refl

pub overflow_sub-rest : goal.overflow_sub-rest
overflow_sub-rest c = (fits c.args.number c.from-guess.result c.requires.positive c.requires.short c.from-guess.ensures).product

pub overflow_mul-result-2 : goal.overflow_mul-result-2
overflow_mul-result-2 c = let f = (fits c.args.number c.from-guess.result c.requires.positive c.requires.short c.from-guess.ensures).first in omega (arith, f)

pub overflow_mul-result-3 : goal.overflow_mul-result-3
overflow_mul-result-3 c = let f = (fits c.args.number c.from-guess.result c.requires.positive c.requires.short c.from-guess.ensures).square in omega (arith, f)

pub overflow_mul-result-4 : goal.overflow_mul-result-4
overflow_mul-result-4 c = let f = (fits c.args.number c.from-guess.result c.requires.positive c.requires.short c.from-guess.ensures).second in omega (arith, f)

pub overflow_add-result-2 : goal.overflow_add-result-2
overflow_add-result-2 c = let f = (short c.args.number c.from-guess.result c.requires.positive c.requires.short c.from-guess.ensures).fits in omega (arith, f)

pub returns : goal.returns
returns c = (short c.args.number c.from-guess.result c.requires.positive c.requires.short c.from-guess.ensures).is_reciprocal
