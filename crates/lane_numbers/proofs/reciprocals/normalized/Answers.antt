use Rattle.std.proofs.Common.{◌≤◌, ℕ, sym, subst}
use Rattle.lane_numbers.proofs.Turned.{turned}
use Rattle.lane_numbers.proofs.reciprocals.normalized.Goals as goal

pub overflow_shl-result : goal.overflow_shl-result
overflow_shl-result c = (turned c.args.number c.requires c.ranges.number.fits).places

pub returns-clause-value : goal.returns-clause-value
returns-clause-value c = (turned c.args.number c.requires c.ranges.number.fits).product

pub returns-clause-least : goal.returns-clause-least
returns-clause-least c =
    let t = turned c.args.number c.requires c.ranges.number.fits in
    subst (λ (x : ℕ). 2147483648 ≤ x) (sym t.product) t.least
