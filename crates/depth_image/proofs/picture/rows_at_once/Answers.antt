use Rattle.std.proofs.Common.{ℕ, ◌*◌, ◌≤◌, arith, subst}
use Rattle.depth_image.proofs.Numbers.{ceiling_some, ceiling_times}
use Rattle.depth_image.proofs.picture.rows_at_once.Goals as goal

pub returns-clause-some : goal.returns-clause-some
returns-clause-some c = ceiling_some 2048 c.width.result c.div_ceil.result (omega arith) c.div_ceil.ensures

pub returns-clause-few : goal.returns-clause-few
returns-clause-few c =
    let most = ceiling_times 2048 c.width.result c.div_ceil.result c.div_ceil.ensures in
    let within : c.div_ceil.result * c.width.result ≤ 4096 = omega (arith, most, c.width.ensures.value, c.width.ensures.valid.within_width) in
    subst (λ (w : ℕ). c.div_ceil.result * w ≤ 4096) c.width.ensures.value within
