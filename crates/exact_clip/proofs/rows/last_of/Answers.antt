use Rattle.std.proofs.Common.{ℤ, ◌^◌, subst}
use Rattle.exact_clip.specs.Lost.{one}
use Rattle.exact_clip.specs.Terms.{AreCuts, column_times}
use Rattle.exact_clip.proofs.Reach.{reached}
use Rattle.exact_clip.proofs.Sums.{whole_of-one}
use Rattle.exact_clip.proofs.Terms.{column_cut}
use Rattle.exact_clip.proofs.rows.last_of.Goals as goal

pub returns-then-reaches-clause-value : goal.returns-then-reaches-clause-value
returns-then-reaches-clause-value c =
    let e = c.args.exponent in let m = c.args.matrix.now in
    let below = c.reaches.ensures.0 c.if-reaches.true in
    record {
      cuts = subst (λ (z : ℤ). AreCuts (2 ^ e) c.terms.result (column_times m 3 z)) whole_of-one
          (column_cut e m 3 one c.of-column.result c.decoded-number.result c.terms.result c.of-column.ensures c.decoded-number.ensures below c.terms.ensures);
      reach = reached e m 3 one c.of-column.result c.decoded-number.result c.of-column.ensures c.decoded-number.ensures below;
    }
