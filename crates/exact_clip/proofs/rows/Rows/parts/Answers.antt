use Rattle.std.proofs.Common.{slice_index, refl}
use Rattle.exact_clip.proofs.Reach.{reached}
use Rattle.exact_clip.proofs.Terms.{column_cut}
use Rattle.exact_clip.proofs.rows.Rows.parts.Goals as goal

pub terms-requires-then-is_in_reach-clause-reach : goal.terms-requires-then-is_in_reach-clause-reach
terms-requires-then-is_in_reach-clause-reach c = (c.is_in_reach.ensures.0 c.if-is_in_reach.true).1

pub returns-then-is_in_reach-clause-known : goal.returns-then-is_in_reach-clause-known
returns-then-is_in_reach-clause-known c =
    let r = c.args.self.now in let p = c.args.position.now in
    let below = c.is_in_reach.ensures.0 c.if-is_in_reach.true in (
      λ _. (
        c.are_numbers.ensures.0 c.if-are_numbers.true,
        record {
          x = reached r.exponent r.matrix 0 (slice_index p 0) r.x c.decoded-x.result r.x_is c.decoded-x.ensures below.0;
          y = reached r.exponent r.matrix 1 (slice_index p 1) r.y c.decoded-y.result r.y_is c.decoded-y.ensures below.1;
          z = reached r.exponent r.matrix 2 (slice_index p 2) r.z c.decoded-z.result r.z_is c.decoded-z.ensures below.2;
        },
      ),
      λ _. refl,
    )

pub returns-then-is_in_reach-clause-cut : goal.returns-then-is_in_reach-clause-cut
returns-then-is_in_reach-clause-cut c =
    let r = c.args.self.now in let p = c.args.position.now in
    let below = c.is_in_reach.ensures.0 c.if-is_in_reach.true in
    record {
      x = column_cut r.exponent r.matrix 0 (slice_index p 0) r.x c.decoded-x.result c.terms.result r.x_is c.decoded-x.ensures below.0 c.terms.ensures;
      y = column_cut r.exponent r.matrix 1 (slice_index p 1) r.y c.decoded-y.result c.terms-then-is_in_reach.result r.y_is c.decoded-y.ensures below.1 c.terms-then-is_in_reach.ensures;
      z = column_cut r.exponent r.matrix 2 (slice_index p 2) r.z c.decoded-z.result c.terms-then-is_in_reach-2.result r.z_is c.decoded-z.ensures below.2 c.terms-then-is_in_reach-2.ensures;
    }
