use Rattle.std.proofs.Common.{◌-◌, arith, refl, w32}
use Rattle.std.proofs.lemmas.Nat.{and_le_r}
use Rattle.std.specs.Int.{trailing_zeros}
use Rattle.masked_update.proofs.LowestBit.{without_lowest}
use Rattle.masked_update.proofs.Marks.{lowest_within}
use Rattle.masked_update.proofs.SmallSteps.{all_merged, none_merged, one_merged, references_kept}
use Rattle.masked_update.proofs.small_piece.SmallPiece.merge_among.Goals as goal

pub merge_at-raised-requires-clause-j : goal.merge_at-raised-requires-clause-j
merge_at-raised-requires-clause-j c = (lowest_within c.loop-left.left c.loop-left-test.true c.loop-left.invariant.merged.byte).0

pub loop-left-init : goal.loop-left-init
loop-left-init c = record {
  merged = none_merged c.args.self.now c.args.place c.args.wanted c.args.layers.now c.requires.byte c.requires.eight;
  same = λ e j. refl;
}

pub loop-left-smaller : goal.loop-left-smaller
loop-left-smaller c = let less = and_le_r c.loop-left.left (c.loop-left.left - 1) in omega (arith, less, c.loop-left-test.true)

pub loop-left-preserved : goal.loop-left-preserved
loop-left-preserved c =
    let inv = c.loop-left.invariant in
    let lowest = lowest_within c.loop-left.left c.loop-left-test.true inv.merged.byte in
    let without = without_lowest c.loop-left.left c.loop-left-test.true (omega (arith, inv.merged.byte)) in
    record {
      merged = one_merged c.args.self.now c.args.place c.args.wanted c.loop-left.left (trailing_zeros w32 c.loop-left.left) _ c.args.layers.now c.loop-left.layers c.merge_at-raised.new.layers lowest.0 lowest.1 without inv.merged c.merge_at-raised.ensures.merged;
      same = references_kept c.loop-left.raised c.merge_at-raised.result c.args.layers.now c.loop-left.layers c.merge_at-raised.new.layers inv.same c.merge_at-raised.ensures.same;
    }

pub returns-clause-merged : goal.returns-clause-merged
returns-clause-merged c =
    all_merged c.args.size c.args.place c.args.self.now c.args.wanted c.loop-left.left c.args.layers.now c.loop-left.layers c.requires.wanted c.loop-left.invariant.merged c.loop-left-test.false

pub returns-clause-same : goal.returns-clause-same
returns-clause-same c = c.loop-left.invariant.same
