use Rattle.std.proofs.Common.{◌≡◌, false}
use Rattle.masked_update.specs.Small.{HaveSameReferences}
use Rattle.masked_update.proofs.SmallSteps.{AreMergedBut}
use Rattle.masked_update.proofs.small_piece.SmallPiece.merge_among.Given as goal

abbrev pub invariant-loop-left : goal.invariant-loop-left
invariant-loop-left l = record {
  merged : AreMergedBut l.fn.self l.fn.place l.fn.wanted l.left l.initial.layers l.layers;
  same : l.raised ≡ false → HaveSameReferences l.initial.layers l.layers;
}

abbrev pub decreases-loop-left : goal.decreases-loop-left
decreases-loop-left l = l.left
