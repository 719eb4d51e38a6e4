use Rattle.inward_pieces.proofs.Fans.{one_more, length_one_more}
use Rattle.inward_pieces.proofs.fan.fan.Goals as goal

pub loop-spot-preserved : goal.loop-spot-preserved
loop-spot-preserved c =
    let l = c.loop-spot in
    record {
      before = c.in_ok-corner.ensures;
      pieces = one_more c.args.eye.now c.args.forms.now c.in_ok-first.first l.before c.in_ok-corner.corner l.pieces c.with-pieces.result c.piece.result
          c.piece.ensures c.in_ok-first.ensures l.invariant.before c.in_ok-corner.ensures c.with-pieces.ensures l.invariant.pieces;
      few = length_one_more l.pieces c.with-pieces.result c.piece.result l.spot-index c.with-pieces.ensures l.invariant.few;
    }
