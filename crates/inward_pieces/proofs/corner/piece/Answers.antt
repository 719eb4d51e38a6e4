use Rattle.std.proofs.Common.{pos, ◌<ℤ◌, FitsSigned, w64, arith, rules}
use Rattle.std.proofs.lemmas.Int.{ints}
use Rattle.inward_pieces.proofs.Fans.{turned_area}
use Rattle.inward_pieces.proofs.corner.piece.Goals as goal

pub between-requires-clause-area : goal.between-requires-clause-area
between-requires-clause-area c =
    let f : FitsSigned w64 c.doubled_area-area.result = search rules in
    let lt : c.doubled_area-area.result <ℤ pos 0 = omega (arith, ints, c.if-area-lt0.true) in
    turned_area c.args.a.now c.args.b.now c.args.c.now c.doubled_area-area.result c.doubled_area-area.ensures lt
