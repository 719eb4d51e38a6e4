use Rattle.std.proofs.Common.{pos, ◌<ℤ◌, FitsSigned, w64, arith, rules}
use Rattle.std.proofs.lemmas.Int.{ints}
use Rattle.snap_setup.proofs.Areas.{turned_area}
use Rattle.snap_setup.proofs.triangle.piece.Goals as goal

pub screen_tri-requires-clause-area : goal.screen_tri-requires-clause-area
screen_tri-requires-clause-area c =
    let f : FitsSigned w64 c.doubled_area-area.result = search rules in
    let lt : c.doubled_area-area.result <ℤ pos 0 = omega (arith, ints, c.if-area-lt0.true) in
    turned_area c.args.a.now c.args.b.now c.args.c.now c.doubled_area-area.result c.doubled_area-area.ensures lt
