use Rattle.std.proofs.Common.{◌<◌, length, sym, subst, arith}
use Rattle.cull_base.specs.Piece.{box_of}
use Rattle.cull_base.specs.Screen.{Dimensions}
use Rattle.binning.specs.Pushed.{PushedWhere, is_met}
use Rattle.binning.proofs.Pushed.{none_got, one_got}
use Rattle.binning.proofs.fill.fill.Goals as goal

pub loop-index-init : goal.loop-index-init
loop-index-init c = none_got c.args.list.now.list c.args.grid.now.cut c.args.from c.args.parts.now

pub loop-index-preserved : goal.loop-index-preserved
loop-index-preserved c =
    let list = c.args.list.now.list in
    let cut = c.args.grid.now.cut in
    let index = c.loop-index.index in
    let x = c.get.result.now in
    let lt : index < length list.members = omega (arith, c.loop-index-test.true, c.requires.within) in
    let pushed = subst (λ (s : Dimensions). PushedWhere (is_met (record { size = s; cut = cut }) (box_of x)) index c.loop-index.parts c.push_piece.new.parts) c.requires.size c.in_ok-push_piece.ensures in
    one_got list cut c.args.from index x c.args.parts.now c.loop-index.parts c.push_piece.new.parts c.loop-index.auto.parts c.loop-index.auto.index lt (sym c.get.ensures) c.loop-index.invariant pushed
