use Rattle.std.proofs.Common.{◌≡◌, ◌<◌, arith, subst}
use Rattle.maskcull_c.specs.Picture.{AreDrawn, shade_of_pixel}
use Rattle.maskcull_c.proofs.Pictures.{row_within, rows_more, rows_none}
use Rattle.maskcull_c.proofs.picture.draw_rows.Goals as goal

pub loop-y-init : goal.loop-y-init
loop-y-init c = rows_none c.args.size.width c.args.stride (shade_of_pixel c.args.grade c.args.size c.args.tiles.now) c.args.out.now

pub draw_row-requires-clause-room : goal.draw_row-requires-clause-room
draw_row-requires-clause-room c =
    let lt : c.loop-y.y < c.args.size.height = omega (arith, c.loop-y-test.true, c.height-y-end.ensures.value) in
    let room = row_within c.args.size c.args.stride c.loop-y.y c.args.out.now c.requires.room lt in
    let same = c.loop-y.invariant.whole in
    omega (arith, room, same)

pub loop-y-preserved : goal.loop-y-preserved
loop-y-preserved c =
    rows_more c.args.size.width c.args.stride c.loop-y.y (shade_of_pixel c.args.grade c.args.size c.args.tiles.now) c.args.out.now c.loop-y.out c.draw_row.new.out c.requires.room.wide c.loop-y.invariant c.draw_row.ensures

pub returns : goal.returns
returns c =
    let end : c.loop-y.y ≡ c.args.size.height = omega (arith, c.loop-y-test.false, c.height-y-end.ensures.value, c.loop-y.auto.y-end) in
    subst (λ n. AreDrawn c.args.size.width c.args.stride n (shade_of_pixel c.args.grade c.args.size c.args.tiles.now) c.args.out.now c.loop-y.out) end c.loop-y.invariant
