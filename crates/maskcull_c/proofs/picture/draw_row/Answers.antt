use Rattle.std.proofs.Common.{◌≡◌, ap, arith, ◌∙◌, subst}
use Rattle.maskcull_c.specs.Picture.{IsRow, shade_of, shade_of_pixel}
use Rattle.maskcull_c.proofs.Pictures.{row_more, row_none}
use Rattle.maskcull_c.proofs.picture.draw_row.Goals as goal

pub loop-x-init : goal.loop-x-init
loop-x-init c = row_none c.args.start (λ x. shade_of_pixel c.args.grade c.args.size c.args.tiles.now x c.args.y) c.args.out.now

pub loop-x-preserved : goal.loop-x-preserved
loop-x-preserved c =
    let x = c.loop-x.x in
    let inv = c.loop-x.invariant in
    let same = inv.whole in
    let room = c.requires.room in
    row_more c.args.start x c.shade.result (λ x. shade_of_pixel c.args.grade c.args.size c.args.tiles.now x c.args.y) c.args.out.now c.loop-x.out
    (omega (arith, c.loop-x-test.true, c.width-x-end.ensures.value, same, room)) (c.shade.ensures ∙ ap (shade_of c.args.grade) c.bound_of_pixel.ensures) inv

pub returns : goal.returns
returns c =
    let end : c.loop-x.x ≡ c.args.size.width = omega (arith, c.loop-x-test.false, c.width-x-end.ensures.value, c.loop-x.auto.x-end) in
    subst (λ n. IsRow c.args.start n (λ x. shade_of_pixel c.args.grade c.args.size c.args.tiles.now x c.args.y) c.args.out.now c.loop-x.out) end c.loop-x.invariant
