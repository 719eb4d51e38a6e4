use Rattle.std.proofs.Common.{refl}
use Rattle.rect_query.specs.References.{bare_tile}
use Rattle.rect_query.proofs.settled.bare_tile.Goals as goal

pub returns : goal.returns
unfolding bare_tile
returns c =
    let a = c.bare_sub.ensures in let b = c.bare_sub-2.ensures in let d = c.bare_sub-3.ensures in let e = c.bare_sub-4.ensures in
    let f = c.bare_sub-5.ensures in let g = c.bare_sub-6.ensures in let h = c.bare_sub-7.ensures in let i = c.bare_sub-8.ensures in
    rw (c.of.ensures.value, a, b, d, e, f, g, h, i, c.count.ensures) refl
