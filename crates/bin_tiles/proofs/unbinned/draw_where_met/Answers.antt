use Rattle.std.proofs.Common.{◌≡◌, ◌+◌, arith, ap, sym, ◌∙◌, subst}
use Rattle.cull_base.specs.Piece.{box_of}
use Rattle.cull_base.specs.Rectangle.{meets}
use Rattle.cull_base.specs.Screen.{Dimensions, IsSize}
use Rattle.binning.specs.Bins.{bin_rect_of}
use Rattle.binning.specs.Places.{meets_at}
use Rattle.binning.proofs.BinSpans.{bin_is_span}
use Rattle.binning.proofs.Places.{meets_at-is}
use Rattle.bin_tiles.proofs.Counting.{drawn_missed, drawn_more, drawn_within}
use Rattle.bin_tiles.proofs.PlacesInTurn.{moved}
use Rattle.bin_tiles.proofs.unbinned.draw_where_met.Given as given
use Rattle.bin_tiles.proofs.unbinned.draw_where_met.Goals as goal
use Rattle.bin_tiles.proofs.unbinned.draw_where_met.Goals.{After-is_met}

pub draw_next-requires-clause-window : goal.draw_next-requires-clause-window
draw_next-requires-clause-window g c κs within = bin_is_span c.args.screen.now.list.now.list.size c.args.screen.now.cut.now c.args.bin c.columns-columns.ensures.valid c.requires.bin

pub overflow_add-result : goal.overflow_add-result
overflow_add-result g c =
    let most = drawn_within c.args.screen.now.list.now.list c.args.screen.now.cut.now c.args.bin c.args.index in
    omega (arith, most, c.requires.taken, c.requires.index, c.len-len.ensures.value, c.len-len.ensures.within, c.len-len.ensures.small)

-- what the test says of the piece's box
told : (g : given.Over) (c : After-is_met g) → let list = c.args.screen.now.list.now.list in meets_at (bin_rect_of list.size c.args.screen.now.cut.now c.args.bin) list.members c.args.index ≡ c.is_met.result
told g c =
    let list = c.args.screen.now.list.now.list in
    meets_at-is (bin_rect_of list.size c.args.screen.now.cut.now c.args.bin) list.members c.args.index c.get.result.now c.requires.index (sym c.get.ensures)
    ∙ ap (meets (box_of c.get.result.now)) (sym c.requires.rect) ∙ sym c.is_met.ensures

pub returns-then-is_met-clause-taken : goal.returns-then-is_met-clause-taken
returns-then-is_met-clause-taken g c =
    let met = told g (goal.at.returns-then-is_met-clause-taken g c).After-is_met ∙ c.if-is_met.true in
    ap (λ k. k + 1) c.requires.taken ∙ sym (drawn_more c.args.screen.now.list.now.list c.args.screen.now.cut.now c.args.bin c.args.index met)

pub returns-else-is_met-clause-taken : goal.returns-else-is_met-clause-taken
returns-else-is_met-clause-taken g c =
    let off = told g (goal.at.returns-else-is_met-clause-taken g c).After-is_met ∙ c.if-is_met.false in
    c.requires.taken ∙ sym (drawn_missed c.args.screen.now.list.now.list c.args.screen.now.cut.now c.args.bin c.args.index off)

pub returns-else-is_met-clause-stands : goal.returns-else-is_met-clause-stands
returns-else-is_met-clause-stands g c =
    let list = c.args.screen.now.list.now.list in
    let sized = subst (λ (s : Dimensions). IsSize s.width s.height) c.size.ensures c.width-width.ensures.valid in
    let off = told g (goal.at.returns-else-is_met-clause-stands g c).After-is_met ∙ c.if-is_met.false in
    moved g.K.Keeper.stands g.met.K.Keeper.passes c.args.screen.now.beside.now list c.args.screen.now.cut.now c.args.bin sized c.columns-columns.ensures.valid c.args.index (c.args.index + 1) c.args.keeper.now (omega arith)
    (λ n le lt. let here : n ≡ c.args.index = omega (arith, le, lt) in ap (meets_at (bin_rect_of list.size c.args.screen.now.cut.now c.args.bin) list.members) here ∙ off) c.requires.stands
