use Rattle.std.proofs.Common.{◌≡◌, ◌≢◌, ◌∷◌, [], None, Some, length, length-set, get_or, arith, ap, sym, ◌∙◌, subst, List}
use Rattle.std.proofs.lemmas.List.{get_or-set_other, length-append}
use Rattle.tile_cells.specs.Cells.{Writing}
use Rattle.bin_tiles.proofs.Lists.{pushed_at}
use Rattle.tile_queues.proofs.tile_slots.empty_slots.Goals as goal

pub loop-tile-preserved : goal.loop-tile-preserved
loop-tile-preserved c =
    let old = c.loop-tile.invariant in
    let slots = c.args.slots.now in
    let tile = c.loop-tile.tile in
    let w = c.take_writer.result in
    let items = c.push_reserved.ensures.items in
    let here : get_or slots tile None ≡ Some w = sym (old.left tile (omega (arith))) ∙ c.take_writer.ensures.taken in
    record {
      whole = ap length c.take_writer.ensures.left ∙ length-set c.loop-tile.slots tile None ∙ old.whole;
      left = λ t from. let other : t ≢ tile = (λ same. omega (arith, same, from)) in
          ap (λ (l : List _). get_or l t None) c.take_writer.ensures.left ∙ get_or-set_other c.loop-tile.slots tile t None None other ∙ old.left t (omega (arith, from));
      made = (let m = ap length items in omega (arith, m, length-append c.loop-tile.room.items (w ∷ []), old.made));
      each = λ t d lt. subst (λ (ws : List Writing). get_or slots t None ≡ Some (get_or ws t d)) (sym items)
          (pushed_at (λ k (x : Writing). get_or slots k None ≡ Some x) tile c.loop-tile.room.items w old.made (λ k e below. old.each k e below) here t d lt);
      room = omega (arith, old.room, c.push_reserved.ensures.capacity);
    }
