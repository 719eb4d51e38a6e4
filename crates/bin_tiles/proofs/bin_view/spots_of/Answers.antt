use Rattle.std.proofs.Common.{◌≡◌, ◌∷◌, [], List, length, get_or, arith, ap, sym, subst}
use Rattle.std.proofs.lemmas.List.{length-append}
use Rattle.bin_tiles.specs.BinViews.{spot_of}
use Rattle.bin_tiles.specs.declared.bin_view.Spot.{Spot}
use Rattle.bin_tiles.proofs.Lists.{pushed_at}
use Rattle.bin_tiles.proofs.bin_view.spots_of.Goals as goal

pub loop-tile-preserved : goal.loop-tile-preserved
loop-tile-preserved c =
    let size = c.args.size in let cut = c.args.cut.now in
    let old = c.loop-tile.invariant in
    let items = c.push_reserved.ensures.items in
    let spot : Spot = record { bin = c.bin_of_tile-bin.result; place = c.tile_at-place.result } in
    let is : spot ≡ spot_of size cut c.loop-tile.tile = λ i. record { bin = c.bin_of_tile-bin.ensures.value i; place = c.tile_at-place.ensures.value i } in
    record {
      made = (let n = ap length items in omega (arith, n, length-append c.loop-tile.spots.items (spot ∷ []), old.made));
      each = λ t d lt. subst (λ (xs : List Spot). get_or xs t d ≡ spot_of size cut t) (sym items)
          (pushed_at (λ k (x : Spot). x ≡ spot_of size cut k) c.loop-tile.tile c.loop-tile.spots.items spot old.made old.each is t d lt);
      room = omega (arith, old.room, c.push_reserved.ensures.capacity);
    }
