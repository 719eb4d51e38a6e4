use Rattle.std.proofs.Common.{◌≡◌, ◌∷◌, [], List, length, get_or, arith, ap, sym, subst, ◌∙◌}
use Rattle.std.proofs.lemmas.List.{length-append}
use Rattle.cull_base.specs.Screen.{Dimensions}
use Rattle.binning.specs.Bins.{bin_rect_of}
use Rattle.binning.specs.Rooms.{RoomOf}
use Rattle.bin_tiles.proofs.Lists.{pushed_at}
use Rattle.bin_tiles.proofs.one_worker.make_rooms.Goals as goal

pub loop-bin-preserved : goal.loop-bin-preserved
loop-bin-preserved c =
    let old = c.loop-bin.invariant in
    let items = c.push_reserved.ensures.items in
    let room = c.in_ok-room.room in
    let rect = ap (λ (r : RoomOf). r.rect) c.in_ok-room.ensures ∙ ap (λ (s : Dimensions). bin_rect_of s c.args.cut.now c.loop-bin.bin) c.size.ensures in
    record {
      made = (let n = ap length items in omega (arith, n, length-append c.loop-bin.rooms.items (room ∷ []), old.made));
      each = λ i r lt. subst (λ (xs : List RoomOf). (get_or xs i r).rect ≡ bin_rect_of c.args.list.now.list.size c.args.cut.now i) (sym items)
          (pushed_at (λ k x. x.rect ≡ bin_rect_of c.args.list.now.list.size c.args.cut.now k) c.loop-bin.bin c.loop-bin.rooms.items room old.made old.each rect i r lt);
      room = omega (arith, old.room, c.push_reserved.ensures.capacity);
    }
