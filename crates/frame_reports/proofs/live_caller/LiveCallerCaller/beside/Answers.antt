use Rattle.std.proofs.Common.{◌<◌, length, arith, refl, sym, ap, ◌∙◌, length-set}
use Rattle.std.specs.Prelude.{slice_index}
use Rattle.cull_base.specs.Screen.{tile_count_of}
use Rattle.cull_base.specs.Tiles.{PieceList}
use Rattle.cull_report.specs.Live.{LiveLineOf}
use Rattle.cull_report.specs.Scene.{size_of}
use Rattle.frame_reports.proofs.LiveLooks.{list_size, none_so_far, room_kept, so_far_next, with_at}
use Rattle.frame_reports.proofs.live_caller.LiveCallerCaller.beside.Goals as goal

pub loop-place-init : goal.loop-place-init
loop-place-init g c =
    let w = c.args.self.now.watched in
    record {
      looked = ((λ i t. 0), none_so_far w.scene.now w.frame w.objects c.args.self.now.lines.items c.args.reader.now);
      reader = record { of = c.requires.reader.of; list_is = c.requires.ready.list_is };
      follows = record { cells = refl; list = refl; seen = λ t lt. omega arith };
      size = c.requires.ready.size_is;
      room = c.requires.ready.room;
      same = refl;
      count = refl;
      marks = refl;
    }

pub loop-place-preserved : goal.loop-place-preserved
loop-place-preserved g c =
    let w = c.loop-place.self.watched in
    let s = w.scene.now in
    let so_far = c.loop-place.invariant in
    let (seen, so) = so_far.looked in
    let k = c.loop-place.place in
    let lines = c.loop-place.self.lines.items in
    let r = c.loop-place.reader in let r' = c.look.new.reader in
    let lt : k < length lines = omega (arith, c.loop-place-test.true, so_far.count, c.len-place-end.ensures) in
    let read = c.look.ensures.reader in
    record {
      looked = (with_at seen k (λ t. slice_index r'.seen t), so_far_next s w.frame w.objects seen k lines r r' c.look.new.line so lt c.look.ensures.told c.look.ensures.rises);
      reader = read;
      follows = record {
        cells = read.of ∙ sym c.requires.reader.of;
        list = read.list_is ∙ sym so_far.reader.list_is ∙ so_far.follows.list;
        seen = λ t below.
            let tiles = ap (λ (l : PieceList). tile_count_of l.size) (sym so_far.follows.list ∙ so_far.reader.list_is) ∙ ap tile_count_of (list_size s w.frame) in
            let on : t < tile_count_of (size_of s) = omega (arith, below, tiles, c.len-tiles.ensures.cells) in
            let a = so_far.follows.seen t below in let b = c.look.ensures.rises t on in omega (arith, a, b);
      };
      size = c.look.ensures.size;
      room = room_kept s w.frame w.objects lines k c.look.new.line c.index_mut.result.now so_far.room lt (c.look.ensures.room ∙ ap (λ (l : LiveLineOf). l.room) c.index_mut.ensures.value);
      same = so_far.same;
      count = length-set lines k c.look.new.line ∙ so_far.count;
      marks = so_far.marks;
    }
