use Rattle.std.proofs.Common.{◌<◌, length, arith, refl, sym, ap, ◌∙◌, length-set}
use Rattle.std.specs.Prelude.{slice_index}
use Rattle.cull_base.specs.Screen.{tile_count_of}
use Rattle.cull_base.specs.Tiles.{PieceList}
use Rattle.cull_report.specs.Scene.{size_of}
use Rattle.frame_reports.proofs.LiveLooks.{list_size, with_at}
use Rattle.frame_reports.proofs.Marks.{marked_all, marked_next, marks_next, marks_whole, no_marks}
use Rattle.frame_reports.proofs.live_caller.mark_settled.Goals as goal

pub loop-object-init : goal.loop-object-init
loop-object-init g c = record {
  told = ((λ o t. 0), no_marks c.args.watched.now.scene.now c.args.watched.now.frame c.args.reader.now c.args.marks.now.items);
  marked = λ o lt. absurd (omega arith);
  reader = c.requires.reader;
  follows = record { cells = refl; list = refl; seen = λ t lt. omega arith };
  size = c.requires.size;
  count = refl;
}

pub loop-object-preserved : goal.loop-object-preserved
loop-object-preserved g c =
    let w = c.args.watched.now in
    let s = w.scene.now in
    let so_far = c.loop-object.invariant in
    let k = c.loop-object.object in
    let marks = c.loop-object.marks.items in
    let objects = ap length c.objects.ensures in
    let lt : k < length marks = omega (arith, c.loop-object-test.true, so_far.count, c.requires.marks, objects) in
    let read = c.is_settled.ensures.reader in
    let (seen, so) = so_far.told in
    let tiles = ap (λ (l : PieceList). tile_count_of l.size) (sym so_far.follows.list ∙ so_far.reader.list_is) ∙ ap tile_count_of (list_size s w.frame) in
    record {
      told = (
        with_at seen k (λ t. slice_index c.is_settled.new.reader.seen t),
        marks_next s w.frame seen c.args.reader.now c.loop-object.reader c.is_settled.new.reader k marks c.is_settled.result so lt c.is_settled.ensures.value
            (λ t on. so_far.follows.seen t (omega (arith, on, tiles, c.len-tiles.ensures.cells))) c.is_settled.ensures.rises,
      );
      marked = marked_next s w.frame k marks c.is_settled.result so_far.marked lt c.is_settled.ensures.settled;
      reader = read;
      follows = record {
        cells = read.of ∙ sym c.requires.reader.of;
        list = read.list_is ∙ sym so_far.reader.list_is ∙ so_far.follows.list;
        seen = λ t below.
            let on : t < tile_count_of (size_of s) = omega (arith, below, tiles, c.len-tiles.ensures.cells) in
            let a = so_far.follows.seen t below in let b = c.is_settled.ensures.rises t on in omega (arith, a, b);
      };
      size = c.is_settled.ensures.size;
      count = length-set marks k c.is_settled.result ∙ so_far.count;
    }

pub returns-clause-value : goal.returns-clause-value
returns-clause-value g c =
    let s = c.args.watched.now.scene.now in
    let objects = ap length c.objects.ensures in
    let (seen, so) = c.loop-object.invariant.told in
    marks_whole s c.args.watched.now.frame seen c.args.reader.now c.loop-object.reader c.loop-object.object c.loop-object.marks.items so (omega (arith, c.loop-object-test.false, objects))

pub returns-clause-settled : goal.returns-clause-settled
returns-clause-settled g c =
    let s = c.args.watched.now.scene.now in
    let objects = ap length c.objects.ensures in
    marked_all s c.args.watched.now.frame c.loop-object.object c.loop-object.marks.items c.loop-object.invariant.marked (omega (arith, c.loop-object-test.false, objects))
