use Rattle.std.proofs.Common.{◌≡◌, ◌+◌, ◌%◌, ◌++◌, [], ◌∷◌, length, length-append, arith, sym, ap, subst}
use Rattle.cull_report.specs.Live.{LiveLineOf}
use Rattle.tile_cells.proofs.Lists.{pushed_at}
use Rattle.frame_reports.specs.LiveFrames.{HaveRoom, RoomFor}
use Rattle.frame_reports.proofs.live_frame.make_lines.Goals as goal

pub loop-place-preserved : goal.loop-place-preserved
loop-place-preserved c =
    let s = c.args.watched.now.scene.now in let frame = c.args.watched.now.frame in let n = c.args.watched.now.objects in
    let so_far = c.loop-place.invariant in
    let k = c.loop-place.place in
    let lines = c.loop-place.lines.items in
    let line = c.in_ok-line.line in
    let grown : length (lines ++ line ∷ []) ≡ k + 1 = omega (arith, length-append lines (line ∷ []), so_far.count) in
    record {
      count = omega (arith, ap length c.push_reserved.ensures.items, grown);
      space = omega (arith, so_far.space, c.push_reserved.ensures.capacity);
      room = subst (HaveRoom s frame n) (sym c.push_reserved.ensures.items) (λ i d lt.
          pushed_at (λ t (l : LiveLineOf). RoomFor s frame (t % n) l.room) k lines line so_far.count (λ t e below. so_far.room t e (omega (arith, below, so_far.count))) c.in_ok-line.ensures i d (omega (arith, lt, grown)));
    }
