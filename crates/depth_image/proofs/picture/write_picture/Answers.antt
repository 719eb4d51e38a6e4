use Rattle.std.proofs.Common.{◌≡◌, ℕ, ◌+◌, ◌-◌, ◌*◌, ◌/◌, ◌≤◌, ◌++◌, List, [], length, Err, refl, arith, sym, ap, ◌∙◌, subst}
use Rattle.std.proofs.lemmas.List.{append-nil}
use Rattle.std.proofs.lemmas.Result.{err_from_is_err_and}
use Rattle.cull_base.specs.Stream.{Writes}
use Rattle.cull_base.proofs.Streams.{appends_then, writes_then, writes_no_more}
use Rattle.masked_update.specs.Views.{state_in}
use Rattle.depth_image.specs.Picture.{head_text, row_lines}
use Rattle.depth_image.proofs.Numbers.{left_below, piece_within, pieces_within, room_for}
use Rattle.depth_image.proofs.Pictures.{next_front, nothing_written, picture_after, picture_ends, rows_begin}
use Rattle.depth_image.proofs.picture.write_picture.Goals as goal

pub invariant_of-shown-clause-holds : goal.invariant_of-shown-clause-holds
invariant_of-shown-clause-holds g c = c.requires.holds

pub invariant_of-shown-clause-within : goal.invariant_of-shown-clause-within
invariant_of-shown-clause-within g c = c.requires.within

pub loop-piece-init : goal.loop-piece-init
loop-piece-init g c =
    let size = c.args.size in
    let states = state_in size (g.V.TileView.tile_of c.args.view.now) in
    let none : 0 ≡ c.rows_at_once-rows.result * 0 = omega arith in
    record {
      written = (
        [],
        nothing_written (g.W.Sink.says c.args.sink.now),
        c.head-text.ensures.value ∙ rows_begin size c.args.grade states ∙ ap (λ (n : ℕ). head_text size ++ row_lines size.width c.args.grade states 0 n) none,
      );
      short = c.head-text.ensures.short;
      faults = omega arith;
      refusals = omega arith;
    }

pub overflow_mul-start : goal.overflow_mul-start
overflow_mul-start g c =
    let within = piece_within c.rows_at_once-rows.result c.height-height.result c.loop-piece.piece c.loop-piece-test.true in
    omega (arith, within, c.height-height.ensures.value, c.height-height.ensures.valid.within_height)

pub push_rows-requires-clause-rows : goal.push_rows-requires-clause-rows
push_rows-requires-clause-rows g c =
    let within = piece_within c.rows_at_once-rows.result c.height-height.result c.loop-piece.piece c.loop-piece-test.true in
    omega (arith, within, c.height-height.ensures.value)

pub push_rows-requires-clause-room : goal.push_rows-requires-clause-room
push_rows-requires-clause-room g c = omega (arith, c.loop-piece.invariant.short, c.rows_at_once-rows.ensures.few)

pub loop-piece-preserved : goal.loop-piece-preserved
loop-piece-preserved g c =
    let size = c.args.size in let grade = c.args.grade in
    let states = state_in size (g.V.TileView.tile_of c.args.view.now) in
    let rows = c.rows_at_once-rows.result in
    let start = rows * c.loop-piece.piece in
    let so_far = c.loop-piece.invariant in
    let (front, written, is) = so_far.written in
    let s0 = g.W.Sink.says c.args.sink.now in
    let s1 = g.W.Sink.says c.loop-piece.sink in
    let s2 = g.W.Sink.says c.write_to.new.sink in
    let next = row_lines size.width grade states start rows in
    let text : c.push_rows.new.text ≡ c.loop-piece.text ++ next = c.push_rows.ensures in
    let piece = c.in_ok-write_to.ensures in
    let later : start + rows ≡ rows * (c.loop-piece.piece + 1) = omega arith in
    let whole : front ++ c.push_rows.new.text ≡ head_text size ++ row_lines size.width grade states 0 (rows * (c.loop-piece.piece + 1)) =
    ap (λ (t : List ℕ). front ++ t) text ∙ next_front size grade states front c.loop-piece.text start rows is
    ∙ ap (λ (n : ℕ). head_text size ++ row_lines size.width grade states 0 n) later in
    let after = front ++ c.push_rows.new.text in
    record {
      written = (after, appends_then s0 s1 s2 front c.push_rows.new.text written piece.ok, ap (λ (t : List ℕ). after ++ t) c.clear.ensures ∙ append-nil after ∙ whole);
      short = omega (arith, ap length c.clear.ensures);
      faults = omega (arith, so_far.faults, piece.faults_stay);
      refusals = omega (arith, so_far.refusals, piece.refusals_stay);
    }

pub returns-in_err-write_to : goal.returns-in_err-write_to
returns-in_err-write_to g c =
    let size = c.args.size in let grade = c.args.grade in
    let states = state_in size (g.V.TileView.tile_of c.args.view.now) in
    let rows = c.rows_at_once-rows.result in
    let start = rows * c.loop-piece.piece in
    let so_far = c.loop-piece.invariant in
    let (front, written, is) = so_far.written in
    let e = c.in_err-write_to.field-0.0 in
    let p = err_from_is_err_and c.from_residual.result c.from_residual.ensures.1 in
    let s0 = g.W.Sink.says c.args.sink.now in
    let s1 = g.W.Sink.says c.loop-piece.sink in
    let s2 = g.W.Sink.says c.write_to.new.sink in
    let piece = c.loop-piece.text ++ row_lines size.width grade states start rows in
    let left = row_lines size.width grade states (start + rows) (size.height - (start + rows)) in
    let within : start + rows ≤ size.height =
    (let most = piece_within rows c.height-height.result c.loop-piece.piece c.loop-piece-test.true in omega (arith, most, c.height-height.ensures.value)) in
    let failed : Writes s1 s2 (Err e) piece = subst (λ (t : List ℕ). Writes s1 s2 (Err e) t) c.push_rows.ensures c.in_err-write_to.ensures in
    let whole = writes_then s0 s1 s2 (Err e) front (piece ++ left) written so_far.faults so_far.refusals (writes_no_more s1 s2 e piece left failed) in
    rw (p.1, p.2) (subst (λ (t : List ℕ). Writes s0 s2 (Err e) t) (sym (picture_after size grade states front c.loop-piece.text start rows within is)) whole)

pub overflow_mul-done : goal.overflow_mul-done
overflow_mul-done g c =
    let within = pieces_within c.rows_at_once-rows.result c.height-height.result in
    omega (arith, within, c.height-height.ensures.value, c.height-height.ensures.valid.within_height)

pub overflow_sub-left : goal.overflow_sub-left
overflow_sub-left g c =
    let within = pieces_within c.rows_at_once-rows.result c.height-height.result in
    omega (arith, within, c.height-height.ensures.value)

pub push_rows-requires-2-clause-rows : goal.push_rows-requires-2-clause-rows
push_rows-requires-2-clause-rows g c =
    let within = pieces_within c.rows_at_once-rows.result c.height-height.result in
    omega (arith, within, c.height-height.ensures.value)

pub push_rows-requires-2-clause-room : goal.push_rows-requires-2-clause-room
push_rows-requires-2-clause-room g c =
    let rows = c.rows_at_once-rows.result in
    let left = c.height-height.result - rows * (c.height-height.result / rows) in
    let less = left_below rows c.height-height.result left c.rows_at_once-rows.ensures.some refl in
    let few = room_for left rows c.args.size.width less c.rows_at_once-rows.ensures.few in
    omega (arith, c.loop-piece.invariant.short, few)

pub returns : goal.returns
returns g c =
    let size = c.args.size in let grade = c.args.grade in
    let states = state_in size (g.V.TileView.tile_of c.args.view.now) in
    let rows = c.rows_at_once-rows.result in
    let done = rows * (c.height-height.result / rows) in
    let left = c.height-height.result - done in
    let so_far = c.loop-piece.invariant in
    let (front, written, told) = so_far.written in
    let s0 = g.W.Sink.says c.args.sink.now in
    let s1 = g.W.Sink.says c.loop-piece.sink in
    let s2 = g.W.Sink.says c.write_to-2.new.sink in
    let all : c.loop-piece.piece ≡ c.height-height.result / rows = omega (arith, c.loop-piece-test.false, c.loop-piece.auto.piece-end) in
    let is = told ∙ ap (λ (n : ℕ). head_text size ++ row_lines size.width grade states 0 (rows * n)) all in
    let within = pieces_within rows c.height-height.result in
    let end : done + left ≡ size.height = omega (arith, within, c.height-height.ensures.value) in
    let piece = c.loop-piece.text ++ row_lines size.width grade states done left in
    let last : Writes s1 s2 c.write_to-2.result piece = subst (λ (t : List ℕ). Writes s1 s2 c.write_to-2.result t) c.push_rows-2.ensures c.write_to-2.ensures in
    let whole = writes_then s0 s1 s2 c.write_to-2.result front piece written so_far.faults so_far.refusals last in
    subst (λ (t : List ℕ). Writes s0 s2 c.write_to-2.result t) (sym (picture_ends size grade states front c.loop-piece.text done left end is)) whole
