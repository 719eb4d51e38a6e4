use Rattle.std.proofs.Common.{◌≡◌, ◌+◌, ◌-◌, ◌<◌, ℕ, bit_and, length, arith, subst}
use Rattle.std.specs.Int.{bit_at}
use Rattle.std.proofs.lemmas.Nat.{and_le_l}
use Rattle.std.proofs.lemmas.Nat.Bits.{bit_at_and, bit_at-lt}
use Rattle.masked_update.specs.Canvas.{tile_on}
use Rattle.masked_update.specs.Least.{NoneBelow}
use Rattle.masked_update.specs.TileOf.{tile_at}
use Rattle.masked_update.proofs.Covering.{covers_none}
use Rattle.masked_update.proofs.Marks.{none_marked, row_merged, stay_where_clear}
use Rattle.masked_update.proofs.Tiles.{number_within, tile_with}
use Rattle.masked_update.proofs.Walks.{number_on, row_here}
use Rattle.masked_update.proofs.walk.merge_in_row.Goals as goal

-- a bit that is set in both, and one that is clear in the second alone
first_set : (a b i : ℕ) → bit_at (bit_and a b) i ≡ 1 → bit_at a i ≡ 1
first_set a b i one = let both = bit_at_and a b i in let small = bit_at-lt a i in omega (arith, both, one, small)

second_clear : (a b i : ℕ) → bit_at a i ≡ 1 → bit_at (bit_and a b) i ≡ 0 → bit_at b i ≡ 0
second_clear a b i one clear = let both = bit_at_and a b i in omega (arith, both, one, clear)

pub marks_from-marked-requires-clause-within : goal.marks_from-marked-requires-clause-within
marks_from-marked-requires-clause-within c =
    let window = c.args.canvas.now.window in
    let span = c.args.span in
    let some = c.requires.some in
    let last = span.end_column - span.first_column - 1 in
    let here = row_here window span c.args.at.row (span.first_column + last) c.requires.part c.requires.row.0 c.requires.row.1 (omega arith) (omega (arith, some)) in
    let number = number_on window span.first_column c.args.at.row c.args.at.number last c.requires.part.first_column c.requires.number in
    let inside = number_within window (tile_with (span.first_column + last) c.args.at.row) here in
    let whole = c.window-window.ensures.whole in
    omega (arith, number, inside, whole, some)

pub merge_marked-requires-clause-within : goal.merge_marked-requires-clause-within
merge_marked-requires-clause-within c i lt one =
    let below = c.marks_from-marked.ensures.among i lt (first_set c.marks_from-marked.result c.ahead_among.result i one) in
    omega (arith, below, c.requires.some)

pub returns-then-marked-ne0 : goal.returns-then-marked-ne0
returns-then-marked-ne0 c =
    let span = c.args.span in
    let size = c.args.reached.now.size in
    let x = c.args.piece.now in
    let row = c.args.at.row in
    let old = c.args.canvas.now in
    let column = span.first_column in
    let count = span.end_column - span.first_column in
    let marked = c.marks_from-marked.result in
    let marks = c.marks_from-marked.ensures in
    let ahead = c.ahead_among.result in
    let on = λ (i : ℕ). number_on old.window column row c.args.at.number i c.requires.part.first_column c.requires.number in
    let behind = λ (i : ℕ) (below : i < count) (clear : bit_at marked i ≡ 0). subst (λ q. NoneBelow q (tile_on old (tile_with (column + i) row))) c.requires.nearest (subst (λ n. NoneBelow c.args.nearest (tile_at old.tiles n)) (on i) (marks.behind i below clear)) in
    let eight = λ (i : ℕ) (below : i < count). subst (λ n. length (tile_at old.tiles n).subs ≡ 8) (on i) (marks.eight i below) in
    row_merged span size x row count (bit_and marked ahead) old c.merge_marked.new.canvas
    (let less = and_le_l marked ahead in omega (arith, less, marks.byte))
    (λ i below one. marks.among i below (first_set marked ahead i one))
    (stay_where_clear size x row column count marked (bit_and marked ahead) old c.requires.valid (omega (arith, c.requires.few)) behind eight
    (λ i below one clear.
    let inside = marks.among i below one in
    let within : column + i < 64 = omega (arith, inside, c.requires.span.columns_within, c.tile_columns-columns.ensures.value, c.tile_columns-columns.ensures.small) in
    covers_none c.over_row-over.result row x column ahead i c.over_row-over.ensures c.requires.small c.ahead_among.ensures.clear below within (second_clear marked ahead i one clear)))
    (omega (arith, c.requires.some)) c.window-window.ensures.whole c.merge_marked.ensures

pub returns-else-marked-ne0 : goal.returns-else-marked-ne0
returns-else-marked-ne0 c =
    let span = c.args.span in
    let size = c.args.reached.now.size in
    let x = c.args.piece.now in
    let row = c.args.at.row in
    let old = c.args.canvas.now in
    let column = span.first_column in
    let count = span.end_column - span.first_column in
    let marked = c.marks_from-marked.result in
    let marks = c.marks_from-marked.ensures in
    let on = λ (i : ℕ). number_on old.window column row c.args.at.number i c.requires.part.first_column c.requires.number in
    let behind = λ (i : ℕ) (below : i < count) (clear : bit_at marked i ≡ 0). subst (λ q. NoneBelow q (tile_on old (tile_with (column + i) row))) c.requires.nearest (subst (λ n. NoneBelow c.args.nearest (tile_at old.tiles n)) (on i) (marks.behind i below clear)) in
    let eight = λ (i : ℕ) (below : i < count). subst (λ n. length (tile_at old.tiles n).subs ≡ 8) (on i) (marks.eight i below) in
    row_merged span size x row count marked old old marks.byte marks.among
    (stay_where_clear size x row column count marked marked old c.requires.valid (omega (arith, c.requires.few)) behind eight (λ i below one clear. absurd (omega (arith, one, clear))))
    (omega (arith, c.requires.some)) c.window-window.ensures.whole (none_marked size x row column marked old c.window-window.ensures.whole c.if-marked-ne0.false)
