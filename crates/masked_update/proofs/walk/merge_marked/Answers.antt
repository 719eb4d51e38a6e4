use Rattle.std.proofs.Common.{◌+◌, ◌-◌, arith, w32}
use Rattle.std.proofs.lemmas.Nat.{and_le_r}
use Rattle.std.specs.Int.{trailing_zeros}
use Rattle.masked_update.specs.Taken.{merged_tile}
use Rattle.masked_update.proofs.LowestBit.{without_lowest}
use Rattle.masked_update.proofs.Marks.{all_done, is_done, lowest_inside, lowest_within, none_done, one_done}
use Rattle.masked_update.proofs.Tiles.{tile_with}
use Rattle.masked_update.proofs.Walks.{none_changed, number_inside, number_on, row_here}
use Rattle.masked_update.proofs.walk.merge_marked.Goals as goal

pub overflow_add-place : goal.overflow_add-place
overflow_add-place c =
    let inv = c.loop-left.invariant in
    let lt = lowest_inside c.args.span.first_column c.args.span.end_column c.args.bits c.loop-left.left c.loop-left-test.true inv.byte inv.among c.requires.within in
    record { fits = omega (arith, lt, c.requires.span.columns_within, c.tile_columns-columns.ensures.value, c.tile_columns-columns.ensures.small) }

pub overflow_cast-place : goal.overflow_cast-place
overflow_cast-place c =
    let inv = c.loop-left.invariant in
    let lt = lowest_inside c.args.span.first_column c.args.span.end_column c.args.bits c.loop-left.left c.loop-left-test.true inv.byte inv.among c.requires.within in
    record { fits = omega (arith, lt, c.requires.span.columns_within, c.tile_columns-columns.ensures.value, c.tile_columns-columns.ensures.small) }

pub merge-requires-clause-column : goal.merge-requires-clause-column
merge-requires-clause-column c =
    let inv = c.loop-left.invariant in
    let lt = lowest_inside c.args.span.first_column c.args.span.end_column c.args.bits c.loop-left.left c.loop-left-test.true inv.byte inv.among c.requires.within in
    omega (arith, lt, c.requires.span.columns_within)

pub merge-requires-clause-inner : goal.merge-requires-clause-inner
merge-requires-clause-inner c is =
    let inv = c.loop-left.invariant in
    let lt = lowest_inside c.args.span.first_column c.args.span.end_column c.args.bits c.loop-left.left c.loop-left-test.true inv.byte inv.among c.requires.within in
    let (columns, rows) = c.requires.inner is in
    (omega (arith, lt, columns), omega (arith, c.requires.row.1, rows))

pub merge-requires-clause-tile : goal.merge-requires-clause-tile
merge-requires-clause-tile c =
    let old = c.args.canvas.now in
    let span = c.args.span in
    let inv = c.loop-left.invariant in
    let j = trailing_zeros w32 c.loop-left.left in
    let lt = lowest_inside c.args.span.first_column span.end_column c.args.bits c.loop-left.left c.loop-left-test.true inv.byte inv.among c.requires.within in
    let here = row_here old.window span c.args.at.row (c.args.span.first_column + j) c.requires.part c.requires.row.0 c.requires.row.1 (omega arith) lt in
    let number = number_on old.window span.first_column c.args.at.row c.args.at.number j c.requires.part.first_column c.requires.number in
    let inside = number_inside (is_done c.args.at.row c.args.span.first_column c.args.bits c.loop-left.left) (λ p t. merged_tile c.args.reached.now.size p c.args.piece.now t) old c.loop-left.canvas (tile_with (c.args.span.first_column + j) c.args.at.row) inv.changed here in
    omega (arith, number, inside)

pub loop-left-init : goal.loop-left-init
loop-left-init c = record {
  changed = none_changed (is_done c.args.at.row c.args.span.first_column c.args.bits c.args.bits) (λ p t. merged_tile c.args.reached.now.size p c.args.piece.now t) c.args.canvas.now c.window-window.ensures.whole (none_done c.args.at.row c.args.span.first_column c.args.bits);
  byte = c.requires.byte;
  among = λ i lt set. set;
}

pub loop-left-smaller : goal.loop-left-smaller
loop-left-smaller c = let less = and_le_r c.loop-left.left (c.loop-left.left - 1) in omega (arith, less, c.loop-left-test.true)

pub loop-left-preserved : goal.loop-left-preserved
loop-left-preserved c =
    let old = c.args.canvas.now in
    let span = c.args.span in
    let inv = c.loop-left.invariant in
    let j = trailing_zeros w32 c.loop-left.left in
    let lowest = lowest_within c.loop-left.left c.loop-left-test.true inv.byte in
    let lt = lowest_inside c.args.span.first_column span.end_column c.args.bits c.loop-left.left c.loop-left-test.true inv.byte inv.among c.requires.within in
    let here = row_here old.window span c.args.at.row (c.args.span.first_column + j) c.requires.part c.requires.row.0 c.requires.row.1 (omega arith) lt in
    let number = number_on old.window span.first_column c.args.at.row c.args.at.number j c.requires.part.first_column c.requires.number in
    one_done c.args.reached.now.size c.args.piece.now c.args.at.row c.args.span.first_column c.args.bits c.loop-left.left j _ old c.loop-left.canvas c.merge.new.self _ lowest.0 lowest.1
    (without_lowest c.loop-left.left c.loop-left-test.true (omega (arith, inv.byte))) inv here number c.merge.ensures

pub returns : goal.returns
returns c =
    all_done c.args.reached.now.size c.args.piece.now c.args.at.row c.args.span.first_column c.args.bits c.loop-left.left c.args.canvas.now c.loop-left.canvas c.loop-left-test.false c.loop-left.invariant
