use Rattle.std.proofs.Common.{◌≡◌, [], ◌+◌, ◌*◌, ◌<◌, arith, sym, ◌∙◌, ap, subst, length, set, true, false}
use Rattle.std.proofs.lemmas.Nat.{mul-add-lt, mul-le}
use Rattle.std.proofs.lemmas.List.{get_or_default}
use Rattle.binning.specs.Bins.{bin_span_of, has_tiles}
use Rattle.binning.specs.Parts.{part}
use Rattle.binning.specs.Pushed.{PushedWhere, part_at, with_index, is_bin_in_row}
use Rattle.binning.proofs.Pushed.{none_pushed, one_pushed, same_pushed, row_none, row_next, row_before, row_last, row_skipped}
use Rattle.binning.proofs.fill.push_in_row.Goals as goal
use Rattle.binning.proofs.fill.push_in_row.Goals.{then-has_tiles+in_ok-push, else-has_tiles}

pub overflow_mul-first : goal.overflow_mul-first
overflow_mul-first c =
    let is = c.columns.ensures.valid in
    let m = mul-le c.args.row c.columns.result 8 8 (omega (arith, c.requires.row, is.few_rows)) (omega (arith, c.columns.ensures.value, is.few_columns)) in
    omega (arith, m)

pub overflow_add-first : goal.overflow_add-first
overflow_add-first c =
    let is = c.columns.ensures.valid in
    let m = mul-le c.args.row c.columns.result 8 8 (omega (arith, c.requires.row, is.few_rows)) (omega (arith, c.columns.ensures.value, is.few_columns)) in
    omega (arith, m, c.loop-column-test.true, c.requires.columns, is.few_columns)

pub bounds-parts-first : goal.bounds-parts-first
bounds-parts-first c =
    let cut = c.args.grid.now.cut in
    let lt = mul-add-lt c.args.row cut.columns c.loop-column.column cut.rows c.requires.row (omega (arith, c.loop-column-test.true, c.requires.columns)) in
    let is : c.args.row * c.columns.result ≡ c.args.row * cut.columns = ap (λ n. c.args.row * n) c.columns.ensures.value in
    omega (arith, lt, is, c.loop-column.auto.parts, c.requires.parts)

pub loop-column-init : goal.loop-column-init
loop-column-init c = none_pushed (is_bin_in_row c.args.grid.now c.args.row c.args.columns.first c.args.columns.first) c.args.index c.args.parts.now (λ b _. row_none c.args.grid.now c.args.row c.args.columns.first b)

pub loop-column-preserved : goal.loop-column-preserved
loop-column-preserved c =
    let screen = c.args.grid.now in
    let row = c.args.row in
    let first = c.args.columns.first in
    let column = c.loop-column.column in
    let at = row * screen.cut.columns + column in
    let old = c.args.parts.now in
    let now = c.loop-column.parts in
    let lt : column < screen.cut.columns = omega (arith, c.loop-column-test.true, c.requires.columns) in
    let below = mul-add-lt row screen.cut.columns column screen.cut.rows c.requires.row lt in
    let within : at < length now = omega (arith, below, c.loop-column.auto.parts, c.requires.parts) in
    elim c.if-has_tiles.branch [
      | then-has_tiles+in_ok-push w ↦
          let on : has_tiles (bin_span_of screen.size screen.cut at) ≡ true = sym c.has_tiles.ensures ∙ w.if-has_tiles.true in
          let step = one_pushed (is_bin_in_row screen row first column) (is_bin_in_row screen row first (column + 1)) c.args.index at old now within
          (row_before screen row first column lt) (row_last screen row first column lt c.loop-column.auto.column ∙ on) (λ b ne. row_next screen row first column b lt ne) c.loop-column.invariant in
          let n = row * c.columns.result + column in
          let e : n ≡ at = ap (λ k. row * k + column) c.columns.ensures.value in
          let inside : n < length now = omega (arith, e, within) in
          let put : w.push.new.self ≡ with_index c.args.index (part_at now n) = w.in_ok-push.ensures ∙ ap (with_index c.args.index) (get_or_default now n _ (part 0 0 []) inside) in
          let is : c.if-has_tiles.parts ≡ set now at (with_index c.args.index (part_at now at)) = w.parts-is ∙ ap (set now n) put ∙ ap (λ k. set now k (with_index c.args.index (part_at now k))) e in
          subst (PushedWhere (is_bin_in_row screen row first (column + 1)) c.args.index old) (sym is) step
      | else-has_tiles w ↦
          let off : has_tiles (bin_span_of screen.size screen.cut at) ≡ false = sym c.has_tiles.ensures ∙ w.if-has_tiles.false in
          let step = same_pushed (is_bin_in_row screen row first column) (is_bin_in_row screen row first (column + 1)) c.args.index old now
          (λ b _. row_skipped screen row first column b lt off c.loop-column.auto.column) c.loop-column.invariant in
          subst (PushedWhere (is_bin_in_row screen row first (column + 1)) c.args.index old) (sym w.parts-is) step
    ]

pub returns : goal.returns
returns c =
    let end : c.loop-column.column ≡ c.args.columns.end = omega (arith, c.loop-column-test.false, c.loop-column.auto.column-end, c.requires.columns) in
    subst (λ n. PushedWhere (is_bin_in_row c.args.grid.now c.args.row c.args.columns.first n) c.args.index c.args.parts.now c.loop-column.parts) end c.loop-column.invariant
