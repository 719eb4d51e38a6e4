use Rattle.std.proofs.Common.{◌≡◌, arith, sym, subst}
use Rattle.cull_base.specs.Span.{IsPartOf, has_tile}
use Rattle.cull_base.specs.declared.tile_span.TileSpan.{TileSpan}
use Rattle.masked_update.specs.Taken.{merged_tile}
use Rattle.masked_update.specs.Walk.{MergedWhere}
use Rattle.masked_update.proofs.Strips.{none_before, part_of_strip, span_of_strip, strip_of, strips_more}
use Rattle.masked_update.proofs.Walks.{columns_before, none_changed}
use Rattle.masked_update.proofs.walk.merge_in_span.Goals as goal

pub loop-column-init : goal.loop-column-init
loop-column-init c = record {
  from = omega arith;
  to = omega (arith, c.requires.part.columns);
  merged = none_changed (has_tile (columns_before c.args.span c.args.span.first_column)) (λ p t. merged_tile c.args.reached.now.size p c.args.piece.now t) c.args.canvas.now c.window-window.ensures.whole (none_before c.args.span);
}

pub merge_in_strip-requires-clause-part : goal.merge_in_strip-requires-clause-part
merge_in_strip-requires-clause-part c =
    let inv = c.loop-column.invariant in
    let column = c.loop-column.column in
    let count = c.min-count.result in
    subst (λ (w : TileSpan). IsPartOf w (strip_of c.args.span column count)) (sym inv.merged.window)
    (part_of_strip c.args.canvas.now.window c.args.span column count c.requires.part inv.from (omega (arith, c.min-count.ensures, c.loop-column-test.true)))

pub merge_in_strip-requires-clause-span : goal.merge_in_strip-requires-clause-span
merge_in_strip-requires-clause-span c =
    span_of_strip c.args.reached.now.size c.args.span c.loop-column.column c.min-count.result c.requires.span (omega (arith, c.min-count.ensures, c.loop-column-test.true))

pub merge_in_strip-requires-clause-some : goal.merge_in_strip-requires-clause-some
merge_in_strip-requires-clause-some c = omega (arith, c.min-count.ensures, c.loop-column-test.true)

pub merge_in_strip-requires-clause-few : goal.merge_in_strip-requires-clause-few
merge_in_strip-requires-clause-few c = omega (arith, c.min-count.ensures)

pub loop-column-preserved : goal.loop-column-preserved
loop-column-preserved c =
    let inv = c.loop-column.invariant in
    record {
      from = omega (arith, inv.from);
      to = omega (arith, c.min-count.ensures, c.loop-column-test.true);
      merged = strips_more c.args.span (λ p t. merged_tile c.args.reached.now.size p c.args.piece.now t) c.args.canvas.now c.loop-column.canvas c.merge_in_strip.new.canvas c.loop-column.column c.min-count.result inv.from inv.merged c.merge_in_strip.ensures;
    }

pub returns : goal.returns
returns c =
    let span = c.args.span in
    let inv = c.loop-column.invariant in
    let end : c.loop-column.column ≡ span.end_column = omega (arith, c.loop-column-test.false, inv.to) in
    subst (λ n. MergedWhere (has_tile (columns_before span n)) c.args.reached.now.size c.args.piece.now c.args.canvas.now c.loop-column.canvas) end inv.merged
