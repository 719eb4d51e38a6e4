use Rattle.std.proofs.Common.{◌≡◌, ◌⊎◌, ℕ, ◌+◌, ◌*◌, ◌≤◌, nat_eq, arith, ap, ◌∙◌, subst, inl, inr}
use Rattle.cull_base.specs.Piece.{Piece}
use Rattle.cull_base.specs.Screen.{Dimensions, tile_columns_of, tile_rows_of}
use Rattle.live_check.specs.Moving.{TookWhere}
use Rattle.live_check.specs.Standing.{TilesOf}
use Rattle.live_check.proofs.Stating.{on_row}
use Rattle.live_check.proofs.Taking.{took_all, took_more, took_row_begun, took_row_ended, took_rows_begun, took_yet}
use Rattle.live_check.proofs.tiles.Tiles.take_in.Goals as goal
use Rattle.live_check.proofs.tiles.Tiles.take_in.Goals.{then-take_at, else-take_at}

-- one more at most
few_more : (row column done more : ℕ) → done ≤ row * 64 + column → (more ≡ done) ⊎ (more ≡ done + 1) → more ≤ row * 64 + (column + 1)
few_more row column done more few by = elim by [ inl same ↦ omega (arith, few, same) | inr next ↦ omega (arith, few, next) ]

pub loop-row-init : goal.loop-row-init
loop-row-init c =
    let s = c.args.self.now in
    let columns : c.tile_columns-columns.result ≡ tile_columns_of s.size = c.tile_columns-columns.ensures.value ∙ ap (λ (x : TilesOf). tile_columns_of x.size) c.self.view_is in
    record { took = took_rows_begun c.args.reached.now c.args.tri.now c.args.index s (omega (arith, columns, c.tile_columns-columns.ensures.some)); few = omega arith }

pub loop-column-init : goal.loop-column-init
loop-column-init c =
    let i = c.loop-row.invariant in
    record { took = took_row_begun c.args.reached.now c.args.tri.now c.args.index c.args.self.now c.loop-row.row c.loop-row.self c.requires.span i.took; few = omega (arith, i.few) }

pub take_at-requires : goal.take_at-requires
take_at-requires c =
    let s = c.args.self.now in let i = c.loop-column.invariant in
    let on = on_row s.size c.args.reached.now c.loop-row.row c.loop-column.column c.requires.span (c.loop-row.auto.row, c.loop-row-test.true) c.loop-column.auto.column c.loop-column-test.true in
    let rows = c.requires.span.rows_within in let columns = c.requires.span.columns_within in
    let n = c.loop-row.row * tile_columns_of s.size + c.loop-column.column in
    record {
      column = omega (arith, columns, c.loop-column-test.true, ap tile_columns_of i.took.size);
      row = omega (arith, rows, c.loop-row-test.true, ap tile_rows_of i.took.size);
      index = c.requires.index;
      few = λ short.
          let yet = took_yet c.args.reached.now c.args.tri.now c.args.index s n c.loop-column.self on.0 i.took (rw i.took.size at short) in
          rw i.took.size (omega (arith, c.requires.few n on.0 yet.0, yet.1));
    }

pub loop-column-preserved : goal.loop-column-preserved
loop-column-preserved c =
    let s = c.args.self.now in let i = c.loop-column.invariant in
    let on = on_row s.size c.args.reached.now c.loop-row.row c.loop-column.column c.requires.span (c.loop-row.auto.row, c.loop-row-test.true) c.loop-column.auto.column c.loop-column-test.true in
    let n = c.loop-row.row * tile_columns_of s.size + c.loop-column.column in
    let here = subst (λ (d : Dimensions). TookWhere (λ t. nat_eq t (c.loop-row.row * tile_columns_of d + c.loop-column.column)) c.of-piece.result c.args.index c.loop-column.self c.take_at.new.self) i.took.size c.take_at.ensures.took in
    record {
      took = took_more c.args.reached.now c.args.tri.now c.args.index s n (c.loop-row.row * tile_columns_of s.size + (c.loop-column.column + 1)) c.loop-column.self c.take_at.new.self (omega arith) on.1 i.took
          (subst (λ (x : Piece). TookWhere (λ t. nat_eq t n) x c.args.index c.loop-column.self c.take_at.new.self) c.of-piece.ensures.value here);
      few = few_more c.loop-row.row c.loop-column.column c.loop-column.done c.if-take_at.done i.few (elim c.if-take_at.branch [ then-take_at w ↦ inr w.done-is | else-take_at w ↦ inl w.done-is ]);
    }

pub loop-row-preserved : goal.loop-row-preserved
loop-row-preserved c =
    let s = c.args.self.now in let i = c.loop-column.invariant in
    let within = c.requires.span.columns_within in let some = c.requires.span.columns in let small = c.tile_columns-columns.ensures.small in
    let columns : c.tile_columns-columns.result ≡ tile_columns_of s.size = c.tile_columns-columns.ensures.value ∙ ap (λ (x : TilesOf). tile_columns_of x.size) c.self.view_is in
    record {
      took = took_row_ended c.args.reached.now c.args.tri.now c.args.index s c.loop-row.row c.loop-column.column c.loop-column.self (omega (arith, c.loop-column-test.false)) (omega (arith, c.loop-column.auto.column-end, within, some)) i.took;
      few = omega (arith, i.few, c.loop-column.auto.column-end, within, some, small, columns);
    }

pub returns : goal.returns
returns c =
    let s = c.args.self.now in
    let columns : c.tile_columns-columns.result ≡ tile_columns_of s.size = c.tile_columns-columns.ensures.value ∙ ap (λ (x : TilesOf). tile_columns_of x.size) c.self.view_is in
    record { took = took_all c.args.reached.now c.args.tri.now c.args.index s c.loop-row.row c.loop-row.self (omega (arith, columns, c.tile_columns-columns.ensures.some)) (omega (arith, c.loop-row-test.false)) c.loop-row.invariant.took }
