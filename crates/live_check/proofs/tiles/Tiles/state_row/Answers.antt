use Rattle.std.proofs.Common.{◌≡◌, ℕ, ◌+◌, ◌*◌, ◌<◌, ◌≤◌, List, Option, arith, refl, sym, ap, ◌∙◌, subst}
use Rattle.cull_base.specs.Screen.{Dimensions, tile_columns_of}
use Rattle.cull_base.specs.Span.{IsSpan}
use Rattle.cull_base.specs.declared.tile_span.TileSpan.{TileSpan}
use Rattle.live_check.specs.Moving.{AreNotStated, IsNotStatedOf, IsStatedOf, StatedTo}
use Rattle.live_check.specs.Standing.{AreWhole, StaysStanding, TilesOf}
use Rattle.live_check.proofs.Stating.{column_more, column_stops, on_row, row_begun, row_ended}
use Rattle.live_check.proofs.tiles.Tiles.state_row.Goals as goal

pub loop-column-init : goal.loop-column-init
loop-column-init g c = record {
  stays = record { size = refl; states = refl; behind = refl };
  stated = λ first before size s. row_begun c.args.span.now c.args.row first c.args.self.now before _ (subst (λ (d : Dimensions). IsSpan d c.args.span.now) (sym size) c.requires.span) s;
  faults = omega arith;
}

-- a tile of the row by its number, as it was reckoned
column_at : (span : TileSpan) (row column m : ℕ) (old new now : TilesOf) (a b c : Option (List ℕ)) → m ≡ row * tile_columns_of old.size + column → IsSpan old.size span → (span.first_row ≤ row) × (row < span.end_row) → span.first_column ≤ column → column < span.end_column
    → StaysStanding new now → AreWhole now → IsStatedOf m new now b c → StatedTo span (row * tile_columns_of old.size + column) old new a b → StatedTo span (row * tile_columns_of old.size + (column + 1)) old now a c
column_at span row column m old new now a b c is whole rows left right stays there one s =
    column_more span row column old new now a b c whole rows left right stays there (subst (λ (t : ℕ). IsStatedOf t new now b c) is one) s

stops_at : (span : TileSpan) (row column m : ℕ) (old new : TilesOf) (a b : Option (List ℕ)) → m ≡ row * tile_columns_of old.size + column → IsSpan old.size span → (span.first_row ≤ row) × (row < span.end_row) → span.first_column ≤ column → column < span.end_column
    → IsNotStatedOf m new b → StatedTo span (row * tile_columns_of old.size + column) old new a b → AreNotStated span old a
stops_at span row column m old new a b is whole rows left right never s = column_stops span row column old new a b whole rows left right (subst (λ (t : ℕ). IsNotStatedOf t new b) is never) s

pub state_tile-requires : goal.state_tile-requires
state_tile-requires g c =
    let i = c.loop-column.invariant in
    let columns : c.tile_columns.result ≡ tile_columns_of c.args.self.now.size = c.tile_columns.ensures.value ∙ ap (λ (x : TilesOf). tile_columns_of x.size) c.self.view_is in
    let on = on_row c.args.self.now.size c.args.span.now c.args.row c.loop-column.column c.requires.span c.requires.row c.loop-column.auto.column c.loop-column-test.true in
    rw (i.stays.size, columns) on.0

pub loop-column-preserved : goal.loop-column-preserved
loop-column-preserved g c =
    let i = c.loop-column.invariant in
    let tile = c.in_ok-state_tile.ensures in
    let columns : c.tile_columns.result ≡ tile_columns_of c.args.self.now.size = c.tile_columns.ensures.value ∙ ap (λ (x : TilesOf). tile_columns_of x.size) c.self.view_is in
    record {
      stays = record { size = tile.stays.size ∙ i.stays.size; states = tile.stays.states ∙ i.stays.states; behind = tile.stays.behind ∙ i.stays.behind };
      stated = λ first before size s.
          let span = subst (λ (d : Dimensions). IsSpan d c.args.span.now) (sym size) c.requires.span in
          let n : c.args.row * c.tile_columns.result + c.loop-column.column ≡ c.args.row * tile_columns_of first.size + c.loop-column.column = ap (λ (k : ℕ). c.args.row * k + c.loop-column.column) (columns ∙ ap tile_columns_of (sym size)) in
          column_at c.args.span.now c.args.row c.loop-column.column (c.args.row * c.tile_columns.result + c.loop-column.column) first c.loop-column.self c.state_tile.new.self before _ _ n span c.requires.row
          c.loop-column.auto.column c.loop-column-test.true tile.stays tile.whole (tile.yes c.if-not-branch.false) (i.stated first before size s);
      faults = omega (arith, i.faults, tile.fails.faults_stay);
    }

pub returns-then-not-branch-clause-no : goal.returns-then-not-branch-clause-no
returns-then-not-branch-clause-no g c _ first before s =
    let i = c.loop-column.invariant in
    let size : first.size ≡ c.args.self.now.size = sym s.stays.size in
    let columns : c.tile_columns.result ≡ tile_columns_of c.args.self.now.size = c.tile_columns.ensures.value ∙ ap (λ (x : TilesOf). tile_columns_of x.size) c.self.view_is in
    let span = subst (λ (d : Dimensions). IsSpan d c.args.span.now) (sym size) c.requires.span in
    let n : c.args.row * c.tile_columns.result + c.loop-column.column ≡ c.args.row * tile_columns_of first.size + c.loop-column.column = ap (λ (k : ℕ). c.args.row * k + c.loop-column.column) (columns ∙ ap tile_columns_of (sym size)) in
    stops_at c.args.span.now c.args.row c.loop-column.column (c.args.row * c.tile_columns.result + c.loop-column.column) first c.loop-column.self before _ n span c.requires.row
    c.loop-column.auto.column c.loop-column-test.true (c.in_ok-state_tile.ensures.no c.if-not-branch.true) (i.stated first before size s)

pub returns-clause-yes : goal.returns-clause-yes
returns-clause-yes g c _ first before s =
    let i = c.loop-column.invariant in
    let size : first.size ≡ c.args.self.now.size = sym s.stays.size in
    let span = subst (λ (d : Dimensions). IsSpan d c.args.span.now) (sym size) c.requires.span in
    let within = span.columns_within in let some = span.columns in
    row_ended c.args.span.now c.args.row c.loop-column.column first c.loop-column.self before _ span (omega (arith, c.loop-column-test.false)) (omega (arith, c.loop-column.auto.column-end, within, some)) (i.stated first before size s)

pub returns-clause-stays : goal.returns-clause-stays
returns-clause-stays g c = c.loop-column.invariant.stays
