use Rattle.std.proofs.Common.{◌≡◌, ℕ, ◌+◌, ◌*◌, true, set, arith, sym, ap, ◌∙◌, subst}
use Rattle.cull_base.specs.declared.place.Tile.{Tile}
use Rattle.cull_base.specs.Screen.{Dimensions, tile_columns_of, tile_rows_of}
use Rattle.masked_update.specs.Taken.{taken_at}
use Rattle.masked_update.specs.TileOf.{TileOf, tile_at}
use Rattle.masked_update.proofs.Grid.{number_below}
use Rattle.masked_update.proofs.Tiles.{place_of_number}
use Rattle.live_check.specs.Moving.{is_short_at}
use Rattle.live_check.specs.Standing.{AreWhole, TilesOf}
use Rattle.live_check.proofs.Stating.{state_read}
use Rattle.live_check.proofs.Taking.{took_not, took_one}
use Rattle.live_check.proofs.tiles.Tiles.take_at.Goals as goal

-- the tile's number, as it was reckoned
number_is : (row column columns r c k : ℕ) → r ≡ row → c ≡ column → columns ≡ k → r * columns + c ≡ row * k + column
number_is row column columns r c k re ce e = ap (λ (n : ℕ). n * columns + c) re ∙ ap (λ (n : ℕ). row * columns + n) ce ∙ ap (λ (n : ℕ). row * n + column) e

pub is_short-requires : goal.is_short-requires
is_short-requires c =
    let s = c.args.self.now in let p = c.args.place in
    let columns : c.tile_columns.result ≡ tile_columns_of s.size = c.tile_columns.ensures.value ∙ ap (λ (x : TilesOf). tile_columns_of x.size) c.self.view_is in
    let number = number_is p.row p.column c.tile_columns.result c.from.result c.from-2.result (tile_columns_of s.size) c.from.ensures c.from-2.ensures columns in
    rw number (number_below p.row (tile_rows_of s.size) p.column (tile_columns_of s.size) c.requires.row c.requires.column)

-- the tile isn't short
pub returns-then-not-is_short : goal.returns-then-not-is_short
returns-then-not-is_short c =
    let s = c.args.self.now in let p = c.args.place in
    let columns : c.tile_columns.result ≡ tile_columns_of s.size = c.tile_columns.ensures.value ∙ ap (λ (x : TilesOf). tile_columns_of x.size) c.self.view_is in
    let number = number_is p.row p.column c.tile_columns.result c.from.result c.from-2.result (tile_columns_of s.size) c.from.ensures c.from-2.ensures columns in
    record { took = took_not (p.row * tile_columns_of s.size + p.column) c.args.piece.now c.args.index s (ap (λ (n : ℕ). is_short_at s n c.args.index) (sym number) ∙ sym c.is_short.ensures ∙ c.if-not-is_short.true) }

pub take_form-requires : goal.take_form-requires
take_form-requires c =
    let s = c.args.self.now in let p = c.args.place in
    let columns : c.tile_columns.result ≡ tile_columns_of s.size = c.tile_columns.ensures.value ∙ ap (λ (x : TilesOf). tile_columns_of x.size) c.self.view_is in
    let number = number_is p.row p.column c.tile_columns.result c.from.result c.from-2.result (tile_columns_of s.size) c.from.ensures c.from-2.ensures columns in
    let short : is_short_at s (p.row * tile_columns_of s.size + p.column) c.args.index ≡ true = ap (λ (n : ℕ). is_short_at s n c.args.index) (sym number) ∙ sym c.is_short.ensures ∙ c.if-not-is_short.false in
    let lt = number_below p.row (tile_rows_of s.size) p.column (tile_columns_of s.size) c.requires.row c.requires.column in
    let here = state_read c.self.inside.states.items (c.from.result * c.tile_columns.result + c.from-2.result) (p.row * tile_columns_of s.size + p.column) c.index_mut.result.now c.self.inside.size s c.self.view_is c.self.invariant.states number lt c.index_mut.ensures.value in
    let sizes = ap (λ (x : TilesOf). x.size) c.self.view_is in
    record {
      count = omega (arith, c.requires.few short, ap (λ (x : TileOf). x.count) here);
      form = (c.reached_on.ensures.reached, c.reached_on.ensures.size);
      column = omega (arith, c.requires.column, ap tile_columns_of sizes);
      row = omega (arith, c.requires.row, ap tile_rows_of sizes);
    }

-- it is, and takes the piece
pub returns : goal.returns
returns c =
    let s = c.args.self.now in let p = c.args.place in let x = c.args.piece.now in
    let columns : c.tile_columns.result ≡ tile_columns_of s.size = c.tile_columns.ensures.value ∙ ap (λ (x : TilesOf). tile_columns_of x.size) c.self.view_is in
    let number = number_is p.row p.column c.tile_columns.result c.from.result c.from-2.result (tile_columns_of s.size) c.from.ensures c.from-2.ensures columns in
    let n = p.row * tile_columns_of s.size + p.column in
    let short : is_short_at s n c.args.index ≡ true = ap (λ (m : ℕ). is_short_at s m c.args.index) (sym number) ∙ sym c.is_short.ensures ∙ c.if-not-is_short.false in
    let lt = number_below p.row (tile_rows_of s.size) p.column (tile_columns_of s.size) c.requires.row c.requires.column in
    let here = state_read c.self.inside.states.items (c.from.result * c.tile_columns.result + c.from-2.result) n c.index_mut.result.now c.self.inside.size s c.self.view_is c.self.invariant.states number lt c.index_mut.ensures.value in
    let taken : c.take_form.new.self ≡ taken_at s.size p x (tile_at s.states n) = c.take_form.ensures ∙ ap (λ (d : Dimensions). taken_at d p x c.index_mut.result.now) (ap (λ (y : TilesOf). y.size) c.self.view_is) ∙ ap (taken_at s.size p x) here in
    let at = place_of_number s.size p.row p.column c.requires.column in
    let v = c.self.view_is in
    record {
      took = took_one n x c.args.index s _ lt (subst AreWhole v c.self.invariant) short (ap (λ (y : TilesOf). y.size) v) (ap (λ (y : TilesOf). y.stated) v)
          (ap (λ (m : ℕ). set c.self.inside.states.items m c.take_form.new.self) number ∙ ap (λ (y : TilesOf). set y.states n c.take_form.new.self) v
          ∙ ap (λ (y : TileOf). set s.states n y) (taken ∙ ap (λ (q : Tile). taken_at s.size q x (tile_at s.states n)) (sym at)))
          (ap (λ (m : ℕ). set c.self.inside.behind.items m (c.args.index + 1)) number ∙ ap (λ (y : TilesOf). set y.behind n (c.args.index + 1)) v);
    }
