-- The subtiles of a tile that a piece may change.
use Rattle.std.proofs.Common.{◌≡◌, ℕ, ◌+◌, ◌*◌, ◌/◌, ◌%◌, ◌<◌, ◌≤◌, Bool, true, false, List, cond, arith, refl, ◌∙◌, sym, inl, inr, bit_and, slice_index_or}
use Rattle.std.specs.Int.{bit_at, div_ceil}
use Rattle.std.proofs.lemmas.Bool.{and_from, both_ways, cases_eq, false_from_ne_true, lt-ltb}
use Rattle.std.proofs.lemmas.Nat.Bits.{bit_at_and, bit_at-lt, bit_at_ones}
use Rattle.cull_base.specs.State.{State, empty_state}
use Rattle.cull_base.specs.Depth.{greatest_nearness}
use Rattle.cull_base.specs.Piece.{Piece, IsPiece, box_of}
use Rattle.cull_base.specs.Screen.{Dimensions, tile_columns_of, tile_rows_of}
use Rattle.cull_base.specs.declared.place.Tile.{Tile}
use Rattle.edge_lanes.specs.Inside.{sub_of}
use Rattle.masked_update.specs.Merged.{IsSubSpan, has_sub}
use Rattle.masked_update.specs.Coverage.{AreWanted}
use Rattle.masked_update.specs.declared.sub_span.SubSpan.{SubSpan}
use Rattle.masked_update.proofs.Boxes.{step_apart}
use Rattle.masked_update.proofs.Unchanged.{step_behind}

abbrev bit_of : Bool → ℕ
bit_of b = cond b 1 0

pub held : (b : Bool) → bit_of b ≡ 1 → b ≡ true
held true e = refl
held false e = absurd (omega (arith, e))

pub not_held : (b : Bool) → bit_of b ≡ 0 → b ≡ false
not_held true e = absurd (omega (arith, e))
not_held false e = refl

-- the bits of the subtiles that a span has
pub reached_of : (size : Dimensions) (place : Tile) (x : Piece) (subs : List State) (span : SubSpan) (reached : ℕ) → IsPiece x → IsSubSpan (box_of x) size place span
    → ((j : ℕ) → j < 8 → bit_at reached j ≡ cond (has_sub span j) 1 0) → AreWanted size place x subs reached
reached_of size place x subs span reached piece is reached_are = record {
  on_screen = λ j lt one. is.on_screen j (held (has_sub span j) (sym (reached_are j lt) ∙ one));
  unchanged = λ j lt clear on.
      let apart = false_from_ne_true _ (λ m. both_ways (has_sub span j) (not_held (has_sub span j) (sym (reached_are j lt) ∙ clear)) (is.reached j lt on m)) in
      step_apart (sub_of place j) (slice_index_or subs j empty_state) x piece apart;
}

-- and of those whose reference is below the piece
pub behind_of : (size : Dimensions) (place : Tile) (x : Piece) (subs : List State) (span : SubSpan) (reached below : ℕ) → IsPiece x → IsSubSpan (box_of x) size place span
    → ((j : ℕ) → j < 8 → bit_at reached j ≡ cond (has_sub span j) 1 0)
    → ((j : ℕ) → j < 8 → bit_at below j ≡ 0 → greatest_nearness x ≤ (slice_index_or subs j empty_state).reference)
    → AreWanted size place x subs (bit_and reached below)
behind_of size place x subs span reached below piece is reached_are below_are = record {
  on_screen = λ j lt one.
      let set : bit_at reached j ≡ 1 = omega (arith, bit_at_and reached below j, one, bit_at-lt reached j, bit_at-lt below j) in
      all.on_screen j lt set;
  unchanged = λ j lt clear on. elim (cases_eq (bit_at reached j) 0) [
    | inl off ↦ all.unchanged j lt off on
    | inr some ↦
        let behind : bit_at below j ≡ 0 = omega (arith, bit_at_and reached below j, clear, some, bit_at-lt reached j, bit_at-lt below j) in
        step_behind (sub_of place j) (slice_index_or subs j empty_state) x piece (below_are j lt behind)
  ];
}
  where
    all : AreWanted size place x subs reached
    all = reached_of size place x subs span reached piece is reached_are

-- all of a tile that isn't in the screen's last column or row
pub all_of : (size : Dimensions) (place : Tile) (x : Piece) (subs : List State) → place.column + 1 < tile_columns_of size → place.row + 1 < tile_rows_of size → AreWanted size place x subs 255
all_of size place x subs column row = record {
  on_screen = λ j lt one. and_from _ _ (lt-ltb _ _ (across place.column size.width j column)) (lt-ltb _ _ (down place.row size.height j lt row));
  unchanged = λ j lt clear on. let one = bit_at_ones 8 j lt in absurd (omega (arith, one, clear));
}
  where
    across : (c w j : ℕ) → c + 1 < div_ceil w 32 → 8 * (4 * c + j % 4) < w
    across c w j lt = omega (arith, lt)

    down : (r h j : ℕ) → j < 8 → r + 1 < div_ceil h 8 → 4 * (2 * r + j / 4) < h
    down r h j below lt = omega (arith, below, lt)
