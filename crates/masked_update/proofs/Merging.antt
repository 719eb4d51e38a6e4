-- A piece merged into a tile's subtiles, one after the other.
use Rattle.std.proofs.Common.{◌≡◌, ℕ, ◌<◌, List, length, Bool, true, false, cond, map, arith, refl, ap, ◌∙◌, sym, slice_index_or, max, ◌⊎◌, inl, inr}
use Rattle.std.specs.Int.{bit_at}
use Rattle.std.proofs.lemmas.Bool.{cases_eq, cond-true}
use Rattle.std.proofs.lemmas.Nat.Bits.{bit_at-lt, bit_at-zero}
use Rattle.std.specs.List.{range_with_len}
use Rattle.std.proofs.lemmas.List.{ext_get_or}
use Rattle.std.proofs.lemmas.List.FromFn.{length-map-range_with_len, get_or-map-range_with_len}
use Rattle.cull_base.specs.State.{State, empty_state, samples_of, step_with}
use Rattle.cull_base.specs.Fold.{step}
use Rattle.cull_base.specs.Piece.{Piece, IsPiece}
use Rattle.cull_base.specs.Depth.{greatest_nearness, least_nearness, low_of}
use Rattle.cull_base.specs.Screen.{Dimensions, is_on_screen}
use Rattle.cull_base.specs.declared.place.Sub.{Sub}
use Rattle.cull_base.specs.declared.place.Tile.{Tile}
use Rattle.edge_lanes.specs.Inside.{sub_of}
use Rattle.masked_update.specs.TileOf.{TileOf}
use Rattle.masked_update.specs.Taken.{merged_tile}
use Rattle.masked_update.specs.Least.{NoneBelow}
use Rattle.masked_update.specs.Merged.{CoversNone, merged_at, merged_by}
use Rattle.masked_update.specs.Lanes.{low_at, mask_at, AreSteps}
use Rattle.masked_update.specs.Coverage.{IsCovered, IsCoverage, IsRaised, AreWanted}
use Rattle.masked_update.specs.declared.coverage.Coverage.{Coverage}
use Rattle.masked_update.proofs.Unchanged.{step_behind, step_empty, step_with-none}

pub one_of_eight : (f : ℕ → State) (j : ℕ) → j < 8 → slice_index_or (map f (range_with_len 0 8)) j empty_state ≡ f j
one_of_eight f j h = get_or-map-range_with_len f 0 8 j j empty_state h (omega arith)

-- eight subtiles, each from its number
pub eight_of : (f : ℕ → State) (subs : List State) → length subs ≡ 8 → ((j : ℕ) → j < 8 → slice_index_or subs j empty_state ≡ f j) → subs ≡ map f (range_with_len 0 8)
eight_of f subs eight each = ext_get_or empty_state subs (map f (range_with_len 0 8)) (eight ∙ sym (length-map-range_with_len f 0 8))
    (λ j h. let h' : j < 8 = omega (arith, h, eight) in each j h' ∙ sym (one_of_eight f j h'))

pub eight_merged : (size : Dimensions) (place : Tile) (x : Piece) (subs : List State) → length (merged_by size place x subs) ≡ 8
unfolding merged_by
eight_merged size place x subs = length-map-range_with_len (merged_at size place x subs) 0 8

-- a subtile that isn't wanted stays
pub left_out : (size : Dimensions) (place : Tile) (x : Piece) (old : List State) (bits j : ℕ) → j < 8 → AreWanted size place x old bits → bit_at bits j ≡ 0 → slice_index_or old j empty_state ≡ merged_at size place x old j
left_out size place x old bits j h wanted clear = by (is_on_screen size (sub_of place j)) refl
  where
    by : (b : Bool) → is_on_screen size (sub_of place j) ≡ b → slice_index_or old j empty_state ≡ cond (is_on_screen size (sub_of place j)) (step (sub_of place j) (slice_index_or old j empty_state) x) (slice_index_or old j empty_state)
    by true on = rw on (sym (wanted.unchanged j h clear on))
    by false off = rw off

-- a bound and a mask of the piece give its step
covered_step : (u : Sub) (s : State) (x : Piece) (low mask : ℕ) → IsCovered u x low mask → step_with s (max (least_nearness x) low) (samples_of mask) ≡ step u s x
covered_step u s x low mask is = elim (cases_eq mask 0) [
  | inl none ↦ ap (λ m. step_with s (max (least_nearness x) low) (samples_of m)) none ∙ step_with-none s (max (least_nearness x) low) ∙ sym (step_empty u s x mask is.samples none)
  | inr some ↦ ap (λ t. step_with s t (samples_of mask)) (is.bound some) ∙ ap (step_with s (low_of x u)) is.samples
]

-- where the piece is merged into the wanted subtiles by their bounds and masks, the whole tile has it merged
pub merged_all : (size : Dimensions) (place : Tile) (x : Piece) (bits : ℕ) (c raised : Coverage) (old new : List State) → AreWanted size place x old bits → IsCoverage place x bits c → IsRaised (least_nearness x) c raised → AreSteps raised old new → new ≡ merged_by size place x old
unfolding merged_by
merged_all size place x bits c raised old new wanted is r s = eight_of (merged_at size place x old) new s.eight (λ j h. s.steps j h ∙ lane j h ∙ by j h (cases_eq (bit_at bits j) 0))
  where
    lane : (j : ℕ) → j < 8 → step_with (slice_index_or old j empty_state) (low_at raised j) (samples_of (mask_at raised j)) ≡ step_with (slice_index_or old j empty_state) (max (least_nearness x) (low_at c j)) (samples_of (mask_at c j))
    lane j h = ap (λ t. step_with (slice_index_or old j empty_state) t (samples_of (mask_at raised j))) (r.lows j h) ∙ ap (λ ms. step_with (slice_index_or old j empty_state) (max (least_nearness x) (low_at c j)) (samples_of (slice_index_or ms j 0))) r.masks

    by : (j : ℕ) → j < 8 → (bit_at bits j ≡ 0) ⊎ (bit_at bits j ≡ 0 → ⊥) → step_with (slice_index_or old j empty_state) (max (least_nearness x) (low_at c j)) (samples_of (mask_at c j)) ≡ merged_at size place x old j
    by j h (inl clear) =
        ap (λ m. step_with (slice_index_or old j empty_state) (max (least_nearness x) (low_at c j)) (samples_of m)) (is.others j h clear)
        ∙ step_with-none (slice_index_or old j empty_state) (max (least_nearness x) (low_at c j))
        ∙ left_out size place x old bits j h wanted clear
    by j h (inr set) =
        let one : bit_at bits j ≡ 1 = omega (arith, set, bit_at-lt bits j) in
        covered_step (sub_of place j) (slice_index_or old j empty_state) x (low_at c j) (mask_at c j) (is.inside j h one)
        ∙ sym (cond-true _ _ _ (wanted.on_screen j h one))

-- where no subtile is wanted, the tile has the piece merged as it stands
pub merged_nowhere : (size : Dimensions) (place : Tile) (x : Piece) (bits : ℕ) (old : List State) → length old ≡ 8 → bits ≡ 0 → AreWanted size place x old bits → old ≡ merged_by size place x old
unfolding merged_by
merged_nowhere size place x bits old eight none wanted = eight_of (merged_at size place x old) old eight (λ j h. left_out size place x old bits j h wanted (ap (λ n. bit_at n j) none ∙ bit_at-zero j))

-- and so it stays
pub stays_unwanted : (size : Dimensions) (place : Tile) (x : Piece) (bits : ℕ) (t : TileOf) → length t.subs ≡ 8 → bits ≡ 0 → AreWanted size place x t.subs bits → merged_tile size place x t ≡ t
stays_unwanted size place x bits t eight none wanted = ap (λ subs. tile_with subs t.count) (sym (merged_nowhere size place x bits t.subs eight none wanted))
  where
    tile_with : List State → ℕ → TileOf
    tile_with subs count = record { subs = subs; count = count }

-- a tile whose references are all at least as near as the piece stays as it is
pub merged_behind : (size : Dimensions) (place : Tile) (x : Piece) (t : TileOf) → IsPiece x → NoneBelow (greatest_nearness x) t → merged_tile size place x t ≡ t
unfolding merged_by
merged_behind size place x t piece b = ap (λ subs. tile_with subs t.count) (sym (eight_of (merged_at size place x t.subs) t.subs b.eight (λ j h. stays (is_on_screen size (sub_of place j)) j h)))
  where
    tile_with : List State → ℕ → TileOf
    tile_with subs count = record { subs = subs; count = count }

    stays : (on : Bool) (j : ℕ) → j < 8 → let s = slice_index_or t.subs j empty_state in s ≡ cond on (step (sub_of place j) s x) s
    stays true j h = sym (step_behind (sub_of place j) (slice_index_or t.subs j empty_state) x piece (b.behind j h))
    stays false j h = refl

-- and so does one where the piece covers nothing
pub merged_uncovered : (size : Dimensions) (place : Tile) (x : Piece) (t : TileOf) → length t.subs ≡ 8 → CoversNone x place → merged_tile size place x t ≡ t
unfolding merged_by
merged_uncovered size place x t eight none = ap (λ subs. tile_with subs t.count) (sym (eight_of (merged_at size place x t.subs) t.subs eight (λ j h. stays (is_on_screen size (sub_of place j)) j h)))
  where
    tile_with : List State → ℕ → TileOf
    tile_with subs count = record { subs = subs; count = count }

    stays : (on : Bool) (j : ℕ) → j < 8 → let s = slice_index_or t.subs j empty_state in s ≡ cond on (step (sub_of place j) s x) s
    stays true j h = sym (step_empty (sub_of place j) (slice_index_or t.subs j empty_state) x 0 (sym (none j h)) refl)
    stays false j h = refl
