-- The packed subtiles of a tile, by their places among its words.
use Rattle.std.proofs.Common.{◌≡◌, ℕ, ◌+◌, ◌*◌, ◌/◌, ◌%◌, ◌<◌, ◌^◌, List, cond, nat_eq, refl, sym, ap, ◌∙◌, subst, arith}
use Rattle.std.specs.Prelude.{slice_index_or}
use Rattle.std.specs.Simd.Lanes.{mask_l}
use Rattle.std.proofs.lemmas.Simd.{mask_l-lt}
use Rattle.cull_base.proofs.EightLanes.{each_of_eight}
use Rattle.cull_base.specs.State.{State}
use Rattle.masked_update.specs.Packing.{IsSubTile, packed, packed_layers, packed_mask}
use Rattle.masked_update.specs.TileOf.{TileOf, sub_at}
use Rattle.tile_cells.specs.Words.{AreTileWords, ArePacked, IsTile, words_of}

-- a word of two masks
abbrev IsPair : ℕ → ℕ → ℕ → Type 0
IsPair word first second = word ≡ first + 2 ^ 32 * second

lower_half : (word first second : ℕ) → first < 2 ^ 32 → IsPair word first second → word % 2 ^ 32 ≡ first
lower_half word first second lt e = omega (arith, lt, e)

upper_half : (word first second : ℕ) → first < 2 ^ 32 → IsPair word first second → word / 2 ^ 32 ≡ second
upper_half word first second lt e = omega (arith, lt, e)

mask_lt : (s : State) → IsSubTile s → packed_mask s < 2 ^ 32
mask_lt s is = subst (λ n. mask_l s.samples < 2 ^ n) is.whole (mask_l-lt s.samples)

layers_at : (t : TileOf) (j : ℕ) → j < 8 → packed_layers (sub_at t j) ≡ slice_index_or (words_of t) (1 + j) 0
layers_at t j lt = each_of_eight (λ j. packed_layers (sub_at t j) ≡ slice_index_or (words_of t) (1 + j) 0) refl refl refl refl refl refl refl refl j lt

-- a half of a word of masks, by the number of its subtile
abbrev half : ℕ → ℕ → ℕ
half word j = cond (nat_eq (j % 2) 0) (word % 2 ^ 32) (word / 2 ^ 32)

mask_at : (t : TileOf) (j : ℕ) → IsTile t → j < 8 → packed_mask (sub_at t j) ≡ half (slice_index_or (words_of t) (9 + j / 2) 0) j
mask_at t j is lt = each_of_eight (λ j. packed_mask (sub_at t j) ≡ half (slice_index_or (words_of t) (9 + j / 2) 0) j)
    (lower 0 1 (omega arith)) (upper 0 1 (omega arith)) (lower 2 3 (omega arith)) (upper 2 3 (omega arith))
    (lower 4 5 (omega arith)) (upper 4 5 (omega arith)) (lower 6 7 (omega arith)) (upper 6 7 (omega arith)) j lt
  where
    lower : (a b : ℕ) → a < 8 → packed_mask (sub_at t a) ≡ (packed_mask (sub_at t a) + 2 ^ 32 * packed_mask (sub_at t b)) % 2 ^ 32
    lower a b h = sym (lower_half _ (packed_mask (sub_at t a)) (packed_mask (sub_at t b)) (mask_lt (sub_at t a) (is.subtiles a h)) refl)

    upper : (a b : ℕ) → a < 8 → packed_mask (sub_at t b) ≡ (packed_mask (sub_at t a) + 2 ^ 32 * packed_mask (sub_at t b)) / 2 ^ 32
    upper a b h = sym (upper_half _ (packed_mask (sub_at t a)) (packed_mask (sub_at t b)) (mask_lt (sub_at t a) (is.subtiles a h)) refl)

-- a subtile of a tile packs to its layers and its mask among the tile's words
pub packed_at : (t : TileOf) (words : List ℕ) (j mask : ℕ) → IsTile t → words ≡ words_of t → j < 8 → mask ≡ half (slice_index_or words (9 + j / 2) 0) j
    → packed (sub_at t j) ≡ (slice_index_or words (1 + j) 0, mask)
packed_at t words j mask is e lt m =
    let layers : packed_layers (sub_at t j) ≡ slice_index_or words (1 + j) 0 = layers_at t j lt ∙ ap (λ (w : List ℕ). slice_index_or w (1 + j) 0) (sym e) in
    let same : packed_mask (sub_at t j) ≡ mask = mask_at t j is lt ∙ ap (λ (w : List ℕ). half (slice_index_or w (9 + j / 2) 0) j) (sym e) ∙ sym m in
    λ i. (layers i, same i)

pub are_packed : (words : List ℕ) (j mask : ℕ) → AreTileWords words → j < 8 → mask ≡ half (slice_index_or words (9 + j / 2) 0) j → ArePacked (slice_index_or words (1 + j) 0) mask
are_packed words j mask w lt m = (sub_at w.0 j, w.1.subtiles j lt, packed_at w.0 words j mask w.1 w.2 lt m)
