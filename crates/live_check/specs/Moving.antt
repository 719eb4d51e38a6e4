-- What a line states of tiles, and how these move forward to it.
use Rattle.std.specs.Prelude.{ℕ, ◌≡◌, ◌+◌, ◌^◌, ◌<◌, ◌≤◌, Bool, ◌&&◌, nat_lt, nat_le, cond, List, ◌∷◌, ◌++◌, map, filter, codes, Option, IfSome, slice_index, slice_set}
use Rattle.std.specs.Fmt.{decimal}
use Rattle.std.specs.List.{range_with_len}
use Rattle.cull_base.specs.declared.tile_span.TileSpan.{TileSpan}
use Rattle.cull_base.specs.Piece.{Piece, box_of}
use Rattle.cull_base.specs.Rectangle.{meets}
use Rattle.cull_base.specs.Screen.{Dimensions, tile_count_of, tile_place, tile_rect_of}
use Rattle.cull_base.specs.Span.{has_tile}
use Rattle.masked_update.specs.Taken.{taken_by}
use Rattle.masked_update.specs.TileOf.{tile_at}
use Rattle.cull_report.specs.Live.{count_text, tile_count}
use Rattle.cull_report.specs.LivePieces.{counts_text}
use Rattle.live_check.specs.Standing.{AreWhole, IsAmong, IsIn, StaysStanding, TilesOf, count_at}
use Rattle.live_check.specs.Waiting.{Came, IsBehindNumber}

-- ---- what a line states

-- a field up to its count: a space, the tile's number and a colon
abbrev pub field_head : ℕ → List ℕ
field_head t = 32 ∷ (decimal t ++ codes ":")

-- the fields of some tiles, each after a space, by their counts
abbrev pub fields_by : List ℕ → (ℕ → ℕ) → List ℕ
fields_by tiles k = counts_text (map (λ t. tile_count t (k t)) tiles)

-- the fields of the first n tiles, as far as they stand in a span
abbrev pub fields_before : Dimensions → TileSpan → ℕ → (ℕ → ℕ) → List ℕ
fields_before size span n k = fields_by (filter (λ t. has_tile span (tile_place size t)) (range_with_len 0 n)) k

-- the fields of all of a span's tiles
abbrev pub fields_of : Dimensions → TileSpan → (ℕ → ℕ) → List ℕ
fields_of size span k = fields_before size span (tile_count_of size) k

-- counts that a span's tiles among the first n may state: none is below the tile's own, and each has six digits at most
abbrev pub MayStateTo : TileSpan → ℕ → TilesOf → (ℕ → ℕ) → Type 0
MayStateTo span n tiles k = (t : ℕ) → IsAmong tiles.size span n t → (count_at tiles t ≤ k t) × (k t < 10 ^ 6)

-- counts that all of a span's tiles may state
abbrev pub MayState : TilesOf → TileSpan → (ℕ → ℕ) → Type 0
MayState tiles span k = MayStateTo span (tile_count_of tiles.size) tiles k

-- no others of a span's tiles among the first n came that may stand there
abbrev pub AreOnlyTo : TileSpan → ℕ → TilesOf → Option (List ℕ) → (ℕ → ℕ) → Type 0
AreOnlyTo span n old before stated =
    IfSome before (λ bytes. (k : ℕ → ℕ) (more : List ℕ) → MayStateTo span n old k → IsBehindNumber more → bytes ≡ fields_before old.size span n k ++ more → (t : ℕ) → IsAmong old.size span n t → k t ≡ stated t)

-- nor of all of its tiles
abbrev pub AreOnly : TileSpan → TilesOf → Option (List ℕ) → (ℕ → ℕ) → Type 0
AreOnly span old before stated = AreOnlyTo span (tile_count_of old.size) old before stated

-- the fields of a span's tiles came, and their counts are kept
pub record AreStated (span : TileSpan) (old new : TilesOf) (before after : Option (List ℕ)) : Type 0 where
  pub may : MayState old span (λ t. slice_index new.stated t)
  pub others : (t : ℕ) → (IsIn old span t → ⊥) → slice_index new.stated t ≡ slice_index old.stated t
  pub came : Came before after (fields_of old.size span (λ t. slice_index new.stated t))
  pub only : AreOnly span old before (λ t. slice_index new.stated t)

-- the fields of the first n tiles came, as far as they stand in the span
pub record StatedTo (span : TileSpan) (n : ℕ) (old new : TilesOf) (before after : Option (List ℕ)) : Type 0 where
  pub stays : StaysStanding old new
  pub whole : AreWhole new
  pub may : MayStateTo span n old (λ t. slice_index new.stated t)
  pub others : (t : ℕ) → (IsAmong old.size span n t → ⊥) → slice_index new.stated t ≡ slice_index old.stated t
  pub came : Came before after (fields_before old.size span n (λ t. slice_index new.stated t))
  pub only : AreOnlyTo span n old before (λ t. slice_index new.stated t)

-- no such fields come, whatever counts they might state
abbrev pub AreNotStated : TileSpan → TilesOf → Option (List ℕ) → Type 0
AreNotStated span old before =
    IfSome before (λ bytes. (k : ℕ → ℕ) (more : List ℕ) → MayState old span k → IsBehindNumber more → bytes ≡ fields_of old.size span k ++ more → ⊥)

-- the same of one tile
pub record IsStatedOf (t : ℕ) (old new : TilesOf) (before after : Option (List ℕ)) : Type 0 where
  pub count : ℕ
  pub may : (count_at old t ≤ count) × (count < 10 ^ 6)
  pub kept : new.stated ≡ slice_set old.stated t count
  pub came : Came before after (32 ∷ count_text (tile_count t count))
  pub only : IfSome before (λ bytes. (k : ℕ) (more : List ℕ) → count_at old t ≤ k → k < 10 ^ 6 → IsBehindNumber more → bytes ≡ (32 ∷ count_text (tile_count t k)) ++ more → k ≡ count)

abbrev pub IsNotStatedOf : ℕ → TilesOf → Option (List ℕ) → Type 0
IsNotStatedOf t old before =
    IfSome before (λ bytes. (k : ℕ) (more : List ℕ) → count_at old t ≤ k → k < 10 ^ 6 → IsBehindNumber more → bytes ≡ (32 ∷ count_text (tile_count t k)) ++ more → ⊥)

-- ---- moving forward

-- a tile is short of what is stated, and stands no further than a place of the list
abbrev pub is_short_at : TilesOf → ℕ → ℕ → Bool
is_short_at tiles t place = nat_lt (count_at tiles t) (slice_index tiles.stated t) && nat_le (slice_index tiles.behind t) place

-- a tile takes the piece at a place of the list, where a test holds
pub record TookIf (b : Bool) (t : ℕ) (x : Piece) (place : ℕ) (old new : TilesOf) : Type 0 where
  pub state : tile_at new.states t ≡ cond b (taken_by old.size t x (tile_at old.states t)) (tile_at old.states t)
  pub behind : slice_index new.behind t ≡ cond b (place + 1) (slice_index old.behind t)

-- the short tiles for which a test holds take it, and the others stay
pub record TookWhere (test : ℕ → Bool) (x : Piece) (place : ℕ) (old new : TilesOf) : Type 0 where
  pub size : new.size ≡ old.size
  pub stated : new.stated ≡ old.stated
  pub each : (t : ℕ) → t < tile_count_of old.size → TookIf (test t && is_short_at old t place) t x place old new

-- a tile of a span that the piece's box meets
abbrev pub is_met_in : Dimensions → TileSpan → Piece → ℕ → Bool
is_met_in size span x t = has_tile span (tile_place size t) && meets (box_of x) (tile_rect_of size t)
