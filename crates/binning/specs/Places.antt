-- Places in a list of pieces: those whose member meets a rectangle.
use Rattle.std.specs.Prelude.{ℕ, ◌≡◌, ◌-◌, ◌<◌, ◌≤◌, Bool, false, List, [], map, filter, slice_index_or}
use Rattle.std.specs.List.{range_with_len}
use Rattle.cull_base.specs.Piece.{Piece, piece, box_of}
use Rattle.cull_base.specs.Rectangle.{meets}
use Rattle.cull_base.specs.declared.rect.Rect.{Rect}

-- the member at a place, and one without points past the end
abbrev pub member_at : List Piece → ℕ → Piece
member_at members n = slice_index_or members n (piece [] [] [])

-- the box of the member at a place meets the rectangle
unfoldable pub meets_at : Rect → List Piece → ℕ → Bool
meets_at rect members n = meets (box_of (member_at members n)) rect

-- the places from one to before an end whose member's box meets the rectangle, rising
unfoldable pub places_in : Rect → List Piece → ℕ → ℕ → List ℕ
places_in rect members from to = filter (meets_at rect members) (range_with_len from (to - from))

-- the members at some places, in their order
abbrev pub members_at : List Piece → List ℕ → List Piece
members_at members places = map (member_at members) places

-- no member from a place to before an end meets the rectangle
abbrev pub NoneMeets : Rect → List Piece → ℕ → ℕ → Type 0
NoneMeets rect members from to = (n : ℕ) → from ≤ n → n < to → meets_at rect members n ≡ false
