-- Rooms for the parts of one batch at a time: the places of those members that meet a bin's rectangle.
use Rattle.std.specs.Prelude.{ℕ, ◌≡◌, ◌<◌, true, cond, List, [], ◌∷◌, ◌++◌, length, slice_index_or}
use Rattle.std.specs.Int.{int_min, int_max}
use Rattle.cull_base.specs.Piece.{Piece}
use Rattle.cull_base.specs.Rectangle.{meets}
use Rattle.cull_base.specs.declared.rect.Rect.{Rect}
use Rattle.binning.specs.Places.{places_in}

pub record RoomOf : Type 0 where
  pub rect : Rect
  pub indices : List ℕ

abbrev pub room : Rect → List ℕ → RoomOf
room rect indices = record { rect = rect; indices = indices }

-- nothing in it
abbrev pub emptied : RoomOf → RoomOf
emptied r = room r.rect []

-- one index more, where the box meets the rectangle
abbrev pub offered : Rect → ℕ → RoomOf → RoomOf
offered box index r = room r.rect (r.indices ++ cond (meets box r.rect) (index ∷ []) [])

-- the places from one to before an end whose member meets the rectangle
abbrev pub filled : List Piece → ℕ → ℕ → RoomOf → RoomOf
filled members from to r = room r.rect (places_in r.rect members from to)

-- each room is f of what it was
abbrev pub ChangedEach : (RoomOf → RoomOf) → List RoomOf → List RoomOf → Type 0
ChangedEach f old new = (j : ℕ) (d : RoomOf) → j < length old → slice_index_or new j d ≡ f (slice_index_or old j d)

-- the least rectangle that has two
abbrev pub least_with : Rect → Rect → Rect
least_with a b = record { x0 = int_min a.x0 b.x0; y0 = int_min a.y0 b.y0; x1 = int_max a.x1 b.x1; y1 = int_max a.y1 b.y1 }

-- a box that meets the rectangle of one of the rooms meets this one
abbrev pub IsAround : Rect → List RoomOf → Type 0
IsAround around rooms =
    (j : ℕ) (r : RoomOf) (box : Rect) → j < length rooms
    → meets box (slice_index_or rooms j r).rect ≡ true → meets box around ≡ true
