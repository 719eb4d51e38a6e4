-- Rooms that change one after another.
use Rattle.std.proofs.Common.{◌≡◌, ℕ, ◌+◌, ◌<◌, ◌≤◌, List, [], ◌∷◌, ◌++◌, length, get_or, set, ℤ, ◌≤ℤ◌, int_lt, Bool, true, false, cond, arith, refl, ap, ◌∙◌, sym, below_more}
use Rattle.std.specs.Int.{int_min, int_max}
use Rattle.std.proofs.lemmas.Bool.{and_parts, and_from}
use Rattle.std.proofs.lemmas.Int.{ints}
use Rattle.std.proofs.lemmas.List.{append-nil, get_or-set_same, get_or-set_other, get_or_default}
use Rattle.cull_base.specs.Piece.{Piece, box_of}
use Rattle.cull_base.specs.Rectangle.{meets}
use Rattle.cull_base.specs.declared.rect.Rect.{Rect}
use Rattle.binning.specs.Places.{places_in}
use Rattle.binning.specs.Rooms.{RoomOf, room, emptied, offered, filled, ChangedEach, IsAround, least_with}
use Rattle.binning.proofs.Places.{places_in-nil, places_in-next, meets_at-is}

-- the first k rooms are changed, and the others stayed
pub record AreChanged (f : RoomOf → RoomOf) (k : ℕ) (old now : List RoomOf) : Type 0 where
  pub done : (j : ℕ) (d : RoomOf) → j < k → get_or now j d ≡ f (get_or old j d)
  pub left : (j : ℕ) (d : RoomOf) → k ≤ j → get_or now j d ≡ get_or old j d

pub none_changed : (f : RoomOf → RoomOf) (old : List RoomOf) → AreChanged f 0 old old
none_changed f old = record { done = λ j d lt. absurd (omega (arith, lt)); left = λ j d le. refl }

pub next_changed : (f : RoomOf → RoomOf) (k : ℕ) (old now : List RoomOf) (y d : RoomOf) → k < length now → y ≡ f (get_or now k d) → AreChanged f k old now → AreChanged f (k + 1) old (set now k y)
next_changed f k old now y d lt is a = record {
  done = λ j e h. below_more (λ i. get_or (set now k y) i e ≡ f (get_or old i e)) k
      (λ i u. get_or-set_other now k i y e (λ s. omega (arith, u, s)) ∙ a.done i e u)
      (get_or-set_same now k y e lt ∙ is ∙ ap f (get_or_default now k d e lt ∙ a.left k e (omega arith)))
      j h;
  left = λ j e le. get_or-set_other now k j y e (λ s. omega (arith, le, s)) ∙ a.left j e (omega (arith, le));
}

pub all_changed : (f : RoomOf → RoomOf) (k : ℕ) (old now : List RoomOf) → length old ≤ k → AreChanged f k old now → ChangedEach f old now
all_changed f k old now le a j d lt = a.done j d (omega (arith, lt, le))

-- rooms that are emptied have the places from one to before the same
pub filled_first : (members : List Piece) (from : ℕ) (old now : List RoomOf) → ChangedEach emptied old now → ChangedEach (filled members from from) old now
filled_first members from old now e j d lt = e j d lt ∙ ap (room (get_or old j d).rect) (sym (places_in-nil (get_or old j d).rect members from))

-- and one place more where they are offered the next
pub filled_next : (members : List Piece) (from index : ℕ) (x : Piece) (old now new : List RoomOf) → length now ≡ length old → from ≤ index → index < length members → get_or members index x ≡ x
    → ChangedEach (filled members from index) old now → ChangedEach (offered (box_of x) index) now new → ChangedEach (filled members from (index + 1)) old new
filled_next members from index x old now new len le lt is f o j d below =
    let r = (get_or old j d).rect in
    o j d (omega (arith, below, len)) ∙ ap (offered (box_of x) index) (f j d below)
    ∙ ap (λ b. room r (places_in r members from index ++ cond b (index ∷ []) [])) (sym (meets_at-is r members index x lt is))
    ∙ ap (room r) (sym (places_in-next r members from index le))

wider : (a0 a1 b0 b1 c0 c1 : ℤ) → c0 ≤ℤ b0 → b1 ≤ℤ c1 → int_lt (int_max a0 b0) (int_min a1 b1) ≡ true → int_lt (int_max a0 c0) (int_min a1 c1) ≡ true
wider a0 a1 b0 b1 c0 c1 p q h = grind (arith, ints)

least : (a b : ℤ) → (int_min a b ≤ℤ a) × (int_min a b ≤ℤ b)
least a b = (grind (arith, ints), grind (arith, ints))

greatest : (a b : ℤ) → (a ≤ℤ int_max a b) × (b ≤ℤ int_max a b)
greatest a b = (grind (arith, ints), grind (arith, ints))

-- what meets one of two rectangles meets the least that has both
pub meets_first : (box a b : Rect) → meets box a ≡ true → meets box (least_with a b) ≡ true
meets_first box a b h =
    let (x, y) = and_parts _ _ h in
    and_from _ _ (wider box.x0 box.x1 a.x0 a.x1 (int_min a.x0 b.x0) (int_max a.x1 b.x1) (least a.x0 b.x0).0 (greatest a.x1 b.x1).0 x)
    (wider box.y0 box.y1 a.y0 a.y1 (int_min a.y0 b.y0) (int_max a.y1 b.y1) (least a.y0 b.y0).0 (greatest a.y1 b.y1).0 y)

pub meets_second : (box a b : Rect) → meets box b ≡ true → meets box (least_with a b) ≡ true
meets_second box a b h =
    let (x, y) = and_parts _ _ h in
    and_from _ _ (wider box.x0 box.x1 b.x0 b.x1 (int_min a.x0 b.x0) (int_max a.x1 b.x1) (least a.x0 b.x0).1 (greatest a.x1 b.x1).1 x)
    (wider box.y0 box.y1 b.y0 b.y1 (int_min a.y0 b.y0) (int_max a.y1 b.y1) (least a.y0 b.y0).1 (greatest a.y1 b.y1).1 y)

-- a box that misses what is around all rooms is offered in vain
pub offered_far : (around box : Rect) (index : ℕ) (rooms : List RoomOf) → IsAround around rooms → meets box around ≡ false → ChangedEach (offered box index) rooms rooms
offered_far around box index rooms is off j d lt =
    let r = get_or rooms j d in
    by (meets box r.rect) refl (λ h. is j d box lt h)
  where
    by : (b : Bool) → meets box (get_or rooms j d).rect ≡ b → (meets box (get_or rooms j d).rect ≡ true → meets box around ≡ true) → get_or rooms j d ≡ offered box index (get_or rooms j d)
    by true e near = absurd (let no : true ≡ false = sym (near e) ∙ off in cc)
    by false e near = ap (room (get_or rooms j d).rect) (sym (append-nil (get_or rooms j d).indices) ∙ ap (λ b. (get_or rooms j d).indices ++ cond b (index ∷ []) []) (sym e))

-- rooms that are filled have the rectangles that they had
pub around_filled : (around : Rect) (members : List Piece) (from to : ℕ) (old now : List RoomOf) → length now ≡ length old → ChangedEach (filled members from to) old now → IsAround around old → IsAround around now
around_filled around members from to old now len f is j r box lt h =
    let below : j < length old = omega (arith, lt, len) in
    is j r box below (sym (ap (λ (x : RoomOf). meets box x.rect) (f j r below)) ∙ h)
