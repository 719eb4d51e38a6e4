-- Pieces between certified corners, and what the law says of them.
use Rattle.std.proofs.Common.{◌≡◌, ℕ, zero, suc, ℤ, pos, ◌<◌, ◌+◌, ◌^◌, ◌≤◌, ◌<ℤ◌, ◌-ℤ◌, ◌*ℤ◌, [], ◌∷◌, ◌++◌, List, length, Option, Some, None, IfSome, option_to_list, append-nil, arith, refl}
use Rattle.std.specs.List.{All}
use Rattle.std.proofs.lemmas.Int.{ints}
use Rattle.std.proofs.lemmas.List.{length-append}
use Rattle.std.proofs.lemmas.List.Elements.{All-weaker, All-cons, All-nil, All-push}
use Rattle.std.proofs.Math.IntN.{*ℤ_comm}
use Rattle.cull_base.specs.Bounds.{Bounded}
use Rattle.cull_base.specs.Piece.{Piece, IsPiece, IsCoordinate, point, doubled_area}
use Rattle.cull_base.specs.declared.nearness.TheConstants.{HELD_TOP}
use Rattle.exact_clip.specs.Clip.{Clip}
use Rattle.exact_clip.specs.Held.{IsHeld, Holds}
use Rattle.exact_clip.specs.declared.held.Held.{Held}
use Rattle.pixel_forms.specs.Certified.{IsCertified, StandFor, IsTriangle, IsHalf}
use Rattle.pixel_forms.specs.Seen.{sight_of, nearest_of}
use Rattle.pixel_forms.specs.declared.eye.Eye.{Eye}
use Rattle.pixel_forms.specs.declared.forms.Forms.{Forms}
use Rattle.pixel_forms.proofs.Certified.{within}
use Rattle.inward_pieces.specs.declared.corner.Corner.{Corner}
use Rattle.inward_pieces.specs.Fans.{IsPlaced, IsCorner, HasCorners, between}
use Rattle.inward_pieces.specs.Pieces.{IsWithinTriangle, IsWithinQuad}

-- a certified corner is one that a piece may have
pub corner_at : (eye : Eye) (forms : Forms) (x y : ℤ) (q : ℕ) → Bounded (2 ^ 15) x → Bounded (2 ^ 15) y → q ≤ HELD_TOP
    → IsCertified (nearest_of eye) forms (point x y) q → IsCorner eye forms (record { x = x; y = y; q = q })
corner_at eye forms x y q hx hy hq h = record {
  placed = record {
    x = (omega (arith, ints, hx), omega (arith, ints, hx));
    y = (omega (arith, ints, hy), omega (arith, ints, hy));
    q = hq;
  };
  certified = h;
}

-- a triangle turned has the opposite area
opposite : (p q r s : ℤ) → ((p *ℤ q) -ℤ (r *ℤ s)) <ℤ pos 0 → pos 0 <ℤ ((s *ℤ r) -ℤ (q *ℤ p))
opposite p q r s h = omega (arith, ints, h, *ℤ_comm p q, *ℤ_comm r s)

pub turned_area : (a b c : Corner) (z : ℤ) → z ≡ doubled_area (between a b c) → z <ℤ pos 0 → pos 0 <ℤ doubled_area (between a c b)
turned_area a b c z e lt =
    let k : doubled_area (between a b c) <ℤ pos 0 = rw (← e) lt in
    opposite (b.x -ℤ a.x) (c.y -ℤ a.y) (b.y -ℤ a.y) (c.x -ℤ a.x) k

all_three : {X : Type 0} (P : X → Type 0) (x y z : X) → P x → P y → P z → All P (x ∷ y ∷ z ∷ [])
all_three P x y z hx hy hz = All-cons P x (y ∷ z ∷ []) hx (All-cons P y (z ∷ []) hy (All-cons P z [] hz (All-nil P)))

valid_between : (a b c : Corner) → IsPlaced a → IsPlaced b → IsPlaced c → pos 0 <ℤ doubled_area (between a b c) → IsPiece (between a b c)
valid_between a b c ha hb hc area = record {
  positive_area = area;
  x_within = all_three IsCoordinate a.x b.x c.x ha.x hb.x hc.x;
  y_within = all_three IsCoordinate a.y b.y c.y ha.y hb.y hc.y;
  nearness_within = all_three (λ q. q ≤ HELD_TOP) a.q b.q c.q ha.q hb.q hc.q;
  three_x = refl;
  three_y = refl;
  three_q = refl;
}

pub corners_between : (eye : Eye) (forms : Forms) (a b c : Corner) → pos 0 <ℤ doubled_area (between a b c)
    → IsCorner eye forms a → IsCorner eye forms b → IsCorner eye forms c → HasCorners eye forms (between a b c)
corners_between eye forms a b c area ha hb hc = record {
  valid = valid_between a b c ha.placed hb.placed hc.placed area;
  certified = record { positive_area = area; first = ha.certified; second = hb.certified; third = hc.certified };
}

-- one more in a list of such pieces
pub one_more : (eye : Eye) (forms : Forms) (a b c : Corner) (ts more : List Piece) (o : Option Piece)
    → IfSome o (λ t. (e : Eye) (fs : Forms) → IsCorner e fs a → IsCorner e fs b → IsCorner e fs c → HasCorners e fs t)
    → IsCorner eye forms a → IsCorner eye forms b → IsCorner eye forms c
    → more ≡ ts ++ option_to_list o → All (HasCorners eye forms) ts → All (HasCorners eye forms) more
one_more eye forms a b c ts more None h ha hb hc e k = rw (e, append-nil) k
one_more eye forms a b c ts more (Some t) h ha hb hc e k = rw e (All-push (HasCorners eye forms) ts t k (h eye forms ha hb hc))

pub length_one_more : (ts more : List Piece) (o : Option Piece) (n : ℕ) → more ≡ ts ++ option_to_list o → length ts ≤ n → length more ≤ n + 1
length_one_more ts more None n e k = rw (e, append-nil) (omega arith)
length_one_more ts more (Some t) n e k = rw e (omega (arith, k, length-append ts (t ∷ [])))

-- what a list of such pieces is
pub all_pieces : (eye : Eye) (forms : Forms) (ts : List Piece) → All (HasCorners eye forms) ts → All IsPiece ts
all_pieces eye forms ts h = All-weaker (HasCorners eye forms) IsPiece (λ t k. k.valid) ts h

-- nothing is held by a unit of 0
above : (unit : ℕ) (held exact : ℤ) → IsHeld unit held exact → 0 < unit
above zero held exact h = absurd (omega (arith, ints, h.low, h.high))
above (suc n) held exact h = omega arith

held_above : (unit : ℕ) (v : Held) (exact : Clip) → Holds unit v exact → 0 < unit
held_above unit v exact h = above unit v.x exact.x h.x

pub all_within_triangle : (eye : Eye) (a b c : Held) (forms : Forms) (ts : List Piece)
    → ((unit : ℕ) (p q r : Clip) → 0 < unit → Holds unit a p → Holds unit b q → Holds unit c r → StandFor (sight_of eye unit) (nearest_of eye) forms (IsTriangle p q r))
    → All (HasCorners eye forms) ts → All (IsWithinTriangle eye a b c) ts
all_within_triangle eye a b c forms ts stand h = All-weaker (HasCorners eye forms) (IsWithinTriangle eye a b c)
    (λ t k unit p q r ha hb hc. within (sight_of eye unit) (nearest_of eye) forms (IsTriangle p q r) t (stand unit p q r (held_above unit a p ha) ha hb hc) k.certified) ts h

pub all_within_quad : (eye : Eye) (a b c d : Held) (forms : Forms) (ts : List Piece)
    → ((unit : ℕ) (p q r s : Clip) → 0 < unit → Holds unit a p → Holds unit b q → Holds unit c r → Holds unit d s → StandFor (sight_of eye unit) (nearest_of eye) forms (IsHalf p q r s))
    → All (HasCorners eye forms) ts → All (IsWithinQuad eye a b c d) ts
all_within_quad eye a b c d forms ts stand h = All-weaker (HasCorners eye forms) (IsWithinQuad eye a b c d)
    (λ t k unit p q r s ha hb hc hd. within (sight_of eye unit) (nearest_of eye) forms (IsHalf p q r s) t (stand unit p q r s (held_above unit a p ha) ha hb hc hd) k.certified) ts h
