-- What a camera sees in a box, coordinate by coordinate, and boxes around others.
use Rattle.std.proofs.Common.{◌≡◌, ◌∙◌, ◌≤◌, ℕ, ℤ, zero, suc, map, pos, negsuc, neg_ℤ, ◌+◌, ◌^◌, ◌≤ℤ◌, ◌+ℤ◌, ◌*ℤ◌, Bool, false, int_lt, cond, FitsSigned, w32, List, [], ◌∷◌, arith, refl, sym, subst}
use Rattle.std.specs.List.{All}
use Rattle.std.specs.Int.{int_min, int_max, int_div_euclid}
use Rattle.std.proofs.Math.IntN.{*ℤ_comm}
use Rattle.std.proofs.lemmas.Int.{ints, clamps}
use Rattle.std.proofs.lemmas.List.Elements.{All-from_recursion}
use Rattle.cull_base.specs.Bounds.{Bounded}
use Rattle.cull_base.specs.declared.clip.ClipVertex.{ClipVertex}
use Rattle.cull_base.specs.declared.nearness.Grade.{Grade}
use Rattle.cull_base.specs.Grade.{top_of}
use Rattle.cull_base.specs.Screen.{Dimensions}
use Rattle.cull_base.specs.declared.scene_types.Object.{Object}
use Rattle.cull_base.specs.declared.scene_types.Object.TheVariants.{Area, Block, Mesh}
use Rattle.camera_path.specs.Clip.{AreWithin, clip_of, coordinate_of, corners_of, factors_sum, number}
use Rattle.edge_lanes.proofs.Floors.{floor-le, from_below_floor, le-times, neg-times}
use Rattle.scene_reader.specs.Layout.{IsObject, Parts}
use Rattle.rect_query.specs.Boxes.{box_answer}
use Rattle.rect_query.specs.declared.boxes.BoxAnswer.{BoxAnswer}
use Rattle.rect_query.specs.declared.boxes.BoxAnswer.TheVariants.{Outside, Straddles, At}
use Rattle.cull_report.specs.Scene.{camera_at, size_of}
use Rattle.group_query.specs.Around.{IsAnswerAround, IsBoxInside, IsInside, IsInReach, outer_corners, pick, picked, spread, three}
use Rattle.group_query.specs.declared.around.Around.{Around}
use Rattle.group_query.specs.declared.around.Reach.{Reach}
use Rattle.group_query.proofs.BoxReaches.{stands_in}

-- ---- a factor of numbers between two

times_rise : (n : ℕ) (x y : ℤ) → x ≤ℤ y → (pos n *ℤ x) ≤ℤ (pos n *ℤ y)
times_rise n x y le = joined _ _ _ _ (*ℤ_comm (pos n) x) (*ℤ_comm (pos n) y) (le-times x y n le)
  where
    joined : (a b c d : ℤ) → a ≡ c → b ≡ d → c ≤ℤ d → a ≤ℤ b
    joined a b c d e f h = omega (arith, ints, e, f, h)

times_fall : (n : ℕ) (x y : ℤ) → x ≤ℤ y → (negsuc n *ℤ y) ≤ℤ (negsuc n *ℤ x)
times_fall n x y le = turned _ _ _ _ (neg-times (pos (suc n)) x) (neg-times (pos (suc n)) y) (times_rise (suc n) x y le)
  where
    turned : (a b c d : ℤ) → a ≡ neg_ℤ c → b ≡ neg_ℤ d → c ≤ℤ d → b ≤ℤ a
    turned a b c d e f h = omega (arith, ints, e, f, h)

not_negative : (n : ℕ) → int_lt (pos n) (pos 0) ≡ false
not_negative n = grind (arith, ints)

at_least : (f a b v : ℤ) → a ≤ℤ v → v ≤ℤ b → (f *ℤ pick f a b) ≤ℤ (f *ℤ v)
at_least (pos n) a b v low high = subst (λ (t : Bool). (pos n *ℤ cond t b a) ≤ℤ (pos n *ℤ v)) (sym (not_negative n)) (times_rise n a v low)
at_least (negsuc n) a b v low high = times_fall n v b high

at_most : (f a b v : ℤ) → a ≤ℤ v → v ≤ℤ b → (f *ℤ v) ≤ℤ (f *ℤ pick f b a)
at_most (pos n) a b v low high = subst (λ (t : Bool). (pos n *ℤ v) ≤ℤ (pos n *ℤ cond t a b)) (sym (not_negative n)) (times_rise n v b high)
at_most (negsuc n) a b v low high = times_fall n a v low

-- ---- a row of a camera

sums_rise : (a b c x y z : ℤ) → a ≤ℤ x → b ≤ℤ y → c ≤ℤ z → ((a +ℤ b) +ℤ c) ≤ℤ ((x +ℤ y) +ℤ z)
sums_rise a b c x y z f g h = omega (arith, ints, f, g, h)

floors_rise : (m n : ℤ) → m ≤ℤ n → int_div_euclid m (pos 65536) ≤ℤ int_div_euclid n (pos 65536)
floors_rise m n le = from_below_floor (int_div_euclid m (pos 65536)) n 65536 (omega arith) (then _ _ _ (floor-le m 65536 (omega arith)) le)
  where
    then : (a b c : ℤ) → a ≤ℤ b → b ≤ℤ c → a ≤ℤ c
    then a b c f g = omega (arith, ints, f, g)

moved : (a b o : ℤ) → a ≤ℤ b → (a +ℤ o) ≤ℤ (b +ℤ o)
moved a b o h = omega (arith, ints, h)

row_least : (camera : List ℤ) (r : ℕ) (low high v : List ℤ) → IsInside low high v → coordinate_of camera r (picked camera r low high) ≤ℤ coordinate_of camera r v
row_least camera r low high v h =
    moved _ _ (number camera (r + 3)) (floors_rise (factors_sum camera r (picked camera r low high)) (factors_sum camera r v)
    (sums_rise _ _ _ _ _ _ (at_least (number camera r) _ _ (number v 0) h.x.0 h.x.1) (at_least (number camera (r + 1)) _ _ (number v 1) h.y.0 h.y.1) (at_least (number camera (r + 2)) _ _ (number v 2) h.z.0 h.z.1)))

row_most : (camera : List ℤ) (r : ℕ) (low high v : List ℤ) → IsInside low high v → coordinate_of camera r v ≤ℤ coordinate_of camera r (picked camera r high low)
row_most camera r low high v h =
    moved _ _ (number camera (r + 3)) (floors_rise (factors_sum camera r v) (factors_sum camera r (picked camera r high low))
    (sums_rise _ _ _ _ _ _ (at_most (number camera r) _ _ (number v 0) h.x.0 h.x.1) (at_most (number camera (r + 1)) _ _ (number v 1) h.y.0 h.y.1) (at_most (number camera (r + 2)) _ _ (number v 2) h.z.0 h.z.1)))

from_both : (least greatest a b z : ℤ) → least ≡ a → greatest ≡ b → a ≤ℤ z → z ≤ℤ b → (least ≤ℤ z) × (z ≤ℤ greatest)
from_both least greatest a b z e f g h = (omega (arith, ints, e, g), omega (arith, ints, f, h))

pub in_reach : (camera low high v : List ℤ) (s : Reach)
    → s.x.least ≡ (clip_of camera (picked camera 0 low high)).x → s.x.greatest ≡ (clip_of camera (picked camera 0 high low)).x
    → s.y.least ≡ (clip_of camera (picked camera 4 low high)).y → s.y.greatest ≡ (clip_of camera (picked camera 4 high low)).y
    → s.w.least ≡ (clip_of camera (picked camera 8 low high)).w → s.w.greatest ≡ (clip_of camera (picked camera 8 high low)).w
    → IsInside low high v → IsInReach s (clip_of camera v)
unfolding clip_of
in_reach camera low high v s x0 x1 y0 y1 w0 w1 h = record {
  x = from_both s.x.least s.x.greatest _ _ (coordinate_of camera 0 v) x0 x1 (row_least camera 0 low high v h) (row_most camera 0 low high v h);
  y = from_both s.y.least s.y.greatest _ _ (coordinate_of camera 4 v) y0 y1 (row_least camera 4 low high v h) (row_most camera 4 low high v h);
  w = from_both s.w.least s.w.greatest _ _ (coordinate_of camera 8 v) w0 w1 (row_least camera 8 low high v h) (row_most camera 8 low high v h);
}

-- ---- three numbers within a bound

pub three_within : (n : ℕ) (x y z : ℤ) → Bounded n x → Bounded n y → Bounded n z → AreWithin n (three x y z)
three_within n x y z hx hy hz = All-from_recursion (Bounded n) (three x y z) (hx, (hy, (hz, tt)))

bounded_zero : (n : ℕ) → Bounded n (pos 0)
bounded_zero n = (omega (arith, ints), omega (arith, ints))

within_at : (n : ℕ) (row : List ℤ) (k : ℕ) → AreWithin n row → Bounded n (number row k)
within_at n [] k h = bounded_zero n
within_at n (x ∷ xs) zero h = h 0 (pos 0) (omega arith)
within_at n (x ∷ xs) (suc k) h = within_at n xs k (λ j d lt. h (suc j) d (omega (arith, lt)))

pick_within : (n : ℕ) (f a b : ℤ) → Bounded n a → Bounded n b → Bounded n (pick f a b)
pick_within n (pos m) a b h g = subst (λ (t : Bool). Bounded n (cond t b a)) (sym (not_negative m)) h
pick_within n (negsuc m) a b h g = g

pub picked_within : (n : ℕ) (camera : List ℤ) (r : ℕ) (low high : List ℤ) → AreWithin n low → AreWithin n high → AreWithin n (picked camera r low high)
picked_within n camera r low high h g =
    three_within n _ _ _ (pick_within n (number camera r) _ _ (within_at n low 0 h) (within_at n high 0 g)) (pick_within n (number camera (r + 1)) _ _ (within_at n low 1 h) (within_at n high 1 g))
    (pick_within n (number camera (r + 2)) _ _ (within_at n low 2 h) (within_at n high 2 g))

pub threes : (x y z a b c : ℤ) → x ≡ a → y ≡ b → z ≡ c → three x y z ≡ three a b c
threes x y z a b c e f g = rw (e, f, g) refl

min_within : (n : ℕ) (a b : ℤ) → Bounded n a → Bounded n b → Bounded n (int_min a b)
min_within n a b f g = (omega (arith, ints, clamps, f, g), omega (arith, ints, clamps, f, g))

max_within : (n : ℕ) (a b : ℤ) → Bounded n a → Bounded n b → Bounded n (int_max a b)
max_within n a b f g = (omega (arith, ints, clamps, f, g), omega (arith, ints, clamps, f, g))

pub number_fits : (row : List ℤ) (k : ℕ) → AreWithin (2 ^ 24) row → FitsSigned w32 (number row k)
number_fits row k h = fits (number row k) (within_at (2 ^ 24) row k h)
  where
    fits : (z : ℤ) → Bounded (2 ^ 24) z → FitsSigned w32 z
    fits z b = omega (arith, ints, b)

-- ---- a box around another and one more

kept_between : (a b c d z : ℤ) → a ≤ℤ z → z ≤ℤ b → (int_min a c ≤ℤ z) × (z ≤ℤ int_max b d)
kept_between a b c d z f g = (omega (arith, ints, clamps, f), omega (arith, ints, clamps, g))

new_between : (a b c d z : ℤ) → c ≤ℤ z → z ≤ℤ d → (int_min a c ≤ℤ z) × (z ≤ℤ int_max b d)
new_between a b c d z f g = (omega (arith, ints, clamps, f), omega (arith, ints, clamps, g))

pub spread_low : (n : ℕ) (a : Around) (low high : List ℤ) → AreWithin n a.low → AreWithin n low → AreWithin n (spread a low high).low
spread_low n a low high h g =
    three_within n _ _ _ (min_within n _ _ (within_at n a.low 0 h) (within_at n low 0 g)) (min_within n _ _ (within_at n a.low 1 h) (within_at n low 1 g)) (min_within n _ _ (within_at n a.low 2 h) (within_at n low 2 g))

pub spread_high : (n : ℕ) (a : Around) (low high : List ℤ) → AreWithin n a.high → AreWithin n high → AreWithin n (spread a low high).high
spread_high n a low high h g =
    three_within n _ _ _ (max_within n _ _ (within_at n a.high 0 h) (within_at n high 0 g)) (max_within n _ _ (within_at n a.high 1 h) (within_at n high 1 g)) (max_within n _ _ (within_at n a.high 2 h) (within_at n high 2 g))

pub spread_is : (a : Around) (low high : List ℤ) (x y z p q r : ℤ) → x ≡ int_min (number a.low 0) (number low 0) → y ≡ int_min (number a.low 1) (number low 1) → z ≡ int_min (number a.low 2) (number low 2)
    → p ≡ int_max (number a.high 0) (number high 0) → q ≡ int_max (number a.high 1) (number high 1) → r ≡ int_max (number a.high 2) (number high 2)
    → record { low = three x y z; high = three p q r } ≡ spread a low high
spread_is a low high x y z p q r e f g h i j = rw (e, f, g, h, i, j) refl

-- a point in the box is in the wider one
still_inside : (a : Around) (low high v : List ℤ) → IsInside a.low a.high v → IsInside (spread a low high).low (spread a low high).high v
still_inside a low high v h = record {
  x = kept_between _ _ _ _ _ h.x.0 h.x.1;
  y = kept_between _ _ _ _ _ h.y.0 h.y.1;
  z = kept_between _ _ _ _ _ h.z.0 h.z.1;
}

new_inside : (a : Around) (low high v : List ℤ) → IsInside low high v → IsInside (spread a low high).low (spread a low high).high v
new_inside a low high v h = record {
  x = new_between _ _ _ _ _ h.x.0 h.x.1;
  y = new_between _ _ _ _ _ h.y.0 h.y.1;
  z = new_between _ _ _ _ _ h.z.0 h.z.1;
}

pub still_boxed : (a : Around) (low high : List ℤ) (o : Object) → IsBoxInside a o → IsBoxInside (spread a low high) o
still_boxed a low high (Area r w) h = absurd h
still_boxed a low high (Block l t) h = (still_inside a low high l h.0, still_inside a low high t h.1)
still_boxed a low high (Mesh first count) h = absurd h

same : (z : ℤ) → z ≤ℤ z
same z = omega (arith, ints)

pub new_boxed : (a : Around) (low high : List ℤ) (m : ℕ) → IsObject m (Block low high) → IsBoxInside (spread a low high) (Block low high)
new_boxed a low high m h = (
  new_inside a low high low (record { x = (same _, h.2); y = (same _, h.3); z = (same _, h.4) }),
  new_inside a low high high (record { x = (h.2, same _); y = (h.3, same _); z = (h.4, same _) }),
)

-- what holds of all that is reach in a box holds of the corners of a box in it
pub corners_reached : (P : ClipVertex → Type 0) (camera low high l t : List ℤ) → ((v : List ℤ) → IsInside low high v → P (clip_of camera v)) → IsInside low high l → IsInside low high t
    → All P (map (clip_of camera) (corners_of l t))
corners_reached P camera low high l t h a b =
    All-from_recursion P (map (clip_of camera) (corners_of l t)) (
      h _ (mixed a.x a.y a.z),
      (
        h _ (mixed b.x a.y a.z),
        (
          h _ (mixed a.x b.y a.z),
          (
            h _ (mixed b.x b.y a.z),
            (h _ (mixed a.x a.y b.z), (h _ (mixed b.x a.y b.z), (h _ (mixed a.x b.y b.z), (h _ (mixed b.x b.y b.z), tt)))),
          ),
        ),
      ),
    )
  where
    mixed : {x y z : ℤ} → (number low 0 ≤ℤ x) × (x ≤ℤ number high 0) → (number low 1 ≤ℤ y) × (y ≤ℤ number high 1) → (number low 2 ≤ℤ z) × (z ≤ℤ number high 2) → IsInside low high (three x y z)
    mixed p q r = record { x = p; y = q; z = r }

-- where a box stands that is made of all that is reach in another
pub answer_is : (s : Parts) (reach : Reach) (answer : BoxAnswer) (grade : Grade) (near : ℕ) (size : Dimensions) (cs : List ClipVertex) → answer ≡ box_answer (top_of grade) near size cs
    → grade ≡ s.grade → near ≡ s.near → size ≡ size_of s → cs ≡ outer_corners reach → answer ≡ box_answer (top_of s.grade) s.near (size_of s) (outer_corners reach)
answer_is s reach answer grade near size cs e g n z k = e ∙ (λ i. box_answer (top_of (g i)) (n i) (z i) (k i))

pub answered : (s : Parts) (frame : ℕ) (a : Around) (reach : Reach) (answer : BoxAnswer) → 1 ≤ s.near → ((v : List ℤ) → IsInside a.low a.high v → IsInReach reach (clip_of (camera_at s frame) v))
    → answer ≡ box_answer (top_of s.grade) s.near (size_of s) (outer_corners reach) → IsAnswerAround s frame a answer
answered s frame a reach Outside some sees e = tt
answered s frame a reach Straddles some sees e = tt
answered s frame a reach (At rect q) some sees e = λ low high l h.
    stands_in (top_of s.grade) s.near (size_of s) reach _ _ rect q some (sym e) (corners_reached (IsInReach reach) (camera_at s frame) a.low a.high low high sees l h)
