-- Why what is seen in a box stands in the rectangle of the outer corners, and is no nearer.
use Rattle.std.proofs.Common.{◌≡◌, ℕ, ℤ, pos, negsuc, neg_ℤ, suc, ◌+◌, ◌*◌, ◌<◌, ◌≤◌, ◌≤ℤ◌, ◌<ℤ◌, ◌+ℤ◌, ◌-ℤ◌, ◌*ℤ◌, List, [], ◌∷◌, length, map, get_or, Bool, true, false, ◌||◌, ◌&&◌, int_lt, cond, arith, refl, sym, ap, subst, inl, inr, lt_of_mul-lt-mul_right, mul-le-mul_left}
use Rattle.std.specs.Int.{div_ceil, int_div_euclid}
use Rattle.std.specs.List.{list_all, list_any, All}
use Rattle.std.proofs.lemmas.Bool.{or_parts, or_from}
use Rattle.std.proofs.lemmas.Grind.{div_ceil_times}
use Rattle.std.proofs.lemmas.Int.{ints, fold-int_min_bounds, fold-int_min_reached, fold-int_max_bounds, fold-int_max_reached}
use Rattle.std.proofs.lemmas.List.Elements.{All-nil, All-cons, All-tail, All-map, All-contains, All-weaker}
use Rattle.std.proofs.lemmas.List.Folds.{list_any_none}
use Rattle.cull_base.specs.declared.clip.ClipVertex.{ClipVertex}
use Rattle.cull_base.specs.declared.rect.Rect.{Rect}
use Rattle.cull_base.specs.Bounds.{Bounded}
use Rattle.cull_base.specs.Guard.{is_beyond, is_past_guard}
use Rattle.cull_base.specs.NearPlane.{is_behind}
use Rattle.cull_base.specs.Piece.{least_of, greatest_of, first_pixel, box_around}
use Rattle.cull_base.specs.Pixels.{natural}
use Rattle.cull_base.specs.Screen.{Dimensions}
use Rattle.rect_query.specs.Boxes.{box_answer, box_nearness, box_rect_of}
use Rattle.rect_query.specs.Ratios.{IsRatio, across, down, place_at}
use Rattle.rect_query.specs.declared.boxes.BoxAnswer.TheVariants.{Outside, Straddles, At}
use Rattle.rect_query.proofs.Corners.{w_front}
use Rattle.rect_query.proofs.Reaching.{none_stray}
use Rattle.rect_query.proofs.Rising.{places_rise}
use Rattle.group_query.specs.Around.{IsInReach, IsPart, StandsIn, outer_corners}
use Rattle.group_query.specs.declared.around.Reach.{Reach}

-- a vertex of these coordinates
abbrev a_vertex : ℤ → ℤ → ℤ → ClipVertex
a_vertex x y w = record { x = x; y = y; w = w }

-- ---- vertices within the guard, and not before the near distance

pub record IsClear (near : ℕ) (v : ClipVertex) : Type 0 where
  pub x : Bounded (16384 * near) v.x
  pub y : Bounded (16384 * near) v.y
  pub w : Bounded (16384 * near) v.w
  pub front : pos near ≤ℤ v.w

not_beyond : (n : ℕ) (z : ℤ) → is_beyond n z ≡ false → Bounded n z
not_beyond n z e = let (low, high) = or_parts (int_lt z (neg_ℤ (pos n))) (int_lt (pos n) z) e in (grind (arith, ints), grind (arith, ints))

clear_from : (near : ℕ) (v : ClipVertex) → is_past_guard v near ≡ false → is_behind near v ≡ false → IsClear near v
clear_from near v e f =
    let (x, rest) = or_parts (is_beyond (16384 * near) v.x) (is_beyond (16384 * near) v.y || is_beyond (16384 * near) v.w) e in
    let (y, w) = or_parts (is_beyond (16384 * near) v.y) (is_beyond (16384 * near) v.w) rest in
    record { x = not_beyond _ v.x x; y = not_beyond _ v.y y; w = not_beyond _ v.w w; front = w_front near v f }

not_less : (x y : ℤ) → y ≤ℤ x → int_lt x y ≡ false
not_less x y h = grind (arith, ints, h)

within : (n : ℕ) (z : ℤ) → Bounded n z → is_beyond n z ≡ false
within n z h = or_from (int_lt z (neg_ℤ (pos n))) (int_lt (pos n) z) (not_less z (neg_ℤ (pos n)) h.0) (not_less (pos n) z h.1)

abbrev is_stray : ℕ → ClipVertex → Bool
is_stray near v = is_past_guard v near || is_behind near v

not_stray : (near : ℕ) (v : ClipVertex) → IsClear near v → (is_past_guard v near ≡ false) × (is_behind near v ≡ false)
not_stray near v h =
    let n = 16384 * near in
    (or_from (is_beyond n v.x) (is_beyond n v.y || is_beyond n v.w) (within n v.x h.x) (or_from (is_beyond n v.y) (is_beyond n v.w) (within n v.y h.y) (within n v.w h.w)), not_less v.w (pos near) h.front)

after : (x y z : ℤ) → x ≤ℤ y → y ≤ℤ z → x ≤ℤ z
after x y z i j = omega (arith, ints, i, j)

between : (n : ℕ) (a b z : ℤ) → Bounded n a → Bounded n b → (a ≤ℤ z) × (z ≤ℤ b) → Bounded n z
between n a b z ha hb h = (after (neg_ℤ (pos n)) a z ha.0 h.0, after z b (pos n) h.1 hb.1)

-- ---- four of the outer corners, of which two have each least and each greatest number

abbrev low_at : Reach → ℤ → ClipVertex
low_at s w = a_vertex s.x.least s.y.least w

abbrev high_at : Reach → ℤ → ClipVertex
high_at s w = a_vertex s.x.greatest s.y.greatest w

pub record AtFour (P : ClipVertex → Type 0) (s : Reach) : Type 0 where
  pub low_near : P (low_at s s.w.least)
  pub high_near : P (high_at s s.w.least)
  pub low_far : P (low_at s s.w.greatest)
  pub high_far : P (high_at s s.w.greatest)

at_four : (P : ClipVertex → Type 0) (s : Reach) → All P (outer_corners s) → AtFour P s
at_four P s h =
    let d = a_vertex (pos 0) (pos 0) (pos 0) in
    let (i, j, k, l) : (0 < 8) × (3 < 8) × (4 < 8) × (7 < 8) = (omega arith, omega arith, omega arith, omega arith) in
    record { low_near = h 0 d i; high_near = h 3 d j; low_far = h 4 d k; high_far = h 7 d l }

clear_seen : (near : ℕ) (s : Reach) (v : ClipVertex) → AtFour (IsClear near) s → IsInReach s v → IsClear near v
clear_seen near s v k h =
    let a = k.low_near in
    let b = k.high_far in
    let n = 16384 * near in
    record {
      x = between n s.x.least s.x.greatest v.x a.x b.x h.x;
      y = between n s.y.least s.y.greatest v.y a.y b.y h.y;
      w = between n s.w.least s.w.greatest v.w a.w b.w h.w;
      front = after (pos near) s.w.least v.w a.front h.w.0;
    }

-- ---- the least and the greatest of what a function gives

unmapped : (P : ℤ → Type 0) (f : ClipVertex → ℤ) (vs : List ClipVertex) → All P (map f vs) → All (λ u. P (f u)) vs
unmapped P f [] h = All-nil (λ u. P (f u))
unmapped P f (v ∷ vs) h = All-cons (λ u. P (f u)) v vs (h 0 (f v) (omega arith)) (unmapped P f vs (All-tail P (f v) (map f vs) h))

least_each : (f : ClipVertex → ℤ) (vs : List ClipVertex) → All (λ u. least_of (map f vs) ≤ℤ f u) vs
least_each f [] = All-nil (λ u. pos 0 ≤ℤ f u)
least_each f (v ∷ vs) =
    let m = least_of (map f (v ∷ vs)) in
    let h = fold-int_min_bounds (f v) (map f vs) m refl in
    All-cons (λ u. m ≤ℤ f u) v vs h.0 (unmapped (λ z. m ≤ℤ z) f vs h.1)

greatest_each : (f : ClipVertex → ℤ) (vs : List ClipVertex) → All (λ u. f u ≤ℤ greatest_of (map f vs)) vs
greatest_each f [] = All-nil (λ u. f u ≤ℤ pos 0)
greatest_each f (v ∷ vs) =
    let m = greatest_of (map f (v ∷ vs)) in
    let h = fold-int_max_bounds (f v) (map f vs) m refl in
    All-cons (λ u. f u ≤ℤ m) v vs h.0 (unmapped (λ z. z ≤ℤ m) f vs h.1)

least_above : (f : ClipVertex → ℤ) (m : ℤ) (vs : List ClipVertex) → 0 < length vs → All (λ u. m ≤ℤ f u) vs → m ≤ℤ least_of (map f vs)
least_above f m [] lt all = absurd (omega arith)
least_above f m (v ∷ vs) lt all =
    let r = least_of (map f (v ∷ vs)) in
    elim (fold-int_min_reached (f v) (map f vs) r refl) [
      | inl e ↦ subst (λ z. m ≤ℤ z) (sym e) (all 0 v (omega arith))
      | inr c ↦ All-contains (λ z. m ≤ℤ z) (map f vs) r (All-map (λ z. m ≤ℤ z) f vs (All-tail (λ u. m ≤ℤ f u) v vs all)) c
    ]

greatest_below : (f : ClipVertex → ℤ) (m : ℤ) (vs : List ClipVertex) → 0 < length vs → All (λ u. f u ≤ℤ m) vs → greatest_of (map f vs) ≤ℤ m
greatest_below f m [] lt all = absurd (omega arith)
greatest_below f m (v ∷ vs) lt all =
    let r = greatest_of (map f (v ∷ vs)) in
    elim (fold-int_max_reached (f v) (map f vs) r refl) [
      | inl e ↦ subst (λ z. z ≤ℤ m) (sym e) (all 0 v (omega arith))
      | inr c ↦ All-contains (λ z. z ≤ℤ m) (map f vs) r (All-map (λ z. z ≤ℤ m) f vs (All-tail (λ u. f u ≤ℤ m) v vs all)) c
    ]

-- what it gives at some vertices lies among what it gives at others
pub record LiesIn (f : ClipVertex → ℤ) (cs vs : List ClipVertex) : Type 0 where
  pub least : least_of (map f cs) ≤ℤ least_of (map f vs)
  pub order : least_of (map f vs) ≤ℤ greatest_of (map f vs)
  pub greatest : greatest_of (map f vs) ≤ℤ greatest_of (map f cs)

lies_in : (f : ClipVertex → ℤ) (cs : List ClipVertex) (v : ClipVertex) (vs : List ClipVertex) → All (λ u. least_of (map f cs) ≤ℤ f u) (v ∷ vs) → All (λ u. f u ≤ℤ greatest_of (map f cs)) (v ∷ vs) → LiesIn f cs (v ∷ vs)
lies_in f cs v vs low high =
    record {
      least = least_above f (least_of (map f cs)) (v ∷ vs) (omega arith) low;
      order = after (least_of (map f (v ∷ vs))) (f v) (greatest_of (map f (v ∷ vs))) (least_each f (v ∷ vs) 0 v (omega arith)) (greatest_each f (v ∷ vs) 0 v (omega arith));
      greatest = greatest_below f (greatest_of (map f cs)) (v ∷ vs) (omega arith) high;
    }

-- so the pixels do too
pixels_rise : (a b : ℤ) → a ≤ℤ b → first_pixel a ≤ℤ first_pixel b
pixels_rise (pos m) (pos n) le = omega (arith, ints, le)
pixels_rise (negsuc m) (pos n) le = omega (arith, ints)
pixels_rise (negsuc m) (negsuc n) le = omega (arith, ints, le)
pixels_rise (pos m) (negsuc n) le = absurd (omega (arith, ints, le))

next_rises : (x y : ℤ) → x ≤ℤ y → (x +ℤ pos 1) ≤ℤ (y +ℤ pos 1)
next_rises x y le = omega (arith, ints, le)

before_next : (x y : ℤ) → x ≤ℤ y → x <ℤ (y +ℤ pos 1)
before_next x y le = omega (arith, ints, le)

part_of : (f g : ClipVertex → ℤ) (cs vs : List ClipVertex) → LiesIn f cs vs → LiesIn g cs vs → IsPart (box_around (map f vs) (map g vs)) (box_around (map f cs) (map g cs))
part_of f g cs vs x y =
    record {
      wide = before_next _ _ (pixels_rise _ _ x.order);
      high = before_next _ _ (pixels_rise _ _ y.order);
      left = pixels_rise _ _ x.least;
      above = pixels_rise _ _ y.least;
      right = next_rises _ _ (pixels_rise _ _ x.greatest);
      below = next_rises _ _ (pixels_rise _ _ y.greatest);
    }

-- ---- places: where a number isn't negative its quotient by the greatest distance is the least one, else that by the least distance

times_rise : (a b c : ℤ) → pos 1 ≤ℤ c → a ≤ℤ b → (a *ℤ c) ≤ℤ (b *ℤ c)
times_rise (pos a) (pos b) (pos c) some h = let le : a ≤ b = omega (arith, ints, h) in let k = mul-le-mul_left c le in omega (arith, ints, k)
times_rise (pos a) (negsuc b) (pos c) some h = absurd (omega (arith, ints, h))
times_rise (negsuc a) (pos b) (pos c) some h = omega (arith, ints)
times_rise (negsuc a) (negsuc b) (pos c) some h = let le : suc b ≤ suc a = omega (arith, ints, h) in let k = mul-le-mul_left c le in omega (arith, ints, k)
times_rise a b (negsuc c) some h = absurd (omega (arith, ints, some))

times_far : (k : ℕ) (a b : ℤ) → pos 1 ≤ℤ a → a ≤ℤ b → (pos k *ℤ a) ≤ℤ (pos k *ℤ b)
times_far k (pos a) (pos b) some h = let le : a ≤ b = omega (arith, ints, h) in let m = mul-le-mul_left k le in omega (arith, ints, m)
times_far k (pos a) (negsuc b) some h = absurd (omega (arith, ints, h))
times_far k (negsuc a) b some h = absurd (omega (arith, ints, some))

times_near : (k : ℕ) (a b : ℤ) → pos 1 ≤ℤ a → a ≤ℤ b → (negsuc k *ℤ b) ≤ℤ (negsuc k *ℤ a)
times_near k (pos a) (pos b) some h = let le : a ≤ b = omega (arith, ints, h) in let m = mul-le-mul_left (suc k) le in omega (arith, ints, m)
times_near k (pos a) (negsuc b) some h = absurd (omega (arith, ints, h))
times_near k (negsuc a) b some h = absurd (omega (arith, ints, some))

abbrev at_x : ℤ → ℤ → ClipVertex
at_x n w = a_vertex n (pos 0) w

one_of : (near : ℕ) (w : ℤ) → 1 ≤ near → pos near ≤ℤ w → pos 1 ≤ℤ w
one_of near w some h = omega (arith, ints, some, h)

-- a vertex with a distance between two others
pub record IsBetweenTwo (near : ℕ) (n w0 w1 : ℤ) (v : ClipVertex) : Type 0 where
  pub some : 1 ≤ near
  pub near_one : IsRatio near (across (at_x n w0))
  pub far_one : IsRatio near (across (at_x n w1))
  pub own : IsRatio near (across v)
  pub from : w0 ≤ℤ v.w
  pub to : v.w ≤ℤ w1

two : (near : ℕ) (n w0 w1 : ℤ) (v : ClipVertex) → 1 ≤ near → Bounded (16384 * near) n → pos near ≤ℤ w0 → w1 ≤ℤ pos (16384 * near) → IsClear near v → (w0 ≤ℤ v.w) × (v.w ≤ℤ w1) → IsBetweenTwo near n w0 w1 v
two near n w0 w1 v some b front most k h =
    record {
      some = some;
      near_one = record { number_within = b; w_least = front; w_most = after w0 v.w (pos (16384 * near)) h.0 k.w.1 };
      far_one = record { number_within = b; w_least = after (pos near) v.w w1 k.front h.1; w_most = most };
      own = record { number_within = k.x; w_least = k.front; w_most = k.w.1 };
      from = h.0;
      to = h.1;
    }

not_before : (near pixels : ℕ) (n w0 w1 : ℤ) (v : ClipVertex) (m : ℤ) → IsBetweenTwo near n w0 w1 v → n ≤ℤ v.x → m ≤ℤ place_at pixels (across (at_x n w0)) → m ≤ℤ place_at pixels (across (at_x n w1)) → m ≤ℤ place_at pixels (across v)
not_before near pixels (pos k) w0 w1 v m h le e f =
    let low = times_far k v.w w1 (one_of near v.w h.some h.own.w_least) h.to in
    let high = times_rise (pos k) v.x w1 (one_of near w1 h.some h.far_one.w_least) le in
    after m _ _ f (places_rise near pixels (across (at_x (pos k) w1)) (across v) h.some h.far_one h.own (after (pos k *ℤ v.w) (pos k *ℤ w1) (v.x *ℤ w1) low high))
not_before near pixels (negsuc k) w0 w1 v m h le e f =
    let one = one_of near w0 h.some h.near_one.w_least in
    let low = times_near k w0 v.w one h.from in
    after m _ _ e (places_rise near pixels (across (at_x (negsuc k) w0)) (across v) h.some h.near_one h.own (after (negsuc k *ℤ v.w) (negsuc k *ℤ w0) (v.x *ℤ w0) low (times_rise (negsuc k) v.x w0 one le)))

not_past : (near pixels : ℕ) (n w0 w1 : ℤ) (v : ClipVertex) (m : ℤ) → IsBetweenTwo near n w0 w1 v → v.x ≤ℤ n → place_at pixels (across (at_x n w0)) ≤ℤ m → place_at pixels (across (at_x n w1)) ≤ℤ m → place_at pixels (across v) ≤ℤ m
not_past near pixels (pos k) w0 w1 v m h le e f =
    let one = one_of near w0 h.some h.near_one.w_least in
    let high = times_far k w0 v.w one h.from in
    after _ _ m (places_rise near pixels (across v) (across (at_x (pos k) w0)) h.some h.own h.near_one (after (v.x *ℤ w0) (pos k *ℤ w0) (pos k *ℤ v.w) (times_rise v.x (pos k) w0 one le) high)) e
not_past near pixels (negsuc k) w0 w1 v m h le e f =
    let low = times_rise v.x (negsuc k) w1 (one_of near w1 h.some h.far_one.w_least) le in
    let high = times_near k v.w w1 (one_of near v.w h.some h.own.w_least) h.to in
    after _ _ m (places_rise near pixels (across v) (across (at_x (negsuc k) w1)) h.some h.own h.far_one (after (v.x *ℤ w1) (negsuc k *ℤ w1) (negsuc k *ℤ v.w) low high)) f

-- a vertex that lies across the screen where another lies down it
abbrev turned : ClipVertex → ClipVertex
turned v = at_x (neg_ℤ v.y) v.w

opposite : (x y : ℤ) → x ≤ℤ y → neg_ℤ y ≤ℤ neg_ℤ x
opposite x y h = omega (arith, ints, h)

opposite_within : (n : ℕ) (z : ℤ) → Bounded n z → Bounded n (neg_ℤ z)
opposite_within n z h = (opposite z (pos n) h.1, omega (arith, ints, h.0))

clear_turned : (near : ℕ) (v : ClipVertex) → IsClear near v → IsClear near (turned v)
clear_turned near v h = record { x = opposite_within (16384 * near) v.y h.y; y = (omega (arith, ints), omega (arith, ints)); w = h.w; front = h.front }

-- what is seen lies among the outer corners on the screen
abbrev IsAmong : (ClipVertex → ℤ) → Reach → Type 0
IsAmong g s = (v : ClipVertex) (m n : ℤ) → IsInReach s v → AtFour (λ u. m ≤ℤ g u) s → AtFour (λ u. g u ≤ℤ n) s → (m ≤ℤ g v) × (g v ≤ℤ n)

seen_across : (near pixels : ℕ) (s : Reach) → 1 ≤ near → AtFour (IsClear near) s → IsAmong (λ u. place_at pixels (across u)) s
seen_across near pixels s some k v m n h c d =
    let own = clear_seen near s v k h in (
      not_before near pixels s.x.least s.w.least s.w.greatest v m (two near _ _ _ v some k.low_near.x k.low_near.front k.high_far.w.1 own h.w) h.x.0 c.low_near c.low_far,
      not_past near pixels s.x.greatest s.w.least s.w.greatest v n (two near _ _ _ v some k.high_far.x k.low_near.front k.high_far.w.1 own h.w) h.x.1 d.high_near d.high_far,
    )

seen_down : (near pixels : ℕ) (s : Reach) → 1 ≤ near → AtFour (IsClear near) s → IsAmong (λ u. place_at pixels (down u)) s
seen_down near pixels s some k v m n h c d =
    let own = clear_turned near v (clear_seen near s v k h) in
    let low = opposite_within (16384 * near) s.y.greatest k.high_far.y in
    let high = opposite_within (16384 * near) s.y.least k.low_near.y in (
      not_before near pixels (neg_ℤ s.y.greatest) s.w.least s.w.greatest (turned v) m (two near _ _ _ (turned v) some low k.low_near.front k.high_far.w.1 own h.w) (opposite v.y s.y.greatest h.y.1) c.high_near c.high_far,
      not_past near pixels (neg_ℤ s.y.least) s.w.least s.w.greatest (turned v) n (two near _ _ _ (turned v) some high k.low_near.front k.high_far.w.1 own h.w) (opposite s.y.least v.y h.y.0) d.low_near d.low_far,
    )

lies_along : (f g : ClipVertex → ℤ) (s : Reach) (v : ClipVertex) (vs : List ClipVertex) → ((u : ClipVertex) → g u ≡ f u) → IsAmong g s → All (IsInReach s) (v ∷ vs) → LiesIn f (outer_corners s) (v ∷ vs)
lies_along f g s v vs same among all =
    let cs = outer_corners s in
    let m = least_of (map f cs) in
    let n = greatest_of (map f cs) in
    let low = at_four (λ u. m ≤ℤ g u) s (All-weaker (λ u. m ≤ℤ f u) (λ u. m ≤ℤ g u) (λ u h. subst (λ z. m ≤ℤ z) (sym (same u)) h) cs (least_each f cs)) in
    let high = at_four (λ u. g u ≤ℤ n) s (All-weaker (λ u. f u ≤ℤ n) (λ u. g u ≤ℤ n) (λ u h. subst (λ z. z ≤ℤ n) (sym (same u)) h) cs (greatest_each f cs)) in
    lies_in f cs v vs
    (All-weaker (IsInReach s) (λ u. m ≤ℤ f u) (λ u h. subst (λ z. m ≤ℤ z) (same u) (among u m n h low high).0) (v ∷ vs) all)
    (All-weaker (IsInReach s) (λ u. f u ≤ℤ n) (λ u h. subst (λ z. z ≤ℤ n) (same u) (among u m n h low high).1) (v ∷ vs) all)

-- where a vertex lies on the screen
abbrev across_at : Dimensions → ClipVertex → ℤ
across_at size v = place_at size.width (across v)

abbrev down_at : Dimensions → ClipVertex → ℤ
down_at size v = int_div_euclid ((pos 2 *ℤ (pos (8 * size.height) *ℤ (v.w -ℤ v.y))) +ℤ v.w) (pos 2 *ℤ v.w)

down_is : (size : Dimensions) (v : ClipVertex) → place_at size.height (down v) ≡ down_at size v
down_is size v = ap (λ (z : ℤ). int_div_euclid ((pos 2 *ℤ (pos (8 * size.height) *ℤ z)) +ℤ v.w) (pos 2 *ℤ v.w)) (sum v.y v.w)
  where
    sum : (y w : ℤ) → neg_ℤ y +ℤ w ≡ w -ℤ y
    sum y w = omega (arith, ints)

-- ---- nearness falls with the distance

ceilings_fall : (x y a b c : ℕ) → b ≤ c → a ≤ x * b → y * c < a + c → y ≤ x
ceilings_fall x y a b c le h k =
    let more = mul-le-mul_left x le in
    let lt : y * c < (x + 1) * c = omega (arith, more, h, k) in
    let less = lt_of_mul-lt-mul_right c lt in
    omega (arith, less)

nearness_falls : (a : ℕ) (z w : ℤ) → pos 1 ≤ℤ z → z ≤ℤ w → div_ceil a (natural w) ≤ div_ceil a (natural z)
nearness_falls a (pos b) (pos c) some h =
    ceilings_fall (div_ceil a b) (div_ceil a c) a b c (omega (arith, ints, h)) (div_ceil_times a b (omega (arith, ints, some))).0 (div_ceil_times a c (omega (arith, ints, some, h))).1
nearness_falls a (pos b) (negsuc c) some h = absurd (omega (arith, ints, h))
nearness_falls a (negsuc b) w some h = absurd (omega (arith, ints, some))

-- ---- what is answered

taken_apart : (a b : Bool) (r rect : Rect) (n q : ℕ) → cond a Outside (cond b Straddles (At r n)) ≡ At rect q → (b ≡ false) × (r ≡ rect) × (n ≡ q)
taken_apart true b r rect n q e = absurd cc
taken_apart false true r rect n q e = absurd cc
taken_apart false false r rect n q e = (refl, cc, cc)

put_together : (a b : Bool) (r rect : Rect) (n q : ℕ) → a ≡ false → b ≡ false → IsPart r rect → n ≤ q → StandsIn rect q (cond a Outside (cond b Straddles (At r n)))
put_together true b r rect n q e f part le = absurd cc
put_together false true r rect n q e f part le = absurd cc
put_together false false r rect n q e f part le = (part, le)

-- where the outer corners stand at a rectangle, what is seen stands in it
pub stands_in : (top near : ℕ) (size : Dimensions) (s : Reach) (v : ClipVertex) (vs : List ClipVertex) (rect : Rect) (q : ℕ) → 1 ≤ near → box_answer top near size (outer_corners s) ≡ At rect q → All (IsInReach s) (v ∷ vs)
    → StandsIn rect q (box_answer top near size (v ∷ vs))
unfolding box_answer
stands_in top near size s v vs rect q some e all =
    let cs = outer_corners s in
    let at = taken_apart (list_all (is_behind near) cs) (list_any (is_stray near) cs) (box_rect_of size cs) rect (box_nearness top near cs) q e in
    let d = a_vertex (pos 0) (pos 0) (pos 0) in
    let clear : All (IsClear near) cs = λ k d lt. (let t = none_stray near cs k d at.0 lt in clear_from near (get_or cs k d) t.0 t.1) in
    let four = at_four (IsClear near) s clear in
    let own : All (IsClear near) (v ∷ vs) = All-weaker (IsInReach s) (IsClear near) (λ u h. clear_seen near s u four h) (v ∷ vs) all in
    let none : list_any (is_stray near) (v ∷ vs) ≡ false =
    list_any_none (is_stray near) (v ∷ vs)
    (All-weaker (IsClear near) (λ u. is_stray near u ≡ false) (λ u h. let t = not_stray near u h in or_from (is_past_guard u near) (is_behind near u) t.0 t.1) (v ∷ vs) own) in
    let ahead : list_all (is_behind near) (v ∷ vs) ≡ false = ap (λ (b : Bool). b && list_all (is_behind near) vs) (not_stray near v (own 0 v (omega arith))).1 in
    let distance = λ (u : ClipVertex). u.w in
    let least = least_of (map distance cs) in
    let front = least_above distance (pos near) cs (omega arith) (All-weaker (IsClear near) (λ u. pos near ≤ℤ u.w) (λ u h. h.front) cs clear) in
    let nearest = at_four (λ u. least ≤ℤ u.w) s (least_each distance cs) in
    let far = least_above distance least (v ∷ vs) (omega arith) (All-weaker (IsInReach s) (λ u. least ≤ℤ u.w) (λ u h. after least s.w.least u.w nearest.low_near h.w.0) (v ∷ vs) all) in
    let falls = nearness_falls (top * near) least (least_of (map distance (v ∷ vs))) (one_of near least some front) far in
    let across_screen = lies_along (across_at size) (across_at size) s v vs (λ u. refl) (seen_across near size.width s some four) all in
    let down_screen = lies_along (down_at size) (λ u. place_at size.height (down u)) s v vs (down_is size) (seen_down near size.height s some four) all in
    let part = part_of (across_at size) (down_at size) cs (v ∷ vs) across_screen down_screen in
    put_together (list_all (is_behind near) (v ∷ vs)) (list_any (is_stray near) (v ∷ vs)) (box_rect_of size (v ∷ vs)) rect (box_nearness top near (v ∷ vs)) q ahead none
    (subst (λ r. IsPart (box_rect_of size (v ∷ vs)) r) at.1 part) (subst (λ n. box_nearness top near (v ∷ vs) ≤ n) at.2 falls)
