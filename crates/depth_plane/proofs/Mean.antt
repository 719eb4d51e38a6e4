-- Inside a piece, depth and place are means of the vertices', weighted by the values of the opposite edges.
use Rattle.std.proofs.Common.{◌≡◌, ℕ, ℤ, pos, negsuc, ◌≤◌, ◌+ℤ◌, ◌-ℤ◌, ◌*ℤ◌, ◌≤ℤ◌, arith, refl, Bool, true, ◌&&◌, ◌||◌, int_lt, int_le}
use Rattle.std.specs.Ordering.{int_eq}
use Rattle.std.proofs.lemmas.Int.{ints}
use Rattle.std.proofs.lemmas.Bool.{and_parts}
use Rattle.std.proofs.lemmas.Bool.Decides.{nat_tests}
use Rattle.cull_base.specs.Piece.{Piece, Point, vertex, nearness, edge_value, doubled_area, covers, touches, is_top_or_left}
use Rattle.cull_base.specs.Depth.{numerator, denominator}
use Rattle.cull_base.proofs.Ring.{diff, diff-add, diff-sub, diff-mul, diff-same, over4}
use Rattle.depth_plane.proofs.Products.{mul-add_three, le_times}

abbrev pub edge : ℤ → ℤ → ℤ → ℤ → ℤ → ℤ → ℤ
edge ax ay bx by px py = ((bx -ℤ ax) *ℤ (py -ℤ ay)) -ℤ ((by -ℤ ay) *ℤ (px -ℤ ax))

abbrev over8 : (P : ℤ → ℤ → ℤ → ℤ → ℤ → ℤ → ℤ → ℤ → Type 0) → ((a a' b b' c c' d d' e e' f f' g g' h h' : ℕ) → P (diff a a') (diff b b') (diff c c') (diff d d') (diff e e') (diff f f') (diff g g') (diff h h'))
    → (s t u v w x y z : ℤ) → P s t u v w x y z
over8 P k s t u v w x y z =
    over4 (λ s t u v. P s t u v w x y z) (λ a a' b b' c c' d d'. over4 (λ w x y z. P (diff a a') (diff b b') (diff c c') (diff d d') w x y z) (λ e e' f f' g g' h h'. k a a' b b' c c' d d' e e' f f' g g' h h') w x y z) s t u v

pub mean_x : (ax ay bx by cx cy px py : ℤ) →
    (edge ax ay bx by cx cy *ℤ px) ≡ ((edge bx by cx cy px py *ℤ ax) +ℤ (edge cx cy ax ay px py *ℤ bx)) +ℤ (edge ax ay bx by px py *ℤ cx)
mean_x = over8 (λ ax ay bx by cx cy px py. (edge ax ay bx by cx cy *ℤ px) ≡ ((edge bx by cx cy px py *ℤ ax) +ℤ (edge cx cy ax ay px py *ℤ bx)) +ℤ (edge ax ay bx by px py *ℤ cx))
    (λ ax ax' ay ay' bx bx' by by' cx cx' cy cy' px px' py py'. simp (diff-add, diff-sub, diff-mul) (diff-same _ _ _ _ (omega arith)))

pub mean_y : (ax ay bx by cx cy px py : ℤ) →
    (edge ax ay bx by cx cy *ℤ py) ≡ ((edge bx by cx cy px py *ℤ ay) +ℤ (edge cx cy ax ay px py *ℤ by)) +ℤ (edge ax ay bx by px py *ℤ cy)
mean_y = over8 (λ ax ay bx by cx cy px py. (edge ax ay bx by cx cy *ℤ py) ≡ ((edge bx by cx cy px py *ℤ ay) +ℤ (edge cx cy ax ay px py *ℤ by)) +ℤ (edge ax ay bx by px py *ℤ cy))
    (λ ax ax' ay ay' bx bx' by by' cx cx' cy cy' px px' py py'. simp (diff-add, diff-sub, diff-mul) (diff-same _ _ _ _ (omega arith)))

total : (ax ay bx by cx cy px py : ℤ) →
    edge ax ay bx by cx cy ≡ (edge bx by cx cy px py +ℤ edge cx cy ax ay px py) +ℤ edge ax ay bx by px py
total = over8 (λ ax ay bx by cx cy px py. edge ax ay bx by cx cy ≡ (edge bx by cx cy px py +ℤ edge cx cy ax ay px py) +ℤ edge ax ay bx by px py)
    (λ ax ax' ay ay' bx bx' by by' cx cx' cy cy' px px' py py'. simp (diff-add, diff-sub, diff-mul) (diff-same _ _ _ _ (omega arith)))

-- the weights of the vertices at a point of the piece
pub record Weights (t : Piece) (p : Point) : Type 0 where
  pub first : pos 0 ≤ℤ edge_value (vertex t 1) (vertex t 2) p
  pub second : pos 0 ≤ℤ edge_value (vertex t 2) (vertex t 0) p
  pub third : pos 0 ≤ℤ edge_value (vertex t 0) (vertex t 1) p

touched_edge : (v : ℤ) → int_le (pos 0) v ≡ true → pos 0 ≤ℤ v
touched_edge (pos n) h = omega (arith, ints)
touched_edge (negsuc n) h = cc

covered_edge : (v : ℤ) (b : Bool) → (int_lt (pos 0) v || (int_eq v (pos 0) && b)) ≡ true → int_le (pos 0) v ≡ true
covered_edge (pos n) b h = grind (arith, nat_tests)
covered_edge (negsuc n) b h = cc

pub weights_of : (t : Piece) (p : Point) → touches t p ≡ true → Weights t p
unfolding touches
weights_of t p h =
    let a = and_parts _ _ h in let b = and_parts _ _ a.1 in
    record { third = touched_edge _ a.0; first = touched_edge _ b.0; second = touched_edge _ b.1 }

pub touches_covered : (t : Piece) (p : Point) → covers t p ≡ true → touches t p ≡ true
unfolding covers touches
touches_covered t p h =
    let a = and_parts _ _ h in let b = and_parts _ _ a.1 in
    let x = covered_edge (edge_value (vertex t 0) (vertex t 1) p) (is_top_or_left (vertex t 0) (vertex t 1)) a.0 in
    let y = covered_edge (edge_value (vertex t 1) (vertex t 2) p) (is_top_or_left (vertex t 1) (vertex t 2)) b.0 in
    let z = covered_edge (edge_value (vertex t 2) (vertex t 0) p) (is_top_or_left (vertex t 2) (vertex t 0)) b.1 in
    rw (x, y, z) refl

-- a sum with weights that are not negative lies between the bounds of its parts
pub mean_above : (a b c w x y m d n : ℤ) → pos 0 ≤ℤ w → pos 0 ≤ℤ x → pos 0 ≤ℤ y → m ≤ℤ a → m ≤ℤ b → m ≤ℤ c → d ≡ (w +ℤ x) +ℤ y → n ≡ ((a *ℤ w) +ℤ (b *ℤ x)) +ℤ (c *ℤ y) → (m *ℤ d) ≤ℤ n
mean_above a b c w x y m d n pw px py la lb lc ed en =
    let p = le_times m a w pw la in let q = le_times m b x px lb in let r = le_times m c y py lc in
    let e = mul-add_three m w x y in
    rw (ed, e, en) (omega (arith, ints, p, q, r))

pub mean_below : (a b c w x y m d n : ℤ) → pos 0 ≤ℤ w → pos 0 ≤ℤ x → pos 0 ≤ℤ y → a ≤ℤ m → b ≤ℤ m → c ≤ℤ m → d ≡ (w +ℤ x) +ℤ y → n ≡ ((a *ℤ w) +ℤ (b *ℤ x)) +ℤ (c *ℤ y) → n ≤ℤ (m *ℤ d)
mean_below a b c w x y m d n pw px py la lb lc ed en =
    let p = le_times a m w pw la in let q = le_times b m x px lb in let r = le_times c m y py lc in
    let e = mul-add_three m w x y in
    rw (ed, e, en) (omega (arith, ints, p, q, r))

pub total_of : (t : Piece) (p : Point) → doubled_area t ≡ (edge_value (vertex t 1) (vertex t 2) p +ℤ edge_value (vertex t 2) (vertex t 0) p) +ℤ edge_value (vertex t 0) (vertex t 1) p
total_of t p = total (vertex t 0).x (vertex t 0).y (vertex t 1).x (vertex t 1).y (vertex t 2).x (vertex t 2).y p.x p.y

-- the depth lies between the least and the greatest nearness
pub numerator_above : (t : Piece) (p : Point) (m : ℕ) → Weights t p → m ≤ nearness t 0 → m ≤ nearness t 1 → m ≤ nearness t 2 → (pos m *ℤ denominator t) ≤ℤ numerator t p
numerator_above t p m w a b c =
    mean_above (pos (nearness t 0)) (pos (nearness t 1)) (pos (nearness t 2)) (edge_value (vertex t 1) (vertex t 2) p) (edge_value (vertex t 2) (vertex t 0) p) (edge_value (vertex t 0) (vertex t 1) p)
    (pos m) (denominator t) (numerator t p) w.first w.second w.third (omega (arith, ints)) (omega (arith, ints)) (omega (arith, ints)) (total_of t p) refl

pub numerator_below : (t : Piece) (p : Point) (m : ℕ) → Weights t p → nearness t 0 ≤ m → nearness t 1 ≤ m → nearness t 2 ≤ m → numerator t p ≤ℤ (pos m *ℤ denominator t)
numerator_below t p m w a b c =
    mean_below (pos (nearness t 0)) (pos (nearness t 1)) (pos (nearness t 2)) (edge_value (vertex t 1) (vertex t 2) p) (edge_value (vertex t 2) (vertex t 0) p) (edge_value (vertex t 0) (vertex t 1) p)
    (pos m) (denominator t) (numerator t p) w.first w.second w.third (omega (arith, ints)) (omega (arith, ints)) (omega (arith, ints)) (total_of t p) refl
