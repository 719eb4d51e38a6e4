-- Where a piece covers, what a form says is a mean of what it says at the corners.
use Rattle.std.proofs.Common.{◌≡◌, ◌∙◌, ℕ, ℤ, pos, ◌*◌, ◌+ℤ◌, ◌-ℤ◌, ◌*ℤ◌, ◌≤ℤ◌, ◌<ℤ◌, arith, ap, sym}
use Rattle.std.proofs.lemmas.Int.{ints}
use Rattle.cull_base.specs.Piece.{Piece, Point, vertex, nearness, edge_value, doubled_area}
use Rattle.cull_base.specs.Depth.{numerator, denominator}
use Rattle.cull_base.proofs.Ring.{diff-add, diff-mul, diff-same}
use Rattle.depth_plane.proofs.Mean.{Weights, mean_x, mean_y, total_of, mean_above, mean_below}
use Rattle.depth_plane.proofs.Products.{mul-add_three, le_times, times_le, le_from_times}
use Rattle.pixel_forms.specs.Forms.{value_at, least_at, most_at}
use Rattle.pixel_forms.specs.declared.form.Form.{Form}
use Rattle.pixel_forms.proofs.Numbers.{over6, add-mul, sub-mul, mul-assoc, mul-turned, mul-behind, le_by}

abbrev form : ℤ → ℤ → ℤ → ℤ → ℤ → ℤ
form a b c x y = ((a *ℤ x) +ℤ (b *ℤ y)) +ℤ c

weighted : (w a b c x y : ℤ) → form a b c x y *ℤ w ≡ ((a *ℤ (w *ℤ x)) +ℤ (b *ℤ (w *ℤ y))) +ℤ (c *ℤ w)
weighted = over6 (λ w a b c x y. form a b c x y *ℤ w ≡ ((a *ℤ (w *ℤ x)) +ℤ (b *ℤ (w *ℤ y))) +ℤ (c *ℤ w))
    (λ w w' a a' b b' c c' x x' y y'. simp (diff-add, diff-mul) (diff-same _ _ _ _ (omega arith)))

mean : (d u v w ax ay bx by cx cy px py a b c : ℤ) → d ≡ (u +ℤ v) +ℤ w
    → (d *ℤ px) ≡ ((u *ℤ ax) +ℤ (v *ℤ bx)) +ℤ (w *ℤ cx)
    → (d *ℤ py) ≡ ((u *ℤ ay) +ℤ (v *ℤ by)) +ℤ (w *ℤ cy)
    → form a b c px py *ℤ d ≡ ((form a b c ax ay *ℤ u) +ℤ (form a b c bx by *ℤ v)) +ℤ (form a b c cx cy *ℤ w)
mean d u v w ax ay bx by cx cy px py a b c t ex ey =
    let sx = ap (λ z. a *ℤ z) ex ∙ mul-add_three a (u *ℤ ax) (v *ℤ bx) (w *ℤ cx) in
    let sy = ap (λ z. b *ℤ z) ey ∙ mul-add_three b (u *ℤ ay) (v *ℤ by) (w *ℤ cy) in
    let sc = ap (λ z. c *ℤ z) t ∙ mul-add_three c u v w in
    sum (form a b c px py *ℤ d) (form a b c ax ay *ℤ u) (form a b c bx by *ℤ v) (form a b c cx cy *ℤ w)
    (a *ℤ (u *ℤ ax)) (a *ℤ (v *ℤ bx)) (a *ℤ (w *ℤ cx)) (b *ℤ (u *ℤ ay)) (b *ℤ (v *ℤ by)) (b *ℤ (w *ℤ cy)) (c *ℤ u) (c *ℤ v) (c *ℤ w)
    (a *ℤ (d *ℤ px)) (b *ℤ (d *ℤ py)) (c *ℤ d)
    (weighted d a b c px py) (weighted u a b c ax ay) (weighted v a b c bx by) (weighted w a b c cx cy) sx sy sc
  where
    sum : (f g h i a1 a2 a3 b1 b2 b3 c1 c2 c3 x y z : ℤ) → f ≡ (x +ℤ y) +ℤ z → g ≡ (a1 +ℤ b1) +ℤ c1 → h ≡ (a2 +ℤ b2) +ℤ c2 → i ≡ (a3 +ℤ b3) +ℤ c3
        → x ≡ (a1 +ℤ a2) +ℤ a3 → y ≡ (b1 +ℤ b2) +ℤ b3 → z ≡ (c1 +ℤ c2) +ℤ c3 → f ≡ (g +ℤ h) +ℤ i
    sum f g h i a1 a2 a3 b1 b2 b3 c1 c2 c3 x y z ef eg eh ei ex ey ez = omega (arith, ints, ef, eg, eh, ei, ex, ey, ez)

-- how much each corner weighs at a point
abbrev pub first_weight : Piece → Point → ℤ
first_weight t p = edge_value (vertex t 1) (vertex t 2) p

abbrev pub second_weight : Piece → Point → ℤ
second_weight t p = edge_value (vertex t 2) (vertex t 0) p

abbrev pub third_weight : Piece → Point → ℤ
third_weight t p = edge_value (vertex t 0) (vertex t 1) p

value-mean : (t : Piece) (p : Point) (f : Form)
    → value_at f p *ℤ doubled_area t ≡ ((value_at f (vertex t 0) *ℤ first_weight t p) +ℤ (value_at f (vertex t 1) *ℤ second_weight t p)) +ℤ (value_at f (vertex t 2) *ℤ third_weight t p)
value-mean t p f =
    mean (doubled_area t) (first_weight t p) (second_weight t p) (third_weight t p) (vertex t 0).x (vertex t 0).y (vertex t 1).x (vertex t 1).y (vertex t 2).x (vertex t 2).y p.x p.y f.a f.b f.c
    (total_of t p) (mean_x (vertex t 0).x (vertex t 0).y (vertex t 1).x (vertex t 1).y (vertex t 2).x (vertex t 2).y p.x p.y)
    (mean_y (vertex t 0).x (vertex t 0).y (vertex t 1).x (vertex t 1).y (vertex t 2).x (vertex t 2).y p.x p.y)

-- less a number, and more
minus-mean : (d u v w a b c p k : ℤ) → d ≡ (u +ℤ v) +ℤ w → p *ℤ d ≡ ((a *ℤ u) +ℤ (b *ℤ v)) +ℤ (c *ℤ w)
    → (p -ℤ k) *ℤ d ≡ (((a -ℤ k) *ℤ u) +ℤ ((b -ℤ k) *ℤ v)) +ℤ ((c -ℤ k) *ℤ w)
minus-mean d u v w a b c p k t e =
    let s = ap (λ z. k *ℤ z) t ∙ mul-add_three k u v w in
    sum (p *ℤ d) (a *ℤ u) (b *ℤ v) (c *ℤ w) (k *ℤ d) (k *ℤ u) (k *ℤ v) (k *ℤ w) ((p -ℤ k) *ℤ d) ((a -ℤ k) *ℤ u) ((b -ℤ k) *ℤ v) ((c -ℤ k) *ℤ w)
    e s (sub-mul p k d) (sub-mul a k u) (sub-mul b k v) (sub-mul c k w)
  where
    sum : (pd au bv cw kd ku kv kw l m n o : ℤ) → pd ≡ (au +ℤ bv) +ℤ cw → kd ≡ (ku +ℤ kv) +ℤ kw → l ≡ pd -ℤ kd → m ≡ au -ℤ ku → n ≡ bv -ℤ kv → o ≡ cw -ℤ kw → l ≡ (m +ℤ n) +ℤ o
    sum pd au bv cw kd ku kv kw l m n o e f g h i j = omega (arith, ints, e, f, g, h, i, j)

plus-mean : (d u v w a b c p k : ℤ) → d ≡ (u +ℤ v) +ℤ w → p *ℤ d ≡ ((a *ℤ u) +ℤ (b *ℤ v)) +ℤ (c *ℤ w)
    → (p +ℤ k) *ℤ d ≡ (((a +ℤ k) *ℤ u) +ℤ ((b +ℤ k) *ℤ v)) +ℤ ((c +ℤ k) *ℤ w)
plus-mean d u v w a b c p k t e =
    let s = ap (λ z. k *ℤ z) t ∙ mul-add_three k u v w in
    sum (p *ℤ d) (a *ℤ u) (b *ℤ v) (c *ℤ w) (k *ℤ d) (k *ℤ u) (k *ℤ v) (k *ℤ w) ((p +ℤ k) *ℤ d) ((a +ℤ k) *ℤ u) ((b +ℤ k) *ℤ v) ((c +ℤ k) *ℤ w)
    e s (add-mul p k d) (add-mul a k u) (add-mul b k v) (add-mul c k w)
  where
    sum : (pd au bv cw kd ku kv kw l m n o : ℤ) → pd ≡ (au +ℤ bv) +ℤ cw → kd ≡ (ku +ℤ kv) +ℤ kw → l ≡ pd +ℤ kd → m ≡ au +ℤ ku → n ≡ bv +ℤ kv → o ≡ cw +ℤ kw → l ≡ (m +ℤ n) +ℤ o
    sum pd au bv cw kd ku kv kw l m n o e f g h i j = omega (arith, ints, e, f, g, h, i, j)

least-mean : (t : Piece) (p : Point) (f : Form)
    → least_at f p *ℤ doubled_area t ≡ ((least_at f (vertex t 0) *ℤ first_weight t p) +ℤ (least_at f (vertex t 1) *ℤ second_weight t p)) +ℤ (least_at f (vertex t 2) *ℤ third_weight t p)
least-mean t p f =
    minus-mean (doubled_area t) (first_weight t p) (second_weight t p) (third_weight t p) (value_at f (vertex t 0)) (value_at f (vertex t 1)) (value_at f (vertex t 2)) (value_at f p) f.down (total_of t p) (value-mean t p f)

most-mean : (t : Piece) (p : Point) (f : Form)
    → most_at f p *ℤ doubled_area t ≡ ((most_at f (vertex t 0) *ℤ first_weight t p) +ℤ (most_at f (vertex t 1) *ℤ second_weight t p)) +ℤ (most_at f (vertex t 2) *ℤ third_weight t p)
most-mean t p f =
    plus-mean (doubled_area t) (first_weight t p) (second_weight t p) (third_weight t p) (value_at f (vertex t 0)) (value_at f (vertex t 1)) (value_at f (vertex t 2)) (value_at f p) f.down (total_of t p) (value-mean t p f)

-- no less than 0 at the corners
pub least-inside : (t : Piece) (p : Point) (f : Form) → pos 0 <ℤ doubled_area t → Weights t p
    → pos 0 ≤ℤ least_at f (vertex t 0) → pos 0 ≤ℤ least_at f (vertex t 1) → pos 0 ≤ℤ least_at f (vertex t 2) → pos 0 ≤ℤ least_at f p
least-inside t p f area w a b c =
    le_from_times (pos 0) (least_at f p) (doubled_area t) area
    (mean_above (least_at f (vertex t 0)) (least_at f (vertex t 1)) (least_at f (vertex t 2)) (first_weight t p) (second_weight t p) (third_weight t p) (pos 0) (doubled_area t) (least_at f p *ℤ doubled_area t)
    w.first w.second w.third a b c (total_of t p) (least-mean t p f))

-- no more than a limit at the corners
pub most-inside : (t : Piece) (p : Point) (f : Form) (m : ℤ) → pos 0 <ℤ doubled_area t → Weights t p
    → most_at f (vertex t 0) ≤ℤ m → most_at f (vertex t 1) ≤ℤ m → most_at f (vertex t 2) ≤ℤ m → most_at f p ≤ℤ m
most-inside t p f m area w a b c =
    le_from_times (most_at f p) m (doubled_area t) area
    (mean_below (most_at f (vertex t 0)) (most_at f (vertex t 1)) (most_at f (vertex t 2)) (first_weight t p) (second_weight t p) (third_weight t p) m (doubled_area t) (most_at f p *ℤ doubled_area t)
    w.first w.second w.third a b c (total_of t p) (most-mean t p f))

-- at most so many parts of a form at the corners: so is the mean
share : (q den g l u : ℤ) → pos 0 ≤ℤ u → (q *ℤ den) ≤ℤ (g *ℤ l) → (den *ℤ (q *ℤ u)) ≤ℤ (g *ℤ (l *ℤ u))
share q den g l u hu h =
    let e = mul-turned q den u in let f = mul-assoc g l u in
    let i = le_times (q *ℤ den) (g *ℤ l) u hu h in
    omega (arith, ints, e, f, i)

shares : (q r s den g l m n u v w p d : ℤ) → pos 0 ≤ℤ u → pos 0 ≤ℤ v → pos 0 ≤ℤ w
    → (q *ℤ den) ≤ℤ (g *ℤ l) → (r *ℤ den) ≤ℤ (g *ℤ m) → (s *ℤ den) ≤ℤ (g *ℤ n)
    → p *ℤ d ≡ ((l *ℤ u) +ℤ (m *ℤ v)) +ℤ (n *ℤ w)
    → (den *ℤ (((q *ℤ u) +ℤ (r *ℤ v)) +ℤ (s *ℤ w))) ≤ℤ (g *ℤ (p *ℤ d))
shares q r s den g l m n u v w p d hu hv hw a b c e =
    let i = share q den g l u hu a in let j = share r den g m v hv b in let k = share s den g n w hw c in
    let x = mul-add_three den (q *ℤ u) (r *ℤ v) (s *ℤ w) in
    let y = ap (λ z. g *ℤ z) e ∙ mul-add_three g (l *ℤ u) (m *ℤ v) (n *ℤ w) in
    le_by (den *ℤ (((q *ℤ u) +ℤ (r *ℤ v)) +ℤ (s *ℤ w))) (((den *ℤ (q *ℤ u)) +ℤ (den *ℤ (r *ℤ v))) +ℤ (den *ℤ (s *ℤ w)))
    (g *ℤ (p *ℤ d)) (((g *ℤ (l *ℤ u)) +ℤ (g *ℤ (m *ℤ v))) +ℤ (g *ℤ (n *ℤ w))) x y
    (sum (den *ℤ (q *ℤ u)) (den *ℤ (r *ℤ v)) (den *ℤ (s *ℤ w)) (g *ℤ (l *ℤ u)) (g *ℤ (m *ℤ v)) (g *ℤ (n *ℤ w)) i j k)
  where
    sum : (a b c d e f : ℤ) → a ≤ℤ d → b ≤ℤ e → c ≤ℤ f → ((a +ℤ b) +ℤ c) ≤ℤ ((d +ℤ e) +ℤ f)
    sum a b c d e f h i j = omega (arith, ints, h, i, j)

-- the depth, by a form that each corner's nearness is at most so many parts of
pub depth-inside : (t : Piece) (p : Point) (f : Form) (den g : ℕ) → Weights t p
    → pos (nearness t 0 * den) ≤ℤ (pos g *ℤ least_at f (vertex t 0)) → pos (nearness t 1 * den) ≤ℤ (pos g *ℤ least_at f (vertex t 1)) → pos (nearness t 2 * den) ≤ℤ (pos g *ℤ least_at f (vertex t 2))
    → (pos den *ℤ numerator t p) ≤ℤ (pos g *ℤ (least_at f p *ℤ denominator t))
depth-inside t p f den g w a b c =
    shares (pos (nearness t 0)) (pos (nearness t 1)) (pos (nearness t 2)) (pos den) (pos g) (least_at f (vertex t 0)) (least_at f (vertex t 1)) (least_at f (vertex t 2))
    (first_weight t p) (second_weight t p) (third_weight t p) (least_at f p) (denominator t) w.first w.second w.third a b c (least-mean t p f)

regroup : (g l area x : ℤ) → (g *ℤ (l *ℤ area)) *ℤ x ≡ area *ℤ ((g *ℤ l) *ℤ x)
regroup g l area x = ap (λ z. z *ℤ x) (sym (mul-assoc g l area)) ∙ mul-turned (g *ℤ l) area x

-- What a form says of a triangle's nearness, the depth says too: x is the ray's w times the triangle's size, y what is
-- divided by it.
pub depth-below : (num den g l area x y : ℤ) → pos 0 <ℤ den → pos 0 ≤ℤ x → pos 0 ≤ℤ area
    → (den *ℤ num) ≤ℤ (g *ℤ (l *ℤ area)) → ((g *ℤ l) *ℤ x) ≤ℤ (den *ℤ y) → (num *ℤ x) ≤ℤ (area *ℤ y)
depth-below num den g l area x y hd hx ha h i =
    le_from_times (num *ℤ x) (area *ℤ y) den hd
    (chain ((den *ℤ num) *ℤ x) ((g *ℤ (l *ℤ area)) *ℤ x) (area *ℤ ((g *ℤ l) *ℤ x)) (area *ℤ (den *ℤ y)) ((area *ℤ den) *ℤ y) (den *ℤ (area *ℤ y)) ((den *ℤ area) *ℤ y) ((num *ℤ x) *ℤ den) ((area *ℤ y) *ℤ den)
    (le_times (den *ℤ num) (g *ℤ (l *ℤ area)) x hx h) (times_le area ((g *ℤ l) *ℤ x) (den *ℤ y) ha i)
    (mul-behind den num x) (regroup g l area x) (mul-turned area den y) (mul-behind den area y) (mul-assoc den area y) (mul-assoc area den y))
  where
    chain : (a b c d e f g h i : ℤ) → a ≤ℤ b → c ≤ℤ d → a ≡ h → b ≡ c → e ≡ f → g ≡ i → g ≡ f → e ≡ d → h ≤ℤ i
    chain a b c d e f g h i p q ea eb ec ed ee ef = omega (arith, ints, p, q, ea, eb, ec, ed, ee, ef)
