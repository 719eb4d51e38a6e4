-- The edges of a piece of a few pixels, by their values at a sample beside it.
use Rattle.std.proofs.Common.{◌≡◌, ◌∙◌, ℕ, ℤ, pos, negsuc, ◌+◌, ◌*◌, ◌<◌, ◌+ℤ◌, ◌-ℤ◌, ◌*ℤ◌, ◌≤ℤ◌, ◌<ℤ◌, ◌^◌, List, neg_ℤ, ap, arith, refl, subst, sym}
use Rattle.std.specs.Int.{int_div_euclid}
use Rattle.std.proofs.lemmas.Int.{ints}
use Rattle.cull_base.specs.Bounds.{Bounded}
use Rattle.cull_base.specs.Piece.{edge_value, is_top_or_left, point}
use Rattle.cull_base.specs.declared.place.Sub.{Sub}
use Rattle.cull_base.specs.declared.triangle.Side.TheVariants.{Occluder}
use Rattle.cull_base.proofs.Ring.{diff, diff-add, diff-mul, diff-neg, diff-same, diff-sub, over1, over2, over4, pos_is}
use Rattle.edge_lanes.specs.Around.{AreBetween, AreBounded, AreClose, AreStarts, around, lane, sign_of, steps_around, steps_back, value_from, value_past}
use Rattle.edge_lanes.specs.Inside.{small_line}
use Rattle.edge_lanes.specs.Lanes.{bias_of}
use Rattle.edge_lanes.specs.Lines.{IsEdge, Line, held_few, sub_value}
use Rattle.edge_lanes.specs.declared.small_edge.SmallEdge.{SmallEdge}
use Rattle.edge_lanes.proofs.Around.{bounded_around, lanes_from, through}
use Rattle.edge_lanes.proofs.Floors.{floor-le, floor-lt, floor_is}
use Rattle.edge_lanes.proofs.SmallBias.{bias_by_sign}
use Rattle.edge_lanes.proofs.Steps.{is_edge-sixteenths}

-- so many sixteenths further
floor_moved : (f k : ℤ) → int_div_euclid (f +ℤ (pos 16 *ℤ k)) (pos 16) ≡ int_div_euclid f (pos 16) +ℤ k
floor_moved f k =
    let q = int_div_euclid f (pos 16) in
    floor_is (f +ℤ (pos 16 *ℤ k)) (q +ℤ k) 16 (omega arith) (from f q k (floor-le f 16 (omega arith))) (to f q k (floor-lt f 16 (omega arith)))
  where
    from : (f q k : ℤ) → (q *ℤ pos 16) ≤ℤ f → ((q +ℤ k) *ℤ pos 16) ≤ℤ (f +ℤ (pos 16 *ℤ k))
    from f q k h = omega (arith, ints, h)

    to : (f q k : ℤ) → f <ℤ ((q *ℤ pos 16) +ℤ pos 16) → (f +ℤ (pos 16 *ℤ k)) <ℤ (((q +ℤ k) *ℤ pos 16) +ℤ pos 16)
    to f q k h = omega (arith, ints, h)

abbrev at_middle : ℤ → ℤ → ℤ → ℤ → ℤ → ℤ → ℤ
at_middle right below across down ax ay = (across *ℤ (((pos 16 *ℤ below) +ℤ pos 8) -ℤ ay)) +ℤ (neg_ℤ down *ℤ (((pos 16 *ℤ right) +ℤ pos 8) -ℤ ax))

abbrev from_first : ℤ → ℤ → ℤ → ℤ → ℤ → ℤ → ℤ
from_first right below across down ax ay = ((across *ℤ (pos 8 -ℤ ay)) -ℤ (down *ℤ (pos 8 -ℤ ax))) +ℤ (pos 16 *ℤ ((neg_ℤ down *ℤ right) +ℤ (across *ℤ below)))

-- the value at the sample of a pixel that may lie off the screen, from that of the first pixel
value_moved : (across down ax ay right below : ℤ) → at_middle right below across down ax ay ≡ from_first right below across down ax ay
value_moved across down ax ay right below =
    over2 (λ right below. at_middle right below across down ax ay ≡ from_first right below across down ax ay)
    (λ e e' f f'. over4 (λ across down ax ay. at_middle (diff e e') (diff f f') across down ax ay ≡ from_first (diff e e') (diff f f') across down ax ay)
    (λ a a' b b' c c' d d'. simp (pos_is, diff-neg, diff-add, diff-sub, diff-mul) (diff-same _ _ _ _ (omega arith))) across down ax ay) right below

-- an edge by its value there
pub is_edge-past : (e : Line) (right below s column row bias v ax ay bx by : ℤ) →
    v ≡ (row *ℤ (((pos 16 *ℤ below) +ℤ pos 8) -ℤ ay)) +ℤ (column *ℤ (((pos 16 *ℤ right) +ℤ pos 8) -ℤ ax)) →
    bias ≡ bias_of Occluder (is_top_or_left (point ax ay) (point bx by)) → s ≡ int_div_euclid (v +ℤ bias) (pos 16) → column ≡ ay -ℤ by → row ≡ bx -ℤ ax →
    e.start ≡ (s -ℤ (column *ℤ right)) -ℤ (row *ℤ below) → e.column ≡ column → e.row ≡ row → IsEdge e Occluder (point ax ay) (point bx by)
is_edge-past e right below s column row bias v ax ay bx by ev eb es ec er el fc fr =
    let down : ℤ = by -ℤ ay in let across : ℤ = bx -ℤ ax in
    let there : ℤ = edge_value (point ax ay) (point bx by) (point (pos 8) (pos 8)) in
    let first : ℤ = there +ℤ bias_of Occluder (is_top_or_left (point ax ay) (point bx by)) in
    let turned : column ≡ neg_ℤ down = ec ∙ turn ay by in
    let k : ℤ = (column *ℤ right) +ℤ (row *ℤ below) in
    let moved : v ≡ there +ℤ (pos 16 *ℤ k) = ev ∙ rw (turned, er) (value_moved across down ax ay right below) in
    let whole : v +ℤ bias ≡ first +ℤ (pos 16 *ℤ k) = summed v there (pos 16 *ℤ k) bias _ moved eb in
    let floor : s ≡ int_div_euclid first (pos 16) +ℤ k = es ∙ ap (λ (n : ℤ). int_div_euclid n (pos 16)) whole ∙ floor_moved first k in
    is_edge-sixteenths e Occluder first ax ay bx by refl (el ∙ back s (int_div_euclid first (pos 16)) (column *ℤ right) (row *ℤ below) floor) (fc ∙ ec) (fr ∙ er)
  where
    turn : (a b : ℤ) → a -ℤ b ≡ neg_ℤ (b -ℤ a)
    turn a b = omega (arith, ints)

    summed : (v t k b c : ℤ) → v ≡ t +ℤ k → b ≡ c → v +ℤ b ≡ (t +ℤ c) +ℤ k
    summed v t k b c e f = omega (arith, ints, e, f)

    back : (s q a b : ℤ) → s ≡ q +ℤ (a +ℤ b) → (s -ℤ a) -ℤ b ≡ q
    back s q a b e = omega (arith, ints, e)

abbrev from_middle : ℕ → ℕ → ℤ → ℤ → ℤ → ℤ → ℤ → ℤ
from_middle x y s column row right below = (s +ℤ (column *ℤ (pos x -ℤ right))) +ℤ (row *ℤ (pos y -ℤ below))

abbrev from_corner : ℕ → ℕ → ℤ → ℤ → ℤ → ℤ → ℤ → ℤ
from_corner x y s column row right below = (((s -ℤ (column *ℤ right)) -ℤ (row *ℤ below)) +ℤ (column *ℤ pos x)) +ℤ (row *ℤ pos y)

from_middle-is : (x y : ℕ) (s column row right below : ℤ) → from_middle x y s column row right below ≡ from_corner x y s column row right below
from_middle-is x y s column row right below =
    over1 (λ s. from_middle x y s column row right below ≡ from_corner x y s column row right below)
    (λ e e'. over4 (λ column row right below. from_middle x y (diff e e') column row right below ≡ from_corner x y (diff e e') column row right below)
    (λ a a' b b' c c' d d'. simp (pos_is, diff-add, diff-sub, diff-mul) (diff-same _ _ _ _ (omega arith))) column row right below) s

-- the value at the first sample of a subtile
pub sub_value-past : (e : Line) (u : Sub) (right below s column row across down : ℤ) → e.start ≡ (s -ℤ (column *ℤ right)) -ℤ (row *ℤ below) → e.column ≡ column → e.row ≡ row →
    across ≡ pos (8 * u.column) -ℤ right → down ≡ pos (4 * u.row) -ℤ below → (s +ℤ (column *ℤ across)) +ℤ (row *ℤ down) ≡ sub_value e u
sub_value-past e u right below s column row across down es ec er ea ed = rw (es, ec, er, ea, ed) (from_middle-is (8 * u.column) (4 * u.row) s column row right below)

-- a short step, taken back
step_back : (a b : ℤ) → Bounded (2 ^ 10) (b -ℤ a) → Bounded (2 ^ 10) (a -ℤ b)
step_back a b h = (omega (arith, ints, h), omega (arith, ints, h))

-- short steps between coordinates, of which the first lies near the screen, as a call passes the steps
pub close_around : (xs steps : List ℤ) → steps ≡ steps_around xs → AreBounded (2 ^ 30) steps → AreBounded (2 ^ 10) (through steps) → Bounded (2 ^ 22) (lane xs 0) → AreClose xs
close_around xs steps e all h n =
    let g : AreBounded (2 ^ 10) (steps_around xs) = subst (AreBounded (2 ^ 10)) e (lanes_from (2 ^ 10) (2 ^ 30) steps (omega arith) all h) in
    record { near = n; first = g.first; second = g.second; third = g.third }

pub close_back : (xs steps : List ℤ) → steps ≡ steps_back xs → AreBounded (2 ^ 30) steps → AreBounded (2 ^ 10) (through steps) → Bounded (2 ^ 22) (lane xs 0) → AreClose xs
close_back xs steps e all h n =
    let g : AreBounded (2 ^ 10) (steps_back xs) = subst (AreBounded (2 ^ 10)) e (lanes_from (2 ^ 10) (2 ^ 30) steps (omega arith) all h) in
    record { near = n; first = step_back (lane xs 1) (lane xs 0) g.first; second = step_back (lane xs 2) (lane xs 1) g.second; third = step_back (lane xs 0) (lane xs 2) g.third }

line_same : (s t c d r q g h b k : ℤ) → s ≡ t → c ≡ d → r ≡ q → g ≡ h → b ≡ k → (s -ℤ (c *ℤ g)) -ℤ (r *ℤ b) ≡ (t -ℤ (d *ℤ h)) -ℤ (q *ℤ k)
line_same s t c d r q g h b k es ec er eg eb = rw (es, ec, er, eg, eb) refl

-- edge k of three, by what lanes compute
pub is_edge-lane : (row column rights belows values biases start : List ℤ) (k : ℕ) (right below g b s ax ay bx by : ℤ) (e : SmallEdge) →
    lane values k ≡ value_past row column rights belows k → lane rights k ≡ ((pos 16 *ℤ right) +ℤ pos 8) -ℤ ax → lane belows k ≡ ((pos 16 *ℤ below) +ℤ pos 8) -ℤ ay →
    lane biases k ≡ sign_of row column k → lane start k ≡ int_div_euclid (lane values k +ℤ lane biases k) (pos 16) →
    lane row k ≡ bx -ℤ ax → lane column k ≡ ay -ℤ by → Bounded (2 ^ 10) (lane row k) → Bounded (2 ^ 10) (lane column k) →
    g ≡ right → b ≡ below → s ≡ lane start k → e.column ≡ lane column k → e.row ≡ lane row k → IsEdge (small_line g b s e) Occluder (point ax ay) (point bx by)
is_edge-lane row column rights belows values biases start k right below g b s ax ay bx by e ev eg eb ei es er ec hr hc fg fb fs fc fr =
    let lean : ℤ = (lane row k +ℤ (lane column k *ℤ pos 2048)) -ℤ pos 1 in
    let leans : lean ≡ ((bx -ℤ ax) +ℤ ((ay -ℤ by) *ℤ pos 2048)) -ℤ pos 1 = rw (er, ec) refl in
    let across : Bounded (2 ^ 10) (bx -ℤ ax) = subst (Bounded (2 ^ 10)) er hr in
    let down : Bounded (2 ^ 10) (by -ℤ ay) = step_back by ay (subst (Bounded (2 ^ 10)) ec hc) in
    is_edge-past (small_line g b s e) right below (lane start k) (lane column k) (lane row k) (lane biases k) (lane values k) ax ay bx by
    (ev ∙ rw (eg, eb) refl) (ei ∙ bias_by_sign ax ay bx by lean across down leans) es ec er
    (line_same s (lane start k) e.column (lane column k) e.row (lane row k) g right b below fs fc fr fg fb) fc fr

-- the value of such an edge at a subtile
pub sub_value-lane : (start column row : List ℤ) (k : ℕ) (right below across down h m : ℤ) (e : SmallEdge) (u : Sub) →
    h ≡ held_few m → m ≡ value_from start column row across down k → lane column k ≡ e.column → lane row k ≡ e.row →
    across ≡ pos (8 * u.column) -ℤ right → down ≡ pos (4 * u.row) -ℤ below → h ≡ held_few (sub_value (small_line right below (lane start k) e) u)
sub_value-lane start column row k right below across down h m e u eh em ec er ea ed =
    eh ∙ ap held_few (em ∙ sub_value-past (small_line right below (lane start k) e) u right below (lane start k) (lane column k) (lane row k) across down
    (line_same (lane start k) (lane start k) e.column (lane column k) e.row (lane row k) right right below below refl (sym ec) (sym er) refl refl) (sym ec) (sym er) ea ed)

-- the middle of the pixel where a coordinate lies
pub near_middle : (v : ℤ) → Bounded (2 ^ 4) (((pos 16 *ℤ int_div_euclid v (pos 16)) +ℤ pos 8) -ℤ v)
near_middle (pos n) = (omega (arith, ints), omega (arith, ints))
near_middle (negsuc n) = (omega (arith, ints), omega (arith, ints))

-- what close coordinates say of the steps between them
pub around_bounded : (xs steps : List ℤ) → steps ≡ steps_around xs → AreClose xs → AreBounded (2 ^ 10) steps
around_bounded xs steps e h = bounded_around (2 ^ 10) steps (lane xs 1 -ℤ lane xs 0) (lane xs 2 -ℤ lane xs 1) (lane xs 0 -ℤ lane xs 2) e h.first h.second h.third

pub back_bounded : (xs steps : List ℤ) → steps ≡ steps_back xs → AreClose xs → AreBounded (2 ^ 10) steps
back_bounded xs steps e h =
    bounded_around (2 ^ 10) steps (lane xs 0 -ℤ lane xs 1) (lane xs 1 -ℤ lane xs 2) (lane xs 2 -ℤ lane xs 0) e
    (step_back (lane xs 0) (lane xs 1) h.first) (step_back (lane xs 1) (lane xs 2) h.second) (step_back (lane xs 2) (lane xs 0) h.third)

pub placed : (m p v : ℤ) → m ≡ (pos 16 *ℤ p) +ℤ pos 8 → p ≡ int_div_euclid v (pos 16) → Bounded (2 ^ 4) (m -ℤ v)
placed m p v em ep = rw (em, ep) (near_middle v)

past_middle : (g m p v : ℤ) → g ≡ m -ℤ v → m ≡ (pos 16 *ℤ p) +ℤ pos 8 → g ≡ ((pos 16 *ℤ p) +ℤ pos 8) -ℤ v
past_middle g m p v e f = rw (e, f) refl

-- a lane of the same lanes
lane_same : {xs ys : List ℤ} (k : ℕ) → xs ≡ ys → lane xs k ≡ lane ys k
lane_same k e = ap (λ (xs : List ℤ). lane xs k) e

-- the three edges, by what lanes compute
pub edges_between : (x y row column rights belows values biases start starts : List ℤ) (m n right below g b : ℤ) (e f h : SmallEdge) → AreClose x → AreClose y → row ≡ steps_around x → column ≡ steps_back y →
    values ≡ around (value_past row column rights belows 0) (value_past row column rights belows 1) (value_past row column rights belows 2) →
    rights ≡ around (m -ℤ lane x 0) (m -ℤ lane x 1) (m -ℤ lane x 2) → belows ≡ around (n -ℤ lane y 0) (n -ℤ lane y 1) (n -ℤ lane y 2) →
    m ≡ (pos 16 *ℤ right) +ℤ pos 8 → n ≡ (pos 16 *ℤ below) +ℤ pos 8 → biases ≡ around (sign_of row column 0) (sign_of row column 1) (sign_of row column 2) →
    start ≡ around (int_div_euclid (lane values 0 +ℤ lane biases 0) (pos 16)) (int_div_euclid (lane values 1 +ℤ lane biases 1) (pos 16)) (int_div_euclid (lane values 2 +ℤ lane biases 2) (pos 16)) →
    g ≡ right → b ≡ below → starts ≡ start → around e.column f.column h.column ≡ column → around e.row f.row h.row ≡ row →
    AreBetween (record { first = small_line g b (lane starts 0) e; second = small_line g b (lane starts 1) f; third = small_line g b (lane starts 2) h }) x y
edges_between x y row column rights belows values biases start starts m n right below g b e f h cx cy er ec ev eg eb em en ei es fg fb fs fc fr =
    let hr = around_bounded x row er cx in let hc = back_bounded y column ec cy in
    record {
      first = is_edge-lane row column rights belows values biases start 0 right below g b (lane starts 0) (lane x 0) (lane y 0) (lane x 1) (lane y 1) e
          (lane_same 0 ev) (past_middle _ m right _ (lane_same 0 eg) em) (past_middle _ n below _ (lane_same 0 eb) en) (lane_same 0 ei) (lane_same 0 es) (lane_same 0 er) (lane_same 0 ec) hr.first hc.first fg fb (lane_same 0 fs) (lane_same 0 fc) (lane_same 0 fr);
      second = is_edge-lane row column rights belows values biases start 1 right below g b (lane starts 1) (lane x 1) (lane y 1) (lane x 2) (lane y 2) f
          (lane_same 1 ev) (past_middle _ m right _ (lane_same 1 eg) em) (past_middle _ n below _ (lane_same 1 eb) en) (lane_same 1 ei) (lane_same 1 es) (lane_same 1 er) (lane_same 1 ec) hr.second hc.second fg fb (lane_same 1 fs) (lane_same 1 fc) (lane_same 1 fr);
      third = is_edge-lane row column rights belows values biases start 2 right below g b (lane starts 2) (lane x 2) (lane y 2) (lane x 0) (lane y 0) h
          (lane_same 2 ev) (past_middle _ m right _ (lane_same 2 eg) em) (past_middle _ n below _ (lane_same 2 eb) en) (lane_same 2 ei) (lane_same 2 es) (lane_same 2 er) (lane_same 2 ec) hr.third hc.third fg fb (lane_same 2 fs) (lane_same 2 fc) (lane_same 2 fr);
    }

-- the three values at a subtile
pub starts_held : (start column row held moved : List ℤ) (right below across down : ℤ) (e f h : SmallEdge) (u : Sub) →
    held ≡ around (held_few (lane moved 0)) (held_few (lane moved 1)) (held_few (lane moved 2)) →
    moved ≡ around (value_from start column row across down 0) (value_from start column row across down 1) (value_from start column row across down 2) →
    column ≡ around e.column f.column h.column → row ≡ around e.row f.row h.row → across ≡ pos (8 * u.column) -ℤ right → down ≡ pos (4 * u.row) -ℤ below →
    AreStarts (record { first = small_line right below (lane start 0) e; second = small_line right below (lane start 1) f; third = small_line right below (lane start 2) h }) u held
starts_held start column row held moved right below across down e f h u eh em ec er ea ed = record {
  first = sub_value-lane start column row 0 right below across down (lane held 0) (lane moved 0) e u (lane_same 0 eh) (lane_same 0 em) (lane_same 0 ec) (lane_same 0 er) ea ed;
  second = sub_value-lane start column row 1 right below across down (lane held 1) (lane moved 1) f u (lane_same 1 eh) (lane_same 1 em) (lane_same 1 ec) (lane_same 1 er) ea ed;
  third = sub_value-lane start column row 2 right below across down (lane held 2) (lane moved 2) h u (lane_same 2 eh) (lane_same 2 em) (lane_same 2 ec) (lane_same 2 er) ea ed;
}
