-- An edge's value moves by its steps.
use Rattle.std.proofs.Common.{◌≡◌, ◌∙◌, ℕ, ℤ, pos, ◌+◌, ◌*◌, ◌+ℤ◌, ◌-ℤ◌, ◌*ℤ◌, neg_ℤ, ap, arith}
use Rattle.std.specs.Int.{int_div_euclid}
use Rattle.std.proofs.lemmas.Int.{ints}
use Rattle.cull_base.specs.Piece.{edge_value, is_top_or_left, point}
use Rattle.cull_base.specs.declared.triangle.Side.{Side}
use Rattle.edge_lanes.specs.Lanes.{bias_of, is_not_negative}
use Rattle.edge_lanes.specs.Lines.{IsEdge, Line}
use Rattle.edge_lanes.proofs.Lanes.{is_not_negative-sixteenth}
use Rattle.cull_base.proofs.Ring.{diff-neg, diff, diff-add, diff-sub, diff-mul, diff-same, pos_is, over1, over4}

abbrev from_first : ℕ → ℕ → ℤ → ℤ → ℤ → ℤ → ℤ → ℤ
from_first x y across down ax ay bias = ((((across *ℤ (pos 8 -ℤ ay)) -ℤ (down *ℤ (pos 8 -ℤ ax))) +ℤ bias) +ℤ (neg_ℤ (pos 16 *ℤ down) *ℤ pos x)) +ℤ ((pos 16 *ℤ across) *ℤ pos y)

abbrev at_pixel : ℕ → ℕ → ℤ → ℤ → ℤ → ℤ → ℤ → ℤ
at_pixel x y across down ax ay bias = ((across *ℤ (pos (16 * y + 8) -ℤ ay)) -ℤ (down *ℤ (pos (16 * x + 8) -ℤ ax))) +ℤ bias

-- from the sample of the first pixel to that of pixel (x, y)
pub value-pixel : (across down ax ay bias : ℤ) (x y : ℕ) →
    ((((across *ℤ (pos 8 -ℤ ay)) -ℤ (down *ℤ (pos 8 -ℤ ax))) +ℤ bias) +ℤ (neg_ℤ (pos 16 *ℤ down) *ℤ pos x)) +ℤ ((pos 16 *ℤ across) *ℤ pos y)
    ≡ ((across *ℤ (pos (16 * y + 8) -ℤ ay)) -ℤ (down *ℤ (pos (16 * x + 8) -ℤ ax))) +ℤ bias
value-pixel across down ax ay bias x y =
    over1 (λ bias. from_first x y across down ax ay bias ≡ at_pixel x y across down ax ay bias)
    (λ z z'. over4 (λ across down ax ay. from_first x y across down ax ay (diff z z') ≡ at_pixel x y across down ax ay (diff z z'))
    (λ a a' b b' c c' d d'. simp (pos_is, diff-neg, diff-add, diff-sub, diff-mul) (diff-same _ _ _ _ (omega arith))) across down ax ay) bias

-- from the first sample of a subtile to another
pub value-subtile : (start column row : ℤ) (x y c r : ℕ) →
    (((start +ℤ (column *ℤ pos x)) +ℤ (row *ℤ pos y)) +ℤ (row *ℤ pos r)) +ℤ (column *ℤ pos c)
    ≡ (start +ℤ (column *ℤ pos (x + c))) +ℤ (row *ℤ pos (y + r))
value-subtile start column row x y c r =
    over4 (λ start column row z. (((start +ℤ (column *ℤ pos x)) +ℤ (row *ℤ pos y)) +ℤ (row *ℤ pos r)) +ℤ (column *ℤ pos c) ≡ (start +ℤ (column *ℤ pos (x + c))) +ℤ (row *ℤ pos (y + r)))
    (λ a a' b b' d d' z z'. simp (pos_is, diff-add, diff-mul) (diff-same _ _ _ _ (omega arith))) start column row start

-- sixteen times the steps of an edge held by sixteenths
value-sixteen_steps : (v across down : ℤ) (x y : ℕ) →
    v +ℤ (pos 16 *ℤ ((neg_ℤ down *ℤ pos x) +ℤ (across *ℤ pos y))) ≡ (v +ℤ (neg_ℤ (pos 16 *ℤ down) *ℤ pos x)) +ℤ ((pos 16 *ℤ across) *ℤ pos y)
value-sixteen_steps v across down x y =
    over4 (λ v across down z. v +ℤ (pos 16 *ℤ ((neg_ℤ down *ℤ pos x) +ℤ (across *ℤ pos y))) ≡ (v +ℤ (neg_ℤ (pos 16 *ℤ down) *ℤ pos x)) +ℤ ((pos 16 *ℤ across) *ℤ pos y))
    (λ a a' b b' d d' z z'. simp (pos_is, diff-neg, diff-add, diff-mul) (diff-same _ _ _ _ (omega arith))) v across down v

-- an edge held by the sixteenths of its values
pub is_edge-sixteenths : (e : Line) (side : Side) (first ax ay bx by : ℤ) →
    first ≡ edge_value (point ax ay) (point bx by) (point (pos 8) (pos 8)) +ℤ bias_of side (is_top_or_left (point ax ay) (point bx by)) →
    e.start ≡ int_div_euclid first (pos 16) → e.column ≡ ay -ℤ by → e.row ≡ bx -ℤ ax → IsEdge e side (point ax ay) (point bx by)
is_edge-sixteenths e side first ax ay bx by ef es ec er x y =
    let down : ℤ = by -ℤ ay in let across : ℤ = bx -ℤ ax in let bias : ℤ = bias_of side (is_top_or_left (point ax ay) (point bx by)) in
    let turned : e.column ≡ neg_ℤ down = ec ∙ turn ay by in
    rw (es, turned, er)
    (ap is_not_negative (regroup (int_div_euclid first (pos 16)) (neg_ℤ down *ℤ pos x) (across *ℤ pos y))
    ∙ is_not_negative-sixteenth first ((neg_ℤ down *ℤ pos x) +ℤ (across *ℤ pos y))
    ∙ ap is_not_negative (value-sixteen_steps first across down x y ∙ moved ef ∙ value-pixel across down ax ay bias x y))
  where
    turn : (a b : ℤ) → a -ℤ b ≡ neg_ℤ (b -ℤ a)
    turn a b = omega (arith, ints)

    regroup : (v a b : ℤ) → (v +ℤ a) +ℤ b ≡ v +ℤ (a +ℤ b)
    regroup v a b = omega (arith, ints)

    moved : {f g : ℤ} → f ≡ g → (f +ℤ (neg_ℤ (pos 16 *ℤ (by -ℤ ay)) *ℤ pos x)) +ℤ ((pos 16 *ℤ (bx -ℤ ax)) *ℤ pos y) ≡ (g +ℤ (neg_ℤ (pos 16 *ℤ (by -ℤ ay)) *ℤ pos x)) +ℤ ((pos 16 *ℤ (bx -ℤ ax)) *ℤ pos y)
    moved h = ap (λ (v : ℤ). (v +ℤ (neg_ℤ (pos 16 *ℤ (by -ℤ ay)) *ℤ pos x)) +ℤ ((pos 16 *ℤ (bx -ℤ ax)) *ℤ pos y)) h
