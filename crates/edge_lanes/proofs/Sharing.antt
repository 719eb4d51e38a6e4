-- An edge and its reverse.
use Rattle.std.proofs.Common.{◌≡◌, ◌≢◌, ℤ, pos, ◌-ℤ◌, ◌*ℤ◌, neg_ℤ, ◌<ℤ◌, ◌≤ℤ◌, arith, refl, ap, ap₂, sym, ◌∙◌, Bool, true, false, not, ◌&&◌, ◌||◌, int_lt, inl, inr}
use Rattle.std.specs.Ordering.{int_eq}
use Rattle.std.proofs.lemmas.Int.{ints, by_lt_z}
use Rattle.std.proofs.lemmas.Bool.{and_parts}
use Rattle.cull_base.specs.Piece.{Piece, Point, vertex, edge_value, is_top_or_left, edge_covers, covers}
use Rattle.cull_base.proofs.Ring.{diff-neg, diff, diff-add, diff-mul, diff-same, over2, over4}
use Rattle.edge_lanes.specs.Shared.{HasEdge, NoneInBoth}
use Rattle.edge_lanes.proofs.Extremes.{any_false}

int_lt-true : (x y : ℤ) → x <ℤ y → int_lt x y ≡ true
int_lt-true x y h = grind (arith, ints)

int_lt-false : (x y : ℤ) → y ≤ℤ x → int_lt x y ≡ false
int_lt-false x y h = grind (arith, ints)

-- the test of the reversed direction, over the coordinates
reversed : (ax ay bx by : ℤ) → (ax ≡ bx → ay ≡ by → ⊥) → (int_lt ay by || (int_eq ay by && int_lt bx ax)) ≡ not (int_lt by ay || (int_eq by ay && int_lt ax bx))
reversed ax ay bx by ne =
    by_lt_z ay by
    (λ l. let p = int_lt-true ay by l in let q = int_lt-false by ay (weaker ay by l) in rw (p, q) refl)
    (λ g. by_lt_z by ay
    (λ l. let p = int_lt-true by ay l in let q = int_lt-false ay by (weaker by ay l) in rw (p, q) refl)
    (λ h. let p = int_lt-false ay by g in let q = int_lt-false by ay h in rw (p, q) (level (same ay by g h))))
  where
    weaker : (x y : ℤ) → x <ℤ y → x ≤ℤ y
    weaker x y l = omega (arith, ints)

    same : (x y : ℤ) → y ≤ℤ x → x ≤ℤ y → x ≡ y
    same x y g h = omega (arith, ints)

    level : ay ≡ by → int_lt bx ax ≡ not (int_lt ax bx)
    level e =
        by_lt_z ax bx
        (λ l. let p = int_lt-true ax bx l in let q = int_lt-false bx ax (weaker ax bx l) in rw (p, q) refl)
        (λ g. by_lt_z bx ax
        (λ l. let p = int_lt-true bx ax l in let q = int_lt-false ax bx (weaker bx ax l) in rw (p, q) refl)
        (λ h. absurd (ne (same ax bx g h) e)))

pub is_top_or_left-reversed : (a b : Point) → a ≢ b → is_top_or_left b a ≡ not (is_top_or_left a b)
is_top_or_left-reversed a b ne = reversed a.x a.y b.x b.y (λ ex ey. ne (ap₂ (λ x y. at x y) ex ey))
  where
    at : ℤ → ℤ → Point
    at x y = record { x = x; y = y }

edge_reversed : (ax ay bx by x y : ℤ) → ((ax -ℤ bx) *ℤ (y -ℤ by)) -ℤ ((ay -ℤ by) *ℤ (x -ℤ bx)) ≡ neg_ℤ (((bx -ℤ ax) *ℤ (y -ℤ ay)) -ℤ ((by -ℤ ay) *ℤ (x -ℤ ax)))
edge_reversed ax ay bx by x y =
    over2 (λ x y. ((ax -ℤ bx) *ℤ (y -ℤ by)) -ℤ ((ay -ℤ by) *ℤ (x -ℤ bx)) ≡ neg_ℤ (((bx -ℤ ax) *ℤ (y -ℤ ay)) -ℤ ((by -ℤ ay) *ℤ (x -ℤ ax))))
    (λ z z' w w'. over4 (λ ax ay bx by. ((ax -ℤ bx) *ℤ (diff w w' -ℤ by)) -ℤ ((ay -ℤ by) *ℤ (diff z z' -ℤ bx)) ≡ neg_ℤ (((bx -ℤ ax) *ℤ (diff w w' -ℤ ay)) -ℤ ((by -ℤ ay) *ℤ (diff z z' -ℤ ax))))
    (λ a a' b b' c c' d d'. simp (diff-neg, diff-add, diff-mul) (diff-same _ _ _ _ (omega arith))) ax ay bx by) x y

-- one of two opposite values counts
opposite : (v w : ℤ) (s t : Bool) → w ≡ neg_ℤ v → t ≡ not s → (int_lt (pos 0) w || (int_eq w (pos 0) && t)) ≡ not (int_lt (pos 0) v || (int_eq v (pos 0) && s))
opposite v w s t e f =
    by_lt_z (pos 0) v
    (λ l.
    let a = int_lt-true (pos 0) v l in
    let b : int_lt (pos 0) w ≡ false = int_lt-false (pos 0) w (omega (arith, ints)) in
    let c : int_lt w (pos 0) ≡ true = int_lt-true w (pos 0) (omega (arith, ints)) in
    rw (a, b, c) refl)
    (λ g. by_lt_z v (pos 0)
    (λ l.
    let a = int_lt-true v (pos 0) l in
    let b = int_lt-false (pos 0) v g in
    let c : int_lt (pos 0) w ≡ true = int_lt-true (pos 0) w (omega (arith, ints)) in
    rw (a, b, c) refl)
    (λ h.
    let a = int_lt-false (pos 0) v g in
    let b = int_lt-false v (pos 0) h in
    let c : int_lt (pos 0) w ≡ false = int_lt-false (pos 0) w (omega (arith, ints)) in
    let d : int_lt w (pos 0) ≡ false = int_lt-false w (pos 0) (omega (arith, ints)) in
    rw (a, b, c, d) f))

pub edge_covers-reversed : (a b p : Point) → a ≢ b → edge_covers b a p ≡ not (edge_covers a b p)
edge_covers-reversed a b p ne = opposite (edge_value a b p) (edge_value b a p) (is_top_or_left a b) (is_top_or_left b a) (edge_reversed a.x a.y b.x b.y p.x p.y) (is_top_or_left-reversed a b ne)

all_three : (x y z : Bool) → (x && (y && z)) ≡ true → (x ≡ true) × (y ≡ true) × (z ≡ true)
all_three x y z h = let a = and_parts _ _ h in let b = and_parts _ _ a.1 in (a.0, b.0, b.1)

same_edge : (c d a b p : Point) → c ≡ a → d ≡ b → edge_covers c d p ≡ edge_covers a b p
same_edge c d a b p e f = ap₂ (λ x y. edge_covers x y p) e f

-- a piece covers what its edges do
edge_of_covers : (t : Piece) (a b p : Point) → HasEdge t a b → covers t p ≡ true → edge_covers a b p ≡ true
unfolding covers
edge_of_covers t a b p g h =
    let k = all_three (edge_covers (vertex t 0) (vertex t 1) p) (edge_covers (vertex t 1) (vertex t 2) p) (edge_covers (vertex t 2) (vertex t 0) p) h in
    elim g [
      | inl (e, f) ↦ sym (same_edge (vertex t 0) (vertex t 1) a b p e f) ∙ k.0
      | inr (inl (e, f)) ↦ sym (same_edge (vertex t 1) (vertex t 2) a b p e f) ∙ k.1
      | inr (inr (e, f)) ↦ sym (same_edge (vertex t 2) (vertex t 0) a b p e f) ∙ k.2
    ]

not_covers : (t : Piece) (a b p : Point) → HasEdge t a b → edge_covers a b p ≡ false → covers t p ≡ false
unfolding covers
not_covers t a b p g h =
    any_false (edge_covers (vertex t 0) (vertex t 1) p) (edge_covers (vertex t 1) (vertex t 2) p) (edge_covers (vertex t 2) (vertex t 0) p)
    (elim g [
      | inl (e, f) ↦ inl (same_edge (vertex t 0) (vertex t 1) a b p e f ∙ h)
      | inr (inl (e, f)) ↦ inr (inl (same_edge (vertex t 1) (vertex t 2) a b p e f ∙ h))
      | inr (inr (e, f)) ↦ inr (inr (same_edge (vertex t 2) (vertex t 0) a b p e f ∙ h))
    ])

pub covers-beside : (s t : Piece) (a b : Point) → a ≢ b → HasEdge s a b → HasEdge t b a → NoneInBoth s t
covers-beside s t a b ne f g p h = not_covers t b a p g (edge_covers-reversed a b p ne ∙ ap not (edge_of_covers s a b p f h))
