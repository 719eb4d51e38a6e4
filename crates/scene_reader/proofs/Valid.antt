-- The tests and the facts that they stand for.
use Rattle.std.proofs.Common.{◌≡◌, ℕ, ℤ, pos, ◌+◌, ◌<◌, ◌≤◌, ◌^◌, ◌%◌, ◌∷◌, List, [], length, arith, refl, sym, ◌∙◌, false, true, inl, inr, ◌⊎◌, All}
use Rattle.std.specs.Prelude.{◌≤ℤ◌, ◌||◌, int_lt, nat_lt, not, neg_ℤ}
use Rattle.std.specs.List.{AllByRecursion, list_any}
use Rattle.std.proofs.lemmas.Int.{ints}
use Rattle.std.proofs.lemmas.Bool.{or_from, or_left, or_parts, or_right, le-ltb, lt-ltb, ltb-false, ltb-true, eqb-true, eq-eqb, not-false, not_from_true}
use Rattle.std.proofs.lemmas.List.Elements.{All-from_recursion, recursion_from_All}
use Rattle.cull_base.specs.Guard.{is_beyond}
use Rattle.cull_base.specs.Screen.{IsSize}
use Rattle.cull_base.specs.declared.rect.Rect.{Rect}
use Rattle.cull_base.specs.declared.scene_types.Object.TheVariants.{Area, Block, Mesh}
use Rattle.scene_reader.specs.Layout.{InLimits, IsObject, numbers_of, number_at}
use Rattle.scene_reader.specs.Fault.{is_bad_row, is_bad_object, is_bad_size}
use Rattle.scene_reader.proofs.Shapes.{area_is, block_is}

pub le_from_lt : (a b : ℤ) → int_lt a b ≡ false → b ≤ℤ a
le_from_lt a b e = grind (arith, ints)

pub lt_from_le : (a b : ℤ) → b ≤ℤ a → int_lt a b ≡ false
lt_from_le a b h = grind (arith, ints)

within : (z : ℤ) → is_beyond (2 ^ 24) z ≡ false → InLimits z
within z e = let p = or_parts _ _ e in (le_from_lt z (neg_ℤ (pos (2 ^ 24))) p.0, le_from_lt (pos (2 ^ 24)) z p.1)

not_beyond : (z : ℤ) → InLimits z → is_beyond (2 ^ 24) z ≡ false
not_beyond z h = or_from _ _ (lt_from_le z (neg_ℤ (pos (2 ^ 24))) h.0) (lt_from_le (pos (2 ^ 24)) z h.1)

row_parts : (row : List ℤ) → is_bad_row row ≡ false → AllByRecursion InLimits row
row_parts [] e = tt
row_parts (z ∷ row) e = let p = or_parts _ _ e in (within z p.0, row_parts row p.1)

pub row_within : (row : List ℤ) → is_bad_row row ≡ false → All InLimits row
row_within row e = All-from_recursion InLimits row (row_parts row e)

row_good_parts : (row : List ℤ) → AllByRecursion InLimits row → is_bad_row row ≡ false
row_good_parts [] h = refl
row_good_parts (z ∷ row) h = or_from _ _ (not_beyond z h.0) (row_good_parts row h.1)

pub row_good : (row : List ℤ) → All InLimits row → is_bad_row row ≡ false
row_good row h = row_good_parts row (recursion_from_All InLimits row h)

-- ---- objects

pub area_valid : (m : ℕ) (r : Rect) (w : ℤ) → is_bad_object m 0 (numbers_of (Area r w)) ≡ false → IsObject m (Area r w)
area_valid m r w e =
    let p = or_parts _ _ (sym (area_is m r w) ∙ e) in
    let q = or_parts _ _ p.1 in
    let n = row_parts (r.x0 ∷ r.y0 ∷ r.x1 ∷ r.y1 ∷ w ∷ []) p.0 in
    (le_from_lt r.x1 r.x0 q.0, le_from_lt r.y1 r.y0 q.1, n.0, n.1.0, n.1.1.0, n.1.1.1.0, n.1.1.1.1.0)

pub area_good : (m : ℕ) (r : Rect) (w : ℤ) → IsObject m (Area r w) → is_bad_object m 0 (numbers_of (Area r w)) ≡ false
area_good m r w h =
    area_is m r w ∙ or_from _ _ (row_good_parts (r.x0 ∷ r.y0 ∷ r.x1 ∷ r.y1 ∷ w ∷ []) (h.2, (h.3, (h.4, (h.5, (h.6, tt)))))) (or_from _ _ (lt_from_le r.x1 r.x0 h.0) (lt_from_le r.y1 r.y0 h.1))

pub block_valid : (m : ℕ) (low high : List ℤ) → length low ≡ 3 → length high ≡ 3 → is_bad_object m 1 (numbers_of (Block low high)) ≡ false → IsObject m (Block low high)
block_valid m low high l h e =
    let p = or_parts _ _ (sym (block_is m low high l h) ∙ e) in
    let q = or_parts _ _ p.0 in
    let r = or_parts _ _ q.0 in
    let s = or_parts _ _ r.0 in
    ((l, row_within low s.0), (h, row_within high s.1), le_from_lt (number_at high 0) (number_at low 0) r.1, le_from_lt (number_at high 1) (number_at low 1) q.1, le_from_lt (number_at high 2) (number_at low 2) p.1)

pub block_good : (m : ℕ) (low high : List ℤ) → IsObject m (Block low high) → is_bad_object m 1 (numbers_of (Block low high)) ≡ false
block_good m low high h =
    block_is m low high h.0.0 h.1.0 ∙ or_from _ _ (or_from _ _ (or_from _ _ (or_from _ _ (row_good low h.0.1) (row_good high h.1.1)) (lt_from_le (number_at high 0) (number_at low 0) h.2)) (lt_from_le (number_at high 1) (number_at low 1) h.3)) (lt_from_le (number_at high 2) (number_at low 2) h.4)

pub mesh_valid : (m first count : ℕ) → is_bad_object m 2 (numbers_of (Mesh first count)) ≡ false → first + count ≤ m
unfolding is_bad_object
mesh_valid m first count e =
    let p = or_parts _ _ (or_parts _ _ e).1 in
    ltb-false m (first + count) (or_parts _ _ p.0).1

pub mesh_good : (m first count : ℕ) → m ≤ 262144 → first + count ≤ m → is_bad_object m 2 (numbers_of (Mesh first count)) ≡ false
unfolding is_bad_object
mesh_good m first count small h =
    or_from _ _
    (row_good_parts (numbers_of (Mesh first count)) (in_limits first (omega arith), (in_limits count (omega arith), (zero_in, (zero_in, (zero_in, (zero_in, tt)))))))
    (or_from _ _ (or_from _ _ (or_from _ _ (le-ltb first 0 (omega arith)) (le-ltb count 0 (omega arith))) (le-ltb m (first + count) h)) refl)
  where
    in_limits : (n : ℕ) → n ≤ 262144 → InLimits (pos n)
    in_limits n h = (omega (arith, ints, h), omega (arith, ints, h))

    zero_in : InLimits (pos 0)
    zero_in = in_limits 0 (omega arith)

-- ---- numbers from 1 on

pub off_range : (n m : ℕ) → (n ≡ 0) ⊎ ((n ≡ 0 → ⊥) × (m < n)) → (nat_lt n 1 || nat_lt m n) ≡ true
off_range n m (inl e) = or_left _ _ (lt-ltb n 1 (omega (arith, e)))
off_range n m (inr h) = or_right _ _ (lt-ltb m n h.1)

pub in_range : (n m : ℕ) → (n ≡ 0 → ⊥) → n ≤ m → (nat_lt n 1 || nat_lt m n) ≡ false
in_range n m some small = or_from _ _ (le-ltb n 1 (omega (arith, some))) (le-ltb m n small)

-- ---- sizes

pub size_valid : (w h : ℕ) → is_bad_size w h ≡ false → IsSize w h
size_valid w h e =
    let p = or_parts _ _ e in
    let q = or_parts _ _ p.0 in
    let r = or_parts _ _ q.0 in
    let s = or_parts _ _ r.0 in
    let t = or_parts _ _ s.0 in
    record {
      whole_columns = eqb-true _ _ (not-false _ t.0);
      wide = ltb-false w 8 t.1;
      within_width = ltb-false 2048 w s.1;
      whole_rows = eqb-true _ _ (not-false _ r.1);
      high = ltb-false h 4 q.1;
      within_height = ltb-false 2048 h p.1;
    }

pub size_good : (w h : ℕ) → IsSize w h → is_bad_size w h ≡ false
size_good w h s =
    or_from _ _ (or_from _ _ (or_from _ _ (or_from _ _ (or_from _ _
    (not_from_true _ (eq-eqb (w % 8) 0 s.whole_columns)) (le-ltb w 8 s.wide)) (le-ltb 2048 w s.within_width))
    (not_from_true _ (eq-eqb (h % 4) 0 s.whole_rows))) (le-ltb h 4 s.high)) (le-ltb 2048 h s.within_height)

-- ---- triangles

indices_parts : (n : ℕ) (vs : List ℕ) → list_any (λ v. not (nat_lt v n)) vs ≡ false → AllByRecursion (λ v. v < n) vs
indices_parts n [] e = tt
indices_parts n (v ∷ vs) e = let p = or_parts _ _ e in (ltb-true v n (not-false _ p.0), indices_parts n vs p.1)

pub indices_within : (n : ℕ) (vs : List ℕ) → list_any (λ v. not (nat_lt v n)) vs ≡ false → All (λ v. v < n) vs
indices_within n vs e = All-from_recursion (λ v. v < n) vs (indices_parts n vs e)

indices_good_parts : (n : ℕ) (vs : List ℕ) → AllByRecursion (λ v. v < n) vs → list_any (λ v. not (nat_lt v n)) vs ≡ false
indices_good_parts n [] h = refl
indices_good_parts n (v ∷ vs) h = or_from _ _ (not_from_true _ (lt-ltb v n h.0)) (indices_good_parts n vs h.1)

pub indices_good : (n : ℕ) (vs : List ℕ) → All (λ v. v < n) vs → list_any (λ v. not (nat_lt v n)) vs ≡ false
indices_good n vs h = indices_good_parts n vs (recursion_from_All (λ v. v < n) vs h)
