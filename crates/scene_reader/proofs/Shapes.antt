-- What the tests of objects say of each kind.
use Rattle.std.proofs.Common.{◌≡◌, ℕ, ℤ, pos, negsuc, ◌+◌, ◌<◌, ◌^◌, ◌∷◌, List, [], length, get_or, drop, arith, refl, sym, ap, ◌∙◌, Bool, true, false, w32}
use Rattle.std.specs.Prelude.{◌||◌, int_lt}
use Rattle.std.specs.List.{list_any}
use Rattle.std.proofs.lemmas.Int.{ints, to_z-of_z}
use Rattle.std.proofs.lemmas.Bool.{or_left, or_right, le-ltb, lt-ltb}
use Rattle.std.proofs.lemmas.List.{length-drop, get_or-drop}
use Rattle.std.proofs.lemmas.List.Recursion.{or_at}
use Rattle.std.proofs.lemmas.List.Folds.{list_any-append}
use Rattle.std.proofs.Math.Bool.{or_assoc, or-false}
use mir.Val.{SFits, of_z, to_z}
use Rattle.cull_base.specs.Guard.{is_beyond}
use Rattle.cull_base.specs.declared.rect.Rect.{Rect}
use Rattle.cull_base.specs.declared.scene_types.Object.TheVariants.{Area, Block}
use Rattle.scene_reader.specs.Layout.{numbers_of, number_at}
use Rattle.scene_reader.specs.Fault.{is_bad_row, is_bad_object, is_not_zero, rectangle_runs_back}

-- the value of a test that was decided by its first part, and of one that wasn't
pub or_then : (a b v : Bool) → a ≡ true → v ≡ a → v ≡ (a || b)
or_then true b v e f = f
or_then false b v e f = absurd cc

pub or_else : (a b v : Bool) → a ≡ false → v ≡ b → v ≡ (a || b)
or_else true b v e f = absurd cc
or_else false b v e f = f

-- a number as it stands in 32 bits
abbrev in_32_bits : ℤ → ℤ
in_32_bits z = to_z w32 (of_z w32 z)

-- a rectangle, by its five numbers
pub area_is : (object_tris : ℕ) (r : Rect) (w : ℤ) → is_bad_object object_tris 0 (numbers_of (Area r w)) ≡ (is_bad_row (r.x0 ∷ r.y0 ∷ r.x1 ∷ r.y1 ∷ w ∷ []) || rectangle_runs_back r)
unfolding is_bad_object
area_is object_tris r w = ap (λ (b : Bool). is_bad_row (r.x0 ∷ r.y0 ∷ r.x1 ∷ r.y1 ∷ w ∷ []) || b) (or-false (rectangle_runs_back r))

-- the answer of the code, from that on the rectangle's numbers
pub area_parts : (r : Rect) (w : ℤ) (row v : Bool) → SFits w32 r.x0 → SFits w32 r.y0 → SFits w32 r.x1 → SFits w32 r.y1 → SFits w32 w
    → row ≡ is_bad_row (in_32_bits r.x0 ∷ in_32_bits r.y0 ∷ in_32_bits r.x1 ∷ in_32_bits r.y1 ∷ in_32_bits w ∷ []) → v ≡ (row || rectangle_runs_back r)
    → v ≡ is_bad_object 0 0 (numbers_of (Area r w))
area_parts r w row v x0 y0 x1 y1 z e f =
    let same : row ≡ is_bad_row (r.x0 ∷ r.y0 ∷ r.x1 ∷ r.y1 ∷ w ∷ []) = simp to_z-of_z at e in
    f ∙ ap (λ (b : Bool). b || rectangle_runs_back r) same ∙ sym (area_is 0 r w)

-- three elements
pub three : (xs : List ℤ) → length xs ≡ 3 → number_at xs 0 ∷ number_at xs 1 ∷ number_at xs 2 ∷ [] ≡ xs
three [] e = absurd (omega (arith, e))
three (a ∷ []) e = absurd (omega (arith, e))
three (a ∷ b ∷ []) e = absurd (omega (arith, e))
three (a ∷ b ∷ c ∷ []) e = refl
three (a ∷ b ∷ c ∷ d ∷ xs) e = absurd (omega (arith, e))

-- a box, by its two corners
pub block_is : (object_tris : ℕ) (low high : List ℤ) → length low ≡ 3 → length high ≡ 3
    → is_bad_object object_tris 1 (numbers_of (Block low high)) ≡ ((((is_bad_row low || is_bad_row high) || int_lt (number_at high 0) (number_at low 0)) || int_lt (number_at high 1) (number_at low 1)) || int_lt (number_at high 2) (number_at low 2))
unfolding is_bad_object
block_is object_tris low high l h =
    let x = int_lt (number_at high 0) (number_at low 0) in
    let y = int_lt (number_at high 1) (number_at low 1) in
    let z = int_lt (number_at high 2) (number_at low 2) in
    let rows : is_bad_row (numbers_of (Block low high)) ≡ (is_bad_row low || is_bad_row high) =
    list_any-append (is_beyond (2 ^ 24)) (number_at low 0 ∷ number_at low 1 ∷ number_at low 2 ∷ []) (number_at high 0 ∷ number_at high 1 ∷ number_at high 2 ∷ []) ∙ ap (λ (t : List ℤ). is_bad_row t || is_bad_row (number_at high 0 ∷ number_at high 1 ∷ number_at high 2 ∷ [])) (three low l) ∙ ap (λ (t : List ℤ). is_bad_row low || is_bad_row t) (three high h) in
    ap (λ (b : Bool). b || ((x || y) || z)) rows ∙ sym (or_assoc (is_bad_row low || is_bad_row high) (x || y) z) ∙ ap (λ (b : Bool). b || z) (sym (or_assoc (is_bad_row low || is_bad_row high) x y))

-- six elements
pub six : (xs : List ℤ) → length xs ≡ 6 → number_at xs 0 ∷ number_at xs 1 ∷ number_at xs 2 ∷ number_at xs 3 ∷ number_at xs 4 ∷ number_at xs 5 ∷ [] ≡ xs
six [] e = absurd (omega (arith, e))
six (a ∷ []) e = absurd (omega (arith, e))
six (a ∷ b ∷ []) e = absurd (omega (arith, e))
six (a ∷ b ∷ c ∷ []) e = absurd (omega (arith, e))
six (a ∷ b ∷ c ∷ d ∷ []) e = absurd (omega (arith, e))
six (a ∷ b ∷ c ∷ d ∷ f ∷ []) e = absurd (omega (arith, e))
six (a ∷ b ∷ c ∷ d ∷ f ∷ g ∷ []) e = refl
six (a ∷ b ∷ c ∷ d ∷ f ∷ g ∷ h ∷ xs) e = absurd (omega (arith, e))

pub six_read : (n : List ℤ) → length n ≡ 6 → SFits w32 (number_at n 0) → SFits w32 (number_at n 1) → SFits w32 (number_at n 2) → SFits w32 (number_at n 3) → SFits w32 (number_at n 4) → SFits w32 (number_at n 5)
    → in_32_bits (number_at n 0) ∷ in_32_bits (number_at n 1) ∷ in_32_bits (number_at n 2) ∷ in_32_bits (number_at n 3) ∷ in_32_bits (number_at n 4) ∷ in_32_bits (number_at n 5) ∷ [] ≡ n
six_read n len f0 f1 f2 f3 f4 f5 = simp to_z-of_z (six n len)

-- the answer of the code, from that on the corners' numbers
pub block_parts : (low high : List ℤ) (rows v : Bool) → length low ≡ 3 → length high ≡ 3 → rows ≡ (is_bad_row low || is_bad_row high)
    → v ≡ (rows || ((int_lt (number_at high 0) (number_at low 0) || int_lt (number_at high 1) (number_at low 1)) || int_lt (number_at high 2) (number_at low 2)))
    → v ≡ is_bad_object 0 1 (numbers_of (Block low high))
block_parts low high rows v l h e f =
    let x = int_lt (number_at high 0) (number_at low 0) in
    let y = int_lt (number_at high 1) (number_at low 1) in
    let z = int_lt (number_at high 2) (number_at low 2) in
    f ∙ ap (λ (b : Bool). b || ((x || y) || z)) e ∙ sym (or_assoc (is_bad_row low || is_bad_row high) (x || y) z) ∙ ap (λ (b : Bool). b || z) (sym (or_assoc (is_bad_row low || is_bad_row high) x y)) ∙ sym (block_is 0 low high l h)

pub not_zero : (z : ℤ) → (of_z w32 z ≡ 0 → ⊥) → is_not_zero z ≡ true
not_zero (pos n) ne = let some : 0 < n = omega (arith, ne) in rw (le-ltb n 0 (omega arith), lt-ltb 0 n some) refl
not_zero (negsuc n) ne = refl

pub zero_is : (z : ℤ) → SFits w32 z → of_z w32 z ≡ 0 → z ≡ pos 0
zero_is z fits e = omega (arith, ints, fits, e)

-- a rectangle whose sixth number isn't 0
pub area_padded : (object_tris : ℕ) (n : List ℤ) → is_not_zero (number_at n 5) ≡ true → is_bad_object object_tris 0 n ≡ true
unfolding is_bad_object
area_padded object_tris n h = or_right _ _ (or_right _ _ h)

-- a mesh with a negative number
pub mesh_first : (object_tris : ℕ) (n : List ℤ) → int_lt (number_at n 0) (pos 0) ≡ true → is_bad_object object_tris 2 n ≡ true
unfolding is_bad_object
mesh_first object_tris n h = or_right _ _ (or_left _ _ (or_left _ _ (or_left _ _ h)))

pub mesh_second : (object_tris : ℕ) (n : List ℤ) → int_lt (number_at n 1) (pos 0) ≡ true → is_bad_object object_tris 2 n ≡ true
unfolding is_bad_object
mesh_second object_tris n h = or_right _ _ (or_left _ _ (or_left _ _ (or_right _ _ h)))

-- a mesh with a number behind its two
pub mesh_padded : (object_tris : ℕ) (n : List ℤ) (k : ℕ) → 2 + k < length n → is_not_zero (number_at n (2 + k)) ≡ true → is_bad_object object_tris 2 n ≡ true
unfolding is_bad_object
mesh_padded object_tris n k lt h =
    let there : k < length (drop 2 n) = omega (arith, length-drop 2 n, lt) in
    let at : is_not_zero (get_or (drop 2 n) k (pos 0)) ≡ true = rw (get_or-drop 2 n k (pos 0)) h in
    or_right _ _ (or_right _ _ (or_at (list_any is_not_zero) is_not_zero refl (λ _ _. refl) (drop 2 n) k (pos 0) there at))
