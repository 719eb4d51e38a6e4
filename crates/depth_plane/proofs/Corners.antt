-- A plane is least and greatest over the samples of a subtile at a corner.
use Rattle.std.proofs.Common.{◌≡◌, ℕ, ℤ, pos, negsuc, suc, zero, ◌+◌, ◌*◌, ◌/◌, ◌%◌, ◌<◌, ◌≤◌, ◌+ℤ◌, ◌*ℤ◌, ◌≤ℤ◌, ◌∙◌, sym, arith, refl, List, map, length, get_or, ◌⊎◌, inl, inr}
use Rattle.std.specs.Int.{int_min, int_max}
use Rattle.std.specs.List.{fold, range_with_len, All, Contains}
use Rattle.std.proofs.Math.Nat.{mul-le-mul_left}
use Rattle.std.proofs.lemmas.Int.{ints, fold-int_min_bounds, fold-int_min_reached, fold-int_max_bounds, fold-int_max_reached}
use Rattle.std.proofs.lemmas.List.FromFn.{length-map-range_with_len, get_or-map-range_with_len}
use Rattle.std.proofs.lemmas.List.Elements.{All-get_or}
use Rattle.cull_base.specs.Piece.{least_of, greatest_of, Point, sample, each_sample}
use Rattle.cull_base.proofs.Ring.{diff-mul, diff-same, pos_is, over1}
use Rattle.cull_base.specs.declared.place.Sub.{Sub}
use Rattle.cull_base.specs.declared.place.Tile.{Tile}
use Rattle.depth_plane.specs.Plane.{Coefficients, numerator_at, IsNarrow, least_in, sub_in}
use Rattle.depth_plane.specs.Corner.{best_of, least_place, end_place}
use Rattle.depth_plane.specs.declared.corner.End.{End}
use Rattle.depth_plane.specs.declared.corner.End.TheVariants.{Least, Greatest}
use Rattle.depth_plane.specs.Floors.{number_at}
use Rattle.depth_plane.proofs.Products.{mul-add}

regrouped : (a : ℤ) (m i : ℕ) → (a *ℤ pos m) *ℤ pos i ≡ a *ℤ pos (m * i)
regrouped a m i = over1 (λ a. (a *ℤ pos m) *ℤ pos i ≡ a *ℤ pos (m * i)) (λ p n. simp (pos_is, diff-mul) (diff-same _ _ _ _ (omega arith))) a

abbrev rest : (ℕ → ℤ) → List ℤ
rest f = map f (range_with_len 1 31)

-- an element behind the first
at_rest : (f : ℕ → ℤ) (P : ℤ → Type 0) (i : ℕ) → i < 31 → All P (rest f) → P (f (suc i))
at_rest f P i lt h =
    let len : length (rest f) ≡ 31 = length-map-range_with_len f 1 31 in
    let at : P (get_or (rest f) i (f 0)) = All-get_or P (rest f) i (f 0) (omega arith) h in
    let is : get_or (rest f) i (f 0) ≡ f (suc i) = get_or-map-range_with_len f 1 31 i (suc i) (f 0) lt (omega arith) in
    rw (← is) at

-- what holds of each value holds of each element behind the first
from_rest : (f : ℕ → ℤ) (P : ℤ → Type 0) (v : ℤ) → ((i : ℕ) → i < 32 → P (f i)) → Contains (rest f) v → P v
from_rest f P v h (k, lt, e) =
    let len : length (rest f) ≡ 31 = length-map-range_with_len f 1 31 in
    let lt' : k < 31 = omega (arith, lt, len) in
    let is : get_or (rest f) k v ≡ f (suc k) = get_or-map-range_with_len f 1 31 k (suc k) v lt' (omega arith) in
    rw (← e, is) (h (suc k) (omega arith))

-- the least value is no greater than any, and is one of them
pub least_of-le : (f : ℕ → ℤ) (i : ℕ) → i < 32 → least_of (each_sample f) ≤ℤ f i
unfolding each_sample
least_of-le f zero lt = (fold-int_min_bounds (f 0) (rest f) (fold int_min (f 0) (rest f)) refl).0
least_of-le f (suc i) lt = at_rest f (λ x. fold int_min (f 0) (rest f) ≤ℤ x) i (omega arith) (fold-int_min_bounds (f 0) (rest f) (fold int_min (f 0) (rest f)) refl).1

least_of-from : (f : ℕ → ℤ) (P : ℤ → Type 0) → ((i : ℕ) → i < 32 → P (f i)) → P (least_of (each_sample f))
unfolding each_sample
least_of-from f P h = elim (fold-int_min_reached (f 0) (rest f) (fold int_min (f 0) (rest f)) refl) [
  | inl e ↦ rw e (h 0 (omega arith))
  | inr e ↦ from_rest f P (fold int_min (f 0) (rest f)) h e
]

pub greatest_of-ge : (f : ℕ → ℤ) (i : ℕ) → i < 32 → f i ≤ℤ greatest_of (each_sample f)
unfolding each_sample
greatest_of-ge f zero lt = (fold-int_max_bounds (f 0) (rest f) (fold int_max (f 0) (rest f)) refl).0
greatest_of-ge f (suc i) lt = at_rest f (λ x. x ≤ℤ fold int_max (f 0) (rest f)) i (omega arith) (fold-int_max_bounds (f 0) (rest f) (fold int_max (f 0) (rest f)) refl).1

greatest_of-from : (f : ℕ → ℤ) (P : ℤ → Type 0) → ((i : ℕ) → i < 32 → P (f i)) → P (greatest_of (each_sample f))
unfolding each_sample
greatest_of-from f P h = elim (fold-int_max_reached (f 0) (rest f) (fold int_max (f 0) (rest f)) refl) [
  | inl e ↦ rw e (h 0 (omega arith))
  | inr e ↦ from_rest f P (fold int_max (f 0) (rest f)) h e
]

-- a value that another doesn't lie beyond
abbrev AtEnd : End → ℤ → ℤ → Type 0
AtEnd Least m v = m ≤ℤ v
AtEnd Greatest m v = v ≤ℤ m

best_is : (end : End) (f : ℕ → ℤ) (m : ℤ) (k : ℕ) → k < 32 → f k ≡ m → ((i : ℕ) → i < 32 → AtEnd end m (f i)) → m ≡ best_of end (each_sample f)
best_is Least f m k lt e below =
    let up = least_of-le f k lt in
    let down = least_of-from f (λ v. m ≤ℤ v) below in
    omega (arith, ints)
best_is Greatest f m k lt e above =
    let down = greatest_of-ge f k lt in
    let up = greatest_of-from f (λ v. v ≤ℤ m) above in
    omega (arith, ints)

same_end : (end : End) (m n v w : ℤ) → m ≡ n → v ≡ w → AtEnd end n w → AtEnd end m v
same_end Least m n v w e f h = omega (arith, ints, e, f, h)
same_end Greatest m n v w e f h = omega (arith, ints, e, f, h)

sum_end : (end : End) (a b p q l : ℤ) → AtEnd end a p → AtEnd end b q → AtEnd end ((a +ℤ b) +ℤ l) ((p +ℤ q) +ℤ l)
sum_end Least a b p q l h k = omega (arith, ints, h, k)
sum_end Greatest a b p q l h k = omega (arith, ints, h, k)

-- along one axis, whose last place is h from the first
axis : (end : End) (n : ℤ) (x h i : ℕ) → i ≤ h → AtEnd end (n *ℤ pos (x + end_place end n h)) (n *ℤ pos (x + i))
axis Least (pos n) x h i le = let l : x + 0 ≤ x + i = omega arith in omega (arith, ints, mul-le-mul_left n l)
axis Least (negsuc n) x h i le = let l : x + i ≤ x + h = omega arith in omega (arith, ints, mul-le-mul_left (suc n) l)
axis Greatest (pos n) x h i le = let l : x + i ≤ x + h = omega arith in omega (arith, ints, mul-le-mul_left n l)
axis Greatest (negsuc n) x h i le = let l : x + 0 ≤ x + i = omega arith in omega (arith, ints, mul-le-mul_left (suc n) l)

place_is : (end : End) (n : ℤ) (h : ℕ) → (end_place end n h ≡ 0) ⊎ (end_place end n h ≡ h)
place_is Least (pos n) h = inl refl
place_is Least (negsuc n) h = inr refl
place_is Greatest (pos n) h = inr refl
place_is Greatest (negsuc n) h = inl refl

-- the sample of a corner
corner : (i j : ℕ) → (i ≡ 0) ⊎ (i ≡ 112) → (j ≡ 0) ⊎ (j ≡ 48) → (k : ℕ) × (k < 32) × (16 * (k % 8) ≡ i) × (16 * (k / 8) ≡ j)
corner i j (inl a) (inl b) = (0, omega arith, omega arith, omega arith)
corner i j (inr a) (inl b) = (7, omega arith, omega arith, omega arith)
corner i j (inl a) (inr b) = (24, omega arith, omega arith, omega arith)
corner i j (inr a) (inr b) = (31, omega arith, omega arith, omega arith)

abbrev at : ℕ → ℕ → Point
at x y = record { x = pos x; y = pos y }

-- a sample by its place from the first sample
sample_at : (c : Coefficients) (u : Sub) (k : ℕ) → numerator_at c (sample u k) ≡ numerator_at c (at ((16 * (8 * u.column) + 8) + 16 * (k % 8)) ((16 * (4 * u.row) + 8) + 16 * (k / 8)))
sample_at c u k =
    let ex : 16 * (8 * u.column + k % 8) + 8 ≡ (16 * (8 * u.column) + 8) + 16 * (k % 8) = omega arith in
    let ey : 16 * (4 * u.row + k / 8) + 8 ≡ (16 * (4 * u.row) + 8) + 16 * (k / 8) = omega arith in
    rw (ex, ey) refl

sample_is : (c : Coefficients) (u : Sub) (k i j x y : ℕ) → 16 * (k % 8) ≡ i → 16 * (k / 8) ≡ j → x ≡ (16 * (8 * u.column) + 8) + i → y ≡ (16 * (4 * u.row) + 8) + j → numerator_at c (sample u k) ≡ numerator_at c (at x y)
sample_is c u k i j x y ei ej ex ey = rw (ex, ey, ← ei, ← ej) (sample_at c u k)

pub corner_best : (end : End) (c : Coefficients) (u : Sub) (x y : ℕ) → x ≡ (16 * (8 * u.column) + 8) + end_place end c.across 112 → y ≡ (16 * (4 * u.row) + 8) + end_place end c.down 48 →
    numerator_at c (at x y) ≡ best_of end (each_sample (λ k. numerator_at c (sample u k)))
corner_best end c u x y ex ey =
    let left = 16 * (8 * u.column) + 8 in let top = 16 * (4 * u.row) + 8 in
    let across = end_place end c.across 112 in let down = end_place end c.down 48 in
    let (k, lt, i, j) = corner across down (place_is end c.across 112) (place_is end c.down 48) in
    let there : numerator_at c (at x y) ≡ numerator_at c (at (left + across) (top + down)) = rw (ex, ey) refl in
    best_is end (λ k. numerator_at c (sample u k)) (numerator_at c (at x y)) k lt (sample_is c u k across down x y i j ex ey)
    (λ m l.
    let a = axis end c.across left 112 (16 * (m % 8)) (omega arith) in
    let b = axis end c.down top 48 (16 * (m / 8)) (omega arith) in
    same_end end (numerator_at c (at x y)) (numerator_at c (at (left + across) (top + down))) (numerator_at c (sample u m)) (numerator_at c (at (left + 16 * (m % 8)) (top + 16 * (m / 8)))) there (sample_at c u m)
    (sum_end end (c.across *ℤ pos (left + across)) (c.down *ℤ pos (top + down)) (c.across *ℤ pos (left + 16 * (m % 8))) (c.down *ℤ pos (top + 16 * (m / 8))) c.level a b))

-- the value of a plane so far to the right and below
moved : (a d l f : ℤ) (x y i j p q : ℕ) → f ≡ ((a *ℤ pos x) +ℤ (d *ℤ pos y)) +ℤ l → p ≡ x + i → q ≡ y + j →
    (f +ℤ (a *ℤ pos i)) +ℤ (d *ℤ pos j) ≡ ((a *ℤ pos p) +ℤ (d *ℤ pos q)) +ℤ l
moved a d l f x y i j p q ef ep eq =
    let s = mul-add a (pos x) (pos i) in let t = mul-add d (pos y) (pos j) in
    rw (ef, ep, eq) (omega (arith, ints, s, t))

-- by what it is at the first subtile
pub least_from_first : (c : Coefficients) (u : Sub) (first : ℤ) → IsNarrow c first →
    (first +ℤ (c.across *ℤ pos (128 * u.column))) +ℤ (c.down *ℤ pos (64 * u.row)) ≡ least_of (each_sample (λ k. numerator_at c (sample u k)))
least_from_first c u first h =
    moved c.across c.down c.level first (8 + least_place c.across 112) (8 + least_place c.down 48) (128 * u.column) (64 * u.row) _ _ h.value (omega arith) (omega arith)
    ∙ corner_best Least c u ((16 * (8 * u.column) + 8) + least_place c.across 112) ((16 * (4 * u.row) + 8) + least_place c.down 48) refl refl

-- by what it is at another subtile above and to the left
pub least_moved : (c : Coefficients) (u v : Sub) (i j : ℕ) → v.column ≡ u.column + i → v.row ≡ u.row + j →
    (least_in c u +ℤ (c.across *ℤ pos (128 * i))) +ℤ (c.down *ℤ pos (64 * j)) ≡ least_in c v
least_moved c u v i j ec er =
    moved c.across c.down c.level (least_in c u) (16 * (8 * u.column) + 8 + least_place c.across 112) (16 * (4 * u.row) + 8 + least_place c.down 48) (128 * i) (64 * j)
    (16 * (8 * v.column) + 8 + least_place c.across 112) (16 * (4 * v.row) + 8 + least_place c.down 48)
    (sym (corner_best Least c u _ _ refl refl)) (omega (arith, ec)) (omega (arith, er))
    ∙ corner_best Least c v _ _ refl refl

-- by that over a tile's first subtile
pub least_risen : (c : Coefficients) (tile : Tile) (j : ℕ) → least_in c (sub_in tile 0) +ℤ number_at (c.across *ℤ pos 128) (c.down *ℤ pos 64) j ≡ least_in c (sub_in tile j)
least_risen c tile j = apart (least_in c (sub_in tile 0)) c.across c.down (j % 4) (j / 4) ∙ least_moved c (sub_in tile 0) (sub_in tile j) (j % 4) (j / 4) (omega arith) (omega arith)
  where
    apart : (f a d : ℤ) (i k : ℕ) → f +ℤ (((a *ℤ pos 128) *ℤ pos i) +ℤ ((d *ℤ pos 64) *ℤ pos k)) ≡ (f +ℤ (a *ℤ pos (128 * i))) +ℤ (d *ℤ pos (64 * k))
    apart f a d i k = let e = regrouped a 128 i in let g = regrouped d 64 k in omega (arith, ints, e, g)
