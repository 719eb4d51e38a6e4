-- How far the corners of a box reach.
use Rattle.std.proofs.Common.{◌≡◌, ℕ, ℤ, pos, ◌+◌, ◌*◌, ◌<◌, ◌≤◌, ◌≤ℤ◌, List, [], ◌∷◌, length, map, take, drop, get_or, length-drop, false, arith, refl, sym, ap, ◌∙◌}
use Rattle.std.specs.Int.{int_min, int_max}
use Rattle.std.specs.List.{fold, All}
use Rattle.std.proofs.lemmas.Int.{ints}
use Rattle.std.proofs.lemmas.List.{take_all}
use Rattle.std.proofs.lemmas.List.Elements.{All-get_or, All-take, All-drop}
use Rattle.std.proofs.lemmas.List.Folds.{fold-map}
use Rattle.std.proofs.lemmas.List.Sums.{fold_more}
use Rattle.cull_base.specs.declared.clip.ClipVertex.{ClipVertex}
use Rattle.cull_base.specs.declared.extent.Extent.{Extent}
use Rattle.cull_base.specs.declared.rect.Rect.{Rect}
use Rattle.cull_base.specs.Guard.{is_past_guard}
use Rattle.cull_base.specs.NearPlane.{is_behind}
use Rattle.cull_base.specs.Piece.{least_of, greatest_of}
use Rattle.cull_base.specs.Screen.{Dimensions}
use Rattle.near_clip.specs.NearPart.{whole}
use Rattle.near_clip.proofs.Guarded.{guarded}
use Rattle.snap_setup.specs.Boxes.{rect_between}
use Rattle.snap_setup.specs.Snapping.{screen_x, screen_y}
use Rattle.rect_query.specs.Boxes.{box_rect_of}

-- what stands beyond the end of a list
abbrev pub no_vertex : ClipVertex
no_vertex = record { x = pos 0; y = pos 0; w = pos 0 }

-- the least and the greatest of a coordinate of a first vertex and some more
abbrev pub least_from : (ClipVertex → ℤ) → ClipVertex → List ClipVertex → ℤ
least_from f v vs = fold (λ a u. int_min a (f u)) (f v) vs

abbrev pub greatest_from : (ClipVertex → ℤ) → ClipVertex → List ClipVertex → ℤ
greatest_from f v vs = fold (λ a u. int_max a (f u)) (f v) vs

pub least_more : (f : ClipVertex → ℤ) (v : ClipVertex) (vs : List ClipVertex) (i : ℕ) (d : ClipVertex) (a b : ℤ) → i < length vs → a ≡ least_from f v (take i vs) → b ≡ int_min a (f (get_or vs i d)) → b ≡ least_from f v (take (i + 1) vs)
least_more f v vs i d a b lt e g = g ∙ ap (λ (x : ℤ). int_min x (f (get_or vs i d))) e ∙ sym (fold_more (λ x u. int_min x (f u)) (f v) vs i d lt)

pub greatest_more : (f : ClipVertex → ℤ) (v : ClipVertex) (vs : List ClipVertex) (i : ℕ) (d : ClipVertex) (a b : ℤ) → i < length vs → a ≡ greatest_from f v (take i vs) → b ≡ int_max a (f (get_or vs i d)) → b ≡ greatest_from f v (take (i + 1) vs)
greatest_more f v vs i d a b lt e g = g ∙ ap (λ (x : ℤ). int_max x (f (get_or vs i d))) e ∙ sym (fold_more (λ x u. int_max x (f u)) (f v) vs i d lt)

-- the vertices but the first, as a part of the list is read
pub rest_is : (vs : List ClipVertex) → length vs ≡ 8 → take 7 (drop 1 vs) ≡ drop 1 vs
rest_is vs eight = take_all 7 (drop 1 vs) (omega (arith, length-drop 1 vs))

-- of all corners
least_of_all : (f : ClipVertex → ℤ) (vs : List ClipVertex) (d : ClipVertex) → 0 < length vs → least_from f (get_or vs 0 d) (drop 1 vs) ≡ least_of (map f vs)
least_of_all f [] d lt = absurd (omega arith)
least_of_all f (v ∷ vs) d lt = sym (fold-map int_min f (f v) vs)

greatest_of_all : (f : ClipVertex → ℤ) (vs : List ClipVertex) (d : ClipVertex) → 0 < length vs → greatest_from f (get_or vs 0 d) (drop 1 vs) ≡ greatest_of (map f vs)
greatest_of_all f [] d lt = absurd (omega arith)
greatest_of_all f (v ∷ vs) d lt = sym (fold-map int_max f (f v) vs)

-- once all have been looked at
pub least_reached : (f : ClipVertex → ℤ) (vs : List ClipVertex) (i : ℕ) (a : ℤ) → length vs ≡ 8 → length (take 7 (drop 1 vs)) ≤ i → a ≡ least_from f (get_or vs 0 no_vertex) (take i (take 7 (drop 1 vs))) → a ≡ least_of (map f vs)
least_reached f vs i a eight end e =
    e ∙ ap (λ (us : List ClipVertex). least_from f (get_or vs 0 no_vertex) us) (take_all i (take 7 (drop 1 vs)) end ∙ rest_is vs eight) ∙ least_of_all f vs no_vertex (omega (arith, eight))

pub greatest_reached : (f : ClipVertex → ℤ) (vs : List ClipVertex) (i : ℕ) (a : ℤ) → length vs ≡ 8 → length (take 7 (drop 1 vs)) ≤ i → a ≡ greatest_from f (get_or vs 0 no_vertex) (take i (take 7 (drop 1 vs))) → a ≡ greatest_of (map f vs)
greatest_reached f vs i a eight end e =
    e ∙ ap (λ (us : List ClipVertex). greatest_from f (get_or vs 0 no_vertex) us) (take_all i (take 7 (drop 1 vs)) end ∙ rest_is vs eight) ∙ greatest_of_all f vs no_vertex (omega (arith, eight))

pub rect_is : (across down : Extent) (size : Dimensions) (vs : List ClipVertex) (r : Rect) → across.least ≡ least_of (map (λ v. screen_x (whole v) size) vs) → across.greatest ≡ greatest_of (map (λ v. screen_x (whole v) size) vs)
    → down.least ≡ least_of (map (λ v. screen_y (whole v) size) vs) → down.greatest ≡ greatest_of (map (λ v. screen_y (whole v) size) vs) → r ≡ rect_between across down → r ≡ box_rect_of size vs
rect_is across down size vs r x0 x1 y0 y1 e = rw (e, x0, x1, y0, y1) refl

pub w_front : (near : ℕ) (v : ClipVertex) → is_behind near v ≡ false → pos near ≤ℤ v.w
w_front near v e = grind (arith, ints)

pub w_guarded : (near : ℕ) (v : ClipVertex) → is_past_guard v near ≡ false → v.w ≤ℤ pos (16384 * near)
w_guarded near v e = let g = guarded v near e in g.w_within.1

-- what holds of each vertex holds of each but the first
rest_has : (P : ClipVertex → Type 0) (vs : List ClipVertex) (i : ℕ) → All P vs → i < length (take 7 (drop 1 vs)) → P (get_or (take 7 (drop 1 vs)) i no_vertex)
rest_has P vs i h lt = All-get_or P (take 7 (drop 1 vs)) i no_vertex lt (All-take P 7 (drop 1 vs) (All-drop P 1 vs h))

pub rest_guarded : (vs : List ClipVertex) (near i : ℕ) → All (λ v. is_past_guard v near ≡ false) vs → i < length (take 7 (drop 1 vs)) → is_past_guard (get_or (take 7 (drop 1 vs)) i no_vertex) near ≡ false
rest_guarded vs near i h lt = rest_has (λ v. is_past_guard v near ≡ false) vs i h lt

pub rest_front : (vs : List ClipVertex) (near i : ℕ) → All (λ v. is_behind near v ≡ false) vs → i < length (take 7 (drop 1 vs)) → is_behind near (get_or (take 7 (drop 1 vs)) i no_vertex) ≡ false
rest_front vs near i h lt = rest_has (λ v. is_behind near v ≡ false) vs i h lt
