-- The generator's states and draws after other draws.
use Rattle.std.proofs.Common.{◌≡◌, ℕ, ℤ, zero, suc, ◌+◌, ◌*◌, ◌/◌, ◌^◌, ◌%◌, List, [], ◌∷◌, ◌++◌, map, arith, refl, ap, ◌∙◌}
use Rattle.std.specs.List.{range_with_len}
use Rattle.std.proofs.lemmas.List.FromFn.{map-range_with_len_more}
use Rattle.demo_scene.specs.Demo.{state_after, draw, centre_x, centre_y, centre_z, vertex_about, vertices_of, box_of, boxes_of}

pub draws_after_draws : (seed j k : ℕ) → state_after (state_after seed j) k ≡ state_after seed (j + k)
unfolding state_after
draws_after_draws seed j zero = let e : j ≡ j + zero = omega arith in ap (state_after seed) e
draws_after_draws seed j (suc k) =
    let e : suc (j + k) ≡ j + suc k = omega arith in
    ap (λ (n : ℕ). (n * 6364136223846793005 + 1442695040888963407) % 2 ^ 64) (draws_after_draws seed j k) ∙ ap (state_after seed) e

-- a draw after j others and k more
pub draw_after : (seed j k m n : ℕ) → j + k ≡ m → draw (state_after seed j) k n ≡ draw seed m n
draw_after seed j k m n is =
    let e : j + suc k ≡ suc m = omega arith in
    ap (λ (t : ℕ). (t / 2 ^ 33) % n) (draws_after_draws seed j (suc k) ∙ ap (state_after seed) e)

vertex_after : (seed j k m : ℕ) (x y z x' y' z' : ℤ) → j + k ≡ m → x ≡ x' → y ≡ y' → z ≡ z' → vertex_about (state_after seed j) k x y z ≡ vertex_about seed m x' y' z'
vertex_after seed j k m x y z x' y' z' is ex ey ez =
    let second : j + (k + 1) ≡ m + 1 = omega arith in let third : j + (k + 2) ≡ m + 2 = omega arith in
    rw (ex, ey, ez, draw_after seed j k m 801 is, draw_after seed j (k + 1) (m + 1) 801 second, draw_after seed j (k + 2) (m + 2) 201 third) refl

three : {A : Type 0} (a b c a' b' c' : A) → a ≡ a' → b ≡ b' → c ≡ c' → a ∷ b ∷ c ∷ [] ≡ a' ∷ b' ∷ c' ∷ []
three a b c a' b' c' e f g = cc

-- the first triangle after so many others is the one with their number
pub vertices_after : (seed i : ℕ) → vertices_of (state_after seed (12 * i)) 0 ≡ vertices_of seed i
vertices_after seed i =
    let j = 12 * i in let s = state_after seed j in
    let x : centre_x s 0 ≡ centre_x seed j = rw (draw_after seed j 0 j 16001 (omega arith)) refl in
    let y : centre_y s 0 ≡ centre_y seed j = rw (draw_after seed j 1 (j + 1) 4001 refl) refl in
    let z : centre_z s 0 ≡ centre_z seed j = rw (draw_after seed j 2 (j + 2) 16000 refl) refl in
    three _ _ _ _ _ _
    (vertex_after seed j 3 (j + 3 + 3 * 0) _ _ _ _ _ _ (omega arith) x y z)
    (vertex_after seed j 6 (j + 3 + 3 * 1) _ _ _ _ _ _ (omega arith) x y z)
    (vertex_after seed j 9 (j + 3 + 3 * 2) _ _ _ _ _ _ (omega arith) x y z)

-- a box after j draws and k more
pub box_after : (seed j k m : ℕ) → j + k ≡ m → box_of (state_after seed j) k ≡ box_of seed m
box_after seed j k m is =
    let e1 : j + (k + 1) ≡ m + 1 = omega arith in let e2 : j + (k + 2) ≡ m + 2 = omega arith in let e3 : j + (k + 3) ≡ m + 3 = omega arith in
    let e4 : j + (k + 3 + 1) ≡ m + 3 + 1 = omega arith in let e5 : j + (k + 3 + 2) ≡ m + 3 + 2 = omega arith in
    rw (
      draw_after seed j k m 16001 is,
      draw_after seed j (k + 1) (m + 1) 4001 e1,
      draw_after seed j (k + 2) (m + 2) 16000 e2,
      draw_after seed j (k + 3) (m + 3) 200 e3,
      draw_after seed j (k + 3 + 1) (m + 3 + 1) 200 e4,
      draw_after seed j (k + 3 + 2) (m + 3 + 2) 200 e5,
    ) refl

pub none_drawn : (seed : ℕ) → seed ≡ state_after seed 0
unfolding state_after
none_drawn seed = refl

-- the state after j draws and k more
pub drawn_after : (seed j k m state next : ℕ) → j + k ≡ m → state ≡ state_after seed j → next ≡ state_after state k → next ≡ state_after seed m
drawn_after seed j k m state next is now then =
    then ∙ ap (λ (t : ℕ). state_after t k) now ∙ draws_after_draws seed j k ∙ ap (state_after seed) is

pub boxes_of-none : (seed k : ℕ) → boxes_of seed k 0 ≡ []
unfolding boxes_of
boxes_of-none seed k = refl

pub boxes_of-next : (seed k count : ℕ) → boxes_of seed k (count + 1) ≡ boxes_of seed k count ++ box_of seed (k + 6 * count) ∷ []
unfolding boxes_of
boxes_of-next seed k count = map-range_with_len_more (λ j. box_of seed (k + 6 * j)) 0 count count (omega arith)

each_after : (seed k : ℕ) (js : List ℕ) → map (λ j. box_of (state_after seed k) (0 + 6 * j)) js ≡ map (λ j. box_of seed (k + 6 * j)) js
each_after seed k [] = refl
each_after seed k (j ∷ js) =
    let here = box_after seed k (0 + 6 * j) (k + 6 * j) (omega arith) in let rest = each_after seed k js in
    rw (here, rest) refl

pub boxes_after : (seed k count : ℕ) → boxes_of (state_after seed k) 0 count ≡ boxes_of seed k count
unfolding boxes_of
boxes_after seed k count = each_after seed k (range_with_len 0 count)
