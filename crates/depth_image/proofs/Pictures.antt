-- A picture, piece by piece, and the pictures of states that are the same.
use Rattle.std.proofs.Common.{◌≡◌, ℕ, ◌+◌, ◌-◌, ◌<◌, ◌≤◌, ◌++◌, [], ◌∷◌, List, length, Option, Some, None, append_assoc, arith, refl, ap, sym, ◌∙◌}
use Rattle.std.specs.Option.{option_map}
use Rattle.std.proofs.lemmas.List.{append-nil}
use Rattle.cull_base.specs.declared.nearness.Grade.{Grade}
use Rattle.cull_base.specs.declared.place.Sub.{Sub}
use Rattle.cull_base.specs.Pixels.{sample_of_pixel, sub_of_pixel}
use Rattle.cull_base.specs.Screen.{Dimensions}
use Rattle.cull_base.specs.State.{State, bound_at}
use Rattle.cull_base.specs.Stream.{SinkSays, Appends}
use Rattle.depth_image.specs.Picture.{head_text, number_line, picture_text, pixel_lines, row_lines, shade_at, shade_of}
use Rattle.depth_image.proofs.Pixels.{rows_none, rows_then}
use Rattle.depth_image.proofs.Ranges.{alike}

-- the three lines before the pixels, put together
pub head_is : (name width height most : List ℕ) → ((((((name ++ 10 ∷ []) ++ width) ++ (32 ∷ height)) ++ 10 ∷ []) ++ most) ++ 10 ∷ []) ≡ (name ++ 10 ∷ []) ++ (((width ++ (32 ∷ height)) ++ 10 ∷ []) ++ (most ++ 10 ∷ []))
head_is name width height most = simp append_assoc

-- a picture has its head at least
pub picture_some : (size : Dimensions) (grade : Grade) (states : Sub → State) → 0 < length (picture_text size grade states)
unfolding picture_text head_text
picture_some size grade states = omega arith

-- before anything is written
pub nothing_written : (says : SinkSays) → Appends says says []
nothing_written says = by says.holding
  where
    by : (held : Option (List ℕ)) → held ≡ option_map (λ (h : List ℕ). h ++ []) held
    by None = refl
    by (Some h) = ap Some (sym (append-nil h))

pub rows_begin : (size : Dimensions) (grade : Grade) (states : Sub → State) → head_text size ≡ head_text size ++ row_lines size.width grade states 0 0
rows_begin size grade states = rows_none (head_text size) size.width grade states 0

-- ---- the same states at each pixel of the screen make the same picture

pixels_alike : (grade : Grade) (f g : Sub → State) (y width : ℕ) → ((px : ℕ) → px < width → f (sub_of_pixel px y) ≡ g (sub_of_pixel px y)) → pixel_lines grade f y 0 width ≡ pixel_lines grade g y 0 width
unfolding pixel_lines
pixels_alike grade f g y width same = alike (λ px. number_line (shade_at grade f px y)) (λ px. number_line (shade_at grade g px y)) 0 0 width each
  where
    each : (k : ℕ) → k < width → number_line (shade_at grade f (0 + k) y) ≡ number_line (shade_at grade g (0 + k) y)
    each k lt =
        let z : 0 + k ≡ k = omega arith in
        ap (λ px. number_line (shade_at grade f px y)) z ∙ ap (λ (s : State). number_line (shade_of grade (bound_at s (sample_of_pixel k y)))) (same k lt) ∙ ap (λ px. number_line (shade_at grade g px y)) (sym z)

pub picture_alike : (size : Dimensions) (grade : Grade) (f g : Sub → State) → ((px py : ℕ) → px < size.width → py < size.height → f (sub_of_pixel px py) ≡ g (sub_of_pixel px py)) → picture_text size grade f ≡ picture_text size grade g
unfolding picture_text row_lines
picture_alike size grade f g same =
    ap (λ (t : List ℕ). head_text size ++ t) (alike (λ py. pixel_lines grade f py 0 size.width) (λ py. pixel_lines grade g py 0 size.width) 0 0 size.height each)
  where
    each : (k : ℕ) → k < size.height → pixel_lines grade f (0 + k) 0 size.width ≡ pixel_lines grade g (0 + k) 0 size.width
    each k lt =
        let z : 0 + k ≡ k = omega arith in
        ap (λ py. pixel_lines grade f py 0 size.width) z ∙ pixels_alike grade f g k size.width (λ px x. same px k x lt) ∙ ap (λ py. pixel_lines grade g py 0 size.width) (sym z)

-- ---- rows that go out one piece after the other

module _ (size : Dimensions) (grade : Grade) (states : Sub → State) where
  abbrev rows : ℕ → ℕ → List ℕ
  rows first count = row_lines size.width grade states first count

  -- a front of the picture, what is put together after it, and the next rows
  pub next_front : (front text : List ℕ) (k n : ℕ) → front ++ text ≡ head_text size ++ rows 0 k → front ++ (text ++ rows k n) ≡ head_text size ++ rows 0 (k + n)
  next_front front text k n e =
      let z : 0 + k ≡ k = omega arith in
      sym (append_assoc front text (rows k n)) ∙ ap (λ (t : List ℕ). t ++ rows k n) e ∙ append_assoc (head_text size) (rows 0 k) (rows k n)
      ∙ ap (λ (t : List ℕ). head_text size ++ t) (ap (λ (j : ℕ). rows 0 k ++ rows j n) (sym z) ∙ sym (rows_then size.width grade states 0 k n))

  -- the picture from there on
  pub picture_after : (front text : List ℕ) (k n : ℕ) → k + n ≤ size.height → front ++ text ≡ head_text size ++ rows 0 k
      → picture_text size grade states ≡ front ++ ((text ++ rows k n) ++ rows (k + n) (size.height - (k + n)))
  unfolding picture_text
  picture_after front text k n le e =
      let all : size.height ≡ (k + n) + (size.height - (k + n)) = omega (arith, le) in
      let z : 0 + (k + n) ≡ k + n = omega arith in
      let left = rows (k + n) (size.height - (k + n)) in
      ap (λ (h : ℕ). head_text size ++ rows 0 h) all
      ∙ ap (λ (t : List ℕ). head_text size ++ t) (rows_then size.width grade states 0 (k + n) (size.height - (k + n)) ∙ ap (λ (j : ℕ). rows 0 (k + n) ++ rows j (size.height - (k + n))) z)
      ∙ sym (append_assoc (head_text size) (rows 0 (k + n)) left) ∙ ap (λ (t : List ℕ). t ++ left) (sym (next_front front text k n e))
      ∙ append_assoc front (text ++ rows k n) left

  -- and where these rows are the last
  pub picture_ends : (front text : List ℕ) (k n : ℕ) → k + n ≡ size.height → front ++ text ≡ head_text size ++ rows 0 k → picture_text size grade states ≡ front ++ (text ++ rows k n)
  unfolding picture_text
  picture_ends front text k n all e = ap (λ (h : ℕ). head_text size ++ rows 0 h) (sym all) ∙ sym (next_front front text k n e)
