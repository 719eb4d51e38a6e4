-- A verdict asks only for the states of subtiles on the screen.
use Rattle.std.proofs.Common.{◌≡◌, ℕ, ◌<◌, Bool, true, ◌||◌, not, cond, refl, sym, ap, List, [], ◌∷◌, map}
use Rattle.std.specs.Cmp.{both_ways}
use Rattle.std.specs.List.{list_all}
use Rattle.cull_base.specs.declared.place.Sub.{Sub}
use Rattle.cull_base.specs.declared.scene_types.Object.{Object}
use Rattle.cull_base.specs.declared.scene_types.Verdict.TheVariants.{Visible, Occluded}
use Rattle.cull_base.specs.Screen.{Dimensions}
use Rattle.cull_base.specs.Piece.{middle, touches}
use Rattle.cull_base.specs.Depth.{high_of}
use Rattle.cull_base.specs.State.{State, hides}
use Rattle.scene_reader.specs.Layout.{Parts}
use Rattle.cull_base.specs.Pixels.{sub_of_pixel, sample_of_pixel, at_each_pixel}
use Rattle.cull_base.specs.Shape.{Shape, AlwaysOutside, AlwaysVisible, Flat, Pieces, has_sample, is_hidden_at, is_hidden, verdict_of}
use Rattle.cull_report.specs.Scene.{size_of, object_shape, object_verdict}
use Rattle.cull_base.proofs.HiddenObjects.{each_to, each_from}

-- the same states at each pixel of the screen
abbrev pub Agrees : Dimensions → (Sub → State) → (Sub → State) → Type 0
Agrees size f g = (px py : ℕ) → px < size.width → py < size.height → f (sub_of_pixel px py) ≡ g (sub_of_pixel px py)

agrees_back : (size : Dimensions) (f g : Sub → State) → Agrees size f g → Agrees size g f
agrees_back size f g same px py x y = sym (same px py x y)

pub hidden_at_alike : (f g : Sub → State) (shape : Shape) (px py : ℕ) → f (sub_of_pixel px py) ≡ g (sub_of_pixel px py) → is_hidden_at f shape px py ≡ is_hidden_at g shape px py
hidden_at_alike f g AlwaysOutside px py e = refl
hidden_at_alike f g AlwaysVisible px py e = refl
hidden_at_alike f g (Flat r q) px py e = ap (λ (s : State). hides s (sample_of_pixel px py) q) e
hidden_at_alike f g (Pieces ps hull) px py e = ap (λ (s : State). list_all (λ t. not (touches t (middle px py)) || hides s (sample_of_pixel px py) (high_of t (sub_of_pixel px py))) ps) e

each_alike : (size : Dimensions) (f g : Sub → State) (shape : Shape) → Agrees size f g
    → at_each_pixel size (λ i j. not (has_sample shape i j) || is_hidden_at f shape i j) ≡ true → at_each_pixel size (λ i j. not (has_sample shape i j) || is_hidden_at g shape i j) ≡ true
each_alike size f g shape same e = each_from size (λ i j. not (has_sample shape i j) || is_hidden_at g shape i j) (λ px py x y.
    let one = each_to size (λ i j. not (has_sample shape i j) || is_hidden_at f shape i j) e px py x y in
    rw (hidden_at_alike f g shape px py (same px py x y)) at one)

hidden_alike : (size : Dimensions) (f g : Sub → State) (shape : Shape) → Agrees size f g → is_hidden size f shape ≡ is_hidden size g shape
unfolding is_hidden
hidden_alike size f g shape same =
    let e = both_ways (at_each_pixel size (λ i j. not (has_sample shape i j) || is_hidden_at f shape i j)) (at_each_pixel size (λ i j. not (has_sample shape i j) || is_hidden_at g shape i j))
    (each_alike size f g shape same) (each_alike size g f shape (agrees_back size f g same)) in
    rw e refl

pub shape_alike : (size : Dimensions) (f g : Sub → State) (shape : Shape) → Agrees size f g → verdict_of size f shape ≡ verdict_of size g shape
shape_alike size f g AlwaysOutside same = refl
shape_alike size f g AlwaysVisible same = refl
shape_alike size f g (Flat r q) same = ap (λ (b : Bool). cond b Occluded Visible) (hidden_alike size f g (Flat r q) same)
shape_alike size f g (Pieces ps hull) same = ap (λ (b : Bool). cond b Occluded Visible) (hidden_alike size f g (Pieces ps hull) same)

pub objects_alike : (s : Parts) (frame : ℕ) (f g : Sub → State) → Agrees (size_of s) f g → (os : List Object) → map (object_verdict s frame f) os ≡ map (object_verdict s frame g) os
objects_alike s frame f g same [] = refl
objects_alike s frame f g same (o ∷ os) =
    let first = shape_alike (size_of s) f g (object_shape s frame o) same in let rest = objects_alike s frame f g same os in
    rw (first, rest) refl
