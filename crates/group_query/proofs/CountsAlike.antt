-- What is counted of groups asks only for the states of subtiles on the screen.
use Rattle.std.proofs.Common.{◌≡◌, ℕ, cond, List, [], ◌∷◌, Option, Some, None, refl, ap, ◌+◌}
use Rattle.cull_base.specs.declared.place.Sub.{Sub}
use Rattle.cull_base.specs.declared.scene_types.Verdict.{Verdict}
use Rattle.cull_base.specs.Screen.{Dimensions}
use Rattle.cull_base.specs.Shape.{flat_shape}
use Rattle.cull_base.specs.State.{State}
use Rattle.scene_reader.specs.Layout.{Parts}
use Rattle.cull_report.specs.Scene.{size_of}
use Rattle.cull_report.specs.Text.{is_occluded}
use Rattle.cull_report.proofs.Agreement.{Agrees, shape_alike}
use Rattle.group_query.specs.Hidden.{group_verdict, hidden_groups, hidden_members, hull_verdict, members_hidden, one_hidden, total}
use Rattle.group_query.specs.Hulls.{hull_of, members_of}
use Rattle.group_query.specs.declared.grouping.Group.{Group}
use Rattle.group_query.specs.declared.hulls.Hull.{Hull}

hull_alike : (size : Dimensions) (f g : Sub → State) (h : Option Hull) → Agrees size f g → hull_verdict size f h ≡ hull_verdict size g h
hull_alike size f g None same = refl
hull_alike size f g (Some h) same = shape_alike size f g (flat_shape size h.rect h.q) same

group_alike : (s : Parts) (frame : ℕ) (f g : Sub → State) (group : Group) → Agrees (size_of s) f g → group_verdict s frame f group ≡ group_verdict s frame g group
group_alike s frame f g group same = hull_alike (size_of s) f g (hull_of s frame group) same

total_alike : (m n : Group → ℕ) (gs : List Group) → ((group : Group) → m group ≡ n group) → total m gs ≡ total n gs
total_alike m n [] same = refl
total_alike m n (g ∷ gs) same = λ i. same g i + total_alike m n gs same i

pub hidden_alike : (s : Parts) (frame : ℕ) (f g : Sub → State) (gs : List Group) → Agrees (size_of s) f g → hidden_groups s frame f gs ≡ hidden_groups s frame g gs
hidden_alike s frame f g gs same =
    total_alike (one_hidden s frame f) (one_hidden s frame g) gs (λ group. ap (λ (v : Verdict). cond (is_occluded v) 1 0) (group_alike s frame f g group same))

pub members_alike : (s : Parts) (frame : ℕ) (f g : Sub → State) (gs : List Group) → Agrees (size_of s) f g → hidden_members s frame f gs ≡ hidden_members s frame g gs
members_alike s frame f g gs same =
    total_alike (members_hidden s frame f) (members_hidden s frame g) gs
    (λ group. ap (λ (v : Verdict). cond (is_occluded v) (members_of (hull_of s frame group)) 0) (group_alike s frame f g group same))
