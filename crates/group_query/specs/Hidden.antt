-- Groups that are hidden, and what is counted of them.
use Rattle.std.specs.Prelude.{ℕ, ◌≡◌, ◌+◌, ◌<◌, ◌≤◌, Bool, true, false, not, cond, nat_lt, List, [], ◌∷◌, length, Option, Some, None, slice_index_or}
use Rattle.cull_base.specs.declared.place.Sub.{Sub}
use Rattle.cull_base.specs.declared.scene_types.Object.{Object}
use Rattle.cull_base.specs.declared.scene_types.Verdict.{Verdict}
use Rattle.cull_base.specs.declared.scene_types.Verdict.TheVariants.{Occluded, Outside}
use Rattle.cull_base.specs.Screen.{Dimensions}
use Rattle.cull_base.specs.Shape.{flat_shape, verdict_of}
use Rattle.cull_base.specs.State.{State}
use Rattle.scene_reader.specs.Layout.{Parts}
use Rattle.masked_update.specs.TileOf.{TileOf}
use Rattle.masked_update.specs.Views.{state_in}
use Rattle.cull_report.specs.Scene.{object_shape, object_verdict, size_of, verdicts_in}
use Rattle.cull_report.specs.Text.{is_occluded}
use Rattle.cull_report.specs.declared.form.Form.{Form}
use Rattle.cull_report.specs.declared.form.Form.TheVariants as forms
use Rattle.cull_report.specs.declared.tally.Tally.{Tally}
use Rattle.group_query.specs.Hulls.{counts, hull_from, hull_of, kept_hull, members_of, shapes_from}
use Rattle.group_query.specs.declared.grouping.Group.{Group}
use Rattle.group_query.specs.declared.hulls.Hull.{Hull}
use Rattle.group_query.specs.declared.report.GroupReport.{GroupReport}
use Rattle.group_query.specs.declared.tested.Kept.{Kept}
use Rattle.group_query.specs.declared.tested.Tested.{Tested}

-- a hull is tested as a rectangle with its nearness is
abbrev pub hull_verdict : Dimensions → (Sub → State) → Option Hull → Verdict
hull_verdict size states None = Outside
hull_verdict size states (Some h) = verdict_of size states (flat_shape size h.rect h.q)

abbrev pub group_verdict : Parts → ℕ → (Sub → State) → Group → Verdict
group_verdict s frame states g = hull_verdict (size_of s) states (hull_of s frame g)

-- a member counts, and each sample of the hull hides its nearness
abbrev pub is_hidden_group : Parts → ℕ → (Sub → State) → Group → Bool
is_hidden_group s frame states g = is_occluded (group_verdict s frame states g)

-- of a hidden group 1 and its members that count, else nothing
abbrev pub one_hidden : Parts → ℕ → (Sub → State) → Group → ℕ
one_hidden s frame states g = cond (is_hidden_group s frame states g) 1 0

abbrev pub members_hidden : Parts → ℕ → (Sub → State) → Group → ℕ
members_hidden s frame states g = cond (is_hidden_group s frame states g) (members_of (hull_of s frame g)) 0

abbrev pub group_tally : Parts → ℕ → (Sub → State) → Group → Tally
group_tally s frame states g = record { hidden = one_hidden s frame states g; members = members_hidden s frame states g }

-- a number of each group, added up; and of those that begin before a place
abbrev pub total : (Group → ℕ) → List Group → ℕ
total f [] = 0
total f (g ∷ gs) = f g + total f gs

abbrev pub total_before : (Group → ℕ) → ℕ → List Group → ℕ
total_before f place [] = 0
total_before f place (g ∷ gs) = cond (nat_lt g.first place) (f g) 0 + total_before f place gs

-- how many groups are hidden, and how many members of these count
abbrev pub hidden_groups : Parts → ℕ → (Sub → State) → List Group → ℕ
hidden_groups s frame states groups = total (one_hidden s frame states) groups

abbrev pub hidden_members : Parts → ℕ → (Sub → State) → List Group → ℕ
hidden_members s frame states groups = total (members_hidden s frame states) groups

-- of the groups that begin before a place
abbrev pub told_before : Parts → ℕ → (Sub → State) → List Group → ℕ → Tally
told_before s frame states groups place = record {
  hidden = total_before (one_hidden s frame states) place groups;
  members = total_before (members_hidden s frame states) place groups;
}

-- What is reported of a frame over what tiles hold: each object's verdict, how many groups are hidden, and how many
-- members of these count.
pub record IsReported (s : Parts) (frame : ℕ) (tile_of : ℕ → TileOf) (groups : List Group)
    (r : GroupReport) : Type 0 where
  pub verdicts : r.frame ≡ verdicts_in s frame tile_of
  pub hidden : r.hidden ≡ hidden_groups s frame (state_in (size_of s) tile_of) groups
  pub members : r.members ≡ hidden_members s frame (state_in (size_of s) tile_of) groups

-- how many members of a group count, and the verdict of its hull
pub record IsTested (s : Parts) (frame : ℕ) (states : Sub → State) (g : Group) (t : Tested) : Type 0 where
  pub members : t.members ≡ members_of (hull_of s frame g)
  pub verdict : t.verdict ≡ group_verdict s frame states g

-- a member shows that its group isn't hidden: it counts, and isn't occluded
abbrev pub is_shown : Form → Verdict → Bool
is_shown forms.Outside v = false
is_shown forms.Visible v = false
is_shown (forms.Flat rect q) v = not (is_occluded v)
is_shown (forms.Mesh first count) v = false

-- What is kept of the first so many members of a group: their hull, until one shows that the group isn't hidden. Where
-- one alone counts, their hull is occluded as it is.
pub record IsKept (s : Parts) (frame : ℕ) (states : Sub → State) (g : Group) (count : ℕ) (k : Kept) : Type 0 where
  pub few : k.hull.members ≤ count
  pub hull : k.shown ≡ false → k.hull ≡ kept_hull (size_of s) (hull_from (size_of s) None (shapes_from s frame g.first count))
  pub shown : k.shown ≡ true → is_hidden_group s frame states g ≡ false
  pub alone : k.shown ≡ false → k.hull.members ≡ 1 → hull_verdict (size_of s) states (Some k.hull) ≡ Occluded

-- in a hidden group each member that counts is occluded
abbrev pub HidesMembers : Type 0
HidesMembers =
    (s : Parts) (frame : ℕ) (states : Sub → State) (g : Group) (o : ℕ) (d : Object) → is_hidden_group s frame states g ≡ true
    → g.first ≤ o → o < g.first + g.count → o < length s.objects → counts (size_of s) (object_shape s frame (slice_index_or s.objects o d)) ≡ true
    → object_verdict s frame states (slice_index_or s.objects o d) ≡ Occluded
