-- Groups of boxes that follow on one another.
use Rattle.std.specs.Prelude.{ℕ, ◌≡◌, ◌+◌, ◌-◌, ◌<◌, ◌≤◌, min, Bool, true, false, cond, nat_lt, List, [], ◌∷◌, length, slice_index_or}
use Rattle.cull_base.specs.declared.scene_types.Object.{Object}
use Rattle.cull_base.specs.declared.scene_types.Object.TheVariants.{Area, Block, Mesh}
use Rattle.scene_reader.specs.Layout.{Parts}
use Rattle.group_query.specs.declared.grouping.Group.{Group}

abbrev pub is_box : Object → Bool
is_box (Area rect w) = false
is_box (Block low high) = true
is_box (Mesh first count) = false

-- how many boxes stand at the front of some objects
abbrev pub boxes_at_front : List Object → ℕ
boxes_at_front [] = 0
boxes_at_front (o ∷ os) = cond (is_box o) (boxes_at_front os + 1) 0

abbrev pub group : ℕ → ℕ → Group
group first count = record { first = first; count = count }

-- The groups that begin among the objects from a place on. Where a box stands there the last group takes it, if it takes so many more, or else a group of at
-- most n boxes begins there; an object that is no box ends the last group.
abbrev pub groups_from : ℕ → ℕ → ℕ → List Object → List Group
groups_from n place left [] = []
groups_from n place left (o ∷ os) =
    cond (is_box o)
    (cond (nat_lt 0 left) (groups_from n (place + 1) (left - 1) os) (group place (min n (boxes_at_front (o ∷ os))) ∷ groups_from n (place + 1) (n - 1) os))
    (groups_from n (place + 1) 0 os)

-- each maximal run of consecutive boxes, cut from its front into groups of n, the last with what is left
abbrev pub groups_of : Parts → ℕ → List Group
groups_of s n = groups_from n 0 0 s.objects

-- an object is a member of a group
pub record IsMember (g : Group) (o : ℕ) : Type 0 where
  pub from : g.first ≤ o
  pub before : o < g.first + g.count

-- a group of at most n boxes; behind one of fewer stands no box
pub record IsGroup (n : ℕ) (os : List Object) (g : Group) : Type 0 where
  pub boxes : (o : ℕ) (e : Object) → g.first ≤ o → o < g.first + g.count → is_box (slice_index_or os o e) ≡ true
  pub few : g.count ≤ n
  pub ends : (e : Object) → g.count < n → g.first + g.count < length os → is_box (slice_index_or os (g.first + g.count) e) ≡ false

-- such groups, of which each box is in one
pub record AreGroups (n : ℕ) (os : List Object) (groups : List Group) : Type 0 where
  pub each : (k : ℕ) (d : Group) → k < length groups → IsGroup n os (slice_index_or groups k d)
  pub all : (o : ℕ) (e : Object) → o < length os → is_box (slice_index_or os o e) ≡ true → (k : ℕ) × (k < length groups) × ((d : Group) → IsMember (slice_index_or groups k d) o)

-- the groups of a scene are such
abbrev pub CutsInGroups : Type 0
CutsInGroups = (s : Parts) (n : ℕ) → 1 ≤ n → AreGroups n s.objects (groups_of s n)

-- groups in order among so many objects, each with a member and none with another's
pub record AreApart (objects : ℕ) (groups : List Group) : Type 0 where
  pub some : (k : ℕ) (d : Group) → k < length groups → 0 < (slice_index_or groups k d).count
  pub within : (k : ℕ) (d : Group) → k < length groups → (slice_index_or groups k d).first + (slice_index_or groups k d).count ≤ objects
  pub apart : (j k : ℕ) (d : Group) → j < k → k < length groups
      → (slice_index_or groups j d).first + (slice_index_or groups j d).count ≤ (slice_index_or groups k d).first

-- of groups in order so many begin before a place, and the others don't
pub record AreBegun (place : ℕ) (groups : List Group) (count : ℕ) : Type 0 where
  pub within : count ≤ length groups
  pub before : (k : ℕ) (d : Group) → k < count → (slice_index_or groups k d).first < place
  pub behind : (k : ℕ) (d : Group) → count ≤ k → k < length groups → place ≤ (slice_index_or groups k d).first

-- at least so many begin before a place, and at most so many
pub record AreBegunBetween (place : ℕ) (groups : List Group) (least greatest : ℕ) : Type 0 where
  pub ordered : least ≤ greatest
  pub within : greatest ≤ length groups
  pub before : (k : ℕ) (d : Group) → k < least → (slice_index_or groups k d).first < place
  pub behind : (k : ℕ) (d : Group) → greatest ≤ k → k < length groups → place ≤ (slice_index_or groups k d).first
