-- The rule of a worker's deque: what it holds, and what each view of it knows.
use Rattle.std.specs.Prelude.{◌≡◌, ◌⊎◌, ℕ, suc, ◌+◌, ◌-◌, ◌≤◌, ◌<◌, List, [], ◌∷◌, ◌++◌, All, map, length}
use mathlib.Core.Option.{some}
use lib.ListN.{get_elem?}
use Rattle.atomic_table.specs.Seated.{TableId}
use Rattle.cull_base.specs.Screen.{dimensions}
use Rattle.binning.specs.Cut.{cut_into}
use Rattle.bin_queues.specs.QueueParts.{batched, batches_in}
use Rattle.bin_queues.specs.Tasks.{Tasking}
use Rattle.tile_queues.specs.Shares.{IsTaskOver}
use Rattle.steal_pool.specs.declared.deque_rule.Call.{Call}
use Rattle.steal_pool.specs.declared.deque_rule.Role.{Role}
use Rattle.steal_pool.specs.declared.deque_rule.Role.TheVariants.{Unnamed, Owns, Steals, Ended}
use Rattle.steal_pool.specs.declared.deque_rule.View.{View}

-- the weights of the members, added up
abbrev pub weigh : {A : Type 0} → (A → ℕ) → List A → ℕ
weigh h [] = 0
weigh h (x ∷ xs) = h x + weigh h xs

-- the places from n on, each with its bin
abbrev pub places : ℕ → List ℕ → List (ℕ × ℕ)
places n [] = []
places n (b ∷ bs) = (n, b) ∷ places (suc n) bs

-- the bins of tasks
abbrev pub bins_of : List Tasking → List ℕ
bins_of items = map (λ (t : Tasking). t.of.bin) items

abbrev pub no_table : TableId
no_table = record { words = 0; slots = 0; views_name = 0; atom = 0; block = 0; offset = 0; slot_names = [] }

-- the call of a view that names none
abbrev pub nobody : Call
nobody = record {
  queues = record { queues = []; number = no_table; room = 0 };
  frame = batched (record { size = dimensions 0 0; members = [] }) (cut_into 0 0) 0 [];
  room = 0;
}

-- the one view of a new deque: it names nothing
abbrev pub nameless : View
nameless = record { role = Unnamed; of = nobody; pushed = []; taken = []; out = 0 }

abbrev pub owning : Call → List ℕ → List (ℕ × ℕ) → ℕ → View
owning c pushed taken out = record { role = Owns; of = c; pushed = pushed; taken = taken; out = out }

abbrev pub stealing : Call → List (ℕ × ℕ) → View
stealing c taken = record { role = Steals; of = c; pushed = []; taken = taken; out = 0 }

-- a view that a join has ended
abbrev pub ended : View
ended = record { role = Ended; of = nobody; pushed = []; taken = []; out = 0 }

abbrev pub with_taken : View → List (ℕ × ℕ) → View
with_taken v taken = record { role = v.role; of = v.of; pushed = v.pushed; taken = taken; out = v.out }

-- stealers' views are counted
abbrev pub steals_as : Role → ℕ
steals_as Unnamed = 0
steals_as Owns = 0
steals_as Steals = 1
steals_as Ended = 0

abbrev pub out_of : List View → ℕ
out_of views = weigh (λ (v : View). steals_as v.role) views

-- what all views took, however a place and its bin are weighed
abbrev pub taken_weighs : (ℕ × ℕ → ℕ) → List View → ℕ
taken_weighs h views = weigh (λ (v : View). weigh h v.taken) views

abbrev pub FitsAs : Role → Call → List ℕ → ℕ → ℕ → View → Type 0
FitsAs Unnamed c pushed out by v = ⊥
FitsAs Owns c pushed out by v = (by ≡ 0) × (v ≡ owning c pushed v.taken out)
FitsAs Steals c pushed out by v = v ≡ stealing c v.taken
FitsAs Ended c pushed out by v = v ≡ ended

-- What the rule says of view number `by`. The owner's is number 0, and knows the bins that were pushed and how many
-- stealers' views there are.
abbrev pub Fits : Call → List ℕ → ℕ → ℕ → View → Type 0
Fits c pushed out by v = FitsAs v.role c pushed out by v

-- a task of the named queues and of the named frame, told of all batches
pub record IsToldIn (c : Call) (t : Tasking) : Type 0 where
  pub over : IsTaskOver c.queues c.frame t
  pub told : t.told ≡ batches_in c.frame

-- view number 0 is an owner's
abbrev pub HasOwner : List View → Type 0
HasOwner views = (v : View) × (get_elem? views 0 ≡ some v) × (v.role ≡ Owns)

-- `gone` are the bins of the places below front, in order. Each of these places stands in one view's list, once, with
-- its bin: however places and bins are weighed, the lists of all views weigh what the places below front weigh.
pub record Running (items : List Tasking) (views : List View) (c : Call) (gone : List ℕ) : Type 0 where
  pub within : length gone + length items ≤ c.room
  pub told : All (IsToldIn c) items
  pub owner : HasOwner views
  pub once : (h : ℕ × ℕ → ℕ) → taken_weighs h views ≡ weigh h (places 0 gone)
  pub fit : (by : ℕ) (v : View) → get_elem? views by ≡ some v → Fits c (gone ++ bins_of items) (out_of views) by v

-- Until it is named a deque has one view, and is empty.
abbrev pub DequeRule : List Tasking → List View → Type 0
DequeRule items views =
    ((items ≡ []) × (views ≡ nameless ∷ []))
    ⊎ ((c : Call) × (gone : List ℕ) × Running items views c gone)

-- a push: the task's bin is added
abbrev pub Pushed : View → List Tasking → View → Type 0
Pushed v xs w = w ≡ owning v.of (v.pushed ++ bins_of xs) v.taken v.out

-- a pop or a steal of one task: there is a place, which joins the list with the task's bin
pub record TookOne (v : View) (x : Tasking) (w : View) : Type 0 where
  pub place : ℕ
  pub view : w ≡ with_taken v (v.taken ++ (place, x.of.bin) ∷ [])
  pub told : IsToldIn v.of x
  pub room : length v.taken < v.of.room

abbrev pub Took : View → List Tasking → View → Type 0
Took v [] w = ⊥
Took v (x ∷ []) w = TookOne v x w
Took v (x ∷ y ∷ xs) w = ⊥

-- a list is no longer than the deque has room
abbrev pub IsShort : View → Type 0
IsShort v = length v.taken ≤ v.of.room

-- what an empty look tells the owner: where no stealer's view is out, its list has every place once
abbrev pub HasEvery : View → Type 0
HasEvery v = v.out ≡ 0 → (h : ℕ × ℕ → ℕ) → weigh h v.taken ≡ weigh h (places 0 v.pushed)

abbrev pub LooksEmpty : View → Type 0
LooksEmpty v = IsShort v × HasEvery v

-- a stealer's view is split off
abbrev pub lending : View → View
lending v = owning v.of v.pushed v.taken (v.out + 1)

abbrev pub lent : View → View
lent v = stealing v.of []

-- a stealer's view ends in the owner's
abbrev pub returned : View → View → View
returned v w = owning v.of v.pushed (v.taken ++ w.taken) (v.out - 1)
