-- The rule of the published number of batches: what its word is, and what each view of it knows.
use Rattle.std.specs.Prelude.{◌≡◌, ℕ, ◌+◌, ◌≤◌, List, [], ◌∷◌, slice_index}
use mathlib.Core.Option.{some}
use lib.ListN.{get_elem?}
use Rattle.bin_queues.specs.declared.number_rule.NumberRole.{NumberRole}
use Rattle.bin_queues.specs.declared.number_rule.NumberRole.TheVariants.{Publishes, Listens}
use Rattle.bin_queues.specs.declared.number_rule.NumberView.{NumberView}

-- the submitter published the number p
abbrev pub publisher : ℕ → NumberView
publisher p = record { role = Publishes; number = p; looks = 0 }

-- a task heard this number last, and looked so often
abbrev pub listener : ℕ → ℕ → NumberView
listener heard looks = record { role = Listens; number = heard; looks = looks }

-- the submitter's view is number 0, and what a task heard is at most what was published
abbrev pub FitsAs : NumberRole → ℕ → ℕ → NumberView → Type 0
FitsAs Publishes p by v = (by ≡ 0) × (v ≡ publisher p)
FitsAs Listens p by v = (v ≡ listener v.number v.looks) × (v.number ≤ p)

-- the word is the number that was published, and each view fits
pub record IsPublished (words : List ℕ) (views : List NumberView) (p : ℕ) : Type 0 where
  pub word : words ≡ p ∷ []
  pub fit : (by : ℕ) (v : NumberView) → get_elem? views by ≡ some v → FitsAs v.role p by v

abbrev pub PublishedRule : List ℕ → List NumberView → Type 0
PublishedRule words views = (p : ℕ) × IsPublished words views p

-- a store: the number grows by one
abbrev pub Raised : NumberView → List ℕ → List ℕ → NumberView → Type 0
Raised v before after w = w ≡ publisher (v.number + 1)

-- a load: what the task heard becomes the word, and its looks grow by one
pub record Heard (v : NumberView) (before after : List ℕ) (w : NumberView) : Type 0 where
  pub view : w ≡ listener (slice_index after 0) (v.looks + 1)
  pub rises : v.number ≤ slice_index after 0

abbrev pub IsPublisher : NumberView → Type 0
IsPublisher v = v ≡ publisher v.number

abbrev pub IsListener : NumberView → Type 0
IsListener v = v ≡ listener v.number v.looks
