-- The state of a subtile, and one masked update of it.
use Rattle.std.specs.Prelude.{ℕ, zero, suc, ◌+◌, ◌*◌, ◌/◌, ◌%◌, List, [], ◌∷◌, slice_index_or}
use Rattle.std.specs.Prelude.{Bool, true, false, ◌&&◌, ◌||◌, not, cond, min, nat_lt, nat_le, nat_eq}
use Rattle.std.specs.Simd.Lanes.{zip2}

-- a set of samples of a subtile is a list of 32 tests, by the number of the sample
abbrev pub is_none : List Bool → Bool
is_none [] = true
is_none (x ∷ xs) = not x && is_none xs

abbrev pub is_all : List Bool → Bool
is_all [] = true
is_all (x ∷ xs) = x && is_all xs

abbrev pub union : List Bool → List Bool → List Bool
union xs ys = zip2 (λ x y. x || y) xs ys

abbrev pub has : List Bool → ℕ → Bool
has samples k = slice_index_or samples k false

-- the lowest k bits of n, from the lowest
abbrev pub bits : ℕ → ℕ → List Bool
bits zero n = []
bits (suc k) n = nat_eq (n % 2) 1 ∷ bits k (n / 2)

-- the samples of a mask: sample k is in it where bit k is set
unfoldable pub samples_of : ℕ → List Bool
samples_of mask = bits 32 mask

abbrev pub no_samples : List Bool
no_samples = samples_of 0

-- the working depth holds at these samples, the reference depth at the others
pub record State : Type 0 where
  pub reference : ℕ
  pub working : ℕ
  pub samples : List Bool

abbrev pub empty_state : State
empty_state = record { reference = 0; working = 0; samples = no_samples }

-- The samples of the working layer that an incoming bound t leaves. It drops the layer where t - working > working - reference.
abbrev pub samples_left : State → ℕ → List Bool
samples_left s t = cond (not (is_none s.samples) && nat_lt (2 * s.working) (t + s.reference)) no_samples s.samples

-- the depth of a working layer that takes a bound t
abbrev pub lowered_depth : State → ℕ → List Bool → ℕ
lowered_depth s t samples = cond (is_none samples) t (min s.working t)

-- a working layer that has every sample becomes the reference
abbrev pub raised_if_full : ℕ → ℕ → List Bool → State
raised_if_full reference working samples =
    cond (is_all samples) (record { reference = working; working = 0; samples = no_samples })
    (record { reference = reference; working = working; samples = samples })

-- a bound t merged at the samples c
unfoldable pub step_with : State → ℕ → List Bool → State
step_with s t c =
    cond (is_none c || nat_le t s.reference) s
    (raised_if_full s.reference (lowered_depth s t (samples_left s t)) (union (samples_left s t) c))

-- the bound at sample k: what is drawn there is at least so near, or nothing is known
abbrev pub bound_at : State → ℕ → ℕ
bound_at s k = cond (has s.samples k) s.working s.reference

-- the sample hides the nearness q: equal nearness isn't hidden
abbrev pub hides : State → ℕ → ℕ → Bool
hides s k q = nat_lt q (bound_at s k)
