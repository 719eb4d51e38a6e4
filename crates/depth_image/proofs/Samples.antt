-- The lines of a subtile's samples.
use Rattle.std.proofs.Common.{◌≡◌, ℕ, ◌+◌, ◌++◌, Bool, true, false, cond, List, ap, sym, ◌∙◌}
use Rattle.std.proofs.lemmas.List.{append-nil}
use Rattle.cull_base.specs.declared.nearness.Grade.{Grade}
use Rattle.cull_base.specs.State.{State, bound_at, has, samples_of}
use Rattle.depth_image.specs.Picture.{number_line}
use Rattle.depth_image.specs.Samples.{cut_shade, sample_lines}
use Rattle.depth_image.proofs.Ranges.{joined_one}

pub samples_none : (text : List ℕ) (grade : Grade) (s : State) (first : ℕ) → text ≡ text ++ sample_lines grade s first 0
unfolding sample_lines
samples_none text grade s first = sym (append-nil text)

pub samples_more : (grade : Grade) (s : State) (first count : ℕ) → sample_lines grade s first (count + 1) ≡ sample_lines grade s first count ++ number_line (cut_shade grade (bound_at s (first + count)))
unfolding sample_lines
samples_more grade s first count = joined_one (λ k. number_line (cut_shade grade (bound_at s k))) first count

-- the line that the mask chooses is that of the bound
pub line_is : (grade : Grade) (s : State) (mask k : ℕ) (working reference : List ℕ) → samples_of mask ≡ s.samples → working ≡ number_line (cut_shade grade s.working) → reference ≡ number_line (cut_shade grade s.reference)
    → cond (has (samples_of mask) k) working reference ≡ number_line (cut_shade grade (bound_at s k))
line_is grade s mask k working reference marks w r = ap (λ (xs : List Bool). cond (has xs k) working reference) marks ∙ by (has s.samples k)
  where
    by : (b : Bool) → cond b working reference ≡ number_line (cut_shade grade (cond b s.working s.reference))
    by true = w
    by false = r
