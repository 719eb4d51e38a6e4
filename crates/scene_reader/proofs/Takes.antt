-- An end that came before all that was wanted.
use Rattle.std.proofs.Common.{◌≡◌, ℕ, ◌+◌, ◌≤◌, ◌++◌, List, length, arith, ap, ◌∙◌, subst, Option, Some, None}
use Rattle.std.proofs.lemmas.List.{length-append}
use Rattle.cull_base.specs.Stream.{SourceSays, Takes}
use Rattle.cull_base.proofs.Takes.{takes_then}
use Rattle.scene_reader.specs.declared.error.SceneError.{SceneError}
use Rattle.scene_reader.specs.declared.error.SceneError.TheVariants.{Truncated}
use Rattle.scene_reader.specs.Reading.{EndsWithin, IsDone, IsWithin}

-- no more than a part has
pub within_less : (part : Option ℕ) (n m : ℕ) → m ≤ n → IsWithin part n → IsWithin part m
within_less None n m le w = tt
within_less (Some most) n m le w = let has : n ≤ most = w in let few : m ≤ most = omega (arith, has, le) in few

-- an end that came after more was taken
pub ends_later : (part : Option ℕ) (a b c : SourceSays) (x : List ℕ) (n wanted need taken later : ℕ) (e : SceneError) → length x ≡ n → taken + n ≡ later
    → Takes a.left b.left x → EndsWithin part wanted need later b c e → EndsWithin part (n + wanted) need taken a c e
ends_later part a b c x n wanted need taken later e len is p s =
    let all : later + length s.bytes ≡ taken + length (x ++ s.bytes) = omega (arith, length-append x s.bytes, len, is) in
    record {
      bytes = x ++ s.bytes;
      takes = takes_then a.left b.left c.left x s.bytes p s.takes;
      few = omega (arith, length-append x s.bytes, len, s.few);
      within = subst (IsWithin part) all s.within;
      ended = subst (λ (k : ℕ). IsDone part k c.left) all s.ended;
      truncated = s.truncated ∙ ap (Truncated need) all;
    }

pub ends_wider : (part : Option ℕ) (a c : SourceSays) (wanted more need taken : ℕ) (e : SceneError) → wanted ≤ more → EndsWithin part wanted need taken a c e → EndsWithin part more need taken a c e
ends_wider part a c wanted more need taken e le s = record {
  bytes = s.bytes;
  takes = s.takes;
  few = omega (arith, s.few, le);
  within = s.within;
  ended = s.ended;
  truncated = s.truncated;
}
