-- Lists that agree in each place.
pub use Rattle.cull_base.proofs.Lists.{pushed_at, set_each, turn}
use Rattle.std.proofs.Common.{◌≡◌, ℕ, zero, suc, ◌<◌, List, [], ◌∷◌, length, refl, arith}
use Rattle.std.specs.Prelude.{slice_get, slice_index_or}
use Rattle.std.proofs.lemmas.Option.{same_Some}

pub same_at : {X : Type 0} (xs : List X) (t : ℕ) (d e : X) → t < length xs → slice_index_or xs t d ≡ slice_index_or xs t e
same_at [] t d e lt = absurd (omega arith)
same_at (x ∷ xs) zero d e lt = refl
same_at (x ∷ xs) (suc t) d e lt = same_at xs t d e (omega arith)

pub same_lists : {X : Type 0} (xs ys : List X) → length xs ≡ length ys → ((t : ℕ) → t < length ys → slice_get xs t ≡ slice_get ys t) → xs ≡ ys
same_lists [] [] l f = refl
same_lists [] (y ∷ ys) l f = absurd (omega arith)
same_lists (x ∷ xs) [] l f = absurd (omega arith)
same_lists (x ∷ xs) (y ∷ ys) l f = (λ i. same_Some x y (f 0 (omega arith)) i ∷ same_lists xs ys (omega arith) (λ t lt. f (suc t) (omega arith)) i)
