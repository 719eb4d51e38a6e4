-- Things that wait or are made: each of them in its seat, and what a loop has made of them.
use Rattle.std.proofs.Common.{◌≡◌, ℕ, ◌+◌, ◌++◌, ◌∷◌, [], List, length, get_or, arith, sym, ap, subst}
use Rattle.std.proofs.lemmas.List.{length-append}
use Rattle.cull_base.proofs.Lists.{pushed_at}
use Rattle.seats.specs.Things.{AreAllMade, IsThing}
use Rattle.seats.specs.declared.pool.Thing.{Thing}
use Rattle.seats.specs.declared.pool.Thing.TheVariants.{Waits, Made}

-- what is said of a thing has at most one proof
pub thing_once : {V X : Type 0} (waits : ℕ → V → Type 0) (made : ℕ → X → Type 0) → ((k : ℕ) (v : V) → IsProp (waits k v)) → ((k : ℕ) (x : X) → IsProp (made k x)) → (k : ℕ) (thing : Thing V X) → IsProp (IsThing waits made k thing)
thing_once waits made one_wait one_made k (Waits v) = one_wait k v
thing_once waits made one_wait one_made k (Made x) = one_made k x

pub none_made : {X : Type 0} (made : ℕ → X → Type 0) (things : List X) → things ≡ [] → AreAllMade made 0 things
none_made made things none = record { count_is = ap length none; each = λ k d lt. absurd (omega (arith, lt)) }

-- one thing more, at the end
pub made_more : {X : Type 0} (made : ℕ → X → Type 0) (count : ℕ) (things after : List X) (x : X) → after ≡ things ++ x ∷ [] → AreAllMade made count things → made count x → AreAllMade made (count + 1) after
made_more made count things after x is are new = record {
  count_is = (let n = ap length is in omega (arith, n, length-append things (x ∷ []), are.count_is));
  each = λ k d lt. subst (λ xs. made k (get_or xs k d)) (sym is) (pushed_at made count things x are.count_is are.each new k d lt);
}
