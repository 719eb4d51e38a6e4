-- What all samples of a mask hide: those of the working layer by the working depth, the others by the reference.
use Rattle.std.proofs.Common.{◌≡◌, ℕ, ◌-◌, ◌<◌, ◌^◌, Bool, true, not, cond, nat_lt, refl, ◌≢◌, bit_and, subst, sym, ◌∙◌, ◌↔◌, IsTrue, false}
use Rattle.std.proofs.lemmas.Bool.{both_ways, and_parts, and_from, not-true, ltb-true, lt-ltb}
use Rattle.cull_base.specs.State.{State, samples_of, has}
use Rattle.cull_base.proofs.Bits.{has-and, has-not, zero_has, some_has}
use Rattle.masked_update.specs.SubTile.{seen, AllBelow, AllHide}

pub none_below : (m q d : ℕ) → m ≡ 0 → AllBelow (samples_of m) q d
none_below m q d e k l h = absurd (both_ways (has (samples_of m) k) (zero_has m k e) h)

pub one_below : (m q d : ℕ) → m < 2 ^ 32 → m ≢ 0 → AllBelow (samples_of m) q d → q < d
one_below m q d h ne all = let s = some_has m h ne in all s.0 s.1 s.2

at : (x : Bool) (q b a : ℕ) → (x ≡ true → q < b) → (not x ≡ true → q < a) → nat_lt q (cond x b a) ≡ true
at true q b a f g = lt-ltb q b (f refl)
at false q b a f g = lt-ltb q a (g refl)

from_both : (a b m samples q : ℕ) → m < 2 ^ 32 → AllBelow (samples_of (bit_and samples m)) q b → AllBelow (samples_of (bit_and samples (4294967295 - m))) q a
    → AllHide (seen a b m) (samples_of samples) q
from_both a b m samples q hm wb rb k l h =
    at (has (samples_of m) k) q b a
    (λ x. wb k l (has-and samples m k ∙ and_from _ _ h x))
    (λ x. rb k l (has-and samples (4294967295 - m) k ∙ and_from _ _ h (has-not m k hm l ∙ x)))

to_working : (a b m samples q : ℕ) → AllHide (seen a b m) (samples_of samples) q → AllBelow (samples_of (bit_and samples m)) q b
to_working a b m samples q all k l h =
    let p = and_parts (has (samples_of samples) k) (has (samples_of m) k) (sym (has-and samples m k) ∙ h) in
    let y = p.1 in
    let g = all k l p.0 in
    ltb-true q b (rw y at g)

to_reference : (a b m samples q : ℕ) → m < 2 ^ 32 → AllHide (seen a b m) (samples_of samples) q → AllBelow (samples_of (bit_and samples (4294967295 - m))) q a
to_reference a b m samples q hm all k l h =
    let p = and_parts (has (samples_of samples) k) _ (sym (has-and samples (4294967295 - m) k) ∙ h) in
    let z : has (samples_of m) k ≡ false = not-true _ (sym (has-not m k hm l) ∙ p.1) in
    let g = all k l p.0 in
    ltb-true q a (rw z at g)

-- as `hides` asks: the working layer first, and then the rest
pub hides_both : (a b m samples q : ℕ) (s : State) (r : Bool) → seen a b m ≡ s → m < 2 ^ 32 → AllBelow (samples_of (bit_and samples m)) q b
    → IsTrue r ↔ AllBelow (samples_of (bit_and samples (4294967295 - m))) q a → IsTrue r ↔ AllHide s (samples_of samples) q
hides_both a b m samples q s r is hm wb iff =
    subst (λ t. IsTrue r ↔ AllHide t (samples_of samples) q) is
    (λ e. from_both a b m samples q hm wb (iff.0 e), λ all. iff.1 (to_reference a b m samples q hm all))

pub hides_not : (a b m samples q : ℕ) (s : State) (r : Bool) → seen a b m ≡ s → IsTrue r ↔ AllBelow (samples_of (bit_and samples m)) q b → r ≡ false
    → IsTrue r ↔ AllHide s (samples_of samples) q
hides_not a b m samples q s r is iff out =
    subst (λ t. IsTrue r ↔ AllHide t (samples_of samples) q) is
    (λ e. absurd (both_ways r out e), λ all. iff.1 (to_working a b m samples q all))
