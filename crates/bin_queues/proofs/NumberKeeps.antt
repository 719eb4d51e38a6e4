-- Each kind of step keeps the rule of the published number.
use Rattle.std.proofs.Common.{◌≡◌, ◌≢◌, ⊎_elim, ℕ, zero, suc, ◌+◌, ◌≤◌, List, [], ◌∷◌, set, refl, sym, ap, ◌∙◌, subst, le_refl, zero-le, arith}
use Rattle.std.specs.Prelude.{slice_index}
use mathlib.Core.Option.{some, some-ne-none, some-injective}
use lib.ListN.{get_elem?}
use Rattle.crossbeam_utils.specs.Register.{Turns, Forks}
use Rattle.atomic_table.proofs.Lists.{at_set, at_snoc}
use Rattle.bin_queues.specs.declared.number_rule.NumberRole.{NumberRole}
use Rattle.bin_queues.specs.declared.number_rule.NumberRole.TheVariants.{Publishes, Listens}
use Rattle.bin_queues.specs.declared.number_rule.NumberView.{NumberView}
use Rattle.bin_queues.specs.NumberRule.{publisher, listener, FitsAs, PublishedRule, Raised, Heard, IsPublisher, IsListener}

fits_set : (p : ℕ) (views : List NumberView) (by : ℕ) (w : NumberView) → ((j : ℕ) (u : NumberView) → j ≢ by → get_elem? views j ≡ some u → FitsAs u.role p j u) → FitsAs w.role p by w
    → (j : ℕ) (u : NumberView) → get_elem? (set views by w) j ≡ some u → FitsAs u.role p j u
fits_set p views by w others mine j u e =
    ⊎_elim
    (λ (x : (j ≡ by) × (w ≡ u)). subst (λ (y : ℕ × NumberView). FitsAs y.1.role p y.0 y.1) (λ i. (sym x.0 i, x.1 i)) mine)
    (λ (x : (j ≢ by) × (get_elem? views j ≡ some u)). others j u x.0 x.1)
    (at_set views by j w u e)

-- others do not mind a greater number
raise_as : (r : NumberRole) (p j : ℕ) (u : NumberView) → j ≢ 0 → FitsAs r p j u → FitsAs r (p + 1) j u
raise_as Publishes p j u ne f = absurd (ne f.0)
raise_as Listens p j u ne f = (f.0, let h : u.number ≤ p = f.1 in omega arith)

published : {words : List ℕ} {views : List NumberView} (p : ℕ) → words ≡ p ∷ [] → ((j : ℕ) (u : NumberView) → get_elem? views j ≡ some u → FitsAs u.role p j u) → PublishedRule words views
published p word fit = (p, record { word = word; fit = fit })

pub begins : PublishedRule (0 ∷ []) (publisher 0 ∷ [])
begins = published 0 refl one
  where
    one : (by : ℕ) (v : NumberView) → get_elem? (publisher 0 ∷ []) by ≡ some v → FitsAs v.role 0 by v
    one zero v e = subst (λ (u : NumberView). FitsAs u.role 0 0 u) (some-injective _ _ e) (refl, refl)
    one (suc by) v e = absurd (some-ne-none v (sym e))

raises : (by k next : ℕ) → next ≡ k + 1 → Turns PublishedRule by (publisher k) (λ _. next ∷ []) Raised
raises by k next is words views kept at =
    let m : (by ≡ 0) × (publisher k ≡ publisher kept.0) = kept.1.fit by (publisher k) at in
    let e : kept.0 ≡ k = sym (ap (λ (v : NumberView). v.number) m.1) in
    let w = publisher (k + 1) in
    (w, published (k + 1) (ap (λ n. n ∷ []) is) (fits_set (k + 1) views by w (λ j u ne f. subst (λ z. FitsAs u.role (z + 1) j u) e (raise_as u.role kept.0 j u (λ z. ne (z ∙ sym m.0)) (kept.1.fit j u f))) (m.0, refl)), refl)

looks : (by h n : ℕ) → Turns PublishedRule by (listener h n) (λ x. x) Heard
looks by h n words views kept at =
    let m : (listener h n ≡ listener h n) × (h ≤ kept.0) = kept.1.fit by (listener h n) at in
    let first : slice_index words 0 ≡ kept.0 = ap (λ (l : List ℕ). slice_index l 0) kept.1.word in
    let w = listener (slice_index words 0) (n + 1) in
    (w, published kept.0 kept.1.word (fits_set kept.0 views by w (λ j u _ f. kept.1.fit j u f) (refl, subst (λ z. z ≤ kept.0) (sym first) (le_refl kept.0))), record { view = refl; rises = subst (λ z. h ≤ z) (sym first) m.1 })

listens : (by k : ℕ) → Forks PublishedRule by (publisher k) (publisher k) (listener 0 0)
listens by k words views kept at =
    let w = publisher k in
    let old = fits_set kept.0 views by w (λ j u _ f. kept.1.fit j u f) (kept.1.fit by w at) in
    published kept.0 kept.1.word (λ j u f. ⊎_elim (λ was. old j u was) (λ (same : listener 0 0 ≡ u). subst (λ (z : NumberView). FitsAs z.role kept.0 j z) same (refl, zero-le)) (at_snoc (set views by w) (listener 0 0) u j f))

pub raises_as : (by : ℕ) (v : NumberView) (next : ℕ) → IsPublisher v → next ≡ v.number + 1 → Turns PublishedRule by v (λ _. next ∷ []) Raised
raises_as by v next is n = subst (λ (u : NumberView). Turns PublishedRule by u (λ _. next ∷ []) Raised) (sym is) (raises by v.number next n)

pub looks_as : (by : ℕ) (v : NumberView) → IsListener v → Turns PublishedRule by v (λ x. x) Heard
looks_as by v is = subst (λ (u : NumberView). Turns PublishedRule by u (λ x. x) Heard) (sym is) (looks by v.number v.looks)

pub listens_as : (by : ℕ) (v : NumberView) → IsPublisher v → Forks PublishedRule by v v (listener 0 0)
listens_as by v is = subst (λ (u : NumberView). Forks PublishedRule by u u (listener 0 0)) (sym is) (listens by v.number)
