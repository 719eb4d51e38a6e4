-- The step of a state, by the fields of the subtile that is seen as it.
use Rattle.std.proofs.Common.{◌≡◌, ℕ, ◌+◌, ◌*◌, ◌<◌, ◌≤◌, ◌^◌, true, false, ◌&&◌, ◌||◌, not, cond, nat_eq, nat_lt, nat_le, arith, refl, ◌⊎◌, ◌≢◌, ◌-◌, ap, bit_or, min, subst, sym, ◌∙◌}
use Rattle.std.proofs.lemmas.Bool.Decides.{nat_tests}
use Rattle.std.proofs.lemmas.Nat.{or_lt, le_or_r}
use Rattle.cull_base.specs.declared.nearness.TheConstants.{HELD_TOP}
use Rattle.cull_base.specs.State.{State, is_none, samples_of, step_with, samples_left}
use Rattle.cull_base.specs.Fold.{IsLayered}
use Rattle.cull_base.proofs.Bits.{none-samples_of, all-samples_of, samples_of-or}
use Rattle.masked_update.specs.SubTile.{seen, Layers}

-- where nothing is covered, or the bound is no nearer
pub stays : (s : State) (t c : ℕ) → c < 2 ^ 32 → (c ≡ 0) ⊎ (t ≤ s.reference) → step_with s t (samples_of c) ≡ s
unfolding step_with
stays s t c h e = let n = none-samples_of c h in rw n (grind (arith, nat_tests))

left_is : (a b m t k : ℕ) → m < 2 ^ 32 → k ≡ cond (not (nat_eq m 0) && nat_lt (2 * b) (t + a)) 0 m → samples_left (seen a b m) t ≡ samples_of k
left_is a b m t k h e = let n = none-samples_of m h in rw (n, e) (elim (not (nat_eq m 0) && nat_lt (2 * b) (t + a)) as (λ x. cond x (samples_of 0) (samples_of m) ≡ samples_of (cond x 0 m)) [ true ↦ refl | false ↦ refl ])

steps : (a b m t c k b' : ℕ) → m < 2 ^ 32 → c < 2 ^ 32 → k < 2 ^ 32 → c ≢ 0 → a < t →
    k ≡ cond (not (nat_eq m 0) && nat_lt (2 * b) (t + a)) 0 m → b' ≡ cond (nat_eq k 0) t (min b t) →
    step_with (seen a b m) t (samples_of c) ≡ cond (nat_eq (bit_or k c) 4294967295) (seen b' 0 0) (seen a b' (bit_or k c))
unfolding step_with
steps a b m t c k b' hm hc hk c0 at ek eb =
    let n = none-samples_of c hc in
    let kk = left_is a b m t k hm ek in
    let nk = none-samples_of k hk in
    let u = samples_of-or k c in
    let below : bit_or k c < 2 ^ 32 = or_lt 32 k c hk hc in
    let al = all-samples_of (bit_or k c) below in
    let no : (nat_eq c 0 || nat_le t a) ≡ false = grind (arith, nat_tests) in
    rw (n, no, kk, nk, ← u, al, ← eb) refl

pub next_layers : (a b m t c k b' : ℕ) → Layers a b m → t ≤ HELD_TOP → c < 2 ^ 32 → k < 2 ^ 32 → c ≢ 0 → a < t →
    k ≡ cond (not (nat_eq m 0) && nat_lt (2 * b) (t + a)) 0 m → b' ≡ cond (nat_eq k 0) t (min b t) → bit_or k c ≢ 4294967295 → Layers a b' (bit_or k c)
next_layers a b m t c k b' l ht hc hk c0 at ek eb full =
    let below : bit_or k c < 2 ^ 32 = or_lt 32 k c hk hc in
    let more = le_or_r k c in
    let wn = l.working_nearer in
    record {
      reference_within = l.reference_within;
      working_within = grind (arith, nat_tests);
      working_nearer = λ _. grind (arith, nat_tests);
      working_empty = λ e. absurd (omega arith);
      not_full = omega arith;
    }

-- the two ends of a step, as `merge` writes the fields
pub step_filled : (a b m t c k b' : ℕ) (s : State) → seen a b m ≡ s → Layers a b m → c < 2 ^ 32 → k < 2 ^ 32 → c ≢ 0 → a < t →
    k ≡ cond (not (nat_eq m 0) && nat_lt (2 * b) (t + a)) 0 m → b' ≡ cond (nat_eq k 0) t (min b t) → bit_or k c ≡ 4294967295 → seen b' 0 0 ≡ step_with s t (samples_of c)
step_filled a b m t c k b' s is l hc hk c0 at ek eb full =
    let e = steps a b m t c k b' (omega (arith, l.not_full)) hc hk c0 at ek eb in
    let y : nat_eq (bit_or k c) 4294967295 ≡ true = grind (arith, nat_tests) in
    rw (← is, e, y)

pub step_more : (a b m t c k b' : ℕ) (s : State) → seen a b m ≡ s → Layers a b m → c < 2 ^ 32 → k < 2 ^ 32 → c ≢ 0 → a < t →
    k ≡ cond (not (nat_eq m 0) && nat_lt (2 * b) (t + a)) 0 m → b' ≡ cond (nat_eq k 0) t (min b t) → bit_or k c ≢ 4294967295 → seen a b' (bit_or k c) ≡ step_with s t (samples_of c)
step_more a b m t c k b' s is l hc hk c0 at ek eb full =
    let e = steps a b m t c k b' (omega (arith, l.not_full)) hc hk c0 at ek eb in
    let y : nat_eq (bit_or k c) 4294967295 ≡ false = grind (arith, nat_tests) in
    rw (← is, e, y)

-- the layers of the fields are those of the state
pub layered_of : (a b m : ℕ) (s : State) → seen a b m ≡ s → Layers a b m → IsLayered s
layered_of a b m s is l = subst IsLayered is (record { above = above; none = none })
  where
    tested : is_none (samples_of m) ≡ nat_eq m 0
    tested = none-samples_of m (omega (arith, l.not_full))

    above : is_none (samples_of m) ≡ false → a < b
    above e = let z : nat_eq m 0 ≡ false = sym tested ∙ e in let wn = l.working_nearer in grind (arith, nat_tests)

    none : is_none (samples_of m) ≡ true → b ≡ 0
    none e = let z : nat_eq m 0 ≡ true = sym tested ∙ e in let we = l.working_empty in grind (arith, nat_tests)

pub filled_layers : (b : ℕ) → b ≤ HELD_TOP → Layers b 0 0
filled_layers b h = record {
  reference_within = h;
  working_within = omega arith;
  working_nearer = λ z. absurd (omega arith);
  working_empty = λ _. refl;
  not_full = omega arith;
}

pub lowered_within : (b t k b' : ℕ) → b ≤ HELD_TOP → t ≤ HELD_TOP → b' ≡ cond (nat_eq k 0) t (min b t) → b' ≤ HELD_TOP
lowered_within b t k b' hb ht e = grind (arith, nat_tests)

-- the layers of a state are those of the fields that it shows
pub layers_of : (a b m : ℕ) (s : State) → a ≡ s.reference → b ≡ s.working → samples_of m ≡ s.samples → a ≤ HELD_TOP → b ≤ HELD_TOP → m < 2 ^ 32 - 1 → IsLayered s → Layers a b m
layers_of a b m s ea eb em ha hb hm is =
    let tested = none-samples_of m (omega (arith, hm)) in
    let none : is_none s.samples ≡ nat_eq m 0 = sym (ap is_none em) ∙ tested in
    let above = is.above in
    let empty = is.none in
    record {
      reference_within = ha;
      working_within = hb;
      working_nearer = λ some. let test : nat_eq m 0 ≡ false = grind (arith, nat_tests) in let lt = above (none ∙ test) in omega (arith, lt, ea, eb);
      working_empty = λ z. let test : nat_eq m 0 ≡ true = grind (arith, nat_tests) in eb ∙ empty (none ∙ test);
      not_full = hm;
    }

pub seen_is : (a b m : ℕ) (s : State) → a ≡ s.reference → b ≡ s.working → samples_of m ≡ s.samples → seen a b m ≡ s
seen_is a b m s ea eb em = rw (ea, eb, em) refl
