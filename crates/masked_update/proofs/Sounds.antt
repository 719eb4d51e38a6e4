-- A step keeps what is reached: each bound is 0, or some piece that was merged reaches it at the sample.
use Rattle.std.proofs.Common.{◌≡◌, ℕ, ◌+◌, ◌*◌, ◌<◌, ◌≤◌, List, Bool, true, false, ◌&&◌, ◌||◌, not, cond, length, nat_lt, nat_le, arith, refl, ◌∙◌, sym, min, ◌⊎◌, inl, inr}
use Rattle.std.proofs.lemmas.Bool.{both_ways, or_cases, or_parts, leb-false}
use Rattle.cull_base.specs.State.{State, is_none, is_all, union, has, no_samples, step_with, samples_left, lowered_depth, raised_if_full, bound_at}
use Rattle.cull_base.specs.Fold.{IsLayered}
use Rattle.cull_base.proofs.Bits.{has-union, has-all, length-union, union_some, some-has, none-no_samples, has-no_samples, length-no_samples}

-- `Reaches k v` says that a piece is at least so near at sample k
pub record Reached (Reaches : ℕ → ℕ → Type 0) (s : State) : Type 0 where
  pub whole : length s.samples ≡ 32
  pub layered : IsLayered s
  pub reached : (k : ℕ) → k < 32 → (bound_at s k ≡ 0) ⊎ Reaches k (bound_at s k)

-- with no working layer
layered_none : (reference : ℕ) → IsLayered (record { reference = reference; working = 0; samples = no_samples })
layered_none reference = record { above = λ e. absurd (both_ways (is_none no_samples) e none-no_samples); none = λ _. refl }

lowered_le : (s : State) (t : ℕ) (ks : List Bool) → lowered_depth s t ks ≤ t
lowered_le s t ks = elim (is_none ks) as (λ b. cond b t (min s.working t) ≤ t) [ true ↦ omega arith | false ↦ omega arith ]

lowered_le_working : (s : State) (t : ℕ) (ks : List Bool) → is_none ks ≡ false → lowered_depth s t ks ≤ s.working
lowered_le_working s t ks e = rw e (omega arith)

-- the samples that a step leaves are all, or none
left_which : (s : State) (t : ℕ) → (samples_left s t ≡ s.samples) ⊎ (samples_left s t ≡ no_samples)
left_which s t = elim (not (is_none s.samples) && nat_lt (2 * s.working) (t + s.reference)) as (λ b. (cond b no_samples s.samples ≡ s.samples) ⊎ (cond b no_samples s.samples ≡ no_samples)) [ true ↦ inr refl | false ↦ inl refl ]

length-left : (s : State) (t : ℕ) → length s.samples ≡ 32 → length (samples_left s t) ≡ 32
length-left s t e = elim (left_which s t) [ inl h ↦ rw h e | inr h ↦ rw h length-no_samples ]

bound-in : (s : State) (k : ℕ) → has s.samples k ≡ true → bound_at s k ≡ s.working
bound-in s k e = rw e refl

bound-out : (s : State) (k : ℕ) → has s.samples k ≡ false → bound_at s k ≡ s.reference
bound-out s k e = rw e refl

module _ (Old New : ℕ → ℕ → Type 0) (down : (k v w : ℕ) → w ≤ v → New k v → New k w) (more : (k v : ℕ) → Old k v → New k v) where
  -- a bound that was reached stays reached when it falls
  lower : (k v w : ℕ) → w ≤ v → (v ≡ 0) ⊎ Old k v → (w ≡ 0) ⊎ New k w
  lower k v w le (inl e) = inl (omega arith)
  lower k v w le (inr h) = inr (down k v w le (more k v h))

  at_working : (s : State) (k w : ℕ) → k < 32 → Reached Old s → has s.samples k ≡ true → w ≤ s.working → (w ≡ 0) ⊎ New k w
  at_working s k w lt sound e le = let b = bound-in s k e in lower k (bound_at s k) w (omega (arith, b, le)) (sound.reached k lt)

  -- the working layer after a step, at a sample of the joined_layer set
  joined_layer : (s : State) (t k : ℕ) (ks : List Bool) (x : Bool) → k < 32 → Reached Old s → (ks ≡ s.samples) ⊎ (ks ≡ no_samples) → (x ≡ true → New k t)
      → (has ks k || x) ≡ true → (lowered_depth s t ks ≡ 0) ⊎ New k (lowered_depth s t ks)
  joined_layer s t k ks x lt sound which new e = elim (or_cases (has ks k) x e) [
    | inr on ↦ inr (down k t (lowered_depth s t ks) (lowered_le s t ks) (new on))
    | inl on ↦ elim which [
      | inl same ↦ let on' : has s.samples k ≡ true = rw (← same) on in at_working s k (lowered_depth s t ks) lt sound on' (lowered_le_working s t ks (some-has ks k on))
      | inr gone ↦ let off : has ks k ≡ false = rw gone (has-no_samples k) in absurd (both_ways (has ks k) off on)
    ]
  ]

  stays_reached : (s : State) → Reached Old s → Reached New s
  stays_reached s sound = record { whole = sound.whole; layered = sound.layered; reached = λ k lt. lower k (bound_at s k) (bound_at s k) (omega arith) (sound.reached k lt) }

  filled_layer : (s : State) (t : ℕ) (c : List Bool) → length c ≡ 32 → ((k : ℕ) → k < 32 → has c k ≡ true → New k t) → Reached Old s → is_all (union (samples_left s t) c) ≡ true
      → Reached New (record { reference = lowered_depth s t (samples_left s t); working = 0; samples = no_samples })
  filled_layer s t c len new sound all =
      let kl = length-left s t sound.whole in
      let ul = length-union (samples_left s t) c (omega arith) in
      record {
        whole = length-no_samples;
        layered = layered_none (lowered_depth s t (samples_left s t));
        reached = λ k lt.
            let out = has-no_samples k in
            let u = has-all (union (samples_left s t) c) k all (omega arith) in
            let e = has-union (samples_left s t) c k (omega arith) in
            rw out (joined_layer s t k (samples_left s t) (has c k) lt sound (left_which s t) (new k lt) (sym e ∙ u));
      }

  grown_layer : (s : State) (t : ℕ) (c : List Bool) → length c ≡ 32 → ((k : ℕ) → k < 32 → has c k ≡ true → New k t) → Reached Old s → is_none c ≡ false → s.reference < t
      → Reached New (record { reference = s.reference; working = lowered_depth s t (samples_left s t); samples = union (samples_left s t) c })
  grown_layer s t c len new sound some above =
      let kl = length-left s t sound.whole in
      let ul = length-union (samples_left s t) c (omega arith) in
      record {
        whole = omega arith;
        layered = record {
          above = λ _. order (is_none (samples_left s t)) refl;
          none = λ e. absurd (both_ways (is_none (union (samples_left s t) c)) (union_some (samples_left s t) c (omega arith) some) e);
        };
        reached = λ k lt. at k lt (has (union (samples_left s t) c) k) refl (has s.samples k) refl;
      }
    where
      order : (b : Bool) → is_none (samples_left s t) ≡ b → s.reference < lowered_depth s t (samples_left s t)
      order true n = rw n above
      order false n = elim (left_which s t) [
        | inl h ↦ let o = sound.layered.above (rw (← h) n) in rw n (omega arith)
        | inr h ↦ let z : is_none (samples_left s t) ≡ true = rw h none-no_samples in absurd (both_ways (is_none (samples_left s t)) n z)
      ]

      at : (k : ℕ) → k < 32 → (u : Bool) → has (union (samples_left s t) c) k ≡ u → (x : Bool) → has s.samples k ≡ x
          → let w = cond (has (union (samples_left s t) c) k) (lowered_depth s t (samples_left s t)) s.reference in (w ≡ 0) ⊎ New k w
      at k lt true e x ex =
          let kl = length-left s t sound.whole in
          let d = has-union (samples_left s t) c k (omega arith) in
          rw e (joined_layer s t k (samples_left s t) (has c k) lt sound (left_which s t) (new k lt) (sym d ∙ e))
      at k lt false e false ex = let b = bound-out s k ex in rw e (lower k (bound_at s k) s.reference (omega (arith, b)) (sound.reached k lt))
      at k lt false e true ex = let o = sound.layered.above (some-has s.samples k ex) in rw e (at_working s k s.reference lt sound ex (omega arith))

  pub step_reached : (s : State) (t : ℕ) (c : List Bool) → length c ≡ 32 → ((k : ℕ) → k < 32 → has c k ≡ true → New k t) → Reached Old s → Reached New (step_with s t c)
  unfolding step_with
  step_reached s t c len new sound = by (is_none c || nat_le t s.reference) refl (is_all (union (samples_left s t) c)) refl
    where
      by : (x : Bool) → (is_none c || nat_le t s.reference) ≡ x → (y : Bool) → is_all (union (samples_left s t) c) ≡ y
          → Reached New (cond (is_none c || nat_le t s.reference) s (raised_if_full s.reference (lowered_depth s t (samples_left s t)) (union (samples_left s t) c)))
      by true e y f = rw e (stays_reached s sound)
      by false e true f = rw (e, f) (filled_layer s t c len new sound f)
      by false e false f = let p = or_parts (is_none c) (nat_le t s.reference) e in rw (e, f) (grown_layer s t c len new sound p.0 (leb-false t s.reference p.1))

pub empty_reached : (Reaches : ℕ → ℕ → Type 0) → Reached Reaches (record { reference = 0; working = 0; samples = no_samples })
empty_reached Reaches = record {
  whole = length-no_samples;
  layered = layered_none 0;
  reached = λ k lt. let out = has-no_samples k in inl (rw out refl);
}
