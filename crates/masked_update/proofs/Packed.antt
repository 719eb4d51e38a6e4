-- Packed subtiles.
use Rattle.std.proofs.Common.{◌≡◌, ℕ, zero, suc, ◌+◌, ◌-◌, ◌*◌, ◌/◌, ◌%◌, ◌<◌, ◌≤◌, ◌^◌, List, [], ◌∷◌, Bool, true, false, length, nat_eq, arith, refl, ap, ◌∙◌, sym, subst, bit_or}
use Rattle.std.specs.Simd.Lanes.{mask_l}
use Rattle.std.proofs.lemmas.Bool.Decides.{nat_tests}
use Rattle.std.proofs.lemmas.Nat.{or_comm, or_shifted}
use Rattle.std.proofs.lemmas.Simd.{mask_l-lt}
use Rattle.cull_base.specs.declared.nearness.TheConstants.{HELD_TOP}
use Rattle.cull_base.specs.State.{State, bits, is_all, samples_of}
use Rattle.cull_base.specs.Fold.{IsLayered}
use Rattle.cull_base.proofs.Bits.{all-samples_of, length-samples_of, mask_l-samples_of}
use Rattle.masked_update.specs.SubTile.{seen, Layers}
use Rattle.masked_update.specs.Packing.{IsSubTile, packed, packed_layers}
use Rattle.masked_update.proofs.Steps.{layered_of, layers_of}

-- samples are given back by their mask
bits-mask_l : (k : ℕ) (xs : List Bool) → length xs ≡ k → bits k (mask_l xs) ≡ xs
bits-mask_l zero [] e = refl
bits-mask_l zero (x ∷ xs) e = absurd (omega arith)
bits-mask_l (suc k) [] e = absurd (omega arith)
bits-mask_l (suc k) (true ∷ xs) e =
    let low : (1 + 2 * mask_l xs) % 2 ≡ 1 = omega arith in
    let half : (1 + 2 * mask_l xs) / 2 ≡ mask_l xs = omega arith in
    (λ i. nat_eq (low i) 1 ∷ bits k (half i)) ∙ ap (λ l. true ∷ l) (bits-mask_l k xs (omega arith))
bits-mask_l (suc k) (false ∷ xs) e =
    let low : (0 + 2 * mask_l xs) % 2 ≡ 0 = omega arith in
    let half : (0 + 2 * mask_l xs) / 2 ≡ mask_l xs = omega arith in
    (λ i. nat_eq (low i) 1 ∷ bits k (half i)) ∙ ap (λ l. false ∷ l) (bits-mask_l k xs (omega arith))

pub samples_of-mask_l : (xs : List Bool) → length xs ≡ 32 → samples_of (mask_l xs) ≡ xs
unfolding samples_of
samples_of-mask_l xs e = bits-mask_l 32 xs e

mask_of_32 : (xs : List Bool) → length xs ≡ 32 → mask_l xs < 2 ^ 32
mask_of_32 xs e = subst (λ n. mask_l xs < 2 ^ n) e (mask_l-lt xs)

-- the fields of a state that a subtile can have
pub layers_back : (s : State) → IsSubTile s → Layers s.reference s.working (mask_l s.samples)
layers_back s is =
    let m = mask_l s.samples in
    let back = samples_of-mask_l s.samples is.whole in
    let lt = mask_of_32 s.samples is.whole in
    let full : nat_eq m 4294967295 ≡ false = sym (all-samples_of m lt) ∙ ap is_all back ∙ is.not_full in
    layers_of s.reference s.working m s refl refl back is.reference_within is.working_within (grind (arith, nat_tests)) is.layered

-- what layers are seen as is such a state
pub layers_are : (a b m : ℕ) (s : State) → seen a b m ≡ s → Layers a b m → IsSubTile s
layers_are a b m s is l = subst IsSubTile is (
    record {
      reference_within = l.reference_within;
      working_within = l.working_within;
      whole = length-samples_of m;
      not_full = all-samples_of m (omega (arith, l.not_full)) ∙ (let lt = l.not_full in grind (arith, nat_tests));
      layered = layered_of a b m (seen a b m) refl l;
    }
    )

pub packed_seen : (a b m : ℕ) → m < 2 ^ 32 → packed (seen a b m) ≡ (a + 2 ^ 24 * b, m)
packed_seen a b m lt = λ i. (a + 2 ^ 24 * b, mask_l-samples_of m lt i)

-- the fields that the two numbers show
pub packed_fields : (s : State) (layers mask : ℕ) → IsSubTile s → packed s ≡ (layers, mask)
    → (layers % 2 ^ 24 ≡ s.reference) × (layers / 2 ^ 24 ≡ s.working) × (mask ≡ mask_l s.samples)
packed_fields s layers mask is e =
    let a = is.reference_within in
    let l : s.reference + 2 ^ 24 * s.working ≡ layers = ap (λ (p : ℕ × ℕ). p.0) e in
    let m : mask_l s.samples ≡ mask = ap (λ (p : ℕ × ℕ). p.1) e in
    (omega (arith, l, a), omega (arith, l, a), sym m)

-- the layers as they are written
pub layers_is : (a b : ℕ) → a ≤ HELD_TOP → b ≤ HELD_TOP → bit_or a (b * 16777216 % 18446744073709551616) ≡ a + 2 ^ 24 * b
layers_is a b ha hb =
    let high : b * 16777216 % 18446744073709551616 ≡ b * 2 ^ 24 = omega (arith, hb) in
    let both : bit_or a (b * 2 ^ 24) ≡ b * 2 ^ 24 + a = or_comm a (b * 2 ^ 24) ∙ or_shifted b 24 a (omega (arith, ha)) in
    ap (bit_or a) high ∙ both ∙ omega arith

pub pack_is : (a b m : ℕ) (s : State) → a ≡ s.reference → b ≡ s.working → samples_of m ≡ s.samples → a ≤ HELD_TOP → b ≤ HELD_TOP → m < 2 ^ 32 - 1
    → (bit_or a (b * 16777216 % 18446744073709551616), m) ≡ packed s
pack_is a b m s ea eb em ha hb hm =
    let mask : mask_l s.samples ≡ m = ap mask_l (sym em) ∙ mask_l-samples_of m (omega (arith, hm)) in
    let layers : bit_or a (b * 16777216 % 18446744073709551616) ≡ packed_layers s = layers_is a b ha hb ∙ omega (arith, ea, eb) in
    λ i. (layers i, sym mask i)

-- a subtile's state, by what its accessors say
pub is_subtile : (a b m : ℕ) (s : State) → a ≡ s.reference → b ≡ s.working → samples_of m ≡ s.samples → a ≤ HELD_TOP → b ≤ HELD_TOP → m < 2 ^ 32 - 1 → IsLayered s → IsSubTile s
is_subtile a b m s ea eb em ha hb hm l = record {
  reference_within = subst (λ n. n ≤ HELD_TOP) ea ha;
  working_within = subst (λ n. n ≤ HELD_TOP) eb hb;
  whole = ap length (sym em) ∙ length-samples_of m;
  not_full = ap is_all (sym em) ∙ all-samples_of m (omega (arith, hm)) ∙ grind (arith, nat_tests);
  layered = l;
}

-- the two numbers of the fields that they show
pub packed_of_fields : (layers mask : ℕ) (s : State) → mask < 2 ^ 32 → s ≡ seen (layers % 2 ^ 24) (layers / 2 ^ 24) mask → packed s ≡ (layers, mask)
packed_of_fields layers mask s lt is =
    let whole : layers % 2 ^ 24 + 2 ^ 24 * (layers / 2 ^ 24) ≡ layers = omega arith in
    ap packed is ∙ packed_seen (layers % 2 ^ 24) (layers / 2 ^ 24) mask lt ∙ (λ i. (whole i, mask))

-- the only state that a subtile can have and that packs to the two
pub only_state : (layers mask a b : ℕ) (s : State) → a ≡ layers % 2 ^ 24 → b ≡ layers / 2 ^ 24 → IsSubTile s → packed s ≡ (layers, mask) → seen a b mask ≡ s
only_state layers mask a b s ea eb is e =
    let f = packed_fields s layers mask is e in
    (λ i. seen ((ea ∙ f.0) i) ((eb ∙ f.1) i) (f.2 i)) ∙ (λ i. record { reference = s.reference; working = s.working; samples = samples_of-mask_l s.samples is.whole i })

pub only_layers : (layers mask a b : ℕ) (s : State) → a ≡ layers % 2 ^ 24 → b ≡ layers / 2 ^ 24 → IsSubTile s → packed s ≡ (layers, mask) → Layers a b mask
only_layers layers mask a b s ea eb is e =
    let f = packed_fields s layers mask is e in
    subst (λ (z : ℕ × ℕ × ℕ). Layers z.0 z.1 z.2) (λ i. (sym (ea ∙ f.0) i, sym (eb ∙ f.1) i, sym f.2 i)) (layers_back s is)
