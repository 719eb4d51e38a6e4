-- Numbers without their leading zeros, and their reciprocals.
use Rattle.std.proofs.Common.{◌≡◌, ℕ, suc, ◌+◌, ◌*◌, ◌%◌, ◌^◌, ◌<◌, ◌≤◌, List, length, get_or, sym, ap, ◌∙◌, subst, arith, w32, Fits}
use Rattle.std.specs.Int.{leading_zeros}
use Rattle.std.specs.Simd.Lanes.{zip2, Each2}
use Rattle.std.proofs.Math.Nat.{mul-le-mul, mod-eq_of_lt}
use Rattle.std.proofs.lemmas.Nat.{leading_top, one_shl, pow-add, shl_below}
use Rattle.std.proofs.lemmas.Simd.{get_or-zip2}
use Rattle.lane_numbers.specs.Reciprocals.{IsNear, IsReciprocal, newton}
use Rattle.lane_numbers.proofs.EightLanes.{each_pair}
use Rattle.lane_numbers.proofs.Steps.{TwoSteps, two_steps}

-- a positive number as a number of 32 digits, and the power of two in between
pub record IsTurned (n : ℕ) : Type 0 where
  pub places : leading_zeros w32 n < 32
  pub power : 1 * 2 ^ leading_zeros w32 n % 4294967296 ≡ 2 ^ leading_zeros w32 n
  pub product : n * 2 ^ leading_zeros w32 n % 4294967296 ≡ n * 2 ^ leading_zeros w32 n
  pub least : 2147483648 ≤ n * 2 ^ leading_zeros w32 n
  pub most : n * 2 ^ leading_zeros w32 n < 4294967296

pub turned : (n : ℕ) → 0 < n → n < 4294967296 → IsTurned n
turned n some lt =
    let t = leading_top 32 n some lt in
    let places : leading_zeros w32 n < 32 = before (leading_zeros w32 n) t.0 t.1 in
    let least = lowest (leading_zeros w32 n) t.0 t.1 t.2 in
    let most = highest (leading_zeros w32 n) t.0 t.1 t.3 in
    record {
      places = places;
      power = one_shl (leading_zeros w32 n) 32 places;
      product = mod-eq_of_lt most;
      least = least;
      most = most;
    }
  where
    before : (z j : ℕ) → z + suc j ≡ 32 → z < 32
    before z j e = omega (arith, e)

    lowest : (z j : ℕ) → z + suc j ≡ 32 → 2 ^ j ≤ n → 2147483648 ≤ n * 2 ^ z
    lowest z j e low =
        let sum : j + z ≡ 31 = omega (arith, e) in
        let whole : 2147483648 ≡ 2 ^ j * 2 ^ z = ap (λ (x : ℕ). 2 ^ x) (sym sum) ∙ pow-add 2 j z in
        let same : 2 ^ z ≤ 2 ^ z = omega arith in
        subst (λ (x : ℕ). x ≤ n * 2 ^ z) (sym whole) (mul-le-mul low same)

    highest : (z j : ℕ) → z + suc j ≡ 32 → n < 2 ^ suc j → n * 2 ^ z < 4294967296
    highest z j e high =
        let sum : suc j + z ≡ 32 = omega (arith, e) in
        subst (λ (x : ℕ). n * 2 ^ z < 2 ^ x) sum (shl_below n (suc j) z high)

-- what a reciprocal is made of
pub record IsMade (d number g : ℕ) : Type 0 where
  pub some : 0 < d
  pub small : d < 4294967296
  pub product : number ≡ d * 2 ^ leading_zeros w32 d
  pub near : IsNear 18014402804449280 (d * 2 ^ leading_zeros w32 d) g
  pub within : g ≤ 4290772992

pub steps : (d number g : ℕ) → IsMade d number g → TwoSteps number g
steps d number g m =
    let t = turned d m.some m.small in
    subst (λ (x : ℕ). TwoSteps x g) (sym m.product) (two_steps (d * 2 ^ leading_zeros w32 d) g t.least t.most m.near m.within)

pub reciprocal_is : (d power number g once r : ℕ) → IsMade d number g → power ≡ 2 ^ leading_zeros w32 d → once ≡ newton number g → r ≡ newton number once → IsReciprocal d power number r
reciprocal_is d power number g once r m ep eo er =
    let t = turned d m.some m.small in
    let s = steps d number g m in
    let e : r ≡ newton number (newton number g) = er ∙ ap (λ (x : ℕ). newton number x) eo in
    record {
      power_is = ep;
      number_is = m.product ∙ ap (λ (x : ℕ). d * x) (sym ep);
      least = subst (λ (x : ℕ). 2147483648 ≤ x) (sym m.product) t.least;
      most = subst (λ (x : ℕ). x < 4294967296) (sym m.product) t.most;
      near = subst (λ (x : ℕ). IsNear 17179869184 number x) (sym e) s.near;
      within = subst (λ (x : ℕ). x < 4294967296) (sym e) s.within;
    }

-- ---- lane by lane

pub all_fit : (ds ps : List ℕ) → length ds ≡ 8 → ((j : ℕ) → j < 8 → 0 < get_or ds j 0) → ((j : ℕ) → Fits w32 (get_or ds j 0)) →
    ((j : ℕ) → j < 8 → get_or ps j 0 ≡ 2 ^ leading_zeros w32 (get_or ds j 0)) → Each2 (λ a b. Fits w32 (a * b)) ds ps
all_fit ds ps long some small power =
    each_pair (λ a b. Fits w32 (a * b)) ds ps
    (λ j lt. let l : j < 8 = subst (λ (n : ℕ). j < n) long lt in
    one (get_or ds j 0) (get_or ps j 0) (power j l) (turned (get_or ds j 0) (some j l) (small j).fits).most)
  where
    one : (d p : ℕ) → p ≡ 2 ^ leading_zeros w32 d → d * 2 ^ leading_zeros w32 d < 4294967296 → Fits w32 (d * p)
    one d p e h = subst (λ (x : ℕ). Fits w32 (d * x)) (sym e) (record { fits = h })

pub product_at : (ds ps : List ℕ) → length ds ≡ 8 → length ps ≡ 8 → ((j : ℕ) → j < 8 → get_or ps j 0 ≡ 2 ^ leading_zeros w32 (get_or ds j 0)) →
    (j : ℕ) → j < 8 → get_or (zip2 (λ x y. x * y) ds ps) j 0 ≡ get_or ds j 0 * 2 ^ leading_zeros w32 (get_or ds j 0)
product_at ds ps long long_powers power j lt =
    get_or-zip2 (λ x y. x * y) ds ps j 0 0 0 (omega (arith, long, lt)) (omega (arith, long_powers, lt)) ∙ ap (λ (x : ℕ). get_or ds j 0 * x) (power j lt)

-- the numbers, these without their leading zeros, and the guesses
pub record AreMade (ds ns gs : List ℕ) : Type 0 where
  pub some : (j : ℕ) → j < 8 → 0 < get_or ds j 0
  pub small : (j : ℕ) → Fits w32 (get_or ds j 0)
  pub product : (j : ℕ) → j < 8 → get_or ns j 0 ≡ get_or ds j 0 * 2 ^ leading_zeros w32 (get_or ds j 0)
  pub near : (j : ℕ) → j < 8 → IsNear 18014402804449280 (get_or ds j 0 * 2 ^ leading_zeros w32 (get_or ds j 0)) (get_or gs j 0)
  pub within : (j : ℕ) → j < 8 → get_or gs j 0 ≤ 4290772992

pub made_at : (ds ns gs : List ℕ) → AreMade ds ns gs → (j : ℕ) → j < 8 → IsMade (get_or ds j 0) (get_or ns j 0) (get_or gs j 0)
made_at ds ns gs m j lt = record {
  some = m.some j lt;
  small = (m.small j).fits;
  product = m.product j lt;
  near = m.near j lt;
  within = m.within j lt;
}
