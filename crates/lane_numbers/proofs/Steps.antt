-- Steps of Newton's method for 2^63 over a number of 32 binary digits.
use Rattle.std.proofs.Common.{◌≡◌, ℕ, ◌+◌, ◌-◌, ◌*◌, ◌/◌, ◌<◌, ◌≤◌, ◌⊎◌, inl, inr, refl, sym, ap, ◌∙◌, subst, arith, lit≤}
use Rattle.std.proofs.Math.Nat.{mul-le-mul, mul-le-mul_left}
use Rattle.std.proofs.lemmas.Nat.{mul-lt}
use Rattle.lane_numbers.specs.Reciprocals.{IsNear, CanStep, newton}

order : (x y : ℕ) → (x ≤ y) ⊎ (y ≤ x)
order x y = grind arith

-- ---- squares

gap_below : (x k : ℕ) → x * x + (x + k) * (x + k) ≡ x * (2 * (x + k)) + k * k
gap_below x k = omega arith

gap_above : (h k : ℕ) → (h + k) * (h + k) + h * h ≡ (h + k) * (2 * h) + k * k
gap_above h k = omega arith

-- how far the squares of two numbers exceed twice their product
square_gap : (x h : ℕ) → (k : ℕ) × (x * x + h * h ≡ x * (2 * h) + k * k) × ((x + k ≡ h) ⊎ (h + k ≡ x))
square_gap x h = by (order x h)
  where
    below : (k : ℕ) → x + k ≡ h → x * x + h * h ≡ x * (2 * h) + k * k
    below k e = subst (λ (t : ℕ). x * x + t * t ≡ x * (2 * t) + k * k) e (gap_below x k)

    above : (k : ℕ) → h + k ≡ x → x * x + h * h ≡ x * (2 * h) + k * k
    above k e = subst (λ (t : ℕ). t * t + h * h ≡ t * (2 * h) + k * k) e (gap_above h k)

    by : (x ≤ h) ⊎ (h ≤ x) → (k : ℕ) × (x * x + h * h ≡ x * (2 * h) + k * k) × ((x + k ≡ h) ⊎ (h + k ≡ x))
    by (inl le) = let e : x + (h - x) ≡ h = omega (arith, le) in (h - x, below (h - x) e, inl e)
    by (inr le) = let e : h + (x - h) ≡ x = omega (arith, le) in (x - h, above (x - h) e, inr e)

mean : (x h : ℕ) → x * (2 * h) ≤ x * x + h * h
mean x h = by (square_gap x h).0 (square_gap x h).1
  where
    by : (k : ℕ) → x * x + h * h ≡ x * (2 * h) + k * k → x * (2 * h) ≤ x * x + h * h
    by k e = omega (arith, e)

squared : (x h e : ℕ) → h < x + e → x < h + e → x * x + h * h ≤ x * (2 * h) + e * e
squared x h e low high = by (square_gap x h).0 (square_gap x h).1 (square_gap x h).2
  where
    more : (k : ℕ) → x * x + h * h ≡ x * (2 * h) + k * k → k ≤ e → x * x + h * h ≤ x * (2 * h) + e * e
    more k g small = let m : k * k ≤ e * e = mul-le-mul small small in omega (arith, g, m)

    by : (k : ℕ) → x * x + h * h ≡ x * (2 * h) + k * k → (x + k ≡ h) ⊎ (h + k ≡ x) → x * x + h * h ≤ x * (2 * h) + e * e
    by k g (inl f) = more k g (omega (arith, f, low))
    by k g (inr f) = more k g (omega (arith, f, high))

-- ---- how near a step comes: x is d r, m and h are the upper halves of x and of r s, and s is 2^32 - m

-- with the products as plain numbers
great : (dh xs xx x : ℕ) → dh * 4294967296 ≤ xs → xs * 4294967296 + xx ≤ x * 18446744078004518912 → x * 18446744073709551616 ≤ xx + 85070591730234615865843651857942052864 → x < 18446744073709551616 → 2 * dh < 9223372045444710400
great dh xs xx x a c f lx = omega (arith, a, c, f, lx)

small : (dh xs xx x d ee f : ℕ) → xs ≤ dh * 4294967296 + d * 4294967296 → x * 18446744073709551616 ≤ xx + xs * 4294967296 → xx + 85070591730234615865843651857942052864 ≤ x * 18446744073709551616 + ee → ee ≤ f * 9223372036854775808 → d < 4294967296 → 9223372036854775808 < 2 * dh + (f + 8589934592)
small dh xs xx x d ee f a c g l ld = omega (arith, a, c, g, l, ld)

-- never too great by much
not_great : (x d r m s h : ℕ) → x ≡ d * r → x < 18446744073709551616 → x < m * 4294967296 + 4294967296 → s + m ≡ 4294967296 → h * 4294967296 ≤ r * s → d * (2 * h) < 9223372045444710400
not_great x d r m s h ex lx hm e lh =
    let a : d * (h * 4294967296) ≤ d * (r * s) = mul-le-mul_left d lh in
    let b : x * s ≡ d * r * s = ap (λ (t : ℕ). t * s) ex in
    let c : x * (s * 4294967296 + x) ≤ x * 18446744078004518912 = mul-le-mul_left x (omega (arith, hm, e)) in
    let k = great (d * h) (x * s) (x * x) x (first a b) (second c) (mean x 9223372036854775808) lx in
    omega (arith, k)
  where
    first : d * (h * 4294967296) ≤ d * (r * s) → x * s ≡ d * r * s → d * h * 4294967296 ≤ x * s
    first a b = omega (arith, a, b)

    second : x * (s * 4294967296 + x) ≤ x * 18446744078004518912 → x * s * 4294967296 + x * x ≤ x * 18446744078004518912
    second c = omega (arith, c)

-- nor too small: by the square of the error, and the roundings
not_small : (x d r m s h e f : ℕ) → x ≡ d * r → d < 4294967296 → m * 4294967296 ≤ x → s + m ≡ 4294967296 → r * s < h * 4294967296 + 4294967296 →
    9223372036854775808 < x + e → x < 9223372036854775808 + e → e * e ≤ f * 9223372036854775808 → 9223372036854775808 < d * (2 * h) + (f + 8589934592)
not_small x d r m s h e f ex ld lm es hh low high le =
    let a : d * (r * s) ≤ d * (h * 4294967296 + 4294967296) = mul-le-mul_left d (omega (arith, hh)) in
    let b : x * s ≡ d * r * s = ap (λ (t : ℕ). t * s) ex in
    let c : x * 18446744073709551616 ≤ x * (x + s * 4294967296) = mul-le-mul_left x (omega (arith, lm, es)) in
    let k = small (d * h) (x * s) (x * x) x d (e * e) f (first a b) (second c) (squared x 9223372036854775808 e low high) le ld in
    omega (arith, k)
  where
    first : d * (r * s) ≤ d * (h * 4294967296 + 4294967296) → x * s ≡ d * r * s → x * s ≤ d * h * 4294967296 + d * 4294967296
    first a b = omega (arith, a, b)

    second : x * 18446744073709551616 ≤ x * (x + s * 4294967296) → x * 18446744073709551616 ≤ x * x + x * s * 4294967296
    second c = omega (arith, c)

-- ---- the quotients that a step takes

whole_low : (n : ℕ) → n / 4294967296 * 4294967296 ≤ n
whole_low n = omega arith

whole_high : (n : ℕ) → n < n / 4294967296 * 4294967296 + 4294967296
whole_high n = omega arith

left : (n : ℕ) → n < 18446744073709551616 → (4294967296 - n / 4294967296) + n / 4294967296 ≡ 4294967296
left n lt = omega (arith, lt)

-- a step squares the share of the error, but for its roundings
pub newton_near : (d r e f : ℕ) → d < 4294967296 → r < 4294967296 → IsNear e d r → e * e ≤ f * 9223372036854775808 → IsNear (f + 8589934592) d (newton d r)
newton_near d r e f ld lr near le =
    let lx : d * r < 18446744073709551616 = mul-lt d r 4294967296 4294967296 ld lr in
    made (d * r / 4294967296) (4294967296 - d * r / 4294967296) (r * (4294967296 - d * r / 4294967296) / 4294967296) lx (whole_low (d * r)) (whole_high (d * r)) (left (d * r) lx)
    (whole_low (r * (4294967296 - d * r / 4294967296))) (whole_high (r * (4294967296 - d * r / 4294967296)))
  where
    made : (m s h : ℕ) → d * r < 18446744073709551616 → m * 4294967296 ≤ d * r → d * r < m * 4294967296 + 4294967296 → s + m ≡ 4294967296 → h * 4294967296 ≤ r * s → r * s < h * 4294967296 + 4294967296 → IsNear (f + 8589934592) d (2 * h)
    made m s h lx lm hm es lh hh =
        let g = not_great (d * r) d r m s h refl lx hm es lh in
        record {
          low = not_small (d * r) d r m s h e f refl ld lm es hh near.low near.high le;
          high = omega (arith, g);
        }

-- ---- 32 bits hold the numbers of a step

some_part : (n : ℕ) → 4294967296 ≤ n → 0 < n / 4294967296
some_part n le = omega (arith, le)

square_of_sum : (q k : ℕ) → q * (q + 2 * k) + k * k ≡ (q + k) * (q + k)
square_of_sum q k = omega arith

-- from an even number below 2^32
even_fits : (d q m s : ℕ) → 2147483648 ≤ d → q < 2147483648 → d * (2 * q) < m * 4294967296 + 4294967296 → s + m ≡ 4294967296 → 2 * q * s < 9223372036854775808
even_fits d q m s ld lq hm es =
    let a : q * 2147483648 ≤ q * d = mul-le-mul_left q ld in
    by (2147483648 - q) (omega (arith, lq)) (reached (q * d) a (turned hm))
  where
    turned : d * (2 * q) < m * 4294967296 + 4294967296 → 2 * (q * d) < m * 4294967296 + 4294967296
    turned h = omega (arith, h)

    reached : (qd : ℕ) → q * 2147483648 ≤ qd → 2 * qd < m * 4294967296 + 4294967296 → q ≤ m
    reached qd a h = omega (arith, a, h)

    last : (qs a kk : ℕ) → qs ≤ a → a + kk ≡ 4611686018427387904 → 1 ≤ kk → 2 * qs < 9223372036854775808
    last qs a kk b t p = omega (arith, b, t, p)

    by : (k : ℕ) → q + k ≡ 2147483648 → q ≤ m → 2 * q * s < 9223372036854775808
    by k e le =
        let b : q * s ≤ q * (q + 2 * k) = mul-le-mul_left q (omega (arith, e, es, le)) in
        let t : q * (q + 2 * k) + k * k ≡ 4611686018427387904 = square_of_sum q k ∙ ap (λ (x : ℕ). x * x) e in
        let one : 1 ≤ k = omega (arith, e, lq) in
        let p : 1 * 1 ≤ k * k = mul-le-mul one one in
        let l = last (q * s) (q * (q + 2 * k)) (k * k) b t p in
        omega (arith, l)

pub even_steps : (d q : ℕ) → 2147483648 ≤ d → d < 4294967296 → q < 2147483648 → 4294967296 ≤ d * (2 * q) → CanStep d (2 * q)
even_steps d q ld hd lq le =
    let lx : d * (2 * q) < 18446744073709551616 = mul-lt d (2 * q) 4294967296 4294967296 hd (omega (arith, lq)) in
    record {
      some = some_part (d * (2 * q)) le;
      fits = even_fits d q (d * (2 * q) / 4294967296) (4294967296 - d * (2 * q) / 4294967296) ld lq (whole_high (d * (2 * q))) (left (d * (2 * q)) lx);
    }

-- from one that lies well below 2^32
square_of_next : (r k : ℕ) → r * (r + 2 * k + 1) + k * k ≡ (r + k) * (r + k) + r
square_of_next r k = omega arith

first_fits : (d r m s : ℕ) → 2147483648 ≤ d → r ≤ 4290772992 → d * r < m * 4294967296 + 4294967296 → s + m ≡ 4294967296 → r * s < 9223372036854775808
first_fits d r m s ld lr hm es =
    let a : r * 2147483648 ≤ r * d = mul-le-mul_left r ld in
    by (4294967296 - r) (omega (arith, lr)) (reached (r * d) a (turned hm))
  where
    turned : d * r < m * 4294967296 + 4294967296 → r * d < m * 4294967296 + 4294967296
    turned h = omega (arith, h)

    reached : (rd : ℕ) → r * 2147483648 ≤ rd → rd < m * 4294967296 + 4294967296 → r ≤ 2 * m + 1
    reached rd a h = omega (arith, a, h)

    last : (a kk : ℕ) → r * (2 * s) ≤ a → a + kk ≡ 18446744073709551616 + r → 17592186044416 ≤ kk → r * s < 9223372036854775808
    last a kk b t p = omega (arith, b, t, p, lr)

    by : (k : ℕ) → r + k ≡ 4294967296 → r ≤ 2 * m + 1 → r * s < 9223372036854775808
    by k e le =
        let b : r * (2 * s) ≤ r * (r + 2 * k + 1) = mul-le-mul_left r (omega (arith, e, es, le)) in
        let t : r * (r + 2 * k + 1) + k * k ≡ 18446744073709551616 + r = square_of_next r k ∙ ap (λ (x : ℕ). x * x + r) e in
        let far : 4194304 ≤ k = omega (arith, e, lr) in
        let p : 4194304 * 4194304 ≤ k * k = mul-le-mul far far in
        last (r * (r + 2 * k + 1)) (k * k) b t p

pub first_steps : (d r : ℕ) → 2147483648 ≤ d → d < 4294967296 → r ≤ 4290772992 → 4294967296 ≤ d * r → CanStep d r
first_steps d r ld hd lr le =
    let lx : d * r < 18446744073709551616 = mul-lt d r 4294967296 4294967296 hd (omega (arith, lr)) in
    record {
      some = some_part (d * r) le;
      fits = first_fits d r (d * r / 4294967296) (4294967296 - d * r / 4294967296) ld lr (whole_high (d * r)) (left (d * r) lx);
    }

-- ---- two steps

half_small : (n : ℕ) → n < 9223372036854775808 → n / 4294967296 < 2147483648
half_small n lt = omega (arith, lt)

twice_small : (n : ℕ) → n < 9223372036854775808 → 2 * (n / 4294967296) < 4294967296
twice_small n lt = omega (arith, lt)

from_near : (x : ℕ) → 9223372036854775808 < x + 18014402804449280 → 4294967296 ≤ x
from_near x l = omega (arith, l)

-- what a first step gives can take another
second_step : (d r h : ℕ) → 2147483648 ≤ d → d < 4294967296 → r ≡ 2 * h → h < 2147483648 → IsNear 70377334112256 d r → CanStep d r
second_step d r h ld hd e lh near =
    let some : 4294967296 ≤ d * (2 * h) = subst (λ (t : ℕ). 4294967296 ≤ d * t) e (from_near (d * r) (more (d * r) near.low)) in
    subst (λ (t : ℕ). CanStep d t) (sym e) (even_steps d h ld hd lh some)
  where
    more : (x : ℕ) → 9223372036854775808 < x + 70377334112256 → 9223372036854775808 < x + 18014402804449280
    more x l = omega (arith, l)

weaker : (d r : ℕ) → IsNear 9663676416 d r → IsNear 17179869184 d r
weaker d r n = record { low = more (d * r) n.low; high = less (d * r) n.high }
  where
    more : (x : ℕ) → 9223372036854775808 < x + 9663676416 → 9223372036854775808 < x + 17179869184
    more x l = omega (arith, l)

    less : (x : ℕ) → x < 9223372036854775808 + 9663676416 → x < 9223372036854775808 + 17179869184
    less x l = omega (arith, l)

pub record TwoSteps (d g : ℕ) : Type 0 where
  pub first : CanStep d g
  pub second : CanStep d (newton d g)
  pub near : IsNear 17179869184 d (newton d (newton d g))
  pub within : newton d (newton d g) < 4294967296

-- from a guess as the table gives it
pub two_steps : (d g : ℕ) → 2147483648 ≤ d → d < 4294967296 → IsNear 18014402804449280 d g → g ≤ 4290772992 → TwoSteps d g
two_steps d g ld hd near lg =
    let first = first_steps d g ld hd lg (from_near (d * g) near.low) in
    let once : IsNear 70377334112256 d (newton d g) = newton_near d g 18014402804449280 70368744177664 hd (omega (arith, lg)) near (lit≤ tt) in
    let second = second_step d (newton d g) (g * (4294967296 - d * g / 4294967296) / 4294967296) ld hd refl (half_small (g * (4294967296 - d * g / 4294967296)) first.fits) once in
    let within : newton d g < 4294967296 = twice_small (g * (4294967296 - d * g / 4294967296)) first.fits in
    let again : IsNear 9663676416 d (newton d (newton d g)) = newton_near d (newton d g) 70377334112256 1073741824 hd within once (lit≤ tt) in
    record {
      first = first;
      second = second;
      near = weaker d (newton d (newton d g)) again;
      within = twice_small (newton d g * (4294967296 - d * newton d g / 4294967296)) second.fits;
    }
