-- What it means that an object is hidden.
use Rattle.std.proofs.Common.{◌≡◌, ℕ, zero, suc, ◌+◌, ◌≤◌, ◌<◌, Bool, true, false, ◌||◌, not, cond, nat_lt, arith, refl, ap, sym, ◌∙◌, inl, inr}
use Rattle.std.specs.List.{list_all, list_any, range_with_len}
use Rattle.std.proofs.lemmas.Bool.{cases_lt, and_parts, or_cases}
use Rattle.std.proofs.lemmas.Bool.Decides.{nat_tests}
use Rattle.cull_base.specs.declared.rect.Rect.{Rect}
use Rattle.cull_base.specs.declared.place.Sub.{Sub}
use Rattle.cull_base.specs.declared.scene_types.Verdict.TheVariants.{Visible, Occluded}
use Rattle.cull_base.specs.Screen.{Dimensions, screen_of}
use Rattle.cull_base.specs.Rectangle.{meets}
use Rattle.cull_base.specs.State.{State, is_none, has, hides}
use Rattle.cull_base.specs.Fold.{IsLayered}
use Rattle.cull_base.specs.Pixels.{at_each_pixel, at_some_pixel}
use Rattle.cull_base.specs.Shape.{Shape, AlwaysOutside, AlwaysVisible, Flat, Pieces, has_sample, is_hidden_at, is_hidden, verdict_of}
use Rattle.cull_base.proofs.Bits.{has-none}

all_to : (p : ℕ → Bool) (a n : ℕ) → list_all p (range_with_len a n) ≡ true → (k : ℕ) → a ≤ k → k < a + n → p k ≡ true
all_to p a zero e k le lt = absurd (omega arith)
all_to p a (suc n) e k le lt =
    let both = and_parts (p a) (list_all p (range_with_len (a + 1) n)) e in
    elim (cases_lt a k) [
      | inl later ↦ all_to p (a + 1) n both.1 k (omega arith) (omega arith)
      | inr first ↦ let here : a ≡ k = omega arith in rw (← here) both.0
    ]

all_from : (p : ℕ → Bool) (a n : ℕ) → ((k : ℕ) → a ≤ k → k < a + n → p k ≡ true) → list_all p (range_with_len a n) ≡ true
all_from p a zero h = refl
all_from p a (suc n) h =
    let here = h a (omega arith) (omega arith) in
    let rest = all_from p (a + 1) n (λ k le lt. h k (omega arith) (omega arith)) in
    rw (here, rest) refl

-- a test at each pixel of the screen
pub each_to : (size : Dimensions) (test : ℕ → ℕ → Bool) → at_each_pixel size test ≡ true → (px py : ℕ) → px < size.width → py < size.height → test px py ≡ true
unfolding at_each_pixel
each_to size test e px py x y =
    let row = all_to (λ j. list_all (λ i. test i j) (range_with_len 0 size.width)) 0 size.height e py (omega arith) (omega arith) in
    all_to (λ i. test i py) 0 size.width row px (omega arith) (omega arith)

pub each_from : (size : Dimensions) (test : ℕ → ℕ → Bool) → ((px py : ℕ) → px < size.width → py < size.height → test px py ≡ true) → at_each_pixel size test ≡ true
unfolding at_each_pixel
each_from size test h =
    all_from (λ j. list_all (λ i. test i j) (range_with_len 0 size.width)) 0 size.height (λ py _ y.
    all_from (λ i. test i py) 0 size.width (λ px _ x. h px py (omega (arith, x)) (omega (arith, y))))

any_from : (p : ℕ → Bool) (a n k : ℕ) → a ≤ k → k < a + n → p k ≡ true → list_any p (range_with_len a n) ≡ true
any_from p a zero k le lt t = absurd (omega arith)
any_from p a (suc n) k le lt t = elim (cases_lt a k) [
  | inl later ↦ let rest = any_from p (a + 1) n k (omega arith) (omega arith) t in rw rest (or_true (p a))
  | inr first ↦ let here : a ≡ k = omega arith in let found : p a ≡ true = rw here t in rw found refl
]
  where
    or_true : (b : Bool) → (b || true) ≡ true
    or_true true = refl
    or_true false = refl

pub some_pixel : (size : Dimensions) (test : ℕ → ℕ → Bool) (px py : ℕ) → px < size.width → py < size.height → test px py ≡ true → at_some_pixel size test ≡ true
unfolding at_some_pixel
some_pixel size test px py x y t =
    any_from (λ j. list_any (λ i. test i j) (range_with_len 0 size.width)) 0 size.height py (omega arith) (omega (arith, y))
    (any_from (λ i. test i py) 0 size.width px (omega arith) (omega (arith, x)) t)

pub implied : (a b : Bool) → (not a || b) ≡ true → a ≡ true → b ≡ true
implied true b e f = e
implied false b e f = absurd cc

pub implies : (a b : Bool) → (a ≡ true → b ≡ true) → (not a || b) ≡ true
implies true b f = f refl
implies false b f = refl

-- each sample of a hidden object in the screen is hidden
pub hidden_each : (size : Dimensions) (f : Sub → State) (shape : Shape) → is_hidden size f shape ≡ true → (px py : ℕ) → px < size.width → py < size.height → has_sample shape px py ≡ true
    → is_hidden_at f shape px py ≡ true
unfolding is_hidden
hidden_each size f shape e px py x y has =
    let both = and_parts (at_some_pixel size (has_sample shape)) (at_each_pixel size (λ i j. not (has_sample shape i j) || is_hidden_at f shape i j)) e in
    implied (has_sample shape px py) (is_hidden_at f shape px py) (each_to size (λ i j. not (has_sample shape i j) || is_hidden_at f shape i j) both.1 px py x y) has

pub hidden_if : (size : Dimensions) (f : Sub → State) (shape : Shape) (px py : ℕ) → px < size.width → py < size.height → has_sample shape px py ≡ true
    → ((i j : ℕ) → i < size.width → j < size.height → has_sample shape i j ≡ true → is_hidden_at f shape i j ≡ true) → is_hidden size f shape ≡ true
unfolding is_hidden
hidden_if size f shape px py x y has h =
    let some = some_pixel size (has_sample shape) px py x y has in
    let each = each_from size (λ i j. not (has_sample shape i j) || is_hidden_at f shape i j) (λ i j p q. implies (has_sample shape i j) (is_hidden_at f shape i j) (h i j p q)) in
    rw (some, each) refl

any_to : (p : ℕ → Bool) (a n : ℕ) → list_any p (range_with_len a n) ≡ true → (k : ℕ) × (a ≤ k) × (k < a + n) × (p k ≡ true)
any_to p a zero e = absurd cc
any_to p a (suc n) e = elim (or_cases (p a) (list_any p (range_with_len (a + 1) n)) e) [
  | inl here ↦ (a, omega arith, omega arith, here)
  | inr later ↦ let (k, le, lt, found) = any_to p (a + 1) n later in (k, omega (arith, le), omega (arith, lt), found)
]

-- a hidden object has a sample in the screen
pub hidden_some : (size : Dimensions) (f : Sub → State) (shape : Shape) → is_hidden size f shape ≡ true → (px : ℕ) × (py : ℕ) × (px < size.width) × (py < size.height) × (has_sample shape px py ≡ true)
unfolding is_hidden at_some_pixel
hidden_some size f shape e =
    let both = and_parts (at_some_pixel size (has_sample shape)) (at_each_pixel size (λ i j. not (has_sample shape i j) || is_hidden_at f shape i j)) e in
    let (py, r, y, row) = any_to (λ j. list_any (λ i. has_sample shape i j) (range_with_len 0 size.width)) 0 size.height both.0 in
    let (px, c, x, has) = any_to (λ i. has_sample shape i py) 0 size.width row in
    (px, py, omega (arith, x), omega (arith, y), has)

-- what is occluded is hidden
pub occluded_is_hidden : (size : Dimensions) (f : Sub → State) (shape : Shape) → verdict_of size f shape ≡ Occluded → is_hidden size f shape ≡ true
occluded_is_hidden size f AlwaysOutside e = absurd cc
occluded_is_hidden size f AlwaysVisible e = absurd cc
occluded_is_hidden size f (Flat r q) e = by (is_hidden size f (Flat r q)) e
  where
    by : (b : Bool) → cond b Occluded Visible ≡ Occluded → b ≡ true
    by true g = refl
    by false g = absurd cc
occluded_is_hidden size f (Pieces ts hull) e = by (is_hidden size f (Pieces ts hull)) e
  where
    by : (b : Bool) → cond b Occluded Visible ≡ Occluded → b ≡ true
    by true g = refl
    by false g = absurd cc

pub met : (m b : Bool) (r screen : Rect) (size : Dimensions) → m ≡ meets r screen → screen ≡ screen_of size → m ≡ b → meets r (screen_of size) ≡ b
met m b r screen size e s t = ap (meets r) (sym s) ∙ sym e ∙ t

-- an empty set has no sample
-- the bound is never below the reference
pub below_reference : (s : State) (k q : ℕ) → IsLayered s → q < s.reference → hides s k q ≡ true
below_reference s k q layered lt = by (has s.samples k) (is_none s.samples) refl refl
  where
    deeper : (b : Bool) (r w : ℕ) → q < r → (b ≡ true → r < w) → nat_lt q (cond b w r) ≡ true
    deeper true r w l h = let m = h refl in grind (arith, nat_tests)
    deeper false r w l h = grind (arith, nat_tests)

    by : (b n : Bool) → has s.samples k ≡ b → is_none s.samples ≡ n → hides s k q ≡ true
    by b true e f = let none = has-none s.samples k f in deeper (has s.samples k) s.reference s.working lt (λ t. absurd cc)
    by b false e f = deeper (has s.samples k) s.reference s.working lt (λ t. layered.above f)
