-- Laws of whole numbers, and bounds on them.
use Rattle.std.proofs.Common.{◌≡◌, ℕ, ℤ, pos, negsuc, nat_abs, ◌≤◌, ◌+ℤ◌, ◌-ℤ◌, ◌*ℤ◌, ◌≤ℤ◌, arith}
use Rattle.std.proofs.lemmas.Int.{ints}
use Rattle.cull_base.specs.Bounds.{Bounded}
use Rattle.cull_base.proofs.Ring.{diff, diff-add, diff-sub, diff-mul, diff-same, over2, over3, over4}

abbrev pub over6 : (P : ℤ → ℤ → ℤ → ℤ → ℤ → ℤ → Type 0) → ((a a' b b' c c' d d' e e' f f' : ℕ) → P (diff a a') (diff b b') (diff c c') (diff d d') (diff e e') (diff f f'))
    → (u v w x y z : ℤ) → P u v w x y z
over6 P k u v w x y z =
    over4 (λ u v w x. P u v w x y z) (λ a a' b b' c c' d d'. over2 (λ y z. P (diff a a') (diff b b') (diff c c') (diff d d') y z) (λ e e' f f'. k a a' b b' c c' d d' e e' f f') y z) u v w x

abbrev pub over9 : (P : ℤ → ℤ → ℤ → ℤ → ℤ → ℤ → ℤ → ℤ → ℤ → Type 0) → ((a a' b b' c c' d d' e e' f f' g g' h h' i i' : ℕ) → P (diff a a') (diff b b') (diff c c') (diff d d') (diff e e') (diff f f') (diff g g') (diff h h') (diff i i'))
    → (r s t u v w x y z : ℤ) → P r s t u v w x y z
over9 P k r s t u v w x y z =
    over3 (λ r s t. P r s t u v w x y z) (λ a a' b b' c c'. over3 (λ u v w. P (diff a a') (diff b b') (diff c c') u v w x y z) (λ d d' e e' f f'. over3 (λ x y z. P (diff a a') (diff b b') (diff c c') (diff d d') (diff e e') (diff f f') x y z) (λ g g' h h' i i'. k a a' b b' c c' d d' e e' f f' g g' h h' i i') x y z) u v w) r s t

pub add-mul : (a b s : ℤ) → (a +ℤ b) *ℤ s ≡ (a *ℤ s) +ℤ (b *ℤ s)
add-mul = over3 (λ a b s. (a +ℤ b) *ℤ s ≡ (a *ℤ s) +ℤ (b *ℤ s)) (λ a a' b b' s s'. simp (diff-add, diff-mul) (diff-same _ _ _ _ (omega arith)))

pub sub-mul : (a b s : ℤ) → (a -ℤ b) *ℤ s ≡ (a *ℤ s) -ℤ (b *ℤ s)
sub-mul = over3 (λ a b s. (a -ℤ b) *ℤ s ≡ (a *ℤ s) -ℤ (b *ℤ s)) (λ a a' b b' s s'. simp (diff-sub, diff-mul) (diff-same _ _ _ _ (omega arith)))

pub mul-assoc : (a b c : ℤ) → (a *ℤ b) *ℤ c ≡ a *ℤ (b *ℤ c)
mul-assoc = over3 (λ a b c. (a *ℤ b) *ℤ c ≡ a *ℤ (b *ℤ c)) (λ a a' b b' c c'. simp diff-mul (diff-same _ _ _ _ (omega arith)))

-- the second factor in front
pub mul-turned : (a b c : ℤ) → (a *ℤ b) *ℤ c ≡ b *ℤ (a *ℤ c)
mul-turned = over3 (λ a b c. (a *ℤ b) *ℤ c ≡ b *ℤ (a *ℤ c)) (λ a a' b b' c c'. simp diff-mul (diff-same _ _ _ _ (omega arith)))

-- the first factor behind
pub mul-behind : (a b c : ℤ) → (a *ℤ b) *ℤ c ≡ (b *ℤ c) *ℤ a
mul-behind = over3 (λ a b c. (a *ℤ b) *ℤ c ≡ (b *ℤ c) *ℤ a) (λ a a' b b' c c'. simp diff-mul (diff-same _ _ _ _ (omega arith)))

pub le_by : (a b c d : ℤ) → a ≡ b → c ≡ d → b ≤ℤ d → a ≤ℤ c
le_by a b c d e f h = omega (arith, ints, e, f, h)

pub le_trans : (a b c : ℤ) → a ≤ℤ b → b ≤ℤ c → a ≤ℤ c
le_trans a b c h i = omega (arith, ints, h, i)

-- by its own size
pub own-bounded : (p : ℤ) → Bounded (nat_abs p) p
own-bounded (pos n) = (omega (arith, ints), omega (arith, ints))
own-bounded (negsuc n) = (omega (arith, ints), omega (arith, ints))

pub pos-bounded : (s : ℕ) → Bounded s (pos s)
pos-bounded s = (omega (arith, ints), omega (arith, ints))

pub bounded-more : (m n : ℕ) (v : ℤ) → m ≤ n → Bounded m v → Bounded n v
bounded-more m n v le h = (omega (arith, ints, le, h), omega (arith, ints, le, h))
