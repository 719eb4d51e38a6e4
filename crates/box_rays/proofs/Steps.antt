-- What numbers of steps say of the exact ones.
use Rattle.std.proofs.Common.{◌≡◌, ℕ, ℤ, pos, negsuc, neg_ℤ, zero, suc, ◌*◌, ◌≤◌, ◌<◌, ◌+ℤ◌, ◌*ℤ◌, ◌≤ℤ◌, ◌<ℤ◌, true, false, arith}
use Rattle.std.proofs.lemmas.Int.{ints}
use lib.Signed.{lt_z}
use Rattle.exact_clip.specs.Held.{IsHeld}
use Rattle.box_rays.specs.Corners.{IsAbout}
use Rattle.box_rays.proofs.Orders.{times_le, keeps_order, turns_order, positive_times, grouped, steps_of_steps, more_steps, turned_steps, three_steps}

-- units that are held, in steps of at least four
pub about : (unit s : ℕ) (steps units exact : ℤ) → 4 ≤ s → (steps *ℤ pos s) ≤ℤ units → units <ℤ ((steps +ℤ pos 1) *ℤ pos s) → IsHeld unit units exact → IsAbout (unit * s) steps exact
about unit s steps units exact four low high held =
    let top : (units +ℤ pos 4) ≤ℤ ((steps +ℤ pos 2) *ℤ pos s) = reach units _ _ (steps *ℤ pos s) (more_steps steps 1 s) (more_steps steps 2 s) high in
    record {
      low = below _ _ _ _ (steps_of_steps steps s unit) (times_le unit (steps *ℤ pos s) units low) held.low;
      high = above _ _ _ _ (steps_of_steps (steps +ℤ pos 2) s unit) (times_le unit (units +ℤ pos 4) ((steps +ℤ pos 2) *ℤ pos s) top) held.high;
    }
  where
    reach : (u t1 t2 base : ℤ) → t1 ≡ base +ℤ pos (1 * s) → t2 ≡ base +ℤ pos (2 * s) → u <ℤ t1 → (u +ℤ pos 4) ≤ℤ t2
    reach u t1 t2 base e1 e2 h = omega (arith, ints, e1, e2, h, four)

    below : (a b c e : ℤ) → a ≡ b → b ≤ℤ c → c ≤ℤ e → a ≤ℤ e
    below a b c e eq h k = omega (arith, ints, eq, h, k)

    above : (a b c e : ℤ) → a ≡ b → c ≤ℤ b → e <ℤ c → e ≤ℤ a
    above a b c e eq h k = omega (arith, ints, eq, h, k)

-- a unit that holds something isn't 0, and so no step is
pub positive : (unit s : ℕ) (units exact : ℤ) → 4 ≤ s → IsHeld unit units exact → 0 < unit * s
positive zero s units exact four held = absurd (clash _ _ (nothing units) (nothing (units +ℤ pos 4)) held.low held.high)
  where
    nothing : (z : ℤ) → z *ℤ pos 0 ≡ pos 0
    nothing (pos z) = omega (arith, ints)
    nothing (negsuc z) = omega (arith, ints)

    clash : (a b : ℤ) → a ≡ pos 0 → b ≡ pos 0 → a ≤ℤ exact → exact <ℤ b → ⊥
    clash a b e f i j = omega (arith, ints, e, f, i, j)
positive (suc unit) s units exact four held = omega (arith, four)

-- against an axis
pub about_turned : (step : ℕ) (t d y : ℤ) → d ≡ neg_ℤ (t +ℤ pos 2) → IsAbout step t y → IsAbout step d (neg_ℤ y)
about_turned step t d y e h =
    let f : d +ℤ pos 2 ≡ neg_ℤ t = omega (arith, ints, e) in
    record {
      low = rw (e, turned_steps (t +ℤ pos 2) step) (turn _ _ h.high);
      high = rw (f, turned_steps t step) (turn _ _ h.low);
    }
  where
    turn : (a b : ℤ) → a ≤ℤ b → neg_ℤ b ≤ℤ neg_ℤ a
    turn a b l = omega (arith, ints, l)

-- the least of a product
pub least_below : (step : ℕ) (m steps exact : ℤ) → pos 0 ≤ℤ m → IsAbout step steps exact → ((m *ℤ steps) *ℤ pos step) ≤ℤ (m *ℤ exact)
least_below step m steps exact h about = rw (grouped m steps (pos step)) (keeps_order m (steps *ℤ pos step) exact h about.low)

pub least_above : (step : ℕ) (m steps exact : ℤ) → m <ℤ pos 0 → IsAbout step steps exact → ((m *ℤ (steps +ℤ pos 2)) *ℤ pos step) ≤ℤ (m *ℤ exact)
least_above step m steps exact h about = rw (grouped m (steps +ℤ pos 2) (pos step)) (turns_order m exact ((steps +ℤ pos 2) *ℤ pos step) h about.high)

-- by the product that was made
pub product_below : (step : ℕ) (m steps r exact : ℤ) → lt_z m (pos 0) ≡ false → r ≡ m *ℤ steps → IsAbout step steps exact → (r *ℤ pos step) ≤ℤ (m *ℤ exact)
product_below step m steps r exact h e about = let n : pos 0 ≤ℤ m = grind (arith, ints) in rw e (least_below step m steps exact n about)

pub product_above : (step : ℕ) (m steps upper r exact : ℤ) → lt_z m (pos 0) ≡ true → upper ≡ steps +ℤ pos 2 → r ≡ m *ℤ upper → IsAbout step steps exact → (r *ℤ pos step) ≤ℤ (m *ℤ exact)
product_above step m steps upper r exact h e f about = let n : m <ℤ pos 0 = grind (arith, ints) in rw (f, e) (least_above step m steps exact n about)

-- where the least sum is positive the exact one is
pub positive_sum : (step : ℕ) (a b c x y z : ℤ) → 0 < step → pos 0 <ℤ ((a +ℤ b) +ℤ c) → (a *ℤ pos step) ≤ℤ x → (b *ℤ pos step) ≤ℤ y → (c *ℤ pos step) ≤ℤ z → pos 0 <ℤ ((x +ℤ y) +ℤ z)
positive_sum step a b c x y z proper h ha hb hc = sum _ _ _ _ (three_steps a b c step) (positive_times ((a +ℤ b) +ℤ c) step h proper) ha hb hc
  where
    sum : (t i j k : ℤ) → t ≡ (i +ℤ j) +ℤ k → pos 0 <ℤ t → i ≤ℤ x → j ≤ℤ y → k ≤ℤ z → pos 0 <ℤ ((x +ℤ y) +ℤ z)
    sum t i j k e p hi hj hk = omega (arith, ints, e, p, hi, hj, hk)

pub positive_is : (z : ℤ) → lt_z (pos 0) z ≡ true → pos 0 <ℤ z
positive_is z h = grind (arith, ints)
