-- How near the exact points come.
use Rattle.std.proofs.Common.{◌≡◌, ℕ, ℤ, pos, ◌+◌, ◌*◌, ◌^◌, ◌<◌, ◌*ℤ◌, ◌≤ℤ◌, List, length, take, get_or, arith, ap}
use Rattle.std.specs.List.{All, AllZip}
use Rattle.std.proofs.lemmas.Int.{ints}
use Rattle.std.proofs.lemmas.List.Elements.{All-more, All-weaker}
use Rattle.exact_clip.specs.Clip.{Clip}
use Rattle.exact_clip.specs.Held.{Holds}
use Rattle.exact_clip.specs.declared.held.Held.{Held}
use Rattle.box_rays.specs.Objects.{IsNearest}
use Rattle.box_rays.proofs.Orders.{times_le, keeps_order, grouped}
use Rattle.box_rays.proofs.Sums.{all_held}

-- of a point whose w is held by h, where n is no more than h
nearest_point : (t near k unit : ℕ) (n h e : ℤ) → pos (t * near) ≤ℤ (pos k *ℤ n) → n ≤ℤ h → (h *ℤ pos unit) ≤ℤ e → (pos t *ℤ pos (near * unit)) ≤ℤ (pos k *ℤ e)
nearest_point t near k unit n h e a b c =
    let positive : pos 0 ≤ℤ pos k = omega (arith, ints) in
    chain _ _ _ _ _ (ap pos (same t near unit)) (times_le unit (pos (t * near)) (pos k *ℤ n) a) (times_le unit (pos k *ℤ n) (pos k *ℤ h) (keeps_order (pos k) n h positive b)) (grouped (pos k) h (pos unit))
    (keeps_order (pos k) (h *ℤ pos unit) e positive c)
  where
    same : (x y z : ℕ) → x * (y * z) ≡ (x * y) * z
    same x y z = omega arith

    chain : (p q r s u : ℤ) {v : ℤ} → p ≡ q → q ≤ℤ r → r ≤ℤ s → s ≡ u → u ≤ℤ v → p ≤ℤ v
    chain p q r s u {v} i j l m o = omega (arith, ints, i, j, l, m, o)

pub nearest_points : (top near share q unit : ℕ) (nearest : ℤ) (vs : List Held) (ps : List Clip) → pos ((top * (2 ^ 24 + share)) * near) ≤ℤ (pos (q * 2 ^ 24) *ℤ nearest) → All (λ v. nearest ≤ℤ v.w) vs
    → AllZip (Holds unit) vs ps → IsNearest top (pos (near * unit)) share q ps
nearest_points top near share q unit nearest vs ps value least held =
    all_held (λ p. (pos (top * (2 ^ 24 + share)) *ℤ pos (near * unit)) ≤ℤ (pos (q * 2 ^ 24) *ℤ p.w)) unit vs ps
    (All-weaker (λ v. nearest ≤ℤ v.w) (λ v. (exact : Clip) → Holds unit v exact → (pos (top * (2 ^ 24 + share)) *ℤ pos (near * unit)) ≤ℤ (pos (q * 2 ^ 24) *ℤ exact.w))
    (λ v le exact holds. nearest_point (top * (2 ^ 24 + share)) near (q * 2 ^ 24) unit nearest v.w exact.w value le holds.w.low) vs least)
    held

-- one corner more
pub nearest_more : (n m : ℤ) (vs : List Held) (i : ℕ) (d : Held) → i < length vs → All (λ v. m ≤ℤ v.w) (take i vs) → n ≤ℤ m → n ≤ℤ (get_or vs i d).w → All (λ v. n ≤ℤ v.w) (take (i + 1) vs)
nearest_more n m vs i d lt all le here = All-more (λ v. n ≤ℤ v.w) vs i d lt (All-weaker (λ v. m ≤ℤ v.w) (λ v. n ≤ℤ v.w) (λ v h. along v.w h) (take i vs) all) here
  where
    along : (w : ℤ) → m ≤ℤ w → n ≤ℤ w
    along w h = omega (arith, ints, le, h)
