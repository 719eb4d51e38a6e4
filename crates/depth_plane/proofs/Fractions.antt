-- Two fractions are compared by whole quotients first, and by remainders where these agree.
use Rattle.std.proofs.Common.{◌≡◌, ◌≢◌, ℤ, pos, ◌+ℤ◌, ◌*ℤ◌, ◌≤ℤ◌, ◌<ℤ◌, arith}
use Rattle.std.proofs.lemmas.Int.{ints, by_lt_z}
use Rattle.cull_base.specs.Depth.{floor_of}
use Rattle.cull_base.proofs.Ring.{diff-add, diff-mul, diff-same, over3, over4}
use Rattle.depth_plane.proofs.Products.{le_times, mul_comm, mul-add, times_one}
use Rattle.depth_plane.proofs.Floors.{floor_of-le, floor_of-lt}

split_times : (w d r e : ℤ) → ((w *ℤ d) +ℤ r) *ℤ e ≡ (w *ℤ (d *ℤ e)) +ℤ (r *ℤ e)
split_times = over4 (λ w d r e. ((w *ℤ d) +ℤ r) *ℤ e ≡ (w *ℤ (d *ℤ e)) +ℤ (r *ℤ e)) (λ a a' b b' c c' d d'. simp (diff-add, diff-mul) (diff-same _ _ _ _ (omega arith)))

swapped : (w d e : ℤ) → (w *ℤ e) *ℤ d ≡ (w *ℤ d) *ℤ e
swapped = over3 (λ w d e. (w *ℤ e) *ℤ d ≡ (w *ℤ d) *ℤ e) (λ a a' b b' c c'. simp diff-mul (diff-same _ _ _ _ (omega arith)))

one_more : (a d : ℤ) → (a +ℤ pos 1) *ℤ d ≡ (a *ℤ d) +ℤ d
one_more a d = let e = mul_comm (a +ℤ pos 1) d in let f = mul-add d a (pos 1) in let g = mul_comm a d in let h = times_one d in omega (arith, ints, e, f, g, h)

-- equal quotients
crossed : (w d r e s : ℤ) → ((w *ℤ d) +ℤ r) *ℤ e ≡ (w *ℤ (d *ℤ e)) +ℤ (r *ℤ e) × (((w *ℤ e) +ℤ s) *ℤ d ≡ (w *ℤ (d *ℤ e)) +ℤ (s *ℤ d))
crossed w d r e s = (split_times w d r e, (let p = split_times w e s d in let q = mul_comm e d in rw q at p))

pub same_quotient : (n m w v d e r s x y : ℤ) → w ≡ v → n ≡ (w *ℤ d) +ℤ r → m ≡ (v *ℤ e) +ℤ s → x ≡ r *ℤ e → y ≡ s *ℤ d →
    (y <ℤ x → (m *ℤ d) <ℤ (n *ℤ e)) × ((m *ℤ d) <ℤ (n *ℤ e) → y <ℤ x)
same_quotient n m w v d e r s x y ev en em ex ey =
    let (p, q) = crossed w d r e s in
    let n' : n *ℤ e ≡ (w *ℤ (d *ℤ e)) +ℤ (r *ℤ e) = rw en p in
    let m' : m *ℤ d ≡ (w *ℤ (d *ℤ e)) +ℤ (s *ℤ d) = rw (em, ← ev) q in
    (λ h. omega (arith, ints, n', m', ex, ey, h), λ h. omega (arith, ints, n', m', ex, ey, h))

-- a greater quotient
apart : (n m w v d e : ℤ) → pos 0 <ℤ d → pos 0 <ℤ e → (w *ℤ d) ≤ℤ n → m <ℤ ((v *ℤ e) +ℤ e) → v <ℤ w → (m *ℤ d) <ℤ (n *ℤ e)
apart n m w v d e hd he ln lm l =
    let a = le_times (v +ℤ pos 1) w e (omega (arith, ints, he)) (omega (arith, ints, l)) in
    let b = one_more v e in
    let c : (m +ℤ pos 1) ≤ℤ (w *ℤ e) = omega (arith, ints, a, b, lm) in
    let f = le_times (m +ℤ pos 1) (w *ℤ e) d (omega (arith, ints, hd)) c in
    let g = one_more m d in
    let h = swapped w d e in
    let i = le_times (w *ℤ d) n e (omega (arith, ints, he)) ln in
    omega (arith, ints, f, g, h, i, hd)

other_quotient : (n m w v d e : ℤ) → pos 0 <ℤ d → pos 0 <ℤ e → (w *ℤ d) ≤ℤ n → n <ℤ ((w *ℤ d) +ℤ d) → (v *ℤ e) ≤ℤ m → m <ℤ ((v *ℤ e) +ℤ e) → w ≢ v →
    (v <ℤ w → (m *ℤ d) <ℤ (n *ℤ e)) × ((m *ℤ d) <ℤ (n *ℤ e) → v <ℤ w)
other_quotient n m w v d e hd he ln gn lm gm ne = (
  apart n m w v d e hd he ln gm,
  λ h. by_lt_z v w (λ l. l) (λ l. absurd (let l' : w <ℤ v = strict ne l in let k = apart m n v w e d he hd lm gn l' in omega (arith, ints, h, k))),
)
  where
    strict : w ≢ v → w ≤ℤ v → w <ℤ v
    strict ne l = by_lt_z w v (λ g. g) (λ g. absurd (ne (omega (arith, ints, g, l))))

pub floors_differ : (n m w v d e : ℤ) → pos 0 <ℤ d → pos 0 <ℤ e → w ≡ floor_of n d → v ≡ floor_of m e → w ≢ v →
    (v <ℤ w → (m *ℤ d) <ℤ (n *ℤ e)) × ((m *ℤ d) <ℤ (n *ℤ e) → v <ℤ w)
floors_differ n m w v d e hd he ew ev ne = rw (ew, ev) (other_quotient n m (floor_of n d) (floor_of m e) d e hd he (floor_of-le n d hd) (floor_of-lt n d hd) (floor_of-le m e he) (floor_of-lt m e he) (rw (ew, ev) at ne))
