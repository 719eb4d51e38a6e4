-- Vertices in lanes, and the points that lanes give.
use Rattle.std.proofs.Common.{◌≡◌, ℕ, ℤ, pos, negsuc, suc, ◌+◌, ◌*◌, ◌/◌, ◌%◌, ◌<◌, ◌≤◌, ◌^◌, ◌+ℤ◌, ◌-ℤ◌, ◌*ℤ◌, ◌≤ℤ◌, ◌<ℤ◌, Bool, false, sym, ap, ◌∙◌, arith}
use Rattle.std.specs.Int.{int_div_euclid}
use Rattle.std.specs.Int.RustNames.{unsigned_abs}
use Rattle.std.proofs.Math.Nat.{div-mul-le_self, div-add-mod, mod-lt}
use Rattle.std.proofs.lemmas.Int.{ints}
use Rattle.cull_base.specs.Bounds.{Bounded}
use Rattle.cull_base.specs.Depth.{floor_of}
use Rattle.cull_base.specs.Screen.{Dimensions}
use Rattle.cull_base.specs.declared.clip.ClipVertex.{ClipVertex}
use Rattle.lane_numbers.proofs.Floors.{floor_is}
use Rattle.lane_numbers.proofs.Ring.{diff-sub, diff-mul, diff-same, over3}
use Rattle.point_lanes.specs.Places.{place_of}
use Rattle.point_lanes.specs.Points.{IsInReach, IsLane, IsOwn, IsPoint, place_at}

-- ---- places

minus-times : (a b d : ℤ) → (a -ℤ b) *ℤ d ≡ (a *ℤ d) -ℤ (b *ℤ d)
minus-times = over3 (λ a b d. (a -ℤ b) *ℤ d ≡ (a *ℤ d) -ℤ (b *ℤ d)) (λ a a' b b' d d'. simp (diff-sub, diff-mul) (diff-same _ _ _ _ (omega arith)))

-- so many whole divisors less
floor_less : (a k d : ℕ) → 0 < d → int_div_euclid (pos a -ℤ pos (k * d)) (pos d) ≡ pos (a / d) -ℤ pos k
floor_less a k d h =
    let e = minus-times (pos (a / d)) (pos k) (pos d) in
    let low : a / d * d ≤ a = div-mul-le_self a d in
    let whole : d * (a / d) + a % d ≡ a = div-add-mod a d in
    let rest : a % d < d = mod-lt a h in
    floor_is (pos a -ℤ pos (k * d)) (pos (a / d) -ℤ pos k) d h (under (a / d * d) (k * d) e low) (over (a / d * d) (k * d) e (high (a / d) (a % d) whole rest))
  where
    high : (q r : ℕ) → d * q + r ≡ a → r < d → a < q * d + d
    high q r e l = omega (arith, e, l)

    under : {z : ℤ} (m n : ℕ) → z ≡ pos m -ℤ pos n → m ≤ a → z ≤ℤ (pos a -ℤ pos n)
    under m n e l = omega (arith, ints, e, l)

    over : {z : ℤ} (m n : ℕ) → z ≡ pos m -ℤ pos n → a < m + d → (pos a -ℤ pos n) <ℤ (z +ℤ pos d)
    over m n e l = omega (arith, ints, e, l)

numerator_is : (p x w : ℕ) (o : ℤ) → o ≡ pos x -ℤ pos (63 * w) → (pos 2 *ℤ (pos (8 * p) *ℤ o)) +ℤ pos w ≡ pos (16 * p * x + w) -ℤ pos (504 * p * (2 * w))
numerator_is p x w (pos a) e =
    let f : a + 63 * w ≡ x = omega (arith, ints, e) in
    let g : p * (a + 63 * w) ≡ p * x = ap (λ (t : ℕ). p * t) f in
    omega (arith, ints, g)
numerator_is p x w (negsuc a) e =
    let f : x + suc a ≡ 63 * w = omega (arith, ints, e) in
    let g : p * (x + suc a) ≡ p * (63 * w) = ap (λ (t : ℕ). p * t) f in
    omega (arith, ints, g)

place_same : (p x w : ℕ) (o : ℤ) → 1 ≤ w → o ≡ pos x -ℤ pos (63 * w) → place_of p x w ≡ place_at p o (pos w)
place_same p x w o h e = sym (ap (λ (n : ℤ). int_div_euclid n (pos (2 * w))) (numerator_is p x w o e) ∙ floor_less (16 * p * x + w) (504 * p) (2 * w) (omega (arith, h)))

-- ---- points

pub point_is : (v : ClipVertex) (near number across down w q : ℕ) (x y : ℤ) (size : Dimensions) (width height : ℕ) → 1 ≤ near → near ≤ w → IsOwn v across down w → width ≡ size.width → height ≡ size.height →
    x ≡ place_of width across w → y ≡ place_of height down w → q ≡ number / w → IsPoint v number size x y q
point_is v near number across down w q x y size width height least le own ew eh ex ey eq = record {
  x_is = ex ∙ ap (λ (n : ℕ). place_of n across w) ew ∙ place_same size.width across w (v.x +ℤ v.w) some (right v.x v.w own.across_is own.w_is) ∙ ap (λ (z : ℤ). place_at size.width (v.x +ℤ v.w) z) (sym own.w_is);
  y_is = ey ∙ ap (λ (n : ℕ). place_of n down w) eh ∙ place_same size.height down w (v.w -ℤ v.y) some (below v.y v.w own.down_is own.w_is) ∙ ap (λ (z : ℤ). place_at size.height (v.w -ℤ v.y) z) (sym own.w_is);
  nearness_is = eq ∙ ap (λ (n : ℕ). n / w) once ∙ ap (λ (z : ℤ). unsigned_abs (floor_of (pos (number * 1)) z)) (sym own.w_is);
}
  where
    some : 1 ≤ w
    some = omega (arith, least, le)

    once : number ≡ number * 1
    once = omega arith

    right : (vx vw : ℤ) → pos across ≡ vx +ℤ pos (64 * w) → vw ≡ pos w → vx +ℤ vw ≡ pos across -ℤ pos (63 * w)
    right vx vw e f = omega (arith, ints, e, f)

    below : (vy vw : ℤ) → pos down ≡ pos (64 * w) -ℤ vy → vw ≡ pos w → vw -ℤ vy ≡ pos down -ℤ pos (63 * w)
    below vy vw e f = omega (arith, ints, e, f)

-- ---- lanes

-- in the middle of the screen
pub middle_is : (v : ClipVertex) (near across down w : ℕ) (own : Bool) → 1 ≤ near → near ≤ 1024 → across ≡ 64 * near → down ≡ 64 * near → w ≡ near → own ≡ false → IsLane v near across down w own
middle_is v near across down w own least most ea ed ew eo = record {
  w_least = omega (arith, ew);
  w_most = omega (arith, ew, most);
  across_most = omega (arith, ea, ew, least);
  down_most = omega (arith, ed, ew, least);
  is_own = λ h. absurd (cc (sym eo ∙ h));
}

-- a vertex's own
pub narrowed : (near : ℕ) (z : ℤ) → near ≤ 1024 → Bounded (16384 * near) z → Bounded (2 ^ 24) z
narrowed near z le h = (omega (arith, ints, h, le), omega (arith, ints, h, le))

pub w_narrowed : (near : ℕ) (z : ℤ) → near ≤ 1024 → pos near ≤ℤ z → z ≤ℤ pos (16384 * near) → Bounded (2 ^ 24) z
w_narrowed near z le h k = (omega (arith, ints, h), omega (arith, ints, k, le))

pub own_is : (v : ClipVertex) (near across down w : ℕ) (own : Bool) (a d : ℤ) → near ≤ 1024 → IsInReach near v → a ≡ v.x +ℤ (pos 64 *ℤ v.w) → d ≡ (pos 64 *ℤ v.w) -ℤ v.y →
    a <ℤ (pos 128 *ℤ v.w) → d <ℤ (pos 128 *ℤ v.w) → pos across ≡ a → pos down ≡ d → pos w ≡ v.w → IsLane v near across down w own
own_is v near across down w own a d le h ea ed la ld ra rd rw_is = record {
  w_least = least v.w rw_is h.w_least;
  w_most = most v.w rw_is h.w_most;
  across_most = within v.w a across rw_is ra la;
  down_most = within v.w d down rw_is rd ld;
  is_own = λ k. record { w_is = sym rw_is; across_is = right v.x v.w rw_is (ra ∙ ea); down_is = below v.y v.w rw_is (rd ∙ ed) };
}
  where
    least : (vw : ℤ) → pos w ≡ vw → pos near ≤ℤ vw → near ≤ w
    least vw e l = omega (arith, ints, e, l)

    most : (vw : ℤ) → pos w ≡ vw → vw ≤ℤ pos (16384 * near) → w ≤ 2 ^ 24
    most vw e l = omega (arith, ints, e, l, le)

    within : (vw z : ℤ) (n : ℕ) → pos w ≡ vw → pos n ≡ z → z <ℤ (pos 128 *ℤ vw) → n < 2 ^ 7 * w
    within vw z n e f l = omega (arith, ints, e, f, l)

    right : (vx vw : ℤ) → pos w ≡ vw → pos across ≡ vx +ℤ (pos 64 *ℤ vw) → pos across ≡ vx +ℤ pos (64 * w)
    right vx vw e f = omega (arith, ints, e, f)

    below : (vy vw : ℤ) → pos w ≡ vw → pos down ≡ (pos 64 *ℤ vw) -ℤ vy → pos down ≡ pos (64 * w) -ℤ vy
    below vy vw e f = omega (arith, ints, e, f)
