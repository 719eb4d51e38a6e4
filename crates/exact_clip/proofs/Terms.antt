-- A product of mantissas, shifted down, is the exact product in whole units.
use Rattle.std.proofs.Common.{◌≡◌, ℕ, ℤ, pos, ◌+◌, ◌*◌, ◌-◌, ◌<◌, ◌^◌, ◌+ℤ◌, ◌*ℤ◌, ◌≤ℤ◌, ◌<ℤ◌, ◌∙◌, sym, ap, ap₂, List, slice_index, arith}
use Rattle.std.proofs.lemmas.Int.{ints}
use Rattle.std.proofs.lemmas.Nat.{pow_pos, pow-add, mul-le}
use Rattle.float_bits.specs.Floats.{whole_of, power_of}
use Rattle.float_bits.specs.Numbers.{IsDecoded}
use Rattle.float_bits.specs.declared.number.Number.{Number}
use Rattle.exact_clip.specs.Terms.{IsFloor, IsFactor, IsColumn, IsNarrow, IsTerm, AreTerms, IsCut, AreCuts, column_times}
use Rattle.exact_clip.specs.declared.held.Held.{Held}
use Rattle.exact_clip.specs.declared.term.Factor.{Factor}
use Rattle.exact_clip.specs.declared.column.Column.{Column}
use Rattle.exact_clip.proofs.Products.{pos-mul, assoc, swapped, regrouped, distributed, times-le, times-lt}

-- what is no greater 4096 times
le_from : (x y u v : ℤ) → u ≤ℤ v → u ≡ x *ℤ pos 4096 → v ≡ y *ℤ pos 4096 → x ≤ℤ y
le_from x y u v h eu ev = omega (arith, ints, h, eu, ev)

lt_from : (x y u v : ℤ) → u <ℤ v → u ≡ x *ℤ pos 4096 → v ≡ y *ℤ pos 4096 → x <ℤ y
lt_from x y u v h eu ev = omega (arith, ints, h, eu, ev)

-- A floor over one size is one over another, where the sizes and the numbers grow alike.
rescaled : (f n a b t : ℤ) (k p q u : ℕ) → k * (p * q) ≡ u * 4096 → 0 < p * q → f *ℤ pos p ≡ a *ℤ pos 4096 → b ≡ n *ℤ pos q
    → IsFloor (f *ℤ n) k t → IsFloor (a *ℤ b) u t
rescaled f n a b t k p q u ek above ea eb h =
    let sizes : pos k *ℤ pos (p * q) ≡ pos u *ℤ pos 4096 = pos-mul k (p * q) ∙ ap pos ek ∙ sym (pos-mul u 4096) in
    let floors : (t *ℤ pos k) *ℤ pos (p * q) ≡ (t *ℤ pos u) *ℤ pos 4096 = assoc t (pos k) (pos (p * q)) ∙ ap (λ (z : ℤ). t *ℤ z) sizes ∙ sym (assoc t (pos u) (pos 4096)) in
    let tops : ((t *ℤ pos k) +ℤ pos k) *ℤ pos (p * q) ≡ ((t *ℤ pos u) +ℤ pos u) *ℤ pos 4096
    = distributed (t *ℤ pos k) (pos k) (pos (p * q)) ∙ ap₂ (λ (x y : ℤ). x +ℤ y) floors sizes ∙ sym (distributed (t *ℤ pos u) (pos u) (pos 4096)) in
    let products : (f *ℤ n) *ℤ pos (p * q) ≡ (a *ℤ b) *ℤ pos 4096
    = ap (λ (z : ℤ). (f *ℤ n) *ℤ z) (sym (pos-mul p q)) ∙ regrouped f n (pos p) (pos q) ∙ ap₂ (λ (x y : ℤ). x *ℤ y) ea (sym eb) ∙ swapped a (pos 4096) b in
    record {
      low = le_from _ _ _ _ (times-le (t *ℤ pos k) (f *ℤ n) (p * q) h.low) floors products;
      high = lt_from _ _ _ _ (times-lt (f *ℤ n) ((t *ℤ pos k) +ℤ pos k) (p * q) above h.high) products tops;
    }

pub term_cut : (exponent a b : ℕ) (f : Factor) (n : Number) (t : ℤ) → IsFactor exponent a f → IsDecoded b n → n.power < f.room → IsTerm f n t
    → IsCut (2 ^ exponent) t (whole_of a *ℤ whole_of b)
term_cut exponent a b f n t factor number reach term =
    let down = f.room - 1 - n.power in
    let all : down + (power_of a + n.power) ≡ exponent + 12 = omega (arith, factor.room, reach) in
    let sizes : 2 ^ down * (2 ^ power_of a * 2 ^ n.power) ≡ 2 ^ exponent * 4096
    = ap (λ (z : ℕ). 2 ^ down * z) (sym (pow-add 2 (power_of a) n.power)) ∙ sym (pow-add 2 down (power_of a + n.power)) ∙ ap (λ (z : ℕ). 2 ^ z) all ∙ pow-add 2 exponent 12 in
    let p = pow_pos (power_of a) in let q = pow_pos n.power in
    let m = mul-le 1 1 (2 ^ power_of a) (2 ^ n.power) (omega (arith, p)) (omega (arith, q)) in
    let positive : 0 < 2 ^ power_of a * 2 ^ n.power = omega (arith, m) in
    record {
      floor = rescaled f.mantissa n.mantissa (whole_of a) (whole_of b) t (2 ^ down) (2 ^ power_of a) (2 ^ n.power) (2 ^ exponent) sizes positive factor.value number.value term.floor;
      bounded = term.bounded;
    }

pub narrow : (exponent : ℕ) (matrix : List ℕ) (k : ℕ) (c : Column) → IsColumn exponent matrix k c → IsNarrow c
narrow exponent matrix k c h =
    record {
      x = h.x.bounded;
      y = h.y.bounded;
      w = h.w.bounded;
      x_room = omega (arith, h.room);
      y_room = omega (arith, h.room);
      w_room = omega (arith, h.room);
    }

pub column_cut : (exponent : ℕ) (matrix : List ℕ) (k b : ℕ) (c : Column) (n : Number) (v : Held) → IsColumn exponent matrix k c → IsDecoded b n → n.power < c.room → AreTerms c n v
    → AreCuts (2 ^ exponent) v (column_times matrix k (whole_of b))
column_cut exponent matrix k b c n v column number reach terms =
    let rooms = narrow exponent matrix k c column in
    record {
      x = term_cut exponent (slice_index matrix k) b c.x n v.x column.x number (omega (arith, reach, rooms.x_room)) terms.x;
      y = term_cut exponent (slice_index matrix (k + 4)) b c.y n v.y column.y number (omega (arith, reach, rooms.y_room)) terms.y;
      w = term_cut exponent (slice_index matrix (k + 8)) b c.w n v.w column.w number (omega (arith, reach, rooms.w_room)) terms.w;
      small = record { x = terms.x.bounded; y = terms.y.bounded; w = terms.w.bounded };
    }
