-- The value of a float by its mantissa and its power of two.
use Rattle.std.proofs.Common.{◌≡◌, ℕ, zero, suc, ℤ, pos, neg_ℤ, ◌*◌, ◌^◌, ◌*ℤ◌, Bool, true, false, cond, nat_eq, ◌/◌, arith}
use Rattle.std.proofs.lemmas.Int.{ints}
use Rattle.float_bits.specs.Floats.{whole_of, mantissa_of, power_of, with_sign_of}

-- a sign goes into a product
signed-mul : (positive : Bool) (m k : ℕ) → cond positive (pos (m * k)) (neg_ℤ (pos (m * k))) ≡ cond positive (pos m) (neg_ℤ (pos m)) *ℤ pos k
signed-mul true m k = omega (arith, ints)
signed-mul false zero k = omega (arith, ints)
signed-mul false (suc m) k = omega (arith, ints)

pub whole_of-is : (bits : ℕ) (m : ℤ) (p : ℕ) → m ≡ with_sign_of bits (mantissa_of bits) → p ≡ power_of bits → whole_of bits ≡ m *ℤ pos (2 ^ p)
unfolding whole_of
whole_of-is bits m p em ep = rw (em, ep) (signed-mul (nat_eq (bits / 2147483648) 0) (mantissa_of bits) (2 ^ power_of bits))
