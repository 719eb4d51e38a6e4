-- The numbers that the bits of floats stand for.
use Rattle.std.specs.Prelude.{ℕ, ℤ, pos, neg_ℤ, ◌+◌, ◌-◌, ◌*◌, ◌/◌, ◌%◌, ◌^◌, ◌<◌, max, cond, nat_eq}

-- the bits of the exponent
abbrev pub field_of : ℕ → ℕ
field_of bits = bits / 8388608 % 256

-- neither infinite nor no number at all
abbrev pub IsNumber : ℕ → Type 0
IsNumber bits = field_of bits < 255

-- the significant bits, of which a number below 2^-126 has no leading one
abbrev pub mantissa_of : ℕ → ℕ
mantissa_of bits = bits % 8388608 + cond (nat_eq (field_of bits) 0) 0 8388608

-- by which power of two the least float is multiplied
abbrev pub power_of : ℕ → ℕ
power_of bits = max (field_of bits) 1 - 1

abbrev pub with_sign_of : ℕ → ℕ → ℤ
with_sign_of bits n = cond (nat_eq (bits / 2147483648) 0) (pos n) (neg_ℤ (pos n))

-- the value in parts of 2^-149, of which each float is a whole number
unfoldable pub whole_of : ℕ → ℤ
whole_of bits = with_sign_of bits (mantissa_of bits * 2 ^ power_of bits)
