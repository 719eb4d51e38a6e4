-- The numbers that floats stand for, as the code holds them.
use Rattle.std.specs.Prelude.{ℕ, pos, neg_ℤ, ◌≡◌, ◌^◌, ◌*ℤ◌, ◌<ℤ◌}
use Rattle.float_bits.specs.Floats.{whole_of, power_of}
use Rattle.float_bits.specs.declared.number.Number.{Number}

-- the value of a float's bits as a mantissa and a power of two
pub record IsDecoded (bits : ℕ) (n : Number) : Type 0 where
  pub value : whole_of bits ≡ n.mantissa *ℤ pos (2 ^ n.power)
  pub power : n.power ≡ power_of bits
  pub above : neg_ℤ (pos (2 ^ 24)) <ℤ n.mantissa
  pub below : n.mantissa <ℤ pos (2 ^ 24)
