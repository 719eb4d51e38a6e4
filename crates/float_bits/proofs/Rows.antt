-- Worked values of floats, each by computing.
use Rattle.std.proofs.Common.{◌≡◌, pos, neg_ℤ, ◌*◌, ◌^◌, refl}
use Rattle.float_bits.specs.Floats.{field_of, whole_of}

-- 1, -2.5, and the greatest float
whole_numbers : (whole_of 0x3f80_0000 ≡ pos (2 ^ 149))
    × (whole_of 0xc020_0000 ≡ neg_ℤ (pos (5 * 2 ^ 148)))
    × (whole_of 0x7f7f_ffff ≡ pos (0xff_ffff * 2 ^ 253))
unfolding whole_of
whole_numbers = (refl, refl, refl)

-- 0, -0, the least float above 0, the greatest without a leading bit, and the least with one
around_zero : (whole_of 0 ≡ pos 0)
    × (whole_of 0x8000_0000 ≡ pos 0)
    × (whole_of 1 ≡ pos 1)
    × (whole_of 0x7f_ffff ≡ pos 0x7f_ffff)
    × (whole_of 0x80_0000 ≡ pos 0x80_0000)
unfolding whole_of
around_zero = (refl, refl, refl, refl, refl)

-- infinity, and the least bits after it
not_numbers : (field_of 0x7f80_0000 ≡ 255) × (field_of 0x7f80_0001 ≡ 255) × (field_of 0xff80_0000 ≡ 255)
not_numbers = (refl, refl, refl)
