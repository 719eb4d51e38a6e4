-- Worked clip coordinates, each by computing.
use Rattle.std.proofs.Common.{◌≡◌, ℕ, pos, neg_ℤ, ◌*◌, ◌^◌, List, [], ◌∷◌, refl}
use Rattle.float_bits.specs.Floats.{whole_of}
use Rattle.exact_clip.specs.Clip.{clip_of, distance_of, row_times}

-- 0.25
quarter : distance_of 0x3e80_0000 ≡ pos (2 ^ 296)
unfolding whole_of
quarter = refl

-- x is doubled, and then moved by 1; w is z
rows : List ℕ
rows =
    0x4000_0000 ∷ 0 ∷ 0 ∷ 0x3f80_0000
    ∷ 0 ∷ 0x3f80_0000 ∷ 0 ∷ 0
    ∷ 0 ∷ 0 ∷ 0x3f80_0000 ∷ 0
    ∷ []

-- 1.5, -2.5 and 3
moved : clip_of rows (0x3fc0_0000 ∷ 0xc020_0000 ∷ 0x4040_0000 ∷ []) ≡ record { x = pos (4 * 2 ^ 298); y = neg_ℤ (pos (5 * 2 ^ 297)); w = pos (3 * 2 ^ 298) }
unfolding whole_of row_times rows
moved = refl
