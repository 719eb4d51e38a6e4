use Rattle.std.proofs.Common.{rules, ◌≡◌, ℕ, ℤ, pos, to_z, of_z, FitsSigned, w64, arith}
use Rattle.std.specs.Int.{int_div_euclid}
use Rattle.std.proofs.lemmas.Int.{to_z-of_z}
use Rattle.lane_numbers.specs.Parts.{StandsFor}
use Rattle.lane_numbers.proofs.Half.{whole_is}
use Rattle.lane_numbers.proofs.whole.whole_part.Goals as goal

-- numbers that fit 64 bits are themselves
whole : (r parts : ℤ) → FitsSigned w64 r → FitsSigned w64 parts → r ≡ int_div_euclid (to_z w64 (of_z w64 parts)) (pos 4294967296) →
    (n : ℤ) (p : ℕ) → StandsFor 4294967296 n p parts → to_z w64 (of_z w64 r) ≡ int_div_euclid n (pos p)
whole r parts fr fp e n p h = rw (to_z-of_z w64 r fr, e, to_z-of_z w64 parts fp) (whole_is 4294967296 n p parts (omega arith) h)

pub returns : goal.returns
returns c n p h = whole c.wholes.result c.args.parts (search rules) c.ranges.parts c.wholes.ensures n p h
