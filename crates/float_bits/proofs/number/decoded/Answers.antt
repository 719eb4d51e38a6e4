use Rattle.std.proofs.Common.{FitsSigned, w32, rules}
use Rattle.std.proofs.lemmas.Int.{to_z-of_z}
use Rattle.float_bits.proofs.Wholes.{whole_of-is}
use Rattle.float_bits.proofs.number.decoded.Goals as goal

pub returns : goal.returns
returns c =
    let f : FitsSigned w32 c.mantissa.result = search rules in
    simp to_z-of_z (record {
      value = whole_of-is c.args.bits c.mantissa.result c.power.result c.mantissa.ensures.value c.power.ensures;
      power = c.power.ensures;
      above = c.mantissa.ensures.above;
      below = c.mantissa.ensures.below;
    })
