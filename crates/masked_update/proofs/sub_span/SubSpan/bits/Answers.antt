use Rattle.std.proofs.Common.{◌*◌, ◌≤◌, ◌^◌, arith}
use Rattle.std.proofs.lemmas.Nat.{and_le_r}
use Rattle.std.proofs.Math.Nat.{pow-le-pow_right}
use Rattle.masked_update.proofs.SubBits.{sub_bits}
use Rattle.masked_update.proofs.sub_span.SubSpan.bits.Goals as goal

pub returns-clause-value : goal.returns-clause-value
returns-clause-value c j lt =
    let s = c.args.self in
    let most : 2 ^ s.end_column ≤ 2 ^ 4 = pow-le-pow_right (omega arith) c.requires.columns_within in
    let small = c.ones_between-columns.ensures.small in
    sub_bits s.first_column s.end_column s.first_row s.end_row c.ones_between-columns.result c.ones_between-rows.result j c.ones_between-columns.ensures.value c.ones_between-rows.ensures.value
    (omega (arith, most, small)) lt

pub returns-clause-byte : goal.returns-clause-byte
returns-clause-byte c =
    let s = c.args.self in
    let least = and_le_r (c.ones_between-columns.result * 17) c.ones_between-rows.result in
    let small = c.ones_between-rows.ensures.small in
    let within : 4 * s.end_row ≤ 8 = omega (arith, c.requires.rows_within) in
    let most : 2 ^ (4 * s.end_row) ≤ 2 ^ 8 = pow-le-pow_right (omega arith) within in
    omega (arith, least, small, most)
