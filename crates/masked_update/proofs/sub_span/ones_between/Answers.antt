use Rattle.std.proofs.Common.{ℕ, ◌≤◌, ◌*◌, ◌^◌, ◌%◌, arith, ◌≡◌}
use Rattle.std.proofs.Math.Nat.{pow-le-pow_right, one-le-pow}
use Rattle.masked_update.proofs.sub_span.ones_between.Goals as goal

-- a power of two that fits 32 bits
one_shifted : (n : ℕ) → n ≤ 8 → (1 * 2 ^ n % 4294967296 ≡ 2 ^ n) × (1 ≤ 2 ^ n)
one_shifted n le =
    let most : 2 ^ n ≤ 2 ^ 8 = pow-le-pow_right (omega arith) le in
    let least : 1 ≤ 2 ^ n = one-le-pow n 2 (omega arith) in
    (omega (arith, most), least)

pub overflow_sub-result : goal.overflow_sub-result
overflow_sub-result c =
    let first = one_shifted c.args.first (omega (arith, c.requires.ordered, c.requires.within)) in
    let end = one_shifted c.args.end c.requires.within in
    let le : 2 ^ c.args.first ≤ 2 ^ c.args.end = pow-le-pow_right (omega arith) c.requires.ordered in
    omega (arith, first.0, end.0, le)

pub returns : goal.returns
returns c =
    let first = one_shifted c.args.first (omega (arith, c.requires.ordered, c.requires.within)) in
    let end = one_shifted c.args.end c.requires.within in
    record {
      value = omega (arith, first.0, end.0);
      small = omega (arith, first.0, first.1, end.0, end.1);
    }
