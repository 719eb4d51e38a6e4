use Rattle.std.proofs.Common.{ℕ, ◌≡◌, ◌≤◌, ◌-◌, ◌*◌, ◌^◌, ◌%◌, ap, ap₂, ◌∙◌, arith, min}
use Rattle.std.specs.Int.{bit_at}
use Rattle.std.proofs.Math.Nat.{pow-le-pow_right, one-le-pow}
use Rattle.edge_lanes.proofs.SpanEnds.{ones_cut}
use Rattle.edge_lanes.proofs.spans.ones_between.Goals as goal

-- a power of two that fits 32 bits
one_shifted : (n : ℕ) → n ≤ 8 → (1 * 2 ^ n % 4294967296 ≡ 2 ^ n) × (1 ≤ 2 ^ n) × (2 ^ n ≤ 2 ^ 8)
one_shifted n le =
    let most : 2 ^ n ≤ 2 ^ 8 = pow-le-pow_right (omega arith) le in
    let least : 1 ≤ 2 ^ n = one-le-pow n 2 (omega arith) in
    (omega (arith, most), least, most)

pub overflow_sub-result : goal.overflow_sub-result
overflow_sub-result c =
    let within = c.requires in
    let first = one_shifted c.min.result (omega (arith, within)) in
    let end = one_shifted c.args.end within in
    let le : 2 ^ c.min.result ≤ 2 ^ c.args.end = pow-le-pow_right (omega arith) (omega arith) in
    omega (arith, first.0, end.0, le)

pub returns-clause-bits : goal.returns-clause-bits
returns-clause-bits c i lt =
    let within = c.requires in
    let first = one_shifted c.min.result (omega (arith, within)) in
    let end = one_shifted c.args.end within in
    ap₂ (λ a b. bit_at (b - a) i) (first.0 ∙ ap (λ n. 2 ^ n) c.min.ensures) end.0 ∙ ones_cut c.args.first c.args.end i
