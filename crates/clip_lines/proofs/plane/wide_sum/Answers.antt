use Rattle.std.proofs.Common.{ℤ, ◌+ℤ◌, ◌*◌, ◌^◌, FitsSigned, arith}
use Rattle.std.specs.Int.{w128}
use Rattle.std.proofs.lemmas.Int.{ints, to_z-of_z}
use Rattle.cull_base.specs.Bounds.{Bounded}
use Rattle.clip_lines.proofs.plane.wide_sum.Goals as goal

-- both sums fit
two-fit : (a b : ℤ) → Bounded (3 * 2 ^ 91) a → Bounded (3 * 2 ^ 91) b → FitsSigned w128 (a +ℤ b)
two-fit a b h i = omega (arith, ints, h, i)

three-fit : (a b c : ℤ) → Bounded (3 * 2 ^ 91) a → Bounded (3 * 2 ^ 91) b → Bounded (3 * 2 ^ 91) c → FitsSigned w128 ((a +ℤ b) +ℤ c)
three-fit a b c h i j = omega (arith, ints, h, i, j)

three-bounded : (a b c : ℤ) → Bounded (3 * 2 ^ 91) a → Bounded (3 * 2 ^ 91) b → Bounded (3 * 2 ^ 91) c → Bounded (9 * 2 ^ 91) ((a +ℤ b) +ℤ c)
three-bounded a b c h i j = (omega (arith, ints, h, i, j), omega (arith, ints, h, i, j))

pub overflow_add-result-2 : goal.overflow_add-result-2
overflow_add-result-2 c =
    let fa : FitsSigned w128 c.args.a = c.ranges.a in let fb : FitsSigned w128 c.args.b = c.ranges.b in let fc : FitsSigned w128 c.args.c = c.ranges.c in
    let two = two-fit c.args.a c.args.b c.requires.a c.requires.b in
    simp to_z-of_z (three-fit c.args.a c.args.b c.args.c c.requires.a c.requires.b c.requires.c)

pub returns : goal.returns
returns c =
    let fa : FitsSigned w128 c.args.a = c.ranges.a in let fb : FitsSigned w128 c.args.b = c.ranges.b in let fc : FitsSigned w128 c.args.c = c.ranges.c in
    let two = two-fit c.args.a c.args.b c.requires.a c.requires.b in
    let three = three-fit c.args.a c.args.b c.args.c c.requires.a c.requires.b c.requires.c in
    record { value = simp to_z-of_z; bounded = simp to_z-of_z (three-bounded c.args.a c.args.b c.args.c c.requires.a c.requires.b c.requires.c) }
