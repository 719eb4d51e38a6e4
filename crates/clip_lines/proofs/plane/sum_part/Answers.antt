use Rattle.std.proofs.Common.{ℤ, ◌+ℤ◌, ◌*◌, ◌^◌, FitsSigned, w64, arith}
use Rattle.std.proofs.lemmas.Int.{ints, to_z-of_z}
use Rattle.cull_base.specs.Bounds.{Bounded}
use Rattle.clip_lines.proofs.plane.sum_part.Goals as goal

-- both sums fit
two-fit : (a b : ℤ) → Bounded (2 ^ 61) a → Bounded (2 ^ 61) b → FitsSigned w64 (a +ℤ b)
two-fit a b h i = omega (arith, ints, h, i)

three-fit : (a b c : ℤ) → Bounded (2 ^ 61) a → Bounded (2 ^ 61) b → Bounded (2 ^ 61) c → FitsSigned w64 ((a +ℤ b) +ℤ c)
three-fit a b c h i j = omega (arith, ints, h, i, j)

three-bounded : (a b c : ℤ) → Bounded (2 ^ 61) a → Bounded (2 ^ 61) b → Bounded (2 ^ 61) c → Bounded (3 * 2 ^ 61) ((a +ℤ b) +ℤ c)
three-bounded a b c h i j = (omega (arith, ints, h, i, j), omega (arith, ints, h, i, j))

pub overflow_add-result-2 : goal.overflow_add-result-2
overflow_add-result-2 c =
    let fl : FitsSigned w64 c.args.l = c.ranges.l in let fm : FitsSigned w64 c.args.m = c.ranges.m in let fn : FitsSigned w64 c.args.n = c.ranges.n in
    let two = two-fit c.args.l c.args.m c.requires.l c.requires.m in
    simp to_z-of_z (three-fit c.args.l c.args.m c.args.n c.requires.l c.requires.m c.requires.n)

pub returns : goal.returns
returns c =
    let fl : FitsSigned w64 c.args.l = c.ranges.l in let fm : FitsSigned w64 c.args.m = c.ranges.m in let fn : FitsSigned w64 c.args.n = c.ranges.n in
    let two = two-fit c.args.l c.args.m c.requires.l c.requires.m in
    let three = three-fit c.args.l c.args.m c.args.n c.requires.l c.requires.m c.requires.n in
    record { value = simp to_z-of_z; bounded = simp to_z-of_z (three-bounded c.args.l c.args.m c.args.n c.requires.l c.requires.m c.requires.n) }
