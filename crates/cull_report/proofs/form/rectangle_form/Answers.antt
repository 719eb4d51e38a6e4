use Rattle.std.proofs.Common.{◌≡◌, ℤ, pos, ◌<ℤ◌, true, FitsSigned, w32, int_lt, arith, refl}
use Rattle.std.proofs.lemmas.Int.{ints, to_z-of_z}
use Rattle.cull_base.proofs.HiddenObjects.{met}
use Rattle.cull_report.proofs.form.rectangle_form.Goals as goal

is_less : (a b : ℤ) → a <ℤ b → int_lt a b ≡ true
is_less a b lt = grind (arith, ints)

pub returns-then-meets : goal.returns-then-meets
returns-then-meets c =
    let fits : FitsSigned w32 c.args.w = c.ranges.w in
    let m = met c.meets.result true c.args.rect c.screen.result c.args.size c.meets.ensures.value c.screen.ensures c.if-meets.true in
    let lt : c.args.w <ℤ pos c.args.near = simp to_z-of_z at c.in-None.ensures.value in
    let t = is_less c.args.w (pos c.args.near) lt in
    rw (m, t) refl
