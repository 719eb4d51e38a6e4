use Rattle.std.proofs.Common.{◌≡◌, pos, ◌*ℤ◌, FitsSigned, w32, w64, rules, arith}
use Rattle.std.proofs.lemmas.Int.{to_z-of_z}
use Rattle.cull_base.specs.Piece.{point}
use Rattle.pixel_forms.specs.Seen.{nearest_of}
use Rattle.pixel_forms.proofs.Tested.{not_under, seen-by, at-most-by, greatest-by}
use Rattle.pixel_forms.proofs.nearness_form.NearnessForm.nearness.Goals as goal

pub returns-clause-seen : goal.returns-clause-seen
returns-clause-seen c =
    let fx : FitsSigned w32 c.args.x = c.ranges.x in let fy : FitsSigned w32 c.args.y = c.ranges.y in
    let fl : FitsSigned w64 c.least-least.result = search rules in
    let uncut = simp to_z-of_z at c.may_be_cut.ensures.uncut in
    seen-by c.args.self.now (point c.args.x c.args.y) c.least-least.result (simp to_z-of_z at c.least-least.ensures)
    (not_under c.least-least.result (pos 0) (simp to_z-of_z at c.if-least-lt0.false)) (uncut c.if-may_be_cut.false)

pub returns-clause-at_most : goal.returns-clause-at_most
returns-clause-at_most c =
    let fx : FitsSigned w32 c.args.x = c.ranges.x in let fy : FitsSigned w32 c.args.y = c.ranges.y in
    let fl : FitsSigned w64 c.least-least.result = search rules in
    let e = c.nearest.ensures.value in
    let p : pos c.product.result ≡ pos (nearest_of c.args.eye.now) *ℤ c.least-least.result = rw e at (simp to_z-of_z at c.product.ensures) in
    at-most-by c.args.self.now (point c.args.x c.args.y) c.min.result c.quotient-quotient.result c.steps_of-steps.result c.from.result c.product.result (nearest_of c.args.eye.now) c.least-least.result
    (simp to_z-of_z at c.least-least.ensures) c.min.ensures c.quotient-quotient.ensures c.steps_of-steps.ensures.least p

pub returns-clause-greatest : goal.returns-clause-greatest
returns-clause-greatest c r below h =
    let fx : FitsSigned w32 c.args.x = c.ranges.x in let fy : FitsSigned w32 c.args.y = c.ranges.y in
    let fl : FitsSigned w64 c.least-least.result = search rules in
    let e = c.nearest.ensures.value in
    let p : pos c.product.result ≡ pos (nearest_of c.args.eye.now) *ℤ c.least-least.result = rw e at (simp to_z-of_z at c.product.ensures) in
    greatest-by c.args.self.now (point c.args.x c.args.y) c.min.result c.quotient-quotient.result c.steps_of-steps.result c.from.result c.product.result (nearest_of c.args.eye.now) r c.least-least.result
    (simp to_z-of_z at c.least-least.ensures) c.min.ensures c.quotient-quotient.ensures c.steps_of-steps.ensures.most p c.requires.small.divisor c.requires.small.positive (omega (arith, below, c.from.ensures, c.top.ensures.value)) (omega (arith, c.from.ensures, c.top.ensures.within)) h
