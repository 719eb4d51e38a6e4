use Rattle.std.proofs.Common.{pos, ◌≤◌, FitsSigned, w32, w64, rules, refl, arith}
use Rattle.std.proofs.lemmas.Int.{to_z-of_z}
use Rattle.cull_base.specs.Piece.{point}
use Rattle.pixel_forms.specs.Seen.{nearest_of}
use Rattle.pixel_forms.proofs.Tested.{not_under, outside, none_some, certified-alone, certified-both}
use Rattle.pixel_forms.proofs.Certified.{some_at_most}
use Rattle.pixel_forms.proofs.Triangles.{at_half}
use Rattle.pixel_forms.specs.Forms.{least_at}
use Rattle.pixel_forms.proofs.forms.Forms.nearness_at.Goals as goal
use Rattle.pixel_forms.proofs.forms.Forms.nearness_at.Goals.{then-least-lt0-via-then-least-lt0, then-least-lt0-via-else-least-lt0+then-least-lt0-2, then-least-lt0-via-else-least-lt0+else-least-lt0-2+then-least-lt0-3}

pub returns-in-None-clause-certified : goal.returns-in-None-clause-certified
returns-in-None-clause-certified c =
    let fx : FitsSigned w32 c.args.x = c.ranges.x in let fy : FitsSigned w32 c.args.y = c.ranges.y in
    let fa : FitsSigned w64 c.least.result = search rules in let fb : FitsSigned w64 c.least-else-least-lt0.result = search rules in let fc : FitsSigned w64 c.least-else-least-lt0-2.result = search rules in
    certified-alone (nearest_of c.args.eye.now) c.args.self.now (point c.args.x c.args.y) c.in_ok-nearness.nearness c.least.result c.least-else-least-lt0.result c.least-else-least-lt0-2.result
    (simp to_z-of_z at c.least.ensures) (simp to_z-of_z at c.least-else-least-lt0.ensures) (simp to_z-of_z at c.least-else-least-lt0-2.ensures)
    (not_under c.least.result (pos 0) (simp to_z-of_z at c.if-least-lt0.false)) (not_under c.least-else-least-lt0.result (pos 0) (simp to_z-of_z at c.if-least-lt0-2.false)) (not_under c.least-else-least-lt0-2.result (pos 0) (simp to_z-of_z at c.if-least-lt0-3.false))
    (simp to_z-of_z at c.in_ok-nearness.ensures.seen) (simp to_z-of_z at c.in_ok-nearness.ensures.at_most) c.in-None.is

pub returns-in_ok-nearness-in-Some-clause-certified : goal.returns-in_ok-nearness-in-Some-clause-certified
returns-in_ok-nearness-in-Some-clause-certified c =
    let fx : FitsSigned w32 c.args.x = c.ranges.x in let fy : FitsSigned w32 c.args.y = c.ranges.y in
    let fa : FitsSigned w64 c.least.result = search rules in let fb : FitsSigned w64 c.least-else-least-lt0.result = search rules in let fc : FitsSigned w64 c.least-else-least-lt0-2.result = search rules in
    certified-both (nearest_of c.args.eye.now) c.args.self.now c.in-Some.half (point c.args.x c.args.y) c.min.result c.in_ok-nearness.nearness c.in_ok-nearness-in-Some.field-0
    c.least.result c.least-else-least-lt0.result c.least-else-least-lt0-2.result
    (simp to_z-of_z at c.least.ensures) (simp to_z-of_z at c.least-else-least-lt0.ensures) (simp to_z-of_z at c.least-else-least-lt0-2.ensures)
    (not_under c.least.result (pos 0) (simp to_z-of_z at c.if-least-lt0.false)) (not_under c.least-else-least-lt0.result (pos 0) (simp to_z-of_z at c.if-least-lt0-2.false)) (not_under c.least-else-least-lt0-2.result (pos 0) (simp to_z-of_z at c.if-least-lt0-3.false))
    (simp to_z-of_z at c.in_ok-nearness.ensures.seen) (simp to_z-of_z at c.in_ok-nearness.ensures.at_most) c.in-Some.is
    (simp to_z-of_z at c.in_ok-nearness-in-Some.ensures.inside) (simp to_z-of_z at c.in_ok-nearness-in-Some.ensures.seen) (simp to_z-of_z at c.in_ok-nearness-in-Some.ensures.at_most) c.min.ensures

pub returns-then-least-lt0-clause-given : goal.returns-then-least-lt0-clause-given
returns-then-least-lt0-clause-given c inside =
    let fx : FitsSigned w32 c.args.x = c.ranges.x in let fy : FitsSigned w32 c.args.y = c.ranges.y in
    let fa : FitsSigned w64 c.least.result = search rules in
    elim c.then-least-lt0.branch [
      | then-least-lt0-via-then-least-lt0 w ↦ absurd (outside c.least.result (least_at c.args.self.now.first (point c.args.x c.args.y)) (simp to_z-of_z at c.least.ensures) (simp to_z-of_z at w.if-least-lt0.true) inside.first)
      | then-least-lt0-via-else-least-lt0+then-least-lt0-2 w ↦ let fb : FitsSigned w64 w.least-else-least-lt0.result = search rules in
          absurd (outside w.least-else-least-lt0.result (least_at c.args.self.now.second (point c.args.x c.args.y)) (simp to_z-of_z at w.least-else-least-lt0.ensures) (simp to_z-of_z at w.if-least-lt0-2.true) inside.second)
      | then-least-lt0-via-else-least-lt0+else-least-lt0-2+then-least-lt0-3 w ↦ let fb : FitsSigned w64 w.least-else-least-lt0-2.result = search rules in
          absurd (outside w.least-else-least-lt0-2.result (least_at c.args.self.now.third (point c.args.x c.args.y)) (simp to_z-of_z at w.least-else-least-lt0-2.ensures) (simp to_z-of_z at w.if-least-lt0-3.true) inside.third)
    ]

pub returns-in_err-nearness-in-Some-clause-given :
    goal.returns-in_err-nearness-in-Some-clause-given
returns-in_err-nearness-in-Some-clause-given c inside =
    let fx : FitsSigned w32 c.args.x = c.ranges.x in let fy : FitsSigned w32 c.args.y = c.ranges.y in
    let o = at_half (point c.args.x c.args.y) c.args.self.now.other c.in-Some.half c.in-Some.is inside.other in
    let g = simp to_z-of_z at c.nearness-in-Some.ensures.given in
    absurd (none_some c.nearness-in-Some.result c.in_err-nearness-in-Some.was (g o.0 o.1))

pub returns-in-None-clause-greatest : goal.returns-in-None-clause-greatest
returns-in-None-clause-greatest c r le h =
    let fx : FitsSigned w32 c.args.x = c.ranges.x in let fy : FitsSigned w32 c.args.y = c.ranges.y in
    let g = simp to_z-of_z at c.in_ok-nearness.ensures.greatest in g r le h.plane

pub returns-in_ok-nearness-in-Some-clause-greatest :
    goal.returns-in_ok-nearness-in-Some-clause-greatest
returns-in_ok-nearness-in-Some-clause-greatest c r le h =
    let fx : FitsSigned w32 c.args.x = c.ranges.x in let fy : FitsSigned w32 c.args.y = c.ranges.y in
    let g = simp to_z-of_z at c.in_ok-nearness.ensures.greatest in
    let i = simp to_z-of_z at c.in_ok-nearness-in-Some.ensures.greatest in
    let a : r ≤ c.in_ok-nearness.nearness = g r le h.plane in
    let b : r ≤ c.in_ok-nearness-in-Some.field-0 = i r le (some_at_most (nearest_of c.args.eye.now) r (point c.args.x c.args.y) c.args.self.now.other c.in-Some.half c.in-Some.half.plane c.in-Some.is refl h.other) in
    omega (arith, c.min.ensures, a, b)
