use Rattle.std.proofs.Common.{◌≡◌, ◌∙◌, inl, ℕ, ◌+◌, ◌-◌, ◌*◌, ◌^◌, ◌≤◌, FitsSigned, w64, rules, arith, sym}
use Rattle.std.proofs.lemmas.Int.{to_z-of_z}
use Rattle.pixel_forms.specs.Seen.{turned_line}
use Rattle.pixel_forms.proofs.Planes.{IsLimit, limited-by, nearness-by}
use Rattle.pixel_forms.proofs.nearness_form.NearnessForm.of.Goals as goal
use Rattle.pixel_forms.proofs.nearness_form.NearnessForm.of.Goals.{then-is_front, else-is_front}

power_is : (p s h t u : ℕ) → p ≡ (s + h) - u → t ≡ u → u ≤ s + h → p + t ≡ s + h
power_is p s h t u e f le = omega (arith, e, f, le)

pub returns-clause-stands : goal.returns-clause-stands
returns-clause-stands c =
    let p = c.in_ok-power.ensures in
    let is : IsLimit c.args.is_front c.if-is_front.limit c.args.eye.now.near c.span_of-span.result.least c.in_ok-power.power = elim c.if-is_front.branch [
      | then-is_front w ↦ inl w.if-is_front.true
      | else-is_front w ↦ let f : FitsSigned w64 w.limit_of-limit.result = search rules in let e = simp to_z-of_z at w.limit-is in
          limited-by c.args.is_front c.if-is_front.limit w.limit_of-limit.result c.args.eye.now.near c.span_of-span.result.least c.in_ok-power.power w.size_of.result (sym c.if-is_front.limit-is ∙ e) w.limit_of-limit.ensures w.size_of.ensures
    ] in
    rw c.if-is_front.limit-is
    (nearness-by c.args.eye.now c.args.shift c.args.plane.now c.args.is_front c.of-2.result c.of-3.result c.in_ok-power.power c.if-is_front.limit c.of.result.shift c.whole.result
    c.span_of-span.result.least c.span_of-span.result.most c.span_of-span.result.power
    (λ scale exact h. c.of-2.ensures.stands (scale * 2 ^ c.of.result.shift) (turned_line c.args.plane.now.is_turned exact) (c.turned-line.ensures.stands (scale * 2 ^ c.of.result.shift) exact (c.of.ensures.stands scale exact h)))
    c.whole.ensures.value c.span_of-span.ensures.least c.span_of-span.ensures.most c.span_of-span.ensures.positive c.of-3.ensures
    (power_is c.in_ok-power.power c.span_of-span.result.power c.args.shift c.of.result.shift c.turned-line.result.shift p.1 (sym c.turned-line.ensures.shift) p.0) is)
