use Rattle.std.proofs.Common.{ℕ, pos, ap, ◌∙◌, ◌-ℤ◌, ◌+ℤ◌, refl, rules, w32, FitsSigned}
use Rattle.std.proofs.lemmas.Int.{to_z-of_z}
use Rattle.demo_scene.specs.Demo.{state_after, draw}
use Rattle.demo_scene.proofs.Draws.{draws_after_draws, draw_after}
use Rattle.demo_scene.proofs.generator.Generator.vertex.Goals as goal

pub returns-clause-value : goal.returns-clause-value
returns-clause-value c =
    let s = c.args.self.now.state in
    let fx : FitsSigned w32 c.about-x.result = search rules in
    let fy : FitsSigned w32 c.about-y.result = search rules in
    let fz : FitsSigned w32 c.about-z.result = search rules in
    let second = c.about-x.ensures.state in
    let third = c.about-y.ensures.state ∙ ap (λ (t : ℕ). state_after t 1) second ∙ draws_after_draws s 1 1 in
    let cx : FitsSigned w32 c.args.centre.x = search rules in
    let cy : FitsSigned w32 c.args.centre.y = search rules in
    let cz : FitsSigned w32 c.args.centre.z = search rules in
    let x = simp to_z-of_z at c.about-x.ensures.value in
    let y =
    (simp to_z-of_z at c.about-y.ensures.value) ∙ ap (λ (n : ℕ). (c.args.centre.y +ℤ pos n) -ℤ pos 400) (ap (λ (t : ℕ). draw t 0 801) second ∙ draw_after s 1 0 1 801 refl) in
    let z =
    (simp to_z-of_z at c.about-z.ensures.value) ∙ ap (λ (n : ℕ). (c.args.centre.z +ℤ pos n) -ℤ pos 100) (ap (λ (t : ℕ). draw t 0 201) third ∙ draw_after s 2 0 2 201 refl) in
    simp to_z-of_z (rw (x, y, z) refl)
