use Rattle.std.proofs.Common.{◌≡◌, ◌≤◌, ◌+◌, ◌^◌, ℕ, ℤ, pos, ◌-ℤ◌, ◌+ℤ◌, arith, refl, ap, ◌∙◌, w32}
use Rattle.std.specs.Int.{cast_signed, cast_unsigned}
use Rattle.std.proofs.lemmas.Int.{ints}
use Rattle.cull_base.specs.Bounds.{Bounded}
use Rattle.demo_scene.specs.Demo.{state_after, draw, half_side}
use Rattle.demo_scene.proofs.Draws.{draws_after_draws, draw_after}
use Rattle.demo_scene.proofs.generator.Generator.block.Goals as goal

below : (x : ℤ) (n : ℕ) → Bounded (2 ^ 15) x → n ≤ 1000 → cast_signed w32 (cast_unsigned w32 (cast_signed w32 (cast_unsigned w32 x) -ℤ cast_signed w32 (cast_unsigned w32 (pos n)))) ≡ x -ℤ pos n
below x n near few = omega (arith, ints)

above : (x : ℤ) (n : ℕ) → Bounded (2 ^ 15) x → n ≤ 1000 → cast_signed w32 (cast_unsigned w32 (cast_signed w32 (cast_unsigned w32 x) +ℤ cast_signed w32 (cast_unsigned w32 (pos n)))) ≡ x +ℤ pos n
above x n near few = omega (arith, ints)

pub returns-clause-value : goal.returns-clause-value
returns-clause-value c =
    let s = c.args.self.now.state in
    let x = c.args.centre.x in let y = c.args.centre.y in let z = c.args.centre.z in
    let across : c.half_side-across.result ≡ half_side s 0 = c.half_side-across.ensures.value in
    let second = c.half_side-across.ensures.state in
    let third = c.half_side-up.ensures.state ∙ ap (λ (t : ℕ). state_after t 1) second ∙ draws_after_draws s 1 1 in
    let up : c.half_side-up.result ≡ half_side s 1 =
    c.half_side-up.ensures.value ∙ ap (λ (t : ℕ). half_side t 0) second ∙ ap (λ (n : ℕ). pos (20 + n)) (draw_after s 1 0 1 200 refl) in
    let along : c.half_side-along.result ≡ half_side s 2 =
    c.half_side-along.ensures.value ∙ ap (λ (t : ℕ). half_side t 0) third ∙ ap (λ (n : ℕ). pos (20 + n)) (draw_after s 2 0 2 200 refl) in
    let few : (k : ℕ) → 20 + draw s k 200 ≤ 1000 = λ k. omega arith in
    rw (across, up, along)
    (rw (below x _ c.requires.x (few 0), below y _ c.requires.y (few 1), below z _ c.requires.z (few 2), above x _ c.requires.x (few 0), above y _ c.requires.y (few 1), above z _ c.requires.z (few 2)) refl)
