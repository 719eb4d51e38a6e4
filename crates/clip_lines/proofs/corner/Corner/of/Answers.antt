use Rattle.std.proofs.Common.{ℤ, ℕ, ◌*◌, ◌^◌, FitsSigned, w64, rules}
use Rattle.std.proofs.lemmas.Int.{to_z-of_z}
use Rattle.exact_clip.specs.Clip.{Clip}
use Rattle.exact_clip.specs.Held.{IsHeld, Holds}
use Rattle.exact_clip.specs.declared.held.Held.{Held}
use Rattle.clip_lines.specs.Lines.{IsWithin, StandsFor}
use Rattle.clip_lines.proofs.corner.Corner.of.Goals as goal

abbrev Near : ℕ → ℤ → ℤ → Type 0
Near shift v r = (unit : ℕ) (exact : ℤ) → IsHeld unit v exact → IsWithin (unit * 2 ^ shift) 1 r exact

by_parts : (unit shift : ℕ) (v : Held) (x y w : ℤ) (exact : Clip) → Near shift v.x x → Near shift v.y y → Near shift v.w w → Holds unit v exact
    → StandsFor (unit * 2 ^ shift) 1 (record { x = x; y = y; w = w }) exact
by_parts unit shift v x y w exact nx ny nw h = record { x = nx unit exact.x h.x; y = ny unit exact.y h.y; w = nw unit exact.w h.w }

pub returns-clause-stands : goal.returns-clause-stands
returns-clause-stands c unit exact h =
    let v = c.args.v.now in
    let fx : FitsSigned w64 v.x = search rules in let fy : FitsSigned w64 v.y = search rules in let fw : FitsSigned w64 v.w = search rules in
    let gx : FitsSigned w64 c.steps_of.result = search rules in let gy : FitsSigned w64 c.steps_of-2.result = search rules in let gw : FitsSigned w64 c.steps_of-3.result = search rules in
    simp to_z-of_z (by_parts unit c.args.shift v c.steps_of.result c.steps_of-2.result c.steps_of-3.result exact
    (simp to_z-of_z at c.steps_of.ensures.near) (simp to_z-of_z at c.steps_of-2.ensures.near) (simp to_z-of_z at c.steps_of-3.ensures.near) h)
