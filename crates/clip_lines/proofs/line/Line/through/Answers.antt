use Rattle.std.proofs.Common.{◌≡◌, ◌*ℤ◌, ◌-ℤ◌, ℤ, FitsSigned, w64, arith, rules, refl}
use Rattle.std.proofs.lemmas.Int.{to_z-of_z}
use Rattle.exact_clip.specs.Clip.{Clip}
use Rattle.clip_lines.specs.Lines.{cross}
use Rattle.clip_lines.specs.Parts.{of_corner}
use Rattle.clip_lines.proofs.Crosses.{cross-stands}
use Rattle.clip_lines.proofs.line.Line.through.Goals as goal

joined : (p q : Clip) (x y w : ℤ) → x ≡ (p.y *ℤ q.w) -ℤ (p.w *ℤ q.y) → y ≡ (p.w *ℤ q.x) -ℤ (p.x *ℤ q.w) → w ≡ (p.x *ℤ q.y) -ℤ (p.y *ℤ q.x)
    → let l : Clip = record { x = x; y = y; w = w } in l ≡ cross p q
joined p q x y w ex ey ew = rw (ex, ey, ew) refl

pub returns-clause-value : goal.returns-clause-value
returns-clause-value c =
    let p = c.args.p.now in let q = c.args.q.now in
    let px : FitsSigned w64 p.x = search rules in let py : FitsSigned w64 p.y = search rules in let pw : FitsSigned w64 p.w = search rules in
    let qx : FitsSigned w64 q.x = search rules in let qy : FitsSigned w64 q.y = search rules in let qw : FitsSigned w64 q.w = search rules in
    let fx : FitsSigned w64 c.cross_part.result = search rules in let fy : FitsSigned w64 c.cross_part-2.result = search rules in let fw : FitsSigned w64 c.cross_part-3.result = search rules in
    simp to_z-of_z (joined (of_corner p) (of_corner q) c.cross_part.result c.cross_part-2.result c.cross_part-3.result
    (simp to_z-of_z at c.cross_part.ensures.value) (simp to_z-of_z at c.cross_part-2.ensures.value) (simp to_z-of_z at c.cross_part-3.ensures.value))

pub returns-clause-off : goal.returns-clause-off
returns-clause-off c = omega (arith, c.norm.ensures, c.norm-2.ensures)

pub returns-clause-stands : goal.returns-clause-stands
returns-clause-stands c scale a b h i =
    let v = returns-clause-value c in
    rw v (cross-stands scale _ (of_corner c.args.p.now) (of_corner c.args.q.now) a b (returns-clause-off c) h i)
