use Rattle.std.proofs.Common.{◌≡◌, ℤ, ◌+◌, ◌+ℤ◌, FitsSigned, w64, rules, refl}
use Rattle.std.proofs.lemmas.Int.{to_z-of_z}
use Rattle.clip_lines.specs.declared.line.Line.{Line}
use Rattle.clip_lines.specs.Planes.{sum_of_lines}
use Rattle.clip_lines.proofs.plane.sum_of.Goals as goal

joined : (l m n : Line) (x y w : ℤ) → x ≡ (l.x +ℤ m.x) +ℤ n.x → y ≡ (l.y +ℤ m.y) +ℤ n.y → w ≡ (l.w +ℤ m.w) +ℤ n.w
    → let s : Line = record { x = x; y = y; w = w; off = (l.off + m.off) + n.off } in s ≡ sum_of_lines l m n
joined l m n x y w ex ey ew = rw (ex, ey, ew) refl

pub returns-clause-value : goal.returns-clause-value
returns-clause-value c =
    let l = c.args.l.now in let m = c.args.m.now in let n = c.args.n.now in
    let lx : FitsSigned w64 l.x = search rules in let ly : FitsSigned w64 l.y = search rules in let lw : FitsSigned w64 l.w = search rules in
    let mx : FitsSigned w64 m.x = search rules in let my : FitsSigned w64 m.y = search rules in let mw : FitsSigned w64 m.w = search rules in
    let nx : FitsSigned w64 n.x = search rules in let ny : FitsSigned w64 n.y = search rules in let nw : FitsSigned w64 n.w = search rules in
    let fx : FitsSigned w64 c.sum_part.result = search rules in let fy : FitsSigned w64 c.sum_part-2.result = search rules in let fw : FitsSigned w64 c.sum_part-3.result = search rules in
    simp to_z-of_z (joined l m n c.sum_part.result c.sum_part-2.result c.sum_part-3.result
    (simp to_z-of_z at c.sum_part.ensures.value) (simp to_z-of_z at c.sum_part-2.ensures.value) (simp to_z-of_z at c.sum_part-3.ensures.value))
