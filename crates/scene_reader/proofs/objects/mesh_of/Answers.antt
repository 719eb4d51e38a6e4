use Rattle.std.proofs.Common.{◌≡◌, w32, rules, length, get_or, pos, arith}
use Rattle.std.proofs.lemmas.Int.{to_z-of_z}
use mir.Val.{SFits}
use Rattle.scene_reader.proofs.Shapes.{mesh_first, mesh_second, mesh_padded, not_zero}
use Rattle.scene_reader.proofs.objects.mesh_of.Goals as goal
use Rattle.scene_reader.proofs.objects.mesh_of.Goals.{then-n-lt0-via-then-n-lt0, then-n-lt0-via-else-n-lt0+then-n-lt0-2, then-n-lt0-via-else-n-lt0+else-n-lt0-2+then-n-ne0, then-n-lt0-via-else-n-lt0+else-n-lt0-2+else-n-ne0+then-n-ne0-2, then-n-lt0-via-else-n-lt0+else-n-lt0-2+else-n-ne0+else-n-ne0-2+then-n-ne0-3, then-n-lt0-via-else-n-lt0+else-n-lt0-2+else-n-ne0+else-n-ne0-2+else-n-ne0-3+then-n-ne0-4}

pub returns-then-n-lt0-clause-refused : goal.returns-then-n-lt0-clause-refused
returns-then-n-lt0-clause-refused c = λ m.
    let n = c.args.n.now in
    let f0 : SFits w32 (get_or n 0 (pos 0)) = search rules in
    let long : length n ≡ 6 = c.told-n in
    elim c.then-n-lt0.branch [
      | then-n-lt0-via-then-n-lt0 w ↦ mesh_first m n (simp to_z-of_z at w.if-n-lt0.true)
      | then-n-lt0-via-else-n-lt0+then-n-lt0-2 w ↦ let f1 : SFits w32 (get_or n 1 (pos 0)) = search rules in mesh_second m n (simp to_z-of_z at w.if-n-lt0-2.true)
      | then-n-lt0-via-else-n-lt0+else-n-lt0-2+then-n-ne0 w ↦ mesh_padded m n 0 (omega arith) (not_zero (get_or n 2 (pos 0)) w.if-n-ne0.true)
      | then-n-lt0-via-else-n-lt0+else-n-lt0-2+else-n-ne0+then-n-ne0-2 w ↦ mesh_padded m n 1 (omega arith) (not_zero (get_or n 3 (pos 0)) w.if-n-ne0-2.true)
      | then-n-lt0-via-else-n-lt0+else-n-lt0-2+else-n-ne0+else-n-ne0-2+then-n-ne0-3 w ↦ mesh_padded m n 2 (omega arith) (not_zero (get_or n 4 (pos 0)) w.if-n-ne0-3.true)
      | then-n-lt0-via-else-n-lt0+else-n-lt0-2+else-n-ne0+else-n-ne0-2+else-n-ne0-3+then-n-ne0-4 w ↦ mesh_padded m n 3 (omega arith) (not_zero (get_or n 5 (pos 0)) w.if-n-ne0-4.true)
    ]
