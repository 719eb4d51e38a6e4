use Rattle.std.proofs.Common.{sym, ◌∙◌, ◌≤ℤ◌, negsuc, pos, ◌*ℤ◌, arith, FitsSigned, w64}
use Rattle.std.proofs.lemmas.Int.{ints, to_z-of_z}
use Rattle.edge_lanes.proofs.Floors.{le_of}
use Rattle.edge_lanes.proofs.turned.Turned.is_near.Goals as goal
use Rattle.edge_lanes.proofs.turned.Turned.is_near.Goals.{then-self, else-self, then-self-le-FARTHEST, else-self-le-FARTHEST}

pub returns-then-self-2 : goal.returns-then-self-2
returns-then-self-2 c h =
    let v = c.args.self.now in let a = v.start_bounded in let b = v.size_bounded in let p = v.positive in let r = v.row_bounded in
    let fs : FitsSigned w64 v.start = omega (arith, ints, a) in let fz : FitsSigned w64 v.size = omega (arith, ints, b, p) in
    let fr : FitsSigned w64 v.row = omega (arith, ints, r) in
    let fn : FitsSigned w64 (negsuc 262143 *ℤ v.size) = omega (arith, ints, b, p) in
    let fp : FitsSigned w64 (pos 262144 *ℤ v.size) = omega (arith, ints, b, p) in
    elim c.if-self-le-FARTHEST.branch [
      | then-self-le-FARTHEST w ↦
          elim c.if-self.branch [
            | then-self u ↦
                let least : negsuc 1073741823 ≤ℤ v.start = le_of _ _ (simp to_z-of_z at u.if-self.true) in
                let most : v.start ≤ℤ pos 1073741824 = le_of _ _ (simp to_z-of_z at (sym u.value-is ∙ w.if-self-le-FARTHEST.true)) in
                let t = sym w.value-is ∙ c.if-self-2.true in
                record {
                  start = (least, most);
                  above = le_of _ _ (simp to_z-of_z at h);
                  below = le_of _ _ (simp to_z-of_z at t);
                }
            | else-self u ↦ let s = u.value-is in let t = w.if-self-le-FARTHEST.true in absurd (cc)
          ]
      | else-self-le-FARTHEST w ↦ let t = w.value-is in let u = c.if-self-2.true in absurd (cc)
    ]
