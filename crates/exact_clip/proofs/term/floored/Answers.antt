use Rattle.std.proofs.Common.{FitsSigned, w64, rules}
use Rattle.std.proofs.lemmas.Int.{to_z-of_z}
use Rattle.exact_clip.proofs.Floors.{cut_off}
use Rattle.exact_clip.proofs.term.floored.Goals as goal

pub returns : goal.returns
returns c =
    let p : FitsSigned w64 c.args.product = c.ranges.product in
    let r : FitsSigned w64 c.shifted_down.result = search rules in
    let h = simp to_z-of_z at c.shifted_down.ensures.floor in
    simp to_z-of_z (record {
      floor = cut_off c.args.product c.shifted_down.result c.args.down c.min.result c.requires c.min.ensures h;
      bounded = c.shifted_down.ensures.bounded;
    })
