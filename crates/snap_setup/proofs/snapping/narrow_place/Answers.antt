use Rattle.std.proofs.Common.{FitsSigned, w64, rules}
use Rattle.std.proofs.lemmas.Int.{to_z-of_z}
use Rattle.snap_setup.proofs.Floors.{IsPlace}
use Rattle.snap_setup.proofs.NarrowPlaces.{are_narrow, placed}
use Rattle.snap_setup.proofs.snapping.narrow_place.Goals as goal

pub overflow_add-from : goal.overflow_add-from
overflow_add-from c =
    let fo : FitsSigned w64 c.args.offset = c.ranges.offset in let fw : FitsSigned w64 c.args.w = c.ranges.w in
    let fr : FitsSigned w64 c.from.result = search rules in
    let k = are_narrow c.args.pixels c.from.result c.args.offset c.args.w c.from.ensures c.requires.within c.requires.low c.requires.high c.requires.w_least c.requires.w_most in
    let fs = k.sixteenths in let fp = k.product in
    simp to_z-of_z k.sum

found : (c : goal.After-floor) → IsPlace c.args.pixels c.args.offset c.args.w c.floor.result
found c =
    let fo : FitsSigned w64 c.args.offset = c.ranges.offset in let fw : FitsSigned w64 c.args.w = c.ranges.w in
    let fr : FitsSigned w64 c.from.result = search rules in let fq : FitsSigned w64 c.floor.result = search rules in
    let k = are_narrow c.args.pixels c.from.result c.args.offset c.args.w c.from.ensures c.requires.within c.requires.low c.requires.high c.requires.w_least c.requires.w_most in
    let fs = k.sixteenths in let fp = k.product in let fn = k.sum in
    placed c.args.pixels c.from.result c.args.offset c.args.w _ c.floor.result c.from.ensures c.requires.twice (simp to_z-of_z at c.floor.ensures) c.requires.within c.requires.w_least c.requires.low c.requires.high

pub overflow_cast-result : goal.overflow_cast-result
overflow_cast-result c = let fq : FitsSigned w64 c.floor.result = search rules in simp to_z-of_z (found c).fits

pub returns-clause-value : goal.returns-clause-value
returns-clause-value c = let fq : FitsSigned w64 c.floor.result = search rules in let ff = (found c).fits in simp to_z-of_z (found c).value

pub returns-clause-within : goal.returns-clause-within
returns-clause-within c = let fq : FitsSigned w64 c.floor.result = search rules in let ff = (found c).fits in simp to_z-of_z (found c).within
