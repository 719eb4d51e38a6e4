use Rattle.std.proofs.Common.{FitsSigned, w64, rules}
use Rattle.std.proofs.lemmas.Int.{to_z-of_z}
use Rattle.snap_setup.proofs.Floors.{IsPlace}
use Rattle.snap_setup.proofs.NarrowPlaces.{are_narrow, placed}
use Rattle.snap_setup.proofs.snapping.short_place.Goals as goal

pub overflow_add-from : goal.overflow_add-from
overflow_add-from c =
    let fo : FitsSigned w64 c.args.offset = c.ranges.offset in let fw : FitsSigned w64 c.args.w = c.ranges.w in
    let fr : FitsSigned w64 c.from.result = search rules in
    let k = are_narrow c.args.pixels c.from.result c.args.offset c.args.w c.from.ensures c.requires.within c.requires.low c.requires.high c.requires.w_least c.requires.w_most in
    let fs = k.sixteenths in let fp = k.product in
    simp to_z-of_z k.sum

found : (c : goal.In-Some) → IsPlace c.args.pixels c.args.offset c.args.w c.in-Some.place
found c =
    let fo : FitsSigned w64 c.args.offset = c.ranges.offset in let fw : FitsSigned w64 c.args.w = c.ranges.w in
    let fr : FitsSigned w64 c.from.result = search rules in let fq : FitsSigned w64 c.in-Some.place = search rules in
    let k = are_narrow c.args.pixels c.from.result c.args.offset c.args.w c.from.ensures c.requires.within c.requires.low c.requires.high c.requires.w_least c.requires.w_most in
    let fs = k.sixteenths in let fp = k.product in let fn = k.sum in
    placed c.args.pixels c.from.result c.args.offset c.args.w _ c.in-Some.place c.from.ensures c.requires.twice (simp to_z-of_z at c.in-Some.ensures) c.requires.within c.requires.w_least c.requires.low c.requires.high

pub overflow_cast-result : goal.overflow_cast-result
overflow_cast-result c = let fq : FitsSigned w64 c.in-Some.place = search rules in simp to_z-of_z (found c).fits

pub returns-in-Some : goal.returns-in-Some
returns-in-Some c = let fq : FitsSigned w64 c.in-Some.place = search rules in let ff = (found c).fits in simp to_z-of_z ((found c).value, (found c).within)
