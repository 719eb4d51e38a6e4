use Rattle.std.proofs.Common.{◌+◌, ◌^◌, FitsSigned, w32, rules, sym, subst}
use Rattle.std.proofs.lemmas.Int.{to_z-of_z}
use Rattle.camera_path.specs.Clip.{AreWithin}
use Rattle.group_query.proofs.BoxesAround.{number_fits, picked_within, threes}
use Rattle.group_query.proofs.around.picked.Goals as goal

pub returns-clause-value : goal.returns-clause-value
returns-clause-value c =
    let a : FitsSigned w32 c.pick.result = search rules in let b : FitsSigned w32 c.pick-2.result = search rules in let d : FitsSigned w32 c.pick-3.result = search rules in
    let low = c.args.low.now in let high = c.args.high.now in let camera = c.args.camera.now.0 in
    let l0 = number_fits low 0 c.requires.low in let l1 = number_fits low 1 c.requires.low in let l2 = number_fits low 2 c.requires.low in
    let h0 = number_fits high 0 c.requires.high in let h1 = number_fits high 1 c.requires.high in let h2 = number_fits high 2 c.requires.high in
    let f0 = number_fits camera c.args.r c.requires.camera in let f1 = number_fits camera (c.args.r + 1) c.requires.camera in let f2 = number_fits camera (c.args.r + 2) c.requires.camera in
    simp to_z-of_z (threes c.pick.result c.pick-2.result c.pick-3.result _ _ _ (simp to_z-of_z at c.pick.ensures) (simp to_z-of_z at c.pick-2.ensures) (simp to_z-of_z at c.pick-3.ensures))

pub returns-clause-within : goal.returns-clause-within
returns-clause-within c =
    subst (AreWithin (2 ^ 24)) (sym (returns-clause-value c)) (picked_within (2 ^ 24) c.args.camera.now.0 c.args.r c.args.low.now c.args.high.now c.requires.low c.requires.high)
