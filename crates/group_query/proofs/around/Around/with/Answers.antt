use Rattle.std.proofs.Common.{◌^◌, FitsSigned, w32, rules, sym, subst}
use Rattle.std.proofs.lemmas.Int.{to_z-of_z}
use Rattle.camera_path.specs.Clip.{AreWithin}
use Rattle.group_query.specs.declared.around.Around.{Around}
use Rattle.group_query.proofs.BoxesAround.{number_fits, spread_high, spread_is, spread_low}
use Rattle.group_query.proofs.around.Around.with.Goals as goal

pub returns-clause-value : goal.returns-clause-value
returns-clause-value c =
    let x : FitsSigned w32 c.min.result = search rules in let y : FitsSigned w32 c.min-2.result = search rules in let z : FitsSigned w32 c.min-3.result = search rules in
    let p : FitsSigned w32 c.max.result = search rules in let q : FitsSigned w32 c.max-2.result = search rules in let r : FitsSigned w32 c.max-3.result = search rules in
    let a = c.args.self.now in let low = c.args.low.now in let high = c.args.high.now in
    let a0 = number_fits a.low 0 c.requires.low in let a1 = number_fits a.low 1 c.requires.low in let a2 = number_fits a.low 2 c.requires.low in
    let b0 = number_fits a.high 0 c.requires.high in let b1 = number_fits a.high 1 c.requires.high in let b2 = number_fits a.high 2 c.requires.high in
    let l0 = number_fits low 0 c.requires.own_low.1 in let l1 = number_fits low 1 c.requires.own_low.1 in let l2 = number_fits low 2 c.requires.own_low.1 in
    let h0 = number_fits high 0 c.requires.own_high.1 in let h1 = number_fits high 1 c.requires.own_high.1 in let h2 = number_fits high 2 c.requires.own_high.1 in
    simp to_z-of_z (spread_is c.args.self.now c.args.low.now c.args.high.now c.min.result c.min-2.result c.min-3.result c.max.result c.max-2.result c.max-3.result
    (simp to_z-of_z at c.min.ensures.value) (simp to_z-of_z at c.min-2.ensures.value) (simp to_z-of_z at c.min-3.ensures.value) (simp to_z-of_z at c.max.ensures.value) (simp to_z-of_z at c.max-2.ensures.value) (simp to_z-of_z at c.max-3.ensures.value))

pub returns-clause-low : goal.returns-clause-low
returns-clause-low c =
    subst (λ (a : Around). AreWithin (2 ^ 24) a.low) (sym (returns-clause-value c)) (spread_low (2 ^ 24) c.args.self.now c.args.low.now c.args.high.now c.requires.low c.requires.own_low.1)

pub returns-clause-high : goal.returns-clause-high
returns-clause-high c =
    subst (λ (a : Around). AreWithin (2 ^ 24) a.high) (sym (returns-clause-value c)) (spread_high (2 ^ 24) c.args.self.now c.args.low.now c.args.high.now c.requires.high c.requires.own_high.1)
