use Rattle.std.proofs.Common.{◌≡◌, ℤ, [], ◌∷◌, FitsSigned, w64, rules, refl}
use Rattle.std.proofs.lemmas.Int.{to_z-of_z}
use Rattle.edge_lanes.specs.Lanes.{subtile_step, subtile_steps}
use Rattle.edge_lanes.proofs.wide_edge.subtile_steps.Goals as goal

eight : (column row a b c d e f g h : ℤ) → a ≡ subtile_step column row 0 → b ≡ subtile_step column row 1 → c ≡ subtile_step column row 2 → d ≡ subtile_step column row 3 →
    e ≡ subtile_step column row 4 → f ≡ subtile_step column row 5 → g ≡ subtile_step column row 6 → h ≡ subtile_step column row 7 →
    (a ∷ b ∷ c ∷ d ∷ e ∷ f ∷ g ∷ h ∷ []) ≡ subtile_steps column row
eight column row a b c d e f g h ea eb ec ed ee ef eg eh = rw (ea, eb, ec, ed, ee, ef, eg, eh) refl

pub returns : goal.returns
returns c =
    let fc : FitsSigned w64 c.args.column = c.ranges.column in let fr : FitsSigned w64 c.args.row = c.ranges.row in
    let f0 : FitsSigned w64 c.subtile_step.result = search rules in let f1 : FitsSigned w64 c.subtile_step-2.result = search rules in
    let f2 : FitsSigned w64 c.subtile_step-3.result = search rules in let f3 : FitsSigned w64 c.subtile_step-4.result = search rules in
    let f4 : FitsSigned w64 c.subtile_step-5.result = search rules in let f5 : FitsSigned w64 c.subtile_step-6.result = search rules in
    let f6 : FitsSigned w64 c.subtile_step-7.result = search rules in let f7 : FitsSigned w64 c.subtile_step-8.result = search rules in
    simp to_z-of_z (eight c.args.column c.args.row c.subtile_step.result c.subtile_step-2.result c.subtile_step-3.result c.subtile_step-4.result c.subtile_step-5.result c.subtile_step-6.result c.subtile_step-7.result c.subtile_step-8.result
    (simp to_z-of_z at c.subtile_step.ensures.value) (simp to_z-of_z at c.subtile_step-2.ensures.value) (simp to_z-of_z at c.subtile_step-3.ensures.value) (simp to_z-of_z at c.subtile_step-4.ensures.value)
    (simp to_z-of_z at c.subtile_step-5.ensures.value) (simp to_z-of_z at c.subtile_step-6.ensures.value) (simp to_z-of_z at c.subtile_step-7.ensures.value) (simp to_z-of_z at c.subtile_step-8.ensures.value))
