use Rattle.std.proofs.Common.{◌≡◌, ℤ, pos, ◌+◌, ◌+ℤ◌, ◌*ℤ◌, ◌^◌, get_or, FitsSigned, w32, rules, sym, ap₂, ◌∙◌, subst}
use Rattle.std.specs.Int.RustNames.{unsigned_abs}
use Rattle.std.proofs.lemmas.Int.{to_z-of_z}
use Rattle.cull_base.specs.Bounds.{Bounded}
use Rattle.point_lanes.proofs.Rowing.{are_small, coordinate_is, factor_small, high_at, high_small, passed_at, turned_first, turned_last}
use Rattle.point_lanes.proofs.rows.SmallRow.coordinates.Goals as goal

pub times-across-requires-clause-factor : goal.times-across-requires-clause-factor
times-across-requires-clause-factor c =
    let s = c.args.self.now in
    let fa : FitsSigned w32 s.a = search rules in let fb : FitsSigned w32 s.b = search rules in let fc : FitsSigned w32 s.c = search rules in
    simp to_z-of_z (factor_small s.a (unsigned_abs s.b + unsigned_abs s.c) (turned_first (unsigned_abs s.a) (unsigned_abs s.b) (unsigned_abs s.c) s.small))

pub times-down-requires-clause-factor : goal.times-down-requires-clause-factor
times-down-requires-clause-factor c =
    let s = c.args.self.now in
    let fa : FitsSigned w32 s.a = search rules in let fb : FitsSigned w32 s.b = search rules in let fc : FitsSigned w32 s.c = search rules in
    simp to_z-of_z (factor_small s.b (unsigned_abs s.a + unsigned_abs s.c) (turned_last (unsigned_abs s.a) (unsigned_abs s.b) (unsigned_abs s.c) s.small).0)

pub times-away-requires-clause-factor : goal.times-away-requires-clause-factor
times-away-requires-clause-factor c =
    let s = c.args.self.now in
    let fa : FitsSigned w32 s.a = search rules in let fb : FitsSigned w32 s.b = search rules in let fc : FitsSigned w32 s.c = search rules in
    simp to_z-of_z (factor_small s.c (unsigned_abs s.a + unsigned_abs s.b) (turned_last (unsigned_abs s.a) (unsigned_abs s.b) (unsigned_abs s.c) s.small).1)

pub sums_of-requires-clause-a : goal.sums_of-requires-clause-a
sums_of-requires-clause-a c j lt =
    let s = c.args.self.now in
    let fa : FitsSigned w32 s.a = search rules in let fb : FitsSigned w32 s.b = search rules in let fc : FitsSigned w32 s.c = search rules in
    let ea : get_or c.times-across.result j (pos 0) ≡ s.a *ℤ get_or c.args.x j (pos 0) = simp to_z-of_z at (c.times-across.ensures j lt) in
    subst (λ (t : ℤ). Bounded (2 ^ 46) t) (sym ea) (are_small s.a s.b s.c (get_or c.args.x j (pos 0)) (get_or c.args.y j (pos 0)) (get_or c.args.z j (pos 0)) s.small (c.requires.x j lt) (c.requires.y j lt) (c.requires.z j lt)).first

pub sums_of-requires-clause-b : goal.sums_of-requires-clause-b
sums_of-requires-clause-b c j lt =
    let s = c.args.self.now in
    let fa : FitsSigned w32 s.a = search rules in let fb : FitsSigned w32 s.b = search rules in let fc : FitsSigned w32 s.c = search rules in
    let eb : get_or c.times-down.result j (pos 0) ≡ s.b *ℤ get_or c.args.y j (pos 0) = simp to_z-of_z at (c.times-down.ensures j lt) in
    subst (λ (t : ℤ). Bounded (2 ^ 46) t) (sym eb) (are_small s.a s.b s.c (get_or c.args.x j (pos 0)) (get_or c.args.y j (pos 0)) (get_or c.args.z j (pos 0)) s.small (c.requires.x j lt) (c.requires.y j lt) (c.requires.z j lt)).second

pub sums_of-requires-clause-c : goal.sums_of-requires-clause-c
sums_of-requires-clause-c c j lt =
    let s = c.args.self.now in
    let fa : FitsSigned w32 s.a = search rules in let fb : FitsSigned w32 s.b = search rules in let fc : FitsSigned w32 s.c = search rules in
    let ec : get_or c.times-away.result j (pos 0) ≡ s.c *ℤ get_or c.args.z j (pos 0) = simp to_z-of_z at (c.times-away.ensures j lt) in
    subst (λ (t : ℤ). Bounded (2 ^ 46) t) (sym ec) (are_small s.a s.b s.c (get_or c.args.x j (pos 0)) (get_or c.args.y j (pos 0)) (get_or c.args.z j (pos 0)) s.small (c.requires.x j lt) (c.requires.y j lt) (c.requires.z j lt)).third

pub sums_of-requires-clause-sums : goal.sums_of-requires-clause-sums
sums_of-requires-clause-sums c j lt =
    let s = c.args.self.now in
    let fa : FitsSigned w32 s.a = search rules in let fb : FitsSigned w32 s.b = search rules in let fc : FitsSigned w32 s.c = search rules in
    let ea : get_or c.times-across.result j (pos 0) ≡ s.a *ℤ get_or c.args.x j (pos 0) = simp to_z-of_z at (c.times-across.ensures j lt) in
    let eb : get_or c.times-down.result j (pos 0) ≡ s.b *ℤ get_or c.args.y j (pos 0) = simp to_z-of_z at (c.times-down.ensures j lt) in
    let ec : get_or c.times-away.result j (pos 0) ≡ s.c *ℤ get_or c.args.z j (pos 0) = simp to_z-of_z at (c.times-away.ensures j lt) in
    rw (ea, eb, ec) (are_small s.a s.b s.c (get_or c.args.x j (pos 0)) (get_or c.args.y j (pos 0)) (get_or c.args.z j (pos 0)) s.small (c.requires.x j lt) (c.requires.y j lt) (c.requires.z j lt)).all

pub moved-requires-clause-numbers : goal.moved-requires-clause-numbers
moved-requires-clause-numbers c j lt =
    let s = c.args.self.now in
    let fa : FitsSigned w32 s.a = search rules in let fb : FitsSigned w32 s.b = search rules in let fc : FitsSigned w32 s.c = search rules in
    let ea : get_or c.times-across.result j (pos 0) ≡ s.a *ℤ get_or c.args.x j (pos 0) = simp to_z-of_z at (c.times-across.ensures j lt) in
    let eb : get_or c.times-down.result j (pos 0) ≡ s.b *ℤ get_or c.args.y j (pos 0) = simp to_z-of_z at (c.times-down.ensures j lt) in
    let ec : get_or c.times-away.result j (pos 0) ≡ s.c *ℤ get_or c.args.z j (pos 0) = simp to_z-of_z at (c.times-away.ensures j lt) in
    let near : Bounded (2 ^ 30) (get_or c.high_halves.result j (pos 0)) =
    high_small (get_or c.times-across.result j (pos 0)) (get_or c.times-down.result j (pos 0)) (get_or c.times-away.result j (pos 0)) (get_or c.sums_of.result j (pos 0)) (get_or c.high_halves.result j (pos 0))
    (rw (ea, eb, ec) (are_small s.a s.b s.c (get_or c.args.x j (pos 0)) (get_or c.args.y j (pos 0)) (get_or c.args.z j (pos 0)) s.small (c.requires.x j lt) (c.requires.y j lt) (c.requires.z j lt)).all) (c.sums_of.ensures j lt) (high_at c.sums_of.result c.high_halves.result c.high_halves.ensures.eight c.high_halves.ensures.value j lt) in
    subst (λ (t : ℤ). Bounded (2 ^ 30) t) (sym (passed_at c.high_halves.result c.high_halves.ensures.eight j lt near)) near

pub returns : goal.returns
returns c j lt =
    let s = c.args.self.now in
    let fa : FitsSigned w32 s.a = search rules in let fb : FitsSigned w32 s.b = search rules in let fc : FitsSigned w32 s.c = search rules in
    let fo : FitsSigned w32 s.offset = search rules in
    let ea : get_or c.times-across.result j (pos 0) ≡ s.a *ℤ get_or c.args.x j (pos 0) = simp to_z-of_z at (c.times-across.ensures j lt) in
    let eb : get_or c.times-down.result j (pos 0) ≡ s.b *ℤ get_or c.args.y j (pos 0) = simp to_z-of_z at (c.times-down.ensures j lt) in
    let ec : get_or c.times-away.result j (pos 0) ≡ s.c *ℤ get_or c.args.z j (pos 0) = simp to_z-of_z at (c.times-away.ensures j lt) in
    let near : Bounded (2 ^ 30) (get_or c.high_halves.result j (pos 0)) =
    high_small (get_or c.times-across.result j (pos 0)) (get_or c.times-down.result j (pos 0)) (get_or c.times-away.result j (pos 0)) (get_or c.sums_of.result j (pos 0)) (get_or c.high_halves.result j (pos 0))
    (rw (ea, eb, ec) (are_small s.a s.b s.c (get_or c.args.x j (pos 0)) (get_or c.args.y j (pos 0)) (get_or c.args.z j (pos 0)) s.small (c.requires.x j lt) (c.requires.y j lt) (c.requires.z j lt)).all) (c.sums_of.ensures j lt) (high_at c.sums_of.result c.high_halves.result c.high_halves.ensures.eight c.high_halves.ensures.value j lt) in
    let eo = to_z-of_z w32 s.offset fo in
    let em : get_or c.moved.result j (pos 0) ≡ get_or c.high_halves.result j (pos 0) +ℤ s.offset =
    c.moved.ensures j lt ∙ ap₂ (λ (t u : ℤ). t +ℤ u) (passed_at c.high_halves.result c.high_halves.ensures.eight j lt near) eo in
    coordinate_is s.a s.b s.c s.offset (get_or c.args.x j (pos 0)) (get_or c.args.y j (pos 0)) (get_or c.args.z j (pos 0)) _ _ _ (get_or c.sums_of.result j (pos 0)) (get_or c.high_halves.result j (pos 0)) _ ea eb ec
    (c.sums_of.ensures j lt) (high_at c.sums_of.result c.high_halves.result c.high_halves.ensures.eight c.high_halves.ensures.value j lt) em
