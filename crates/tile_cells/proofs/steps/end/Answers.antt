use Rattle.std.proofs.Common.{rules, sym, ◌∙◌, subst}
use Rattle.crossbeam_utils.specs.Seq.{cell_view}
use Rattle.tile_cells.specs.declared.rule.View.{View}
use Rattle.tile_cells.specs.Rule.{IsReader, AreOfOne}
use Rattle.tile_cells.proofs.Keeps.{moves_as, ends_as}
use Rattle.tile_cells.proofs.steps.end.Goals as goal

pub split_pass-fresh-requires : goal.split_pass-fresh-requires
split_pass-fresh-requires c = (search rules, (search rules, (c.requires.reader, moves_as _ _ c.requires.roles.1)))

pub join_pass-requires : goal.join_pass-requires
join_pass-requires c =
    let s = c.split_pass-fresh.ensures in
    let same = s.given.1 in
    let reads = subst IsReader (sym same) c.requires.roles.1 in
    (search rules, (search rules, ((c.requires.own, s.given.0 ∙ c.requires.reader ∙ sym c.requires.own, s.given.2), ends_as _ _ _ _ c.requires.roles.0 reads (subst (λ (v : View). AreOfOne v (cell_view c.args.pass.now)) (sym same) c.requires.same))))
