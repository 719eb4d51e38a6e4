use Rattle.std.proofs.Common.{rules, sym, ◌∙◌}
use Rattle.tile_cells.proofs.Keeps.{learns_as}
use Rattle.tile_cells.proofs.steps.learn.Goals as goal

pub join_pass-requires : goal.join_pass-requires
join_pass-requires c =
    let o = c.requires.own in
    (search rules, (search rules, ((o, c.requires.note.0 ∙ sym o, c.requires.note.1), learns_as _ _ _ _ c.requires.reads.0 c.requires.reads.1 c.requires.same)))
