use Rattle.std.proofs.Common.{◌∙◌, ap, rules, set}
use Rattle.std.proofs.lemmas.List.{set-get_or}
use Rattle.tile_cells.proofs.Closing.{checked_more}
use Rattle.tile_cells.proofs.close.check_all.Goals as goal

pub loop-tile-preserved : goal.loop-tile-preserved
loop-tile-preserved g c =
    let i = c.loop-tile.invariant in
    let is = c.index_mut.ensures.value in
    let w = c.index_mut.result.now in
    let m = checked_more c.args.writers.items c.loop-tile.writers.items c.loop-tile.room.items c.loop-tile.tile w c.check-state.result i.0 (search rules) (search rules) is c.check-state.ensures.state c.check-state.ensures.heard i.4 i.5 in (
      ap (λ z. set c.loop-tile.writers.items c.loop-tile.tile z) (c.check-state.ensures.same ∙ is) ∙ set-get_or c.loop-tile.writers.items c.loop-tile.tile w ∙ i.0,
      i.1,
      search rules,
      search rules,
      rw c.push_reserved.ensures.items m.0,
      m.1,
    )

pub returns-clause-states : goal.returns-clause-states
returns-clause-states g c = λ t d lt. c.loop-tile.invariant.4 t d (search rules)

pub returns-clause-heard : goal.returns-clause-heard
returns-clause-heard g c = λ t d lt. c.loop-tile.invariant.5 t d (search rules)
