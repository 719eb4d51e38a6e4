use Rattle.std.proofs.Common.{◌<◌, length, arith, sym, ◌∙◌, subst}
use Rattle.tile_cells.specs.Cells.{Writing}
use Rattle.tile_cells.proofs.Lists.{turn}
use Rattle.tile_queues.specs.Owners.{ArePut}
use Rattle.tile_queues.proofs.Returning.{put_more}
use Rattle.tile_queues.proofs.tile_slots.put_writers.Goals as goal

pub bounds-slots-tile : goal.bounds-slots-tile
bounds-slots-tile c =
    let i = c.loop-writer.invariant in
    let t = turn c.args.writers.items c.loop-writer.done c.in-Some.writer _ (sym i.2 ∙ c.in-Some.ensures.steps.0) in
    let own = subst (λ (w : Writing). w.tile < length c.args.slots.now) (sym t.1) (c.requires c.loop-writer.done c.in-Some.writer t.2) in
    let tile = c.tile-tile.ensures in
    let whole = i.4.whole in
    omega (arith, own, tile, whole)

pub loop-writer-preserved : goal.loop-writer-preserved
loop-writer-preserved c =
    let i = c.loop-writer.invariant in
    let s = c.in-Some.ensures.steps in
    let w = c.in-Some.writer in
    let t = turn c.args.writers.items c.loop-writer.done w _ (sym i.2 ∙ s.0) in
    let own = subst (λ (x : Writing). x.tile < length c.args.slots.now) (sym t.1) (c.requires c.loop-writer.done w t.2) in (
      tt,
      tt,
      t.0,
      omega (arith, i.3, s.1),
      put_more c.args.writers.items c.loop-writer.done c.args.slots.now c.loop-writer.slots w c.tile-tile.result i.4 t.1 t.2 own c.tile-tile.ensures,
    )

pub returns : goal.returns
returns c =
    let i = c.loop-writer.invariant in
    let none = c.in-None.ensures.steps.0 in
    subst (λ n. ArePut c.args.writers.items n c.args.slots.now c.loop-writer.slots) (omega (arith, i.3, none)) i.4
