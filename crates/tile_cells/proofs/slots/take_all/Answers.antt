use Rattle.std.proofs.Common.{◌≡◌, map, arith, sym, subst, ◌∙◌}
use Rattle.cull_base.proofs.Lists.{turn}
use Rattle.cull_base.specs.Screen.{tile_count_of}
use Rattle.tile_cells.specs.Opened.{IsOpened}
use Rattle.tile_cells.specs.Passes.{AreOpened}
use Rattle.tile_cells.proofs.Making.{opened_by}
use Rattle.tile_cells.proofs.slots.take_all.Goals as goal

pub take-requires : goal.take-requires
take-requires c =
    let i = c.loop-slot.invariant in
    let x = c.in-Some.slot in
    let t = turn c.args.slots.items c.loop-slot.tile x _ (sym i.2 ∙ c.in-Some.ensures.steps.0) in
    subst (λ s. IsOpened c.args.list.now.list c.loop-slot.tile s) (sym t.1) (c.requires.opened c.loop-slot.tile x t.2)

pub loop-slot-preserved : goal.loop-slot-preserved
loop-slot-preserved c =
    let i = c.loop-slot.invariant in
    let s = c.in-Some.ensures.steps in
    let t = turn c.args.slots.items c.loop-slot.tile c.in-Some.slot _ (sym i.2 ∙ s.0) in
    let more = opened_by (λ k. k.table.shared.table_id) c.args.list.now.list c.loop-slot.tile c.loop-slot.cells.items c.loop-slot.passes.items c.in_ok-cell.cell c.in_ok-cell.pass i.4 c.in_ok-cell.ensures.own c.in_ok-cell.ensures.named in (
      tt,
      tt,
      t.0,
      omega (arith, i.3, s.1),
      rw (c.push_reserved.ensures.items, c.push_reserved-in-loop-slot.ensures.items) more,
      (omega (arith, i.5.0, c.push_reserved.ensures.capacity), omega (arith, i.5.1, c.push_reserved-in-loop-slot.ensures.capacity)),
    )

pub returns : goal.returns
returns c =
    let i = c.loop-slot.invariant in
    let last : c.loop-slot.tile ≡ tile_count_of c.args.list.now.list.size = omega (arith, i.3, c.in-None.ensures.steps.0, c.requires.whole) in
    subst (λ n. AreOpened c.args.list.now.list n (map (λ k. k.table.shared.table_id) c.loop-slot.cells.items) c.loop-slot.passes.items) last i.4
