use Rattle.std.proofs.Common.{◌≡◌, Some, sym, ap, ◌∙◌, arith}
use Rattle.cull_base.proofs.Lists.{turn}
use Rattle.tile_cells.specs.Cells.{Writing}
use Rattle.tile_cells.proofs.Making.{opened_at, fresh_more}
use Rattle.tile_cells.proofs.make.write_all.Goals as goal

pub first-requires-clause-new : goal.first-requires-clause-new
first-requires-clause-new c = (opened_at c.args.cells.now c.args.list.now.list _ c.args.passes.items c.loop-pass.tile c.in-Some.pass _ c.requires.opened (sym c.loop-pass.invariant.2 ∙ c.in-Some.ensures.steps.0)).1

pub loop-pass-preserved : goal.loop-pass-preserved
loop-pass-preserved c =
    let i = c.loop-pass.invariant in
    let s = c.in-Some.ensures.steps in
    let t = turn c.args.passes.items c.loop-pass.tile c.in-Some.pass _ (sym i.2 ∙ s.0) in
    let o = opened_at c.args.cells.now c.args.list.now.list _ c.args.passes.items c.loop-pass.tile c.in-Some.pass _ c.requires.opened (sym i.2 ∙ s.0) in
    let w = c.first.ensures in
    let cell : c.in-Some.pass.table_id ≡ c.first.result.cell = sym (ap (λ (z : Writing). z.cell) w) in
    let is : c.first.result ≡ record { cell = c.first.result.cell; list = c.args.list.now.list; tile = c.loop-pass.tile; count = 0; heard = 0 } = w ∙ (λ i. record { cell = cell i; list = c.args.list.now.list; tile = c.loop-pass.tile; count = 0; heard = 0 }) in (
      tt,
      tt,
      t.0,
      omega (arith, i.3, s.1),
      rw c.push_reserved.ensures.items (fresh_more c.args.cells.now c.args.list.now.list c.loop-pass.tile c.loop-pass.writers.items c.first.result i.4 (o.0 ∙ ap Some cell) is),
      omega (arith, i.5, c.push_reserved.ensures.capacity),
    )
