use Rattle.std.proofs.Common.{arith, rules, sym, ◌∙◌}
use Rattle.std.specs.Prelude.{slice_index_or}
use Rattle.cull_base.proofs.Lists.{turn}
use Rattle.tile_cells.proofs.Closing.{end_more, in_turn}
use Rattle.tile_cells.proofs.close.end_reader.Goals as goal

pub end-requires-clause-of : goal.end-requires-clause-of
end-requires-clause-of c =
    let i = c.loop-pass.invariant in
    let ps = c.into_passes-pass-items in
    (in_turn c.args.cells.now c.args.reader ps.result.items _ _ c.loop-pass.tile c.in-Some.pass _ c.args.writers.now c.loop-pass.writers c.index-writers-tile.result ps.ensures.reads ps.ensures.reading c.requires.writers c.requires.reader i.4 (search rules) i.2 c.in-Some.ensures.steps.0).at

pub end-requires-clause-reads : goal.end-requires-clause-reads
end-requires-clause-reads c =
    let i = c.loop-pass.invariant in
    let ps = c.into_passes-pass-items in
    let t = in_turn c.args.cells.now c.args.reader ps.result.items _ _ c.loop-pass.tile c.in-Some.pass _ c.args.writers.now c.loop-pass.writers c.index-writers-tile.result ps.ensures.reads ps.ensures.reading c.requires.writers c.requires.reader i.4 (search rules) i.2 c.in-Some.ensures.steps.0 in
    (t.cell, t.reads)

pub loop-pass-preserved : goal.loop-pass-preserved
loop-pass-preserved c =
    let i = c.loop-pass.invariant in
    let s = c.in-Some.ensures.steps in
    let ps = c.into_passes-pass-items in
    let w = slice_index_or c.loop-pass.writers c.loop-pass.tile c.index-writers-tile.result in
    let t = in_turn c.args.cells.now c.args.reader ps.result.items _ _ c.loop-pass.tile c.in-Some.pass _ c.args.writers.now c.loop-pass.writers c.index-writers-tile.result ps.ensures.reads ps.ensures.reading c.requires.writers c.requires.reader i.4 (search rules) i.2 s.0 in
    let m = end_more c.args.writers.now c.loop-pass.writers c.args.reader.seen c.loop-pass.tile _ w c.end.new.self i.4 i.5 (omega (arith, t.on_screen, c.requires.writers.whole)) (search rules) c.end.ensures t.seen in
    (tt, tt, (turn _ c.loop-pass.tile c.in-Some.pass _ (sym i.2 ∙ s.0)).0, omega (arith, i.3, s.1), m.0, m.1)
