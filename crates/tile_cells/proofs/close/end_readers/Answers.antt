use Rattle.std.proofs.Common.{sym, ◌∙◌, arith}
use Rattle.cull_base.proofs.Lists.{turn}
use Rattle.tile_cells.proofs.Closing.{readers_more, all_readers}
use Rattle.tile_cells.proofs.close.end_readers.Goals as goal

pub loop-reader-preserved : goal.loop-reader-preserved
loop-reader-preserved c =
    let i = c.loop-reader.invariant in
    let s = c.in-Some.ensures.steps in
    let t = turn c.args.readers.items c.loop-reader.done c.in-Some.reader _ (sym i.2 ∙ s.0) in
    let m = readers_more _ c.args.readers.items c.loop-reader.done c.in-Some.reader c.args.writers.now c.loop-reader.writers c.end_reader.new.writers t.1 t.2 (omega (arith, i.4.whole, c.requires.writers.whole)) i.4 c.end_reader.ensures.same c.end_reader.ensures.heard i.5 in
    (tt, tt, t.0, omega (arith, i.3, s.1), m.0, m.1)

pub returns-clause-heard : goal.returns-clause-heard
returns-clause-heard c =
    let i = c.loop-reader.invariant in
    all_readers _ c.args.readers.items c.loop-reader.done c.loop-reader.writers (omega (arith, i.3, c.in-None.ensures.steps.0)) i.5
