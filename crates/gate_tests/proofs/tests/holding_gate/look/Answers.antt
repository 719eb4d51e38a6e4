use Rattle.std.proofs.Common.{ℕ, ◌<◌, ◌≤◌, Bool, true, false, arith, sym, subst}
use Rattle.std.specs.Prelude.{slice_index}
use Rattle.cull_base.specs.Rectangle.{meets}
use Rattle.cull_base.specs.Screen.{Dimensions, tile_count_of, tile_rect_of}
use Rattle.tile_cells.specs.Cells.{Reading}
use Rattle.tile_cells.specs.Snapshots.{ReadIf, SnapshotOf}
use Rattle.gate_tests.proofs.tests.holding_gate.look.Goals as goal

rises : (b : Bool) (t : ℕ) (old new : Reading) (was s : SnapshotOf) → ReadIf b t old new was s → slice_index old.seen t ≤ slice_index new.seen t
rises true t old new was s r = r.rises
rises false t old new was s r = let e = r.seen in omega (arith, e)

pub returns-clause-follows : goal.returns-clause-follows
returns-clause-follows g c =
    let r = c.snapshot.ensures.read in
    let was = c.args.snapshot.now in
    record {
      cells = r.cells;
      list = r.list;
      seen = λ t lt. rises (meets c.screen-screen.result (tile_rect_of was.size t)) t c.args.reader.now c.snapshot.new.self was c.snapshot.new.into
          (r.each t (subst (λ (s : Dimensions). t < tile_count_of s) (sym c.requires.size) (omega (arith, lt, c.len-tiles.ensures.cells))));
    }
