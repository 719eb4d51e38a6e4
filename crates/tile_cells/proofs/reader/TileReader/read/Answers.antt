use Rattle.std.proofs.Common.{◌≡◌, ℕ, ◌≤◌, ◌+◌, length, ap, sym, ◌∙◌, subst}
use Rattle.std.specs.Prelude.{slice_index, slice_set}
use Rattle.cull_base.specs.Tiles.{tile_list}
use Rattle.masked_update.specs.TileOf.{TileOf}
use Rattle.masked_update.specs.Taken.{standing_at}
use Rattle.tile_cells.proofs.Views.{after_load, load_at, seen_at, still_reading, still_seen}
use Rattle.tile_cells.proofs.reader.TileReader.read.Goals as goal

pub invariant_of-self : goal.invariant_of-self
invariant_of-self g c =
    let ps = c.self.inside.passes.items in
    let old = c.index_mut-pass.result.now in
    let at = c.index_mut-pass.ensures.value in
    let l = load_at ps c.args.tile old c.load.result c.tile_of-state.result c.args.self.now c.self.invariant.0 c.self.view_is c.requires.tile at c.load.ensures.holds c.tile_of-state.ensures in
    let count : c.count.result ≡ slice_index c.load.result 0 = c.count.ensures ∙ ap (λ (t : TileOf). t.count) l.1 in (
      still_reading ps c.args.tile old c.load.new.pass l.0 at c.load.ensures.own.0 _ _ c.self.invariant.0 c.load.ensures.seen,
      still_seen ps c.args.tile old c.load.new.pass l.0 at c.load.ensures.own.0 c.self.inside.seen.items _ c.count.result _ c.self.invariant.1 count c.load.ensures.seen,
    )

pub returns-clause-read : goal.returns-clause-read
returns-clause-read g c =
    let at = c.index_mut-pass.ensures.value in
    let l = load_at _ c.args.tile _ c.load.result c.tile_of-state.result c.args.self.now c.self.invariant.0 c.self.view_is c.requires.tile at c.load.ensures.holds c.tile_of-state.ensures in
    let count : slice_index c.load.result 0 ≡ c.tile_of-state.result.count = sym (ap (λ (t : TileOf). t.count) l.1) in
    after_load c.self.inside.passes.items c.args.tile _ c.load.new.pass l.0 at c.load.ensures.own.0 _ c.args.self.now c.load.ensures.seen c.self.view_is
    ∙ (λ i. record c.args.self.now { seen = slice_set c.args.self.now.seen c.args.tile (count i); loads = slice_set c.args.self.now.loads c.args.tile (slice_index c.args.self.now.loads c.args.tile + 1) })

pub returns-clause-rises : goal.returns-clause-rises
returns-clause-rises g c =
    let at = c.index_mut-pass.ensures.value in
    let l = load_at _ c.args.tile _ c.load.result c.tile_of-state.result c.args.self.now c.self.invariant.0 c.self.view_is c.requires.tile at c.load.ensures.holds c.tile_of-state.ensures in
    let seen = seen_at c.self.inside.passes.items c.args.tile _ c.args.self.now at l.0 c.self.view_is in
    subst (λ (z : ℕ × ℕ). z.0 ≤ z.1) (λ i. (sym seen i, sym (ap (λ (t : TileOf). t.count) l.1) i)) c.load.ensures.rises

pub returns-clause-within : goal.returns-clause-within
returns-clause-within g c =
    let l = load_at _ c.args.tile _ c.load.result c.tile_of-state.result c.args.self.now c.self.invariant.0 c.self.view_is c.requires.tile c.index_mut-pass.ensures.value c.load.ensures.holds c.tile_of-state.ensures in
    subst (λ k. k ≤ length (tile_list c.args.tile c.args.self.now.list)) (sym (ap (λ (t : TileOf). t.count) l.1)) l.2

pub returns-clause-state : goal.returns-clause-state
returns-clause-state g c =
    let l = load_at _ c.args.tile _ c.load.result c.tile_of-state.result c.args.self.now c.self.invariant.0 c.self.view_is c.requires.tile c.index_mut-pass.ensures.value c.load.ensures.holds c.tile_of-state.ensures in
    l.1 ∙ ap (λ k. standing_at c.args.tile k c.args.self.now.list) (sym (ap (λ (t : TileOf). t.count) l.1))
