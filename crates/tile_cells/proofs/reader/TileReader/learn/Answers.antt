use Rattle.std.proofs.Common.{◌≡◌, ◌<◌, max, length, ap, sym, ◌∙◌, subst}
use Rattle.std.specs.Prelude.{slice_index, slice_set}
use Rattle.std.proofs.lemmas.Option.{slice_get_within}
use Rattle.tile_cells.specs.declared.rule.View.{View}
use Rattle.tile_cells.specs.Passes.{number_at}
use Rattle.tile_cells.proofs.Views.{after_learn, named_below, seen_beside, still_reading, still_seen}
use Rattle.tile_cells.proofs.reader.TileReader.learn.Goals as goal

pub invariant_of-self : goal.invariant_of-self
invariant_of-self g c =
    let tile = c.tile-tile.result in
    let ps = c.self.inside.passes.items in
    let old = c.index_mut-pass.result.now in
    let new = c.learn.new.pass in
    let at = c.index_mut-pass.ensures.value in
    let on_screen = subst (λ t. t < length c.args.cells.now) (sym c.tile-tile.ensures) (slice_get_within c.args.cells.now c.args.note.tile c.args.note.cell c.requires.note.0) in
    let lt : tile < length ps = named_below ps c.args.self.now c.args.cells.now tile c.self.view_is c.requires.of on_screen in
    let count = ap (λ (v : View). v.number) c.into_pass.ensures.told in
    let seen : c.index_mut-seen.result.now ≡ number_at old = seen_beside ps tile old c.self.inside.seen.items c.index_mut-seen.result.now lt at c.self.invariant.1 c.index_mut-seen.ensures.value in
    let known : c.max.result ≡ max (number_at old) (number_at c.into_pass.result) = c.max.ensures ∙ (λ i. max (seen i) ((c.count-count.ensures ∙ sym count) i)) in (
      still_reading ps tile old new lt at c.learn.ensures.own.0 _ _ c.self.invariant.0 c.learn.ensures.learned,
      still_seen ps tile old new lt at c.learn.ensures.own.0 c.self.inside.seen.items _ c.max.result _ c.self.invariant.1 known c.learn.ensures.learned,
    )

pub returns : goal.returns
returns g c =
    let tile = c.tile-tile.result in
    let ps = c.self.inside.passes.items in
    let on_screen = subst (λ t. t < length c.args.cells.now) (sym c.tile-tile.ensures) (slice_get_within c.args.cells.now c.args.note.tile c.args.note.cell c.requires.note.0) in
    let lt : tile < length ps = named_below ps c.args.self.now c.args.cells.now tile c.self.view_is c.requires.of on_screen in
    let count : number_at c.into_pass.result ≡ c.args.note.count = ap (λ (v : View). v.number) c.into_pass.ensures.told in
    after_learn ps tile c.index_mut-pass.result.now c.learn.new.pass lt c.index_mut-pass.ensures.value c.learn.ensures.own.0 (number_at c.into_pass.result) c.args.self.now c.learn.ensures.learned c.self.view_is
    ∙ (λ i. record c.args.self.now { seen = slice_set c.args.self.now.seen (c.tile-tile.ensures i) (max (slice_index c.args.self.now.seen (c.tile-tile.ensures i)) (count i)) })
