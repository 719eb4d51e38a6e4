use Rattle.std.proofs.Common.{◌≡◌, ℕ, ◌<◌, List, get_or-set_other, get_or-set_same, arith, refl, sym, ap, ◌∙◌, subst, inl, inr}
use Rattle.std.specs.Prelude.{slice_index}
use Rattle.std.proofs.lemmas.Bool.{cases_lt}
use Rattle.cull_base.specs.Screen.{tile_count_of}
use Rattle.masked_update.specs.TileOf.{TileOf, empty_tile, no_tile, tile_at}
use Rattle.live_check.specs.Standing.{AreWhole, StandsBehind, TilesOf}
use Rattle.live_check.proofs.Moves.{stands_none}
use Rattle.live_check.proofs.tiles.Tiles.empty.Goals as goal

pub loop-tile-init : goal.loop-tile-init
loop-tile-init c = record { size = refl; whole = subst AreWhole c.self.view_is c.self.invariant; states = λ t lt. absurd (omega (arith, lt)); behind = λ t lt. absurd (omega (arith, lt)) }

pub clear-requires : goal.clear-requires
clear-requires c = rw c.loop-tile.invariant.size (omega (arith, c.loop-tile-test.true, c.tile_count-count.ensures.value, ap (λ (x : TilesOf). tile_count_of x.size) c.self.view_is))

pub loop-tile-preserved : goal.loop-tile-preserved
loop-tile-preserved c =
    let i = c.loop-tile.invariant in
    let lt : c.loop-tile.tile < tile_count_of c.loop-tile.self.size = rw i.size (omega (arith, c.loop-tile-test.true, c.tile_count-count.ensures.value, ap (λ (x : TilesOf). tile_count_of x.size) c.self.view_is)) in
    record {
      size = c.clear.ensures.size ∙ i.size;
      whole = c.clear.ensures.whole;
      states = λ t before. elim (cases_lt t c.loop-tile.tile) [
        | inl early ↦ ap (λ (xs : List TileOf). tile_at xs t) c.clear.ensures.states ∙ get_or-set_other c.loop-tile.self.states c.loop-tile.tile t empty_tile no_tile (λ e. omega (arith, e, early)) ∙ i.states t early
        | inr le ↦
            let same : c.loop-tile.tile ≡ t = omega (arith, le, before) in
            subst (λ (n : ℕ). tile_at c.clear.new.self.states n ≡ empty_tile) same
            (ap (λ (xs : List TileOf). tile_at xs c.loop-tile.tile) c.clear.ensures.states ∙ get_or-set_same c.loop-tile.self.states c.loop-tile.tile empty_tile no_tile (omega (arith, lt, i.whole.states)))
      ];
      behind = λ t before. elim (cases_lt t c.loop-tile.tile) [
        | inl early ↦ ap (λ (xs : List ℕ). slice_index xs t) c.clear.ensures.behind ∙ get_or-set_other c.loop-tile.self.behind c.loop-tile.tile t 0 0 (λ e. omega (arith, e, early)) ∙ i.behind t early
        | inr le ↦
            let same : c.loop-tile.tile ≡ t = omega (arith, le, before) in
            subst (λ (n : ℕ). slice_index c.clear.new.self.behind n ≡ 0) same
            (ap (λ (xs : List ℕ). slice_index xs c.loop-tile.tile) c.clear.ensures.behind ∙ get_or-set_same c.loop-tile.self.behind c.loop-tile.tile 0 0 (omega (arith, lt, i.whole.behind)))
      ];
    }

pub returns-clause-standing : goal.returns-clause-standing
returns-clause-standing c =
    let i = c.loop-tile.invariant in
    let list = c.args._list.now.list in
    let all : c.tile_count-count.result ≡ tile_count_of list.size = c.tile_count-count.ensures.value ∙ ap (λ (x : TilesOf). tile_count_of x.size) c.self.view_is ∙ ap tile_count_of c.requires in
    record {
      size = i.size ∙ c.requires;
      each = λ t lt.
          let on : t < c.loop-tile.tile = omega (arith, lt, all, c.loop-tile-test.false) in
          subst (λ (n : ℕ). StandsBehind list t n (tile_at c.loop-tile.self.states t)) (sym (i.behind t on)) (subst (StandsBehind list t 0) (sym (i.states t on)) (stands_none list t));
    }

pub returns-clause-none : goal.returns-clause-none
returns-clause-none c t lt =
    let i = c.loop-tile.invariant in
    ap (λ (x : TileOf). x.count) (i.states t (omega (arith, lt, c.loop-tile-test.false, c.tile_count-count.ensures.value, ap (λ (x : TilesOf). tile_count_of x.size) c.self.view_is)))

pub returns-clause-size : goal.returns-clause-size
returns-clause-size c = c.loop-tile.invariant.size

pub returns-clause-whole : goal.returns-clause-whole
returns-clause-whole c = c.loop-tile.invariant.whole
