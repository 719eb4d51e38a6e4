use Rattle.std.proofs.Common.{◌≡◌, ℕ, ◌<◌, ◌≤◌, length, slice_index_or, Bool, true, false, ◌&&◌, arith, refl, sym, ap, ◌∙◌, subst}
use Rattle.std.proofs.Math.Bool.{and_comm}
use Rattle.std.proofs.lemmas.List.{get_or_default}
use Rattle.cull_base.specs.declared.place.Tile.{Tile}
use Rattle.cull_base.specs.declared.tile_span.TileSpan.{TileSpan}
use Rattle.cull_base.specs.Piece.{Piece, box_of}
use Rattle.cull_base.specs.Rectangle.{meets}
use Rattle.cull_base.specs.Screen.{Dimensions, tile_count_of, tile_place, tile_rect_of}
use Rattle.cull_base.specs.Span.{HasTilesOf, IsPartOf, IsSpan, has_tile}
use Rattle.cull_base.specs.Tiles.{PieceList}
use Rattle.live_check.specs.Moving.{TookWhere, is_met_in, is_short_at}
use Rattle.live_check.specs.Standing.{TilesOf}
use Rattle.live_check.proofs.Advance.{short_few}
use Rattle.live_check.proofs.Taking.{took_alike, took_none}
use Rattle.live_check.proofs.tiles.Tiles.take_member.Goals as goal

-- the tiles that a member's box reaches within a span are those that it meets
reached_is : (size : Dimensions) (span around reached : TileSpan) (x : Piece) → HasTilesOf around size (box_of x) → ((place : Tile) → has_tile reached place ≡ (has_tile around place && has_tile span place))
    → (t : ℕ) → t < tile_count_of size → has_tile reached (tile_place size t) ≡ is_met_in size span x t
reached_is size span around reached x tiles both t lt =
    both (tile_place size t) ∙ ap (λ (b : Bool). b && has_tile span (tile_place size t)) (tiles t lt) ∙ and_comm (meets (box_of x) (tile_rect_of size t)) (has_tile span (tile_place size t))

part_span : (size : Dimensions) (whole part : TileSpan) → IsSpan size whole → IsPartOf whole part → IsSpan size part
part_span size whole part is p = record { columns = p.columns; rows = p.rows; columns_within = omega (arith, p.end_column, is.columns_within); rows_within = omega (arith, p.end_row, is.rows_within) }

-- the member is the one that is meant
member_is : (list : PieceList) (k : ℕ) (y x : Piece) → k < length list.members → y ≡ slice_index_or list.members k y → slice_index_or list.members k x ≡ x → y ≡ x
member_is list k y x lt is there = is ∙ get_or_default list.members k y x lt ∙ there

and_off : (b : Bool) → (b && false) ≡ false
and_off true = refl
and_off false = refl

-- where none of them is short, none takes it
none_takes : (tiles : TilesOf) (span reached : TileSpan) (x : Piece) (place : ℕ) → ((t : ℕ) → t < tile_count_of tiles.size → has_tile reached (tile_place tiles.size t) ≡ is_met_in tiles.size span x t)
    → ((t : ℕ) → (t < tile_count_of tiles.size) × (has_tile reached (tile_place tiles.size t) ≡ true) → is_short_at tiles t place ≡ false) → TookWhere (is_met_in tiles.size span x) x place tiles tiles
none_takes tiles span reached x place same none = took_none (is_met_in tiles.size span x) x place tiles (λ t lt. off t lt (has_tile reached (tile_place tiles.size t)) refl)
  where
    off : (t : ℕ) → t < tile_count_of tiles.size → (h : Bool) → has_tile reached (tile_place tiles.size t) ≡ h → (is_met_in tiles.size span x t && is_short_at tiles t place) ≡ false
    off t lt true has = ap (λ (b : Bool). is_met_in tiles.size span x t && b) (none t (lt, has)) ∙ and_off (is_met_in tiles.size span x t)
    off t lt false far = ap (λ (b : Bool). b && is_short_at tiles t place) (sym (same t lt) ∙ far)

pub short_in-requires : goal.short_in-requires
short_in-requires c = part_span c.args.self.now.size c.args.span.now c.cut-reached.result c.requires.span c.cut-reached.ensures.part

pub returns-then-short_in-eq0 : goal.returns-then-short_in-eq0
returns-then-short_in-eq0 c = record {
  took = λ x is.
      let s = c.args.self.now in
      let y = c.get-tri.result.now in
      let around : HasTilesOf c.of.result s.size (box_of y) = subst (λ (d : Dimensions). HasTilesOf c.of.result d (box_of y)) (ap (λ (z : TilesOf). z.size) c.self.view_is) (subst (HasTilesOf c.of.result c.self.inside.size) c.boxed.ensures c.of.ensures.tiles) in
      subst (λ (z : Piece). TookWhere (is_met_in s.size c.args.span.now z) z c.args.index s s) (member_is c.args.list.now.list c.args.index y x c.requires.index c.get-tri.ensures is)
      (none_takes s c.args.span.now c.cut-reached.result y c.args.index (reached_is s.size c.args.span.now c.of.result c.cut-reached.result y around c.cut-reached.ensures.tiles) (c.short_in.ensures.none c.if-short_in-eq0.true));
}

pub take_in-requires : goal.take_in-requires
take_in-requires c =
    let few : length c.args.list.now.list.members ≤ 131072 = omega (arith, c.len-len.ensures.value, c.len-len.ensures.within, c.len-len.ensures.small) in
    record {
      span = part_span c.args.self.now.size c.args.span.now c.cut-reached.result c.requires.span c.cut-reached.ensures.part;
      index = omega (arith, c.requires.index, few);
      few = λ t lt short. short_few c.args.list.now.list c.args.self.now t c.args.index c.requires.standing lt c.requires.index few short;
    }

pub returns : goal.returns
returns c = record {
  took = λ x is.
      let s = c.args.self.now in
      let y = c.get-tri.result.now in
      let around : HasTilesOf c.of.result s.size (box_of y) = subst (λ (d : Dimensions). HasTilesOf c.of.result d (box_of y)) (ap (λ (z : TilesOf). z.size) c.self.view_is) (subst (HasTilesOf c.of.result c.self.inside.size) c.boxed.ensures c.of.ensures.tiles) in
      subst (λ (z : Piece). TookWhere (is_met_in s.size c.args.span.now z) z c.args.index s c.take_in.new.self) (member_is c.args.list.now.list c.args.index y x c.requires.index c.get-tri.ensures is)
      (took_alike (λ t. has_tile c.cut-reached.result (tile_place s.size t)) (is_met_in s.size c.args.span.now y) y c.args.index s c.take_in.new.self
      (reached_is s.size c.args.span.now c.of.result c.cut-reached.result y around c.cut-reached.ensures.tiles) c.take_in.ensures.took);
}
