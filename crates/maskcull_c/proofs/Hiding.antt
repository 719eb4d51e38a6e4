-- What is called occluded has at each of its samples a drawn piece strictly nearer.
use Rattle.std.proofs.Common.{◌≡◌, ℕ, ◌/◌, ◌<◌, true, cond, List, length, get_or, arith, refl, ap, ◌∙◌, sym, subst}
use Rattle.std.proofs.Math.Nat.{zero-add}
use Rattle.cull_base.specs.declared.nearness.Grade.{Grade}
use Rattle.cull_base.specs.declared.place.Sub.{Sub}
use Rattle.cull_base.specs.declared.scene_types.Verdict.{Verdict}
use Rattle.cull_base.specs.Fold.{IsSound, after}
use Rattle.cull_base.specs.Piece.{Piece}
use Rattle.cull_base.specs.Pixels.{sub_of_pixel, tile_of_pixel}
use Rattle.cull_base.specs.Screen.{Dimensions, is_on_screen, tile_columns_of, tile_sub}
use Rattle.cull_base.specs.Shape.{HasPieces, Shape, verdict_of}
use Rattle.cull_base.specs.State.{State, empty_state}
use Rattle.cull_base.specs.Tiles.{ArePieces, tile_after}
use Rattle.cull_base.proofs.Pixels.{on_screen, place_in_tile, sub_is, tile_is}
use Rattle.masked_update.specs.TileOf.{TileOf, sub_at, tile_at}
use Rattle.masked_update.specs.Views.{state_in}
use Rattle.masked_update.proofs.Drawing.{after_is_sound}
use Rattle.masked_update.proofs.Merging.{one_of_eight}
use Rattle.mesh_query.proofs.Occluders.{sound_hides}
use Rattle.maskcull_c.specs.Tiles.{Hides, IsAfter, IsSoundFor, code_of}
use Rattle.maskcull_c.proofs.Codes.{occluded_by_code}

-- where a tile is sound for some pieces, so is the subtile of each of its pixels
sound_at : (size : Dimensions) (pieces : List Piece) (tiles : List TileOf) (px py : ℕ) → px < size.width → py < size.height
    → IsSoundFor size (tile_of_pixel size px py) pieces (tile_at tiles (tile_of_pixel size px py)) → IsSound (sub_of_pixel px py) pieces (state_in size (tile_at tiles) (sub_of_pixel px py))
sound_at size pieces tiles px py x y s =
    let t = tile_of_pixel size px py in let j = place_in_tile px py in let u = sub_of_pixel px py in
    let is = sub_is size px py x y in
    let number = tile_is px py (py / 8) (px / 32) (tile_columns_of size) (tile_columns_of size) refl refl refl in
    let here = s.subs j (omega arith) (ap (is_on_screen size) is ∙ on_screen size px py x y) in
    subst (λ (n : ℕ). IsSound u pieces (sub_at (tile_at tiles n) j)) (sym number)
    (subst (λ (v : Sub). IsSound v pieces (sub_at (tile_at tiles t) j)) is here)

pub hides_by_verdict : (size : Dimensions) (tiles : List TileOf) (shape : Shape) (v : Verdict) (code : ℕ) → HasPieces shape
    → v ≡ verdict_of size (state_in size (tile_at tiles)) shape → code ≡ code_of v → Hides size tiles shape code
hides_by_verdict size tiles shape v code good is number lists px py sound occluded x y has =
    let pieces = lists (tile_of_pixel size px py) in
    sound_hides size (state_in size (tile_at tiles)) pieces shape px py good sound.valid (sound_at size pieces tiles px py x y sound)
    (sym is ∙ occluded_by_code v (sym number ∙ occluded)) x y has

-- a tile after its list is sound for it
pub after_sound : (size : Dimensions) (lists : ℕ → List Piece) (tiles : List TileOf) (t : ℕ) → IsAfter size 0 lists tiles → t < length tiles → IsSoundFor size t (lists t) (tile_at tiles t)
after_sound size lists tiles t was lt = record {
  subs = λ j h on. subst (IsSound (tile_sub size t j) (lists t)) (sym (is j h on)) (after_is_sound (tile_sub size t j) (lists t) all);
  valid = all;
}
  where
    all : ArePieces (lists t)
    all = subst (λ n. ArePieces (lists n)) (zero-add t) (was.valid t lt)

    subs : (tile_at tiles t).subs ≡ tile_after size t (lists t)
    subs = subst (λ n. (tile_at tiles t).subs ≡ tile_after size n (lists n)) (zero-add t) (was.states t lt)

    is : (j : ℕ) → j < 8 → is_on_screen size (tile_sub size t j) ≡ true → sub_at (tile_at tiles t) j ≡ after (tile_sub size t j) (lists t)
    is j h on =
        ap (λ (ss : List State). get_or ss j empty_state) subs
        ∙ one_of_eight (λ k. let u = tile_sub size t k in cond (is_on_screen size u) (after u (lists t)) empty_state) j h
        ∙ ap (λ b. cond b (after (tile_sub size t j) (lists t)) empty_state) on

-- what is told of a grade, a size and a near distance
pub told_of : (P : Grade → Dimensions → ℕ → Type 0) (grade grade' : Grade) (size size' : Dimensions) (near near' : ℕ) → grade ≡ grade' → size ≡ size' → near ≡ near' → P grade size near → P grade' size' near'
told_of P grade grade' size size' near near' eg es en h = subst (λ (g : Grade). P g size' near') eg (subst (λ (d : Dimensions). P grade d near') es (subst (P grade size) en h))
