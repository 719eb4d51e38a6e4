-- Tiles that are all empty.
use Rattle.std.proofs.Common.{◌≡◌, ℕ, ◌+◌, ◌<◌, List, [], length, ap, ◌∙◌, sym, arith}
use Rattle.cull_base.specs.Screen.{Dimensions}
use Rattle.masked_update.specs.TileOf.{TileOf, empty_tile, tile_at}
use Rattle.masked_update.proofs.TileLists.{none_taken}
use Rattle.maskcull_c.specs.Tiles.{IsAfter}

-- they are after no pieces
pub fresh : (size : Dimensions) (first : ℕ) (tiles : List TileOf) → ((t : ℕ) → t < length tiles → tile_at tiles t ≡ empty_tile) → IsAfter size first (λ t. []) tiles
fresh size first tiles each = record {
  states = λ t lt. ap (λ (s : TileOf). s.subs) (each t lt ∙ sym (none_taken size (first + t)));
  valid = λ t lt x m. absurd (let none = m.1 in omega (arith, none));
}
