-- The plain tiles of a window.
use Rattle.std.proofs.Common.{◌≡◌, ℕ, sym, subst}
use Rattle.cull_base.specs.Tiles.{PieceList}
use Rattle.cull_base.specs.declared.tile_span.TileSpan.{TileSpan}
use Rattle.masked_update.specs.Canvas.{CanvasOf, MissBetween, StandsAt}
use Rattle.masked_update.proofs.Canvases.{stands_on}

-- the tiles are those of the window, and each took those of the list's first k members that are its own
pub record IsPlainAt (list : PieceList) (window : TileSpan) (k : ℕ) (c : CanvasOf) : Type 0 where
  pub window_is : c.window ≡ window
  pub stands : StandsAt list k c

-- the same as what a keeper says of its tiles: nothing that lies beside is needed
abbrev pub StandsPlain : {B : Type 0} → CanvasOf → B → PieceList → TileSpan → ℕ → Type 0
StandsPlain {B} c beside list window k = IsPlainAt list window k c

-- they pass over members that miss the window
pub plain_passes : {B : Type 0} → (c : CanvasOf) (beside : B) (list : PieceList) (window : TileSpan) (m n : ℕ)
    → MissBetween list window m n → StandsPlain c beside list window m → StandsPlain c beside list window n
plain_passes {B} c beside list window m n miss at = record {
  window_is = at.window_is;
  stands = stands_on list m n c (subst (λ (w : TileSpan). MissBetween list w m n) (sym at.window_is) miss) at.stands;
}
