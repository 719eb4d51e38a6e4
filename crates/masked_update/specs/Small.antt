-- A piece of a few pixels, asked subtile by subtile.
use Rattle.std.specs.Prelude.{ℕ, ◌≡◌, ◌≢◌, List, length, slice_index_or}
use Rattle.cull_base.specs.Piece.{IsPiece, Piece, covered}
use Rattle.cull_base.specs.Depth.{greatest_nearness, least_nearness}
use Rattle.cull_base.specs.Fold.{step}
use Rattle.cull_base.specs.State.{State, empty_state}
use Rattle.cull_base.specs.declared.place.Sub.{Sub}
use Rattle.cull_base.specs.declared.place.Tile.{Tile}
use Rattle.depth_plane.specs.Plane.{plane_of}
use Rattle.edge_lanes.specs.Inside.{inside_small, sub_of}
use Rattle.masked_update.specs.declared.small_piece.SmallPiece.TheInside.{Inside}

-- the edges, the plane, the greatest and the least nearness are the piece's
pub record IsSmall (s : Inside) : Type 0 where
  pub valid : IsPiece s.tri
  pub edges_cover : (u : Sub) → inside_small s.edges u ≡ covered s.tri u
  pub plane_is : s.plane ≡ plane_of s.tri
  pub nearest_is : s.nearest ≡ greatest_nearness s.tri
  pub least_is : s.least ≡ least_nearness s.tri

-- subtile j took the piece, and the others stay
pub record IsMergedAt (x : Piece) (place : Tile) (j : ℕ) (old new : List State) : Type 0 where
  pub eight : length new ≡ 8
  pub this : slice_index_or new j empty_state ≡ step (sub_of place j) (slice_index_or old j empty_state) x
  pub others : (i : ℕ) → i ≢ j → slice_index_or new i empty_state ≡ slice_index_or old i empty_state

-- no subtile has another reference
abbrev pub HaveSameReferences : List State → List State → Type 0
HaveSameReferences old new = (j : ℕ) → (slice_index_or new j empty_state).reference ≡ (slice_index_or old j empty_state).reference
