-- Which pieces of a frame are kept in its list.
use Rattle.std.specs.Prelude.{ℕ, ◌≡◌, List, length, filter, Bool, true}
use Rattle.cull_base.specs.Piece.{Piece}
use Rattle.cull_base.specs.Screen.{Dimensions}
use Rattle.cull_base.specs.Sampled.{is_sampled}
use Rattle.cull_base.specs.Tiles.{FrameListOf, with_members}
use Rattle.snap_setup.specs.declared.keeping.Keeping.{Keeping}
use Rattle.snap_setup.specs.declared.keeping.Keeping.TheVariants.{Each, Sampled}

abbrev pub is_kept : Keeping → Dimensions → Piece → Bool
is_kept Each size t = true
is_kept Sampled size t = is_sampled size t

-- a list took some pieces: those that are kept stand at its end, in order, and all are counted
pub record Took (keeping : Keeping) (old new : FrameListOf) (count : ℕ) (pieces : List Piece) : Type 0 where
  pub members : new ≡ with_members old (filter (is_kept keeping old.list.size) pieces)
  pub counted : count ≡ length pieces
