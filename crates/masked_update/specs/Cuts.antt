-- The masked update with bounds that are cut at a top.
use Rattle.std.specs.Prelude.{ℕ}
use Rattle.cull_base.specs.declared.place.Sub.{Sub}
use Rattle.cull_base.specs.Piece.{Piece, covered}
use Rattle.cull_base.specs.Depth.{low_up_to}
use Rattle.cull_base.specs.State.{State, step_with}

abbrev pub step_up_to : ℕ → Sub → State → Piece → State
step_up_to top u s t = step_with s (low_up_to top t u) (covered t u)
