-- The tiles of the areas of a scene's first objects.
use Rattle.std.specs.Prelude.{ℕ, ◌<◌, List, slice_index_or}
use Rattle.cull_base.specs.declared.tile_span.TileSpan.{TileSpan}
use Rattle.cull_base.specs.Span.{HasTilesOf, IsSpan}
use Rattle.scene_reader.specs.Layout.{Parts}
use Rattle.cull_report.specs.Live.{object_at}
use Rattle.cull_report.specs.Scene.{object_area, size_of}

-- of so many objects each has the tiles of its area
abbrev pub AreSpans : Parts → ℕ → ℕ → List TileSpan → Type 0
AreSpans s frame objects spans =
    (o : ℕ) (d : TileSpan) → o < objects
    → HasTilesOf (slice_index_or spans o d) (size_of s) (object_area s frame (object_at s o)) × IsSpan (size_of s) (slice_index_or spans o d)
