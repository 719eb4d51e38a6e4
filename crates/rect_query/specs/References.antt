-- Tiles without their working layers: each subtile with its reference alone.
use Rattle.std.specs.Prelude.{ℕ, map}
use Rattle.std.specs.List.{range_with_len}
use Rattle.cull_base.specs.State.{State, no_samples}
use Rattle.masked_update.specs.TileOf.{TileOf, sub_at}

-- the reference holds at every sample
abbrev pub bare_state : ℕ → State
bare_state reference = record { reference = reference; working = 0; samples = no_samples }

-- subtile j of a tile by its reference
abbrev pub bare_sub : TileOf → ℕ → State
bare_sub t j = bare_state (sub_at t j).reference

unfoldable pub bare_tile : TileOf → TileOf
bare_tile t = record { subs = map (bare_sub t) (range_with_len 0 8); count = t.count }
