-- The edges of a piece over one tile.
use Rattle.std.specs.Prelude.{ℕ, ◌≡◌, ◌-◌, ◌<◌, ◌^◌, List, Bool}
use Rattle.std.specs.Int.{bit_at}
use Rattle.std.specs.Simd.Lanes.{mask_l}
use Rattle.cull_base.specs.State.{no_samples}
use Rattle.edge_lanes.specs.Inside.{inside_of, sub_of}
use Rattle.edge_lanes.specs.declared.tile_edges.TileEdges.{TileEdges}

-- which samples of subtile j lie inside
unfoldable pub inside_at : TileEdges → ℕ → List Bool
inside_at t j = inside_of t.edges.now (sub_of t.tile j)

-- bit j is clear only where subtile j has no samples
abbrev pub AreCandidates : (ℕ → List Bool) → ℕ → Type 0
AreCandidates samples candidates = (j : ℕ) → j < 8 → bit_at candidates j ≡ 0 → samples j ≡ no_samples

-- bit j is set only where subtile j has all samples
abbrev pub AreWhole : (ℕ → List Bool) → ℕ → Type 0
AreWhole samples whole = (j : ℕ) → j < 8 → bit_at whole j ≡ 1 → mask_l (samples j) ≡ 2 ^ 32 - 1
