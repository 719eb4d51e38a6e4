use Rattle.std.proofs.Common.{◌≡◌, ℕ, ◌<◌, length, slice_index_or}
use Rattle.cull_base.specs.State.{empty_state}
use Rattle.masked_update.proofs.tile_layers.TileLayers.of.Given as goal

abbrev pub invariant-loop-j : goal.invariant-loop-j
invariant-loop-j l = record {
  eight : length l.layers ≡ 8;
  same : (k : ℕ) → k < l.j → slice_index_or l.layers k empty_state ≡ slice_index_or l.subs k empty_state;
}
