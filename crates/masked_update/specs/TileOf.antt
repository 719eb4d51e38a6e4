-- What is seen of a tile: the states of its subtiles, and how many pieces it took.
use Rattle.std.specs.Prelude.{ℕ, List, [], slice_index_or, replicate}
use Rattle.cull_base.specs.State.{State, empty_state}

pub record TileOf : Type 0 where
  pub subs : List State
  pub count : ℕ

abbrev pub empty_tile : TileOf
empty_tile = record { subs = replicate 8 empty_state; count = 0 }

abbrev pub sub_at : TileOf → ℕ → State
sub_at t j = slice_index_or t.subs j empty_state

abbrev pub no_tile : TileOf
no_tile = record { subs = []; count = 0 }

abbrev pub tile_at : List TileOf → ℕ → TileOf
tile_at tiles k = slice_index_or tiles k no_tile
