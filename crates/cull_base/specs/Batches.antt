-- Triangles in batches.
use Rattle.std.specs.Prelude.{ℕ, ◌≡◌, List, map, sum}
use Rattle.cull_base.specs.declared.scene_types.Batch.{Batch}

-- the counts of the batches sum to so many triangles
abbrev pub AreBatchesOf : List Batch → ℕ → Type 0
AreBatchesOf batches n = sum (map (λ b. b.count) batches) ≡ n
