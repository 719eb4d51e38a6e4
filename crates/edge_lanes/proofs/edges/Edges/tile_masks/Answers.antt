use Rattle.std.proofs.Common.{rules, ◌≡◌, ℕ}
use Rattle.std.specs.Simd.Lanes.{mask_l}
use Rattle.cull_base.specs.State.{samples_of}
use Rattle.edge_lanes.specs.Tiles.{inside_at}
use Rattle.edge_lanes.proofs.Calls.{each_made}
use Rattle.edge_lanes.proofs.edges.Edges.tile_masks.Goals as goal

pub returns-clause-value : goal.returns-clause-value
returns-clause-value c = λ j lt.
    let e = c.at_tile-edges.ensures j in
    rw (← e) (each_made _ (λ (i : ℕ) (y : ℕ). y ≡ mask_l (inside_at c.at_tile-edges.result i)) _ 8 (λ i y q l h. search rules) 0 c.from_fn.result c.from_fn.ensures.items j lt)

pub returns-clause-samples : goal.returns-clause-samples
returns-clause-samples c = λ j lt.
    let e = c.at_tile-edges.ensures j in
    rw (← e) (each_made _ (λ (i : ℕ) (y : ℕ). samples_of y ≡ inside_at c.at_tile-edges.result i) _ 8 (λ i y q l h. search rules) 0 c.from_fn.result c.from_fn.ensures.items j lt)
