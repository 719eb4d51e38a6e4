use Rattle.std.proofs.Common.{◌≡◌, ◌+◌, ◌*◌, ◌/◌, ◌%◌, ◌∙◌, ap, arith, refl, ℕ}
use Rattle.std.specs.Simd.Lanes.{mask_l}
use Rattle.cull_base.specs.declared.place.Sub.{Sub}
use Rattle.cull_base.specs.declared.place.Tile.{Tile}
use Rattle.edge_lanes.specs.Inside.{inside_of, sub_of}
use Rattle.edge_lanes.proofs.edges.Edges.mask.Goals as goal

abbrev tile_of : Sub → Tile
tile_of u = record { column = u.column / 4; row = u.row / 2 }

-- the subtile within its tile
sub_of_tile : (u : Sub) → sub_of (tile_of u) (u.row % 2 * 4 + u.column % 4) ≡ u
sub_of_tile u = let c : 4 * (u.column / 4) + (u.row % 2 * 4 + u.column % 4) % 4 ≡ u.column = omega arith in let r : 2 * (u.row / 2) + (u.row % 2 * 4 + u.column % 4) / 4 ≡ u.row = omega arith in rw (c, r) refl

pub returns-clause-value : goal.returns-clause-value
returns-clause-value c =
    let e = c.args.self.now in let u = c.args.sub in
    c.mask.ensures.value ∙ ap mask_l (c.at_tile.ensures c.from.result ∙ ap (λ (j : ℕ). inside_of e (sub_of (tile_of u) j)) c.from.ensures ∙ ap (inside_of e) (sub_of_tile u))

pub returns-clause-samples : goal.returns-clause-samples
returns-clause-samples c =
    let e = c.args.self.now in let u = c.args.sub in
    c.mask.ensures.samples ∙ c.at_tile.ensures c.from.result ∙ ap (λ (j : ℕ). inside_of e (sub_of (tile_of u) j)) c.from.ensures ∙ ap (inside_of e) (sub_of_tile u)
