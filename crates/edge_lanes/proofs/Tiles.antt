-- The edges of a piece over one tile.
use Rattle.std.proofs.Common.{◌≡◌, ◌<◌, ◌^◌, ℕ, ℤ, FitsSigned, to_z, of_z, w32, w64, arith, ap, sym, ◌∙◌}
use Rattle.std.specs.Simd.Lanes.{mask_l}
use Rattle.std.proofs.lemmas.Int.{ints, to_z-of_z}
use Rattle.cull_base.specs.Bounds.{Bounded}
use Rattle.cull_base.specs.State.{samples_of}
use Rattle.cull_base.specs.declared.place.Tile.{Tile}
use Rattle.edge_lanes.specs.Lines.{Line, Lines, candidates_of_all, mask_of_all, whole_of_all}
use Rattle.edge_lanes.specs.Inside.{StartsAt, inside_of, lines_of_kind, narrow_line, narrow_lines, sub_of, wide_line}
use Rattle.edge_lanes.specs.Tiles.{AreCandidates, AreWhole, inside_at}
use Rattle.edge_lanes.specs.declared.edges.Kind.{Kind}
use Rattle.edge_lanes.specs.declared.edges.Kind.TheVariants.{Narrow, Wide}
use Rattle.edge_lanes.specs.declared.narrow_edges.NarrowEdges.{NarrowEdges}
use Rattle.edge_lanes.specs.declared.tile_edges.TileEdges.{TileEdges}
use Rattle.edge_lanes.proofs.Inside.{Begins, begins_clamped, begins_exact, samples_of-mask_l_inside}
use Rattle.edge_lanes.proofs.Subtiles.{mask_of_all-begun, no_samples-clear, whole-set}

-- the values that the edges over a tile hold are those at its first sample
record AreBegun (t : TileEdges) : Type 0 where
  first : Begins (lines_of_kind t.edges.now.kind).first t.tile t.first
  second : Begins (lines_of_kind t.edges.now.kind).second t.tile t.second
  third : Begins (lines_of_kind t.edges.now.kind).third t.tile t.third

begun : (t : TileEdges) → AreBegun t
begun t = record { first = begins_first k t.tile t.first t.first_starts; second = begins_second k t.tile t.second t.second_starts; third = begins_third k t.tile t.third t.third_starts }
  where
    k : Kind
    k = t.edges.now.kind

    begins_first : (k : Kind) (tile : Tile) (v : ℤ) → StartsAt k (lines_of_kind k).first tile v → Begins (lines_of_kind k).first tile v
    begins_first (Narrow e) tile v h = begins_clamped (narrow_line e.first) tile v e.first.column_bounded e.first.row_bounded h.0
    begins_first (Wide e) tile v h = begins_exact (wide_line e.first) tile v h.0

    begins_second : (k : Kind) (tile : Tile) (v : ℤ) → StartsAt k (lines_of_kind k).second tile v → Begins (lines_of_kind k).second tile v
    begins_second (Narrow e) tile v h = begins_clamped (narrow_line e.second) tile v e.second.column_bounded e.second.row_bounded h.0
    begins_second (Wide e) tile v h = begins_exact (wide_line e.second) tile v h.0

    begins_third : (k : Kind) (tile : Tile) (v : ℤ) → StartsAt k (lines_of_kind k).third tile v → Begins (lines_of_kind k).third tile v
    begins_third (Narrow e) tile v h = begins_clamped (narrow_line e.third) tile v e.third.column_bounded e.third.row_bounded h.0
    begins_third (Wide e) tile v h = begins_exact (wide_line e.third) tile v h.0

pub candidates_of_all-clear : (t : TileEdges) (m : ℕ) → m ≡ candidates_of_all (lines_of_kind t.edges.now.kind) t.first t.second t.third → AreCandidates (inside_at t) m
unfolding inside_at inside_of
candidates_of_all-clear t m e j l z = let b = begun t in no_samples-clear (lines_of_kind t.edges.now.kind) t.tile t.first t.second t.third b.first b.second b.third j l (rw e at z)

pub whole_of_all-set : (t : TileEdges) (m : ℕ) → m ≡ whole_of_all (lines_of_kind t.edges.now.kind) t.first t.second t.third → AreWhole (inside_at t) m
unfolding inside_at inside_of
whole_of_all-set t m e j l z = let b = begun t in whole-set (lines_of_kind t.edges.now.kind) t.tile t.first t.second t.third b.first b.second b.third j l (rw e at z)

pub mask_of_all-inside : (t : TileEdges) (j : ℕ) → j < 8 → mask_of_all (lines_of_kind t.edges.now.kind) t.first t.second t.third j ≡ mask_l (inside_at t j)
unfolding inside_at inside_of
mask_of_all-inside t j l = let b = begun t in mask_of_all-begun (lines_of_kind t.edges.now.kind) t.tile t.first t.second t.third j l b.first b.second b.third

pub samples_of-mask_l_inside_at : (t : TileEdges) (j : ℕ) → samples_of (mask_l (inside_at t j)) ≡ inside_at t j
unfolding inside_at inside_of
samples_of-mask_l_inside_at t j = samples_of-mask_l_inside (lines_of_kind t.edges.now.kind) (sub_of t.tile j)

narrow_start-bounded : (k : Kind) (e : NarrowEdges) (l : Line) (tile : Tile) (v : ℤ) → k ≡ Narrow e → StartsAt k l tile v → Bounded (2 ^ 30) v
narrow_start-bounded k e l tile v is h = (rw is at h).1

-- as 32 bits hold it
abbrev pub held : ℤ → ℤ
held v = to_z w32 (of_z w32 (to_z w64 (of_z w64 v)))

held_is : (v : ℤ) → Bounded (2 ^ 30) v → held v ≡ v
held_is v b = let f : FitsSigned w64 v = omega (arith, ints) in let g : FitsSigned w32 v = omega (arith, ints) in simp to_z-of_z

-- the values of narrow edges at a tile are held in 32 bits
pub record AreHeld (t : TileEdges) : Type 0 where
  pub first_is : to_z w32 (of_z w32 (to_z w64 (of_z w64 t.first))) ≡ t.first
  pub second_is : to_z w32 (of_z w32 (to_z w64 (of_z w64 t.second))) ≡ t.second
  pub third_is : to_z w32 (of_z w32 (to_z w64 (of_z w64 t.third))) ≡ t.third
  pub first_bounded : Bounded (2 ^ 30) (to_z w32 (of_z w32 (to_z w64 (of_z w64 t.first))))
  pub second_bounded : Bounded (2 ^ 30) (to_z w32 (of_z w32 (to_z w64 (of_z w64 t.second))))
  pub third_bounded : Bounded (2 ^ 30) (to_z w32 (of_z w32 (to_z w64 (of_z w64 t.third))))

pub are_held : (t : TileEdges) (e : NarrowEdges) → t.edges.now.kind ≡ Narrow e → AreHeld t
are_held t e is =
    let k = t.edges.now.kind in
    let a = narrow_start-bounded k e (lines_of_kind k).first t.tile t.first is t.first_starts in
    let b = narrow_start-bounded k e (lines_of_kind k).second t.tile t.second is t.second_starts in
    let d = narrow_start-bounded k e (lines_of_kind k).third t.tile t.third is t.third_starts in
    let p = held_is t.first a in let q = held_is t.second b in let r = held_is t.third d in
    record { first_is = p; second_is = q; third_is = r; first_bounded = rw p a; second_bounded = rw q b; third_bounded = rw r d }

-- so what is computed of them there is what the edges' lines say
pub of_narrow : (t : TileEdges) (e : NarrowEdges) → t.edges.now.kind ≡ Narrow e → (f : Lines → ℤ → ℤ → ℤ → ℕ) (v : ℕ) → v ≡ f (narrow_lines e) (held t.first) (held t.second) (held t.third)
    → v ≡ f (lines_of_kind t.edges.now.kind) t.first t.second t.third
of_narrow t e is f v h =
    let all = are_held t e is in let a = all.first_is in let b = all.second_is in let d = all.third_is in
    rw (a, b, d) at h ∙ ap (λ (k : Kind). f (lines_of_kind k) t.first t.second t.third) (sym is)
