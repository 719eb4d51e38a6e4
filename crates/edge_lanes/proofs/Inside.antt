-- The samples inside three edges, by the values that the edges are held with at a tile.
use Rattle.std.proofs.Common.{◌≡◌, ℕ, ℤ, pos, ◌+◌, ◌*◌, ◌/◌, ◌%◌, ◌^◌, ◌<◌, ◌≤◌, ◌+ℤ◌, ◌*ℤ◌, ◌≤ℤ◌, arith, ap, ap₂, refl, sym, ◌∙◌}
use Rattle.std.specs.Cmp.{both_ways}
use Rattle.std.specs.Int.{int_min, int_max}
use Rattle.std.specs.Simd.Lanes.{mask_l}
use Rattle.std.proofs.lemmas.Int.{clamps, ints}
use Rattle.cull_base.specs.Bounds.{Bounded}
use Rattle.cull_base.specs.Piece.{each_sample}
use Rattle.cull_base.specs.State.{samples_of}
use Rattle.cull_base.specs.declared.place.Sub.{Sub}
use Rattle.cull_base.specs.declared.place.Tile.{Tile}
use Rattle.cull_base.proofs.Masks.{each_sample-same, samples_of-mask_l_each}
use Rattle.edge_lanes.specs.Lanes.{is_not_negative}
use Rattle.edge_lanes.specs.Lines.{Line, Lines, clamped, counts_at, inside_all, inside_from, inside_lines, is_inside, moved_to, tile_value, value_at}
use Rattle.edge_lanes.specs.Inside.{sub_of}
use Rattle.edge_lanes.proofs.Extremes.{step_least, step_most}
use Rattle.edge_lanes.proofs.Steps.{value-subtile}

-- an edge held with this value at the first sample of a tile counts the tile's samples that it counts
pub record Begins (e : Line) (tile : Tile) (s : ℤ) : Type 0 where
  pub counts : (j k : ℕ) → j < 8 → k < 32 → inside_from e (moved_to e s j) k ≡ counts_at e (8 * (4 * tile.column + j % 4) + k % 8) (4 * (2 * tile.row + j / 4) + k / 8)

-- from the first sample of a tile to that of a subtile
value-subtile_step : (e : Line) (tile : Tile) (j : ℕ) → moved_to e (tile_value e tile) j ≡ value_at e (8 * (4 * tile.column + j % 4)) (4 * (2 * tile.row + j / 4))
value-subtile_step e tile j =
    let x : 8 * (4 * tile.column) + 8 * (j % 4) ≡ 8 * (4 * tile.column + j % 4) = omega arith in
    let y : 4 * (2 * tile.row) + 4 * (j / 4) ≡ 4 * (2 * tile.row + j / 4) = omega arith in
    regroup (tile_value e tile) (e.row *ℤ pos (4 * (j / 4))) (e.column *ℤ pos (8 * (j % 4)))
    ∙ value-subtile e.start e.column e.row (8 * (4 * tile.column)) (4 * (2 * tile.row)) (8 * (j % 4)) (4 * (j / 4))
    ∙ ap₂ (λ (m : ℕ) (n : ℕ). value_at e m n) x y
  where
    regroup : (v a b : ℤ) → v +ℤ (a +ℤ b) ≡ (v +ℤ a) +ℤ b
    regroup v a b = omega (arith, ints)

-- as it is computed
pub tile_value-shifted : (e : Line) (tile : Tile) (a b m : ℤ) (p q : ℕ) → m ≡ (e.start +ℤ a) +ℤ b → a ≡ e.column *ℤ pos p → b ≡ e.row *ℤ pos q → p ≡ 8 * (4 * tile.column) → q ≡ 4 * (2 * tile.row) → m ≡ tile_value e tile
tile_value-shifted e tile a b m p q em ea eb ep eq = rw (em, ea, eb, ep, eq) refl

counted : (e : Line) (tile : Tile) (j k : ℕ) → inside_from e (moved_to e (tile_value e tile) j) k ≡ counts_at e (8 * (4 * tile.column + j % 4) + k % 8) (4 * (2 * tile.row + j / 4) + k / 8)
counted e tile j k =
    ap (λ (v : ℤ). inside_from e v k) (value-subtile_step e tile j)
    ∙ ap is_not_negative (value-subtile e.start e.column e.row (8 * (4 * tile.column + j % 4)) (4 * (2 * tile.row + j / 4)) (k % 8) (k / 8))

pub begins_exact : (e : Line) (tile : Tile) (s : ℤ) → s ≡ tile_value e tile → Begins e tile s
begins_exact e tile s is = record { counts = λ j k lj lk. ap (λ (v : ℤ). inside_from e (moved_to e v j) k) is ∙ counted e tile j k }

-- a clamped value moved by less than 2^28 keeps its sign
pub is_not_negative-clamped : (v d : ℤ) → Bounded (2 ^ 28) d → is_not_negative (clamped v +ℤ d) ≡ is_not_negative (v +ℤ d)
is_not_negative-clamped v d b = both_ways _ _ (λ h. grind (arith, ints, forth v d b)) (λ h. grind (arith, ints, back v d b))
  where
    forth : (v d : ℤ) → Bounded (2 ^ 28) d → pos 0 ≤ℤ (clamped v +ℤ d) → pos 0 ≤ℤ (v +ℤ d)
    forth v d b h = omega (arith, ints, clamps)

    back : (v d : ℤ) → Bounded (2 ^ 28) d → pos 0 ≤ℤ (v +ℤ d) → pos 0 ≤ℤ (clamped v +ℤ d)
    back v d b h = omega (arith, ints, clamps)

-- a step below 2^20 taken as often as a tile's samples ask for
pub step-bounded : (s : ℤ) (k : ℕ) → k ≤ 31 → Bounded (2 ^ 20) s → Bounded (2 ^ 25) (s *ℤ pos k)
step-bounded s k l b = between s (s *ℤ pos k) b (step_most s 31 k l) (step_least s 31 k l)
  where
    between : (s x : ℤ) → Bounded (2 ^ 20) s → x ≤ℤ int_max (s *ℤ pos 31) (pos 0) → int_min (s *ℤ pos 31) (pos 0) ≤ℤ x → Bounded (2 ^ 25) x
    between s x b p q = omega (arith, ints, clamps)

-- the samples of a tile are less than 2^28 from its first
pub begins_clamped : (e : Line) (tile : Tile) (s : ℤ) → Bounded (2 ^ 20) e.column → Bounded (2 ^ 20) e.row → s ≡ clamped (tile_value e tile) → Begins e tile s
begins_clamped e tile s bc br is = record { counts = λ j k lj lk. ap (λ (v : ℤ). inside_from e (moved_to e v j) k) is ∙ near j k lj lk ∙ counted e tile j k }
  where
    regroup : (v a b c d : ℤ) → ((v +ℤ (a +ℤ b)) +ℤ c) +ℤ d ≡ v +ℤ (((a +ℤ b) +ℤ c) +ℤ d)
    regroup v a b c d = omega (arith, ints)

    sums : (a b c d : ℤ) → Bounded (2 ^ 25) a → Bounded (2 ^ 25) b → Bounded (2 ^ 25) c → Bounded (2 ^ 25) d → Bounded (2 ^ 28) (((a +ℤ b) +ℤ c) +ℤ d)
    sums a b c d p q r s = omega (arith, ints)

    near : (j k : ℕ) → j < 8 → k < 32 → inside_from e (moved_to e (clamped (tile_value e tile)) j) k ≡ inside_from e (moved_to e (tile_value e tile) j) k
    near j k lj lk =
        let a : ℤ = e.row *ℤ pos (4 * (j / 4)) in let b : ℤ = e.column *ℤ pos (8 * (j % 4)) in
        let c : ℤ = e.row *ℤ pos (k / 8) in let d : ℤ = e.column *ℤ pos (k % 8) in
        ap is_not_negative (regroup (clamped (tile_value e tile)) a b c d)
        ∙ is_not_negative-clamped (tile_value e tile) (((a +ℤ b) +ℤ c) +ℤ d)
        (sums a b c d (step-bounded e.row (4 * (j / 4)) (omega arith) br) (step-bounded e.column (8 * (j % 4)) (omega arith) bc)
        (step-bounded e.row (k / 8) (omega arith) br) (step-bounded e.column (k % 8) (omega arith) bc))
        ∙ ap is_not_negative (sym (regroup (tile_value e tile) a b c d))

pub inside_all-begun : (e : Lines) (tile : Tile) (s t v : ℤ) (j : ℕ) → j < 8 → Begins e.first tile s → Begins e.second tile t → Begins e.third tile v →
    each_sample (inside_all e (moved_to e.first s j) (moved_to e.second t j) (moved_to e.third v j)) ≡ inside_lines e (sub_of tile j)
unfolding inside_lines
inside_all-begun e tile s t v j l f g h =
    let u = sub_of tile j in
    each_sample-same (inside_all e (moved_to e.first s j) (moved_to e.second t j) (moved_to e.third v j)) (λ k. is_inside e (8 * u.column + k % 8) (4 * u.row + k / 8))
    (λ k m. let a = f.counts j k l m in let b = g.counts j k l m in let d = h.counts j k l m in cc)

pub samples_of-mask_l_inside : (e : Lines) (u : Sub) → samples_of (mask_l (inside_lines e u)) ≡ inside_lines e u
unfolding inside_lines
samples_of-mask_l_inside e u = samples_of-mask_l_each (λ k. is_inside e (8 * u.column + k % 8) (4 * u.row + k / 8))
