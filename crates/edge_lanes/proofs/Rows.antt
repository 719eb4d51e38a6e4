-- The samples of a piece, by where its edges cross the rows.
use Rattle.std.proofs.Common.{◌≡◌, ◌∙◌, ap, ℕ, ◌+◌, ◌*◌, ◌/◌, ◌%◌, ◌<◌, false, refl, arith}
use Rattle.std.specs.Int.{bit_at}
use Rattle.std.specs.Simd.Lanes.{mask_l}
use Rattle.cull_base.specs.Piece.{Piece, covered, each_sample}
use Rattle.cull_base.specs.State.{no_samples, samples_of}
use Rattle.cull_base.specs.declared.place.Sub.{Sub}
use Rattle.cull_base.specs.declared.triangle.Side.TheVariants.{Occluder}
use Rattle.cull_base.proofs.Masks.{each_sample-same, samples_of-mask_l_each}
use Rattle.edge_lanes.specs.Lines.{AreEdges, Lines, inside_lines, is_inside}
use Rattle.edge_lanes.specs.Inside.{sub_of}
use Rattle.edge_lanes.specs.Spans.{AreMet, in_span, spanned}
use Rattle.edge_lanes.specs.Crossings.{AreCrossings, AreSpans, crossed_in, is_within}
use Rattle.edge_lanes.specs.declared.crossings.Crossings.{Crossings}
use Rattle.edge_lanes.specs.declared.spans.Spans.{Spans}
use Rattle.edge_lanes.proofs.Sides.{inside_lines-covered}

-- a subtile of the screen
pub crossed_in-covered : (e : Lines) (t : Piece) (c : Crossings) → AreEdges e Occluder t → AreCrossings e c → (u : Sub) → u.column < 256 → u.row < 512 → crossed_in c u ≡ covered t u
unfolding inside_lines
crossed_in-covered e t c h are u lc lr =
    each_sample-same (λ k. is_within c (8 * u.column + k % 8) (4 * u.row + k / 8)) (λ k. is_inside e (8 * u.column + k % 8) (4 * u.row + k / 8))
    (λ k l. are (8 * u.column + k % 8) (4 * u.row + k / 8) (omega arith) (omega arith))
    ∙ inside_lines-covered e Occluder t h refl u

-- a sample of the spans of a row of tiles
within_at : (c : Crossings) (row : ℕ) (s : Spans) → AreSpans c row s → (column j k : ℕ) → column < 64 → j < 8 → k < 32 →
    in_span s (4 * (j / 4) + k / 8) (8 * (4 * column + j % 4) + k % 8) ≡ is_within c (8 * (4 * column + j % 4) + k % 8) (4 * (2 * row + j / 4) + k / 8)
within_at c row s h column j k lc lj lk =
    let y : 8 * row + (4 * (j / 4) + k / 8) ≡ 4 * (2 * row + j / 4) + k / 8 = omega arith in
    h (4 * (j / 4) + k / 8) (8 * (4 * column + j % 4) + k % 8) (omega arith) (omega arith)
    ∙ ap (is_within c (8 * (4 * column + j % 4) + k % 8)) y

pub spanned-crossed : (c : Crossings) (row : ℕ) (s : Spans) → AreSpans c row s → (column j : ℕ) → column < 64 → j < 8 → spanned s column j ≡ crossed_in c (sub_of (record { column = column; row = row }) j)
spanned-crossed c row s h column j lc lj =
    each_sample-same (λ k. in_span s (4 * (j / 4) + k / 8) (8 * (4 * column + j % 4) + k % 8)) (λ k. is_within c (8 * (4 * column + j % 4) + k % 8) (4 * (2 * row + j / 4) + k / 8))
    (λ k lk. within_at c row s h column j k lc lj lk)

-- the samples of a mask of spans
pub samples_of-mask_l_spanned : (s : Spans) (column j : ℕ) → samples_of (mask_l (spanned s column j)) ≡ spanned s column j
samples_of-mask_l_spanned s column j = samples_of-mask_l_each (λ k. in_span s (4 * (j / 4) + k / 8) (8 * (4 * column + j % 4) + k % 8))

no_sample : each_sample (λ k. false) ≡ no_samples
unfolding each_sample samples_of
no_sample = refl

-- a tile of which no row has a column
pub spanned-none : (s : Spans) (column bits i j : ℕ) → AreMet s column bits → i < 8 → bit_at bits i ≡ 0 → j < 8 → spanned s (column + i) j ≡ no_samples
spanned-none s column bits i j h l z lj =
    each_sample-same (λ k. in_span s (4 * (j / 4) + k / 8) (8 * (4 * (column + i) + j % 4) + k % 8)) (λ k. false)
    (λ k lk. h i l z (4 * (j / 4) + k / 8) (8 * (4 * (column + i) + j % 4) + k % 8) (omega arith) (omega arith) (omega arith))
    ∙ no_sample
