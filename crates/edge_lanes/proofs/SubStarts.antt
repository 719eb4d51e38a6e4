-- The samples inside three edges, by the values that the edges are held with at a subtile.
use Rattle.std.proofs.Common.{◌≡◌, ℕ, ℤ, pos, ◌+◌, ◌*◌, ◌/◌, ◌%◌, ◌<◌, ◌+ℤ◌, ◌*ℤ◌, refl}
use Rattle.cull_base.specs.Piece.{each_sample}
use Rattle.cull_base.specs.declared.place.Sub.{Sub}
use Rattle.cull_base.proofs.Masks.{each_sample-same}
use Rattle.edge_lanes.specs.Lines.{Line, Lines, counts_at, inside_all, inside_from, inside_lines, is_inside, sub_value}

-- as it is computed
pub sub_value-shifted : (e : Line) (u : Sub) (a b m : ℤ) (p q : ℕ) → m ≡ (e.start +ℤ a) +ℤ b → a ≡ e.column *ℤ pos p → b ≡ e.row *ℤ pos q → p ≡ 8 * u.column → q ≡ 4 * u.row → m ≡ sub_value e u
sub_value-shifted e u a b m p q em ea eb ep eq = rw (em, ea, eb, ep, eq) refl

-- an edge held with this value at the first sample of a subtile counts the samples there that it counts
pub record BeginsSub (e : Line) (u : Sub) (s : ℤ) : Type 0 where
  pub counts : (k : ℕ) → k < 32 → inside_from e s k ≡ counts_at e (8 * u.column + k % 8) (4 * u.row + k / 8)

pub inside_all-at_sub : (e : Lines) (u : Sub) (s t v : ℤ) → BeginsSub e.first u s → BeginsSub e.second u t → BeginsSub e.third u v → each_sample (inside_all e s t v) ≡ inside_lines e u
unfolding inside_lines
inside_all-at_sub e u s t v f g h =
    each_sample-same (inside_all e s t v) (λ k. is_inside e (8 * u.column + k % 8) (4 * u.row + k / 8))
    (λ k m. let a = f.counts k m in let b = g.counts k m in let d = h.counts k m in cc)
