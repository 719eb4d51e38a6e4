-- Writers of a new frame, from which the tasks of its bins take theirs.
use Rattle.std.proofs.Common.{◌≡◌, ℕ, ◌+◌, ◌<◌, ◌≤◌, inl, inr, List, [], ◌∷◌, ◌++◌, Some, map, length, arith, refl, ap, ◌∙◌, sym, subst}
use Rattle.std.specs.Prelude.{slice_index_or}
use Rattle.std.proofs.lemmas.List.{get_or-map, length-append, map-append}
use Rattle.std.proofs.lemmas.Option.{slice_get-get_or, slice_get-map}
use Rattle.atomic_table.specs.Seated.{TableId}
use Rattle.tile_cells.specs.Cells.{Writing, AreFresh}
use Rattle.tile_cells.specs.Standing.{StandsAt}
use Rattle.tile_cells.proofs.Standing.{fresh_stands}
use Rattle.tile_queues.specs.Owners.{AreFirst, AreLeft, IsFull, cells_of}
use Rattle.bin_queues.specs.QueueParts.{BatchedFrame}

-- the slots of new writers are full
pub first_left : (frame : BatchedFrame) (ws : List Writing) → frame.cells ≡ cells_of ws → AreFirst frame.list ws → AreLeft frame 0 0 (map (λ (w : Writing). Some w) ws)
first_left frame ws are first t d lt there =
    let whole = first.whole in
    let below : t < length ws = omega (arith, lt, whole) in
    let ids : length (cells_of ws) ≡ length ws = Rattle.std.proofs.lemmas.List.length-map ws (λ (z : Writing). z.cell) in
    let fresh : AreFresh (cells_of ws) frame.list (length (cells_of ws)) ws = record {
      whole = sym ids;
      at = λ u e ul. let u_below : u < length ws = omega (arith, ul, ids) in slice_get-map (λ (z : Writing). z.cell) ws u ∙ ap (Rattle.std.proofs.Common.option_map (λ (z : Writing). z.cell)) (slice_get-get_or ws u e u_below);
      fresh = λ u e ul. first.each u e (omega (arith, ul, ids));
    } in
    let w : Writing = slice_index_or ws t (first_of ws below) in
    let at : StandsAt (cells_of ws) frame.list 0 t w = (fresh_stands (cells_of ws) frame.list ws fresh).each t (first_of ws below) (omega (arith, below, ids)) in
    let full : IsFull frame t (Some w) = subst (λ (c : List TableId). StandsAt c frame.list 0 t w) (sym are) at in
    subst (IsFull frame t) (sym (get_or-map (λ (z : Writing). Some z) ws t (first_of ws below) d below)) full
  where
    first_of : (ws : List Writing) → t < length ws → Writing
    first_of [] h = absurd (omega arith)
    first_of (x ∷ xs) h = x
