-- Writers that stand at the first members, one member or one tile more.
use Rattle.std.proofs.Common.{◌≡◌, ℕ, ◌+◌, ◌<◌, ◌≤◌, List, set, length, length-set, sym, ap, ◌∙◌, subst, arith}
use Rattle.std.specs.Prelude.{slice_index_or}
use Rattle.std.proofs.lemmas.List.{get_or-set_other}
use Rattle.atomic_table.specs.Seated.{TableId}
use Rattle.cull_base.specs.Tiles.{PieceList, tile_list}
use Rattle.cull_base.proofs.Lists.{set_each}
use Rattle.tile_cells.specs.Cells.{Writing, Reading, AreFresh, AreWriters, IsNew, IsReaderOf}
use Rattle.tile_cells.specs.Standing.{AreStanding, IsReading, StandsAt}

-- the writers of the tiles before n stand at one place, and the others at another
pub record AreStandingTo (cells : List TableId) (list : PieceList) (from to n : ℕ) (ws : List Writing) : Type 0 where
  pub whole : length ws ≡ length cells
  pub before : (t : ℕ) (d : Writing) → t < length cells → t < n → StandsAt cells list to t (slice_index_or ws t d)
  pub after : (t : ℕ) (d : Writing) → t < length cells → n ≤ t → StandsAt cells list from t (slice_index_or ws t d)

pub standing_begins : (cells : List TableId) (list : PieceList) (from to : ℕ) (ws : List Writing) → AreStanding cells list from ws → AreStandingTo cells list from to 0 ws
standing_begins cells list from to ws s = record { whole = s.whole; before = λ t d lt no. absurd (omega arith); after = λ t d lt _. s.each t d lt }

pub standing_more : (cells : List TableId) (list : PieceList) (from to n : ℕ) (ws : List Writing) (w : Writing) → AreStandingTo cells list from to n ws → n < length cells → StandsAt cells list to n w → AreStandingTo cells list from to (n + 1) (set ws n w)
standing_more cells list from to n ws w s lt at = record {
  whole = length-set ws n w ∙ s.whole;
  before = λ t d tl tn. set_each (λ k x. StandsAt cells list to k x) ws n w (n + 1) (omega (arith, s.whole)) (λ k e kl ne. s.before k e (omega arith) (omega arith)) at t d tn;
  after = λ t d tl nt. subst (StandsAt cells list from t) (sym (other t d (λ e. absurd (omega arith)))) (s.after t d tl (omega arith));
}
  where
    other : (t : ℕ) (d : Writing) → (t ≡ n → ⊥) → slice_index_or (set ws n w) t d ≡ slice_index_or ws t d
    other t d ne = get_or-set_other ws n t w d ne

pub standing_ends : (cells : List TableId) (list : PieceList) (from to n : ℕ) (ws : List Writing) → n ≡ length cells → AreStandingTo cells list from to n ws → AreStanding cells list to ws
standing_ends cells list from to n ws e s = record { whole = s.whole; each = λ t d lt. s.before t d lt (omega arith) }

pub fresh_stands : (cells : List TableId) (list : PieceList) (ws : List Writing) → AreFresh cells list (length cells) ws → AreStanding cells list 0 ws
unfolding tile_list
fresh_stands cells list ws f = record {
  whole = f.whole;
  each = λ t d lt. let e = f.fresh t d lt in
      record { at = f.at t d lt; tile_is = ap (λ (w : Writing). w.tile) e; list_is = ap (λ (w : Writing). w.list) e; count = ap (λ (w : Writing). w.count) e };
}

pub standing_writers : (cells : List TableId) (list : PieceList) (i : ℕ) (ws : List Writing) → AreStanding cells list i ws → AreWriters cells ws
standing_writers cells list i ws s = record { whole = s.whole; at = λ t d lt. (s.each t d lt).at; tile = λ t d lt. (s.each t d lt).tile_is }

pub reads_of : (cells : List TableId) (list : PieceList) (i : ℕ) (ws : List Writing) (r : Reading) → AreStanding cells list i ws → IsReading cells list r → IsReaderOf cells ws r
reads_of cells list i ws r s is = record { of = is.of; list_is = λ t d lt. (s.each t d lt).list_is ∙ sym is.list_is }

pub new_reads : (cells : List TableId) (list : PieceList) (r : Reading) → IsNew cells list r → IsReading cells list r
new_reads cells list r n = record { of = n.of; list_is = n.list_is }
