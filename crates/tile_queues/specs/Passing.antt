-- Writers pass over members that miss their window.
use Rattle.std.proofs.Common.{◌≡◌, ℕ, zero, suc, inl, inr, ◌+◌, ◌-◌, ◌<◌, ◌≤◌, List, [], length, get_or, arith, ap, ◌∙◌, sym}
use Rattle.std.proofs.lemmas.Bool.{cases_lt}
use Rattle.std.proofs.lemmas.List.{get_or_default, take_all}
use Rattle.atomic_table.specs.Seated.{TableId}
use Rattle.cull_base.specs.Piece.{Piece}
use Rattle.cull_base.specs.Tiles.{PieceList, tile_list}
use Rattle.cull_base.specs.declared.tile_span.TileSpan.{TileSpan}
use Rattle.masked_update.specs.Canvas.{IsInWindow, MissBetween}
use Rattle.tile_cells.specs.Standing.{rank}
use Rattle.tile_cells.proofs.Members.{rank_missed}
use Rattle.tile_queues.specs.declared.cell_bin.CellBin.{CellBin}
use Rattle.tile_queues.specs.CellBins.{AreWritersAt}

no_piece : Piece
no_piece = record { xs = []; ys = []; qs = [] }

-- a tile of the window has as many of the first members
same_rank : (list : PieceList) (window : TileSpan) (m n t : ℕ)
    → MissBetween list window m n → IsInWindow list.size window t → rank t list n ≡ rank t list m
same_rank list window m n t miss within =
    let e : m + (n - m) ≡ n = (let le = miss.ordered in omega (arith, le)) in
    ap (rank t list) (sym e) ∙ by (n - m) (omega (arith, e))
  where
    passed : (k : ℕ) → m ≤ k → k < n → rank t list (k + 1) ≡ rank t list k
    passed k le lt = elim (cases_lt k (length list.members)) [
      | inl below ↦
          let x = get_or list.members k no_piece in
          let is : get_or list.members k x ≡ x = get_or_default list.members k x no_piece below in
          rank_missed t list k x below is (miss.members k x le lt below is t within)
      | inr past ↦ ap (λ (members : List Piece). length (tile_list t (record { size = list.size; members = members }))) (take_all (k + 1) list.members (omega (arith, past)) ∙ sym (take_all k list.members past))
    ]

    by : (d : ℕ) → m + d ≤ n → rank t list (m + d) ≡ rank t list m
    by zero le = ap (rank t list) (omega arith)
    by (suc d) le =
        let e : m + suc d ≡ m + d + 1 = omega arith in
        ap (rank t list) e ∙ passed (m + d) (omega arith) (omega (arith, le)) ∙ by d (omega (arith, le))

pub writers_pass : (cells : List TableId) (list : PieceList) (window : TileSpan) (m n : ℕ) (bin : CellBin)
    → MissBetween list window m n → AreWritersAt cells list window m bin → AreWritersAt cells list window n bin
writers_pass cells list window m n bin miss at = record {
  window_is = at.window_is;
  whole = at.whole;
  each = λ t d within. let s = at.each t d within in
      record { at = s.at; tile_is = s.tile_is; list_is = s.list_is; count = s.count ∙ sym (same_rank list window m n t miss within) };
}
