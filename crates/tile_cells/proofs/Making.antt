-- One cell, writer or pass more.
use Rattle.std.proofs.Common.{◌≡◌, ℕ, zero, suc, ◌+◌, ◌*◌, ◌<◌, List, refl, replicate, [], ◌∷◌, ◌++◌, map, drop, length, Some, sym, ap, ◌∙◌, subst, arith, length-append}
use Rattle.std.specs.Prelude.{slice_index_or}
use Rattle.std.proofs.lemmas.List.{map-append, get_or-map, length-map}
use Rattle.std.proofs.lemmas.Nat.{mul-lt}
use Rattle.std.proofs.lemmas.Option.{slice_get-get_or}
use Rattle.atomic_table.specs.Seated.{TableId}
use Rattle.crossbeam_utils.specs.Seq.{cell_view}
use Rattle.cull_base.specs.Screen.{Dimensions, tile_columns_of, tile_rows_of, tile_count_of}
use Rattle.cull_base.specs.Tiles.{PieceList}
use Rattle.cull_base.proofs.Lists.{pushed_at, get_pushed, get_last, turn}
use Rattle.tile_cells.specs.declared.rule.View.{View}
use Rattle.tile_cells.specs.Rule.{writer, reader}
use Rattle.tile_cells.specs.Cells.{Writing, Reading, IsAt, AreFresh, IsNew}
use Rattle.tile_cells.specs.Passes.{Token, AreOpened, AreReading, names_of, list_of, number_at, loads_at, seen_of, reading}
use Rattle.tile_cells.proofs.Lists.{same_lists}

opened_more : (L : PieceList) (n : ℕ) (ids : List TableId) (ps : List Token) (id : TableId) (p : Token) → AreOpened L n ids ps → p.table_id ≡ id → cell_view p ≡ writer L n 0 0 → AreOpened L (n + 1) (ids ++ id ∷ []) (ps ++ p ∷ [])
opened_more L n ids ps id p o is new = record {
  cells = omega (arith, o.cells, length-append ids (id ∷ []));
  passes = omega (arith, o.passes, length-append ps (p ∷ []));
  at = pushed_at (λ t q. IsAt (ids ++ id ∷ []) t q.table_id) n ps p o.passes (λ t d lt. get_pushed ids id t (omega (arith, o.cells)) ∙ o.at t d lt) (get_last ids id n o.cells ∙ ap Some (sym is));
  views = pushed_at (λ t q. cell_view q ≡ writer L t 0 0) n ps p o.passes o.views new;
}

pub opened_by : {X : Type 0} (f : X → TableId) (L : PieceList) (n : ℕ) (cs : List X) (ps : List Token) (c : X) (p : Token) → AreOpened L n (map f cs) ps → p.table_id ≡ f c → cell_view p ≡ writer L n 0 0 → AreOpened L (n + 1) (map f (cs ++ c ∷ [])) (ps ++ p ∷ [])
opened_by f L n cs ps c p o is new = subst (λ ids. AreOpened L (n + 1) ids (ps ++ p ∷ [])) (sym (map-append f cs (c ∷ []))) (opened_more L n (map f cs) ps (f c) p o is new)

-- the pass of a cell in turn
pub opened_at : (cells : List TableId) (L : PieceList) (n : ℕ) (ps : List Token) (i : ℕ) (p : Token) (ys : List Token) → AreOpened L n cells ps → drop i ps ≡ p ∷ ys → IsAt cells i p.table_id × (cell_view p ≡ writer L i 0 0)
opened_at cells L n ps i p ys o e =
    let t = turn ps i p ys e in
    let lt : i < n = omega (arith, t.2, o.passes) in
    (o.at i p lt ∙ ap (λ (q : Token). Some q.table_id) (sym t.1), ap (λ (q : Token). cell_view q) t.1 ∙ o.views i p lt)

pub fresh_more : (cells : List TableId) (L : PieceList) (n : ℕ) (ws : List Writing) (w : Writing) → AreFresh cells L n ws → IsAt cells n w.cell → w ≡ record { cell = w.cell; list = L; tile = n; count = 0; heard = 0 } → AreFresh cells L (n + 1) (ws ++ w ∷ [])
fresh_more cells L n ws w f at is = record {
  whole = omega (arith, f.whole, length-append ws (w ∷ []));
  at = pushed_at (λ t x. IsAt cells t x.cell) n ws w f.whole f.at at;
  fresh = pushed_at (λ t x. x ≡ record { cell = x.cell; list = L; tile = t; count = 0; heard = 0 }) n ws w f.whole f.fresh is;
}

-- the first n passes of a new reader
pub record AreNewTo (cells : List TableId) (L : PieceList) (n : ℕ) (ps : List Token) : Type 0 where
  pub whole : length ps ≡ n
  pub at : (t : ℕ) (d : Token) → t < n → IsAt cells t (slice_index_or ps t d).table_id
  pub views : (t : ℕ) (d : Token) → t < n → cell_view (slice_index_or ps t d) ≡ reader L t 0 0

pub new_more : (cells : List TableId) (L : PieceList) (n : ℕ) (ps : List Token) (p : Token) → AreNewTo cells L n ps → IsAt cells n p.table_id → cell_view p ≡ reader L n 0 0 → AreNewTo cells L (n + 1) (ps ++ p ∷ [])
new_more cells L n ps p f at is = record {
  whole = omega (arith, f.whole, length-append ps (p ∷ []));
  at = pushed_at (λ t x. IsAt cells t x.table_id) n ps p f.whole f.at at;
  views = pushed_at (λ t x. cell_view x ≡ reader L t 0 0) n ps p f.whole f.views is;
}

list_is : (L : PieceList) (ps : List Token) → 0 < length ps → ((t : ℕ) (d : Token) → t < length ps → cell_view (slice_index_or ps t d) ≡ reader L t 0 0) → list_of ps ≡ L
list_is L [] lt f = absurd (omega arith)
list_is L (p ∷ ps) lt f = ap (λ (v : View). v.list) (f 0 p lt)

module _ (cells : List TableId) (L : PieceList) (ps : List Token) (f : AreNewTo cells L (length cells) ps) (some : 0 < length cells) where
  list_new : list_of ps ≡ L
  list_new = list_is L ps (omega (arith, some, f.whole)) (λ k e kl. f.views k e (omega (arith, f.whole)))

  pub reads_new : length cells ≡ tile_count_of L.size → AreReading ps
  reads_new whole = record {
    each = λ t d lt. let x = f.views t d (omega (arith, f.whole)) in x ∙ (λ i. reader (sym list_new i) t (ap (λ (v : View). v.number) (sym x) i) (ap (λ (v : View). v.loads) (sym x) i));
    whole = f.whole ∙ whole ∙ ap (λ (l : PieceList). tile_count_of l.size) (sym list_new);
  }

  first : (ps : List Token) → 0 < length ps → Token
  first [] lt = absurd (omega arith)
  first (p ∷ ps) lt = p

  pub new_reader : (r : Reading) → r ≡ reading ps → IsNew cells L r
  new_reader r is = subst (IsNew cells L) (sym is) (
      record {
        of = same_lists (names_of ps) cells (length-map ps (λ (p : Token). p.table_id) ∙ f.whole)
            (λ t lt. let d = first ps (omega (arith, f.whole)) in
            slice_get-get_or (names_of ps) t d.table_id (omega (arith, f.whole, length-map ps (λ (p : Token). p.table_id))) ∙ ap Some (get_or-map (λ (p : Token). p.table_id) ps t d d.table_id (omega (arith, f.whole))) ∙ sym (f.at t d lt));
        list_is = list_new;
        whole = length-map ps (λ (p : Token). number_at p) ∙ f.whole;
        unseen = λ t lt. let d = first ps (omega (arith, f.whole)) in get_or-map (λ (p : Token). number_at p) ps t d 0 (omega (arith, f.whole)) ∙ ap (λ (v : View). v.number) (f.views t d lt);
        unread = λ t lt. let d = first ps (omega (arith, f.whole)) in get_or-map (λ (p : Token). loads_at p) ps t d 0 (omega (arith, f.whole)) ∙ ap (λ (v : View). v.loads) (f.views t d lt);
      }
      )

-- a reader that has seen nothing has seen 0 of each tile
pub zeros : (ps : List Token) (n : ℕ) → length ps ≡ n → ((t : ℕ) (d : Token) → t < n → number_at (slice_index_or ps t d) ≡ 0) → replicate n 0 ≡ seen_of ps
zeros [] zero len f = refl
zeros [] (suc n) len f = absurd (omega arith)
zeros (p ∷ ps) zero len f = absurd (omega arith)
zeros (p ∷ ps) (suc n) len f = (λ i. sym (f 0 p (omega arith)) i ∷ zeros ps n (omega arith) (λ t d lt. f (suc t) d (omega arith)) i)

-- a screen has a tile
pub some_tiles : (given size : Dimensions) (columns rows n : ℕ) → given ≡ size → columns ≡ tile_columns_of given → rows ≡ tile_rows_of given → 0 < columns → 0 < rows → n ≡ tile_count_of size → 0 < n
some_tiles given size columns rows n is ec er pc pr en =
    let count : n ≡ columns * rows = en ∙ ap tile_count_of (sym is) ∙ (λ i. sym ec i * sym er i) in
    subst (λ k. 0 < k) (sym count) (mul-lt 0 0 columns rows pc pr)
