-- Readers end in the writers.
use Rattle.std.proofs.Common.{◌≡◌, ⊎_elim, ℕ, zero, suc, ◌+◌, ◌<◌, ◌≤◌, max, List, [], ◌∷◌, drop, length, set, Some, refl, sym, ap, ◌∙◌, subst, arith, length-set, length-append, length-take-le, take, ◌++◌, le_trans}
use lib.Seq.{take-append_seam}
use Rattle.std.specs.Prelude.{slice_get, slice_index, slice_index_or}
use Rattle.std.proofs.lemmas.List.{ext_get_or, get_or-set_same, get_or-set_other, get_or-map, length-map, take_more}
use Rattle.std.proofs.lemmas.Option.{slice_get-get_or, same_Some}
use Rattle.std.proofs.lemmas.Bool.{cases_eq}
use Rattle.atomic_table.specs.Seated.{TableId}
use Rattle.cull_base.specs.Tiles.{PieceList}
use Rattle.cull_base.proofs.Lists.{turn, pushed_at, set_each}
use Rattle.masked_update.specs.TileOf.{TileOf, tile_at, no_tile}
use Rattle.masked_update.specs.Taken.{standing_at}
use Rattle.tile_cells.specs.Cells.{Writing, Reading, IsAt, AreWriters, IsReaderOf, CoversSeen}
use Rattle.tile_cells.specs.Passes.{AreChecked, HearWithin, standing_by, Token, Reads, AreReading, names_of, number_at, reading, Hears, HearsOne, HeardBelow}
use Rattle.tile_cells.proofs.Lists.{same_at}

-- the writer in place t, after some ends
pub stands_on : (cells : List TableId) (r : Reading) (old now : List Writing) (t : ℕ) (d : Writing) → AreWriters cells old → IsReaderOf cells old r → Hears old now → t < length cells
    → IsAt cells t (slice_index_or now t d).cell × ((slice_index_or now t d).list ≡ r.list) × ((slice_index_or now t d).tile ≡ t)
stands_on cells r old now t d w of h lt =
    let n = h.each t d (omega (arith, w.whole)) in
    (w.at t d lt ∙ ap Some (sym n.cell), n.list ∙ of.list_is t d lt, n.tile ∙ w.tile t d lt)

-- the pass in turn
pub pass_on : (cells : List TableId) (r : Reading) (ps : List Token) (t : ℕ) (p : Token) (ys : List Token) → AreReading ps → reading ps ≡ r → r.cells ≡ cells → drop t ps ≡ p ∷ ys
    → IsAt cells t p.table_id × Reads r.list t p × (slice_index r.seen t ≡ number_at p) × (t < length cells)
pass_on cells r ps t p ys reads is of e =
    let f = turn ps t p ys e in
    let names : names_of ps ≡ cells = ap (λ (x : Reading). x.cells) is ∙ of in
    let lt : t < length cells = omega (arith, f.2, ap length names, length-map ps (λ (q : Token). q.table_id)) in
    let at : slice_get (names_of ps) t ≡ Some p.table_id = slice_get-get_or (names_of ps) t p.table_id (omega (arith, f.2, length-map ps (λ (q : Token). q.table_id))) ∙ ap Some (get_or-map (λ (q : Token). q.table_id) ps t p p.table_id f.2 ∙ ap (λ (q : Token). q.table_id) (sym f.1)) in
    let l = ap (λ (x : Reading). x.list) is in (
      ap (λ c. slice_get c t) (sym names) ∙ at,
      subst (λ z. Reads z t p) l (subst (λ (q : Token). Reads (reading ps).list t q) (sym f.1) (reads.each t p f.2)),
      ap (λ (x : Reading). slice_index x.seen t) (sym is) ∙ get_or-map (λ (q : Token). number_at q) ps t p 0 f.2 ∙ ap (λ (q : Token). number_at q) (sym f.1),
      lt,
    )

-- the pass in turn, and the writer of its tile after some ends
pub record IsTurn (cells : List TableId) (r : Reading) (t : ℕ) (p : Token) (w : Writing) : Type 0 where
  pub on_screen : t < length cells
  pub at : IsAt cells w.tile w.cell
  pub cell : p.table_id ≡ w.cell
  pub reads : Reads w.list w.tile p
  pub seen : slice_index r.seen t ≡ number_at p

pub in_turn : (cells : List TableId) (r : Reading) (ps all left : List Token) (t : ℕ) (p : Token) (ys : List Token) (old now : List Writing) (d : Writing) → AreReading ps → reading ps ≡ r → AreWriters cells old → IsReaderOf cells old r → Hears old now
    → all ≡ ps → left ≡ drop t all → left ≡ p ∷ ys → IsTurn cells r t p (slice_index_or now t d)
in_turn cells r ps all left t p ys old now d reads is writers of h same rest turn =
    let x = pass_on cells r ps t p ys reads is of.of (ap (λ l. drop t l) (sym same) ∙ sym rest ∙ turn) in
    let s = stands_on cells r old now t d writers of h x.3 in
    record {
      on_screen = x.3;
      at = subst (λ k. IsAt cells k (slice_index_or now t d).cell) (sym s.2) s.0;
      cell = same_Some _ _ (sym x.0 ∙ s.0);
      reads = subst (λ (l : PieceList). Reads l (slice_index_or now t d).tile p) (sym s.1) (subst (λ k. Reads r.list k p) (sym s.2) x.1);
      seen = x.2;
    }

above_left : (a b : ℕ) → a ≤ max a b
above_left a b = omega arith

above_right : (a b : ℕ) → b ≤ max a b
above_right a b = omega arith

-- a writer that heard one more
heard_more : (v w w' : Writing) (n : ℕ) → HearsOne v w → w' ≡ record w { heard = max w.heard n } → HearsOne v w'
heard_more v w w' n h became =
    let up : w.heard ≤ w'.heard = subst (λ z. w.heard ≤ z) (sym (ap (λ (z : Writing). z.heard) became)) (above_left w.heard n) in
    record {
      cell = ap (λ (z : Writing). z.cell) became ∙ h.cell;
      list = ap (λ (z : Writing). z.list) became ∙ h.list;
      tile = ap (λ (z : Writing). z.tile) became ∙ h.tile;
      count = ap (λ (z : Writing). z.count) became ∙ h.count;
      heard = le_trans h.heard up;
    }

pub end_more : (old now : List Writing) (seen : List ℕ) (t n : ℕ) (w w' : Writing) → Hears old now → HeardBelow t seen now → t < length old → w ≡ slice_index_or now t w
    → w' ≡ record w { heard = max w.heard n } → slice_index seen t ≡ n → Hears old (set now t w') × HeardBelow (t + 1) seen (set now t w')
end_more old now seen t n w w' h b lt is became first =
    let here : t < length now = omega (arith, h.whole) in
    let least : n ≤ w'.heard = subst (λ z. n ≤ z) (sym (ap (λ (z : Writing). z.heard) became)) (above_right w.heard n) in (
      record {
        whole = length-set now t w' ∙ h.whole;
        each = λ k d kl. ⊎_elim
            (λ (e : k ≡ t). subst (λ z. HearsOne (slice_index_or old z d) (slice_index_or (set now t w') z d)) (sym e)
            (subst (λ (z : Writing). HearsOne (slice_index_or old t d) z) (sym (get_or-set_same now t w' d here))
            (heard_more (slice_index_or old t d) w w' n (subst (λ (z : Writing × Writing). HearsOne z.0 z.1) (λ i. (same_at old t w d lt i, sym is i)) (h.each t w lt)) became)))
            (λ (ne : k ≡ t → ⊥). subst (λ (z : Writing). HearsOne (slice_index_or old k d) z) (sym (get_or-set_other now t k w' d ne)) (h.each k d kl))
            (cases_eq k t);
      },
      set_each (λ k x. slice_index seen k ≤ x.heard) now t w' (t + 1) here (λ k d kl ne. b k d (omega arith)) (subst (λ z. z ≤ w'.heard) (sym first) least),
    )

hears_trans : (a b c : List Writing) → Hears a b → Hears b c → Hears a c
hears_trans a b c p q = record {
  whole = q.whole ∙ p.whole;
  each = λ t d lt. let x = p.each t d lt in let y = q.each t d (omega (arith, p.whole)) in
      record { cell = y.cell ∙ x.cell; list = y.list ∙ x.list; tile = y.tile ∙ x.tile; count = y.count ∙ x.count; heard = le_trans x.heard y.heard };
}

heard_on : (m : ℕ) (seen : List ℕ) (a b : List Writing) → m ≤ length a → Hears a b → HeardBelow m seen a → HeardBelow m seen b
heard_on m seen a b le h f t d lt = le_trans (f t d lt) (h.each t d (omega arith)).heard

-- the writers and a reader are the same after some ends
pub writers_on : (cells : List TableId) (old now : List Writing) → AreWriters cells old → Hears old now → AreWriters cells now
writers_on cells old now w h = record {
  whole = h.whole ∙ w.whole;
  at = λ t d lt. w.at t d lt ∙ ap Some (sym (h.each t d (omega (arith, w.whole))).cell);
  tile = λ t d lt. (h.each t d (omega (arith, w.whole))).tile ∙ w.tile t d lt;
}

pub reader_on : (cells : List TableId) (old now : List Writing) (r : Reading) → AreWriters cells old → Hears old now → IsReaderOf cells old r → IsReaderOf cells now r
reader_on cells old now r w h of = record { of = of.of; list_is = λ t d lt. (h.each t d (omega (arith, w.whole))).list ∙ of.list_is t d lt }

-- one reader more has ended
pub readers_more : (m : ℕ) (rs : List Reading) (n : ℕ) (r : Reading) (old now after : List Writing) → r ≡ slice_index_or rs n r → n < length rs → m ≤ length now → Hears old now → Hears now after → HeardBelow m r.seen after
    → ((k : ℕ) (d : Reading) → k < length (take n rs) → HeardBelow m (slice_index_or (take n rs) k d).seen now)
    → Hears old after × ((k : ℕ) (d : Reading) → k < length (take (n + 1) rs) → HeardBelow m (slice_index_or (take (n + 1) rs) k d).seen after)
readers_more m rs n r old now after is lt le p q here f =
    let len : length (take n rs) ≡ n = length-take-le n rs (omega arith) in
    let more : take (n + 1) rs ≡ take n rs ++ r ∷ [] = take_more rs n r lt ∙ ap (λ (z : Reading). take n rs ++ z ∷ []) (sym is) in (
      hears_trans old now after p q,
      subst (λ (l : List Reading). (k : ℕ) (d : Reading) → k < length l → HeardBelow m (slice_index_or l k d).seen after) (sym more)
          (λ k d kl. pushed_at (λ _ (x : Reading). HeardBelow m x.seen after) n (take n rs) r len (λ j e jl. heard_on m (slice_index_or (take n rs) j e).seen now after le q (f j e (omega (arith, len)))) here k d (omega (arith, kl, len, length-append (take n rs) (r ∷ [])))),
    )

-- at the end of the loop all readers have ended
pub all_readers : (m : ℕ) (rs : List Reading) (n : ℕ) (ws : List Writing) → n ≡ length rs → ((k : ℕ) (d : Reading) → k < length (take n rs) → HeardBelow m (slice_index_or (take n rs) k d).seen ws) → (k : ℕ) (d : Reading) → k < length rs → HeardBelow m (slice_index_or rs k d).seen ws
all_readers m rs n ws is f = subst (λ (l : List Reading). (k : ℕ) (d : Reading) → k < length l → HeardBelow m (slice_index_or l k d).seen ws) (take_all n rs is) f
  where
    take_all : (n : ℕ) (rs : List Reading) → n ≡ length rs → take n rs ≡ rs
    take_all n [] is = λ i. take (is i) []
    take_all zero (r ∷ rs) is = absurd (omega arith)
    take_all (suc n) (r ∷ rs) is = ap (λ l. r ∷ l) (take_all n rs (omega arith))

pub states_more : (ws : List Writing) (room : List TileOf) (n : ℕ) (w : Writing) (state : TileOf) → length room ≡ n → n < length ws → w ≡ slice_index_or ws n w → state ≡ standing_by w → AreChecked n ws room → AreChecked (n + 1) ws (room ++ state ∷ [])
states_more ws room n w state len lt is shown f t d tl =
    pushed_at (λ k (x : TileOf). x ≡ standing_by (slice_index_or ws k d)) n room state len
    (λ k x kl. same_at room k x no_tile (omega arith) ∙ f k d kl)
    (subst (λ (z : Writing). state ≡ standing_by z) (is ∙ same_at ws n w d lt) shown) t no_tile tl

-- lists of one length that have the same elements
pub same_each : {X : Type 0} (xs ys : List X) → length ys ≡ length xs → ((k : ℕ) (d : X) → k < length xs → slice_index_or ys k d ≡ slice_index_or xs k d) → ys ≡ xs
same_each [] [] len f = refl
same_each [] (y ∷ ys) len f = absurd (omega arith)
same_each (x ∷ xs) ys len f = ext_get_or x ys (x ∷ xs) len (λ i lt. f i x (omega (arith, lt, len)))

pub checked_more : (ws now : List Writing) (room : List TileOf) (n : ℕ) (w : Writing) (state : TileOf) → now ≡ ws → length room ≡ n → n < length ws → w ≡ slice_index_or now n w → state ≡ standing_at w.tile w.count w.list → w.heard ≤ w.count
    → AreChecked n ws room → HearWithin n ws → AreChecked (n + 1) ws (room ++ state ∷ []) × HearWithin (n + 1) ws
checked_more ws now room n w state same len lt is shown heard f h = (
  states_more ws room n w state len lt (is ∙ ap (λ l. slice_index_or l n w) same) shown f,
  λ t d tl. ⊎_elim (λ (e : t ≡ n). subst (λ k. (slice_index_or ws k d).heard ≤ (slice_index_or ws k d).count) (sym e) (subst (λ (z : Writing). z.heard ≤ z.count) (at d) heard))
      (λ (ne : t ≡ n → ⊥). h t d (omega arith)) (cases_eq t n),
)
  where
    at : (d : Writing) → w ≡ slice_index_or ws n d
    at d = is ∙ ap (λ l. slice_index_or l n w) same ∙ same_at ws n w d lt

-- what close tells of the writers that it was given
pub states_on : (cells : List TableId) (old now : List Writing) (room : List TileOf) → AreWriters cells old → Hears old now → AreChecked (length cells) now room
    → (t : ℕ) (d : Writing) → t < length cells → tile_at room t ≡ standing_at t (slice_index_or old t d).count (slice_index_or old t d).list
states_on cells old now room w h f t d lt =
    let n = h.each t d (omega (arith, w.whole)) in
    f t d lt ∙ (λ i. standing_at ((n.tile ∙ w.tile t d lt) i) (n.count i) (n.list i))

pub seen_on : (cells : List TableId) (old now : List Writing) (r : Reading) → AreWriters cells old → Hears old now → HeardBelow (length cells) r.seen now → HearWithin (length cells) now → CoversSeen (length cells) old r
seen_on cells old now r w h b f t d lt =
    let n = h.each t d (omega (arith, w.whole)) in
    le_trans (b t d lt) (subst (λ z. (slice_index_or now t d).heard ≤ z) n.count (f t d lt))

-- a vector whose whole slice was lent has what was left in the slice
pub lent_back : {X : Type 0} (n : ℕ) (new old : List X) → n ≡ length new → take n (new ++ drop (length new) old) ≡ new
lent_back n new old is = ap (λ k. take k (new ++ drop (length new) old)) is ∙ take-append_seam new (drop (length new) old)
