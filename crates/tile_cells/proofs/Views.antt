-- A reader after a pass has changed.
use Rattle.std.proofs.Common.{◌≡◌, ℕ, zero, suc, ◌+◌, ◌<◌, ◌≤◌, max, List, [], ◌∷◌, map, length, set, get_or, refl, sym, ap, ◌∙◌, subst, length-set, arith}
use Rattle.std.specs.Prelude.{slice_index, slice_index_or}
use Rattle.std.proofs.lemmas.List.{map-set}
use Rattle.std.proofs.lemmas.List as lists
use Rattle.std.proofs.Math.ListN as here
use Rattle.std.proofs.Math.Seq.{map-set_same}
use Rattle.atomic_table.specs.Seated.{TableId}
use Rattle.crossbeam_utils.specs.Seq.{cell_view}
use Rattle.cull_base.specs.Tiles.{PieceList, tile_list}
use Rattle.cull_base.proofs.Lists.{set_each}
use Rattle.tile_cells.specs.declared.rule.View.{View}
use Rattle.tile_cells.specs.Rule.{reader}
use Rattle.tile_cells.specs.Cells.{Reading}
use Rattle.tile_cells.specs.Passes.{Token, Reads, AreReading, number_at, names_of, list_of, seen_of, loads_of, reading}
use Rattle.tile_cells.specs.Words.{HoldsAt, IsTile, words_of}
use Rattle.cull_base.specs.Screen.{tile_count_of}
use Rattle.masked_update.specs.TileOf.{TileOf}
use Rattle.masked_update.specs.Taken.{standing_at}
use Rattle.tile_cells.proofs.Lists.{same_at}

-- a pass and a cell in one place have one name
pub own_at : {X : Type 0} (f : X → TableId) (cs : List X) (ps : List Token) (t : ℕ) (c : X) (p : Token) → names_of ps ≡ map f cs → c ≡ slice_index_or cs t c → p ≡ slice_index_or ps t p → t < length ps → p.table_id ≡ f c
own_at f cs ps t c p same ci pi lt =
    ap (λ (q : Token). q.table_id) pi ∙ sym (lists.get_or-map (λ (q : Token). q.table_id) ps t p (f c) lt) ∙ ap (λ l. get_or l t (f c)) same ∙ here.get_or-map f cs t c ∙ ap f (sym ci)

list_set : (ps : List Token) (t : ℕ) (new old : Token) → t < length ps → old ≡ slice_index_or ps t old → (cell_view new).list ≡ (cell_view old).list → list_of (set ps t new) ≡ list_of ps
list_set [] t new old lt is l = absurd (omega arith)
list_set (p ∷ ps) zero new old lt is l = l ∙ ap (λ (q : Token). (cell_view q).list) is
list_set (p ∷ ps) (suc t) new old lt is l = refl

module _ (ps : List Token) (t : ℕ) (old new : Token) (lt : t < length ps) (is : old ≡ slice_index_or ps t old) (name : new.table_id ≡ old.table_id) where
  changed : (k n : ℕ) → cell_view new ≡ reader (cell_view old).list (cell_view old).tile k n → reading (set ps t new) ≡ record { cells = names_of ps; list = list_of ps; seen = set (seen_of ps) t k; loads = set (loads_of ps) t n }
  changed k n now =
      let a : names_of (set ps t new) ≡ names_of ps = map-set_same (λ (q : Token). q.table_id) ps t new old (name ∙ ap (λ (q : Token). q.table_id) is) in
      let b : list_of (set ps t new) ≡ list_of ps = list_set ps t new old lt is (ap (λ (v : View). v.list) now) in
      let c : seen_of (set ps t new) ≡ set (seen_of ps) t k = map-set (λ (q : Token). (cell_view q).number) ps t new ∙ ap (λ z. set (seen_of ps) t z) (ap (λ (v : View). v.number) now) in
      let d : loads_of (set ps t new) ≡ set (loads_of ps) t n = map-set (λ (q : Token). (cell_view q).loads) ps t new ∙ ap (λ z. set (loads_of ps) t z) (ap (λ (v : View). v.loads) now) in
      (λ i. record { cells = a i; list = b i; seen = c i; loads = d i })

  -- the reader is still one of its list
  pub still_reading : (k n : ℕ) → AreReading ps → cell_view new ≡ reader (cell_view old).list (cell_view old).tile k n → AreReading (set ps t new)
  still_reading k n r now =
      let first : list_of ps ≡ list_of (set ps t new) = sym (list_set ps t new old lt is (ap (λ (v : View). v.list) now)) in
      let was : Reads (list_of ps) t old = subst (Reads (list_of ps) t) (sym is) (r.each t old lt) in
      let mine : Reads (list_of ps) t new =
      now
      ∙ (λ i. reader (ap (λ (v : View). v.list) was i) (ap (λ (v : View). v.tile) was i) (ap (λ (v : View). v.number) (sym now) i) (ap (λ (v : View). v.loads) (sym now) i)) in
      record {
        each = subst (λ (l : PieceList). (j : ℕ) (d : Token) → j < length (set ps t new) → Reads l j (slice_index_or (set ps t new) j d)) first
            (λ j d jl. set_each (Reads (list_of ps)) ps t new (length ps) lt (λ e d' el ne. r.each e d' el) mine j d (omega (arith, jl, length-set ps t new)));
        whole = length-set ps t new ∙ r.whole ∙ ap (λ (l : PieceList). tile_count_of l.size) first;
      }

  -- what it has seen is what its passes know
  pub still_seen : (seen : List ℕ) (k m n : ℕ) → seen ≡ seen_of ps → m ≡ k → cell_view new ≡ reader (cell_view old).list (cell_view old).tile k n → set seen t m ≡ seen_of (set ps t new)
  still_seen seen k m n same mk now =
      (λ i. set (same i) t (mk i)) ∙ ap (λ z. set (seen_of ps) t z) (sym (ap (λ (v : View). v.number) now)) ∙ sym (map-set (λ (q : Token). number_at q) ps t new)

  pub after_load : (k : ℕ) (s : Reading) → cell_view new ≡ reader (cell_view old).list (cell_view old).tile k ((cell_view old).loads + 1) → reading ps ≡ s
      → reading (set ps t new) ≡ record s { seen = set s.seen t k; loads = set s.loads t (slice_index s.loads t + 1) }
  after_load k s now view_is =
      let was : slice_index (loads_of ps) t ≡ (cell_view old).loads = lists.get_or-map (λ (q : Token). (cell_view q).loads) ps t old 0 lt ∙ ap (λ (q : Token). (cell_view q).loads) (sym is) in
      changed k ((cell_view old).loads + 1) now
      ∙ ap (λ z. record { cells = names_of ps; list = list_of ps; seen = set (seen_of ps) t k; loads = set (loads_of ps) t (z + 1) }) (sym was)
      ∙ ap (λ (r : Reading). record r { seen = set r.seen t k; loads = set r.loads t (slice_index r.loads t + 1) }) view_is

  pub after_learn : (m : ℕ) (s : Reading) → cell_view new ≡ reader (cell_view old).list (cell_view old).tile (max (cell_view old).number m) (cell_view old).loads → reading ps ≡ s
      → reading (set ps t new) ≡ record s { seen = set s.seen t (max (slice_index s.seen t) m) }
  after_learn m s now view_is =
      let was : slice_index (seen_of ps) t ≡ (cell_view old).number = lists.get_or-map (λ (q : Token). (cell_view q).number) ps t old 0 lt ∙ ap (λ (q : Token). (cell_view q).number) (sym is) in
      let same : set (loads_of ps) t (cell_view old).loads ≡ loads_of ps = sym (map-set (λ (q : Token). (cell_view q).loads) ps t old) ∙ map-set_same (λ (q : Token). (cell_view q).loads) ps t old old (ap (λ (q : Token). (cell_view q).loads) is) in
      changed (max (cell_view old).number m) (cell_view old).loads now
      ∙ (λ i. record { cells = names_of ps; list = list_of ps; seen = set (seen_of ps) t (max (sym was i) m); loads = same i })
      ∙ ap (λ (r : Reading). record r { seen = set r.seen t (max (slice_index r.seen t) m) }) view_is

pub within : (ps : List Token) (s : Reading) (t : ℕ) → AreReading ps → reading ps ≡ s → t < tile_count_of s.list.size → t < length ps
within ps s t r is lt =
    let below : t < tile_count_of (list_of ps).size = subst (λ (z : Reading). t < tile_count_of z.list.size) (sym is) lt in
    subst (λ n. t < n) (sym r.whole) below

-- a pass of a reader, at its place
pub pass_at : (ps : List Token) (t : ℕ) (p : Token) → AreReading ps → p ≡ slice_index_or ps t p → t < length ps → Reads (list_of ps) t p
pass_at ps t p r is lt = subst (Reads (list_of ps) t) (sym is) (r.each t p lt)

-- the tile that a load gives
pub loaded : (ps : List Token) (t : ℕ) (p : Token) (words : List ℕ) (state : TileOf) (s : Reading) → Reads (list_of ps) t p → reading ps ≡ s
    → HoldsAt words (cell_view p).tile (slice_index words 0) (cell_view p).list → ((x : TileOf) → IsTile x → words ≡ words_of x → state ≡ x)
    → (state ≡ standing_at t (slice_index words 0) s.list) × (slice_index words 0 ≤ length (tile_list t s.list))
loaded ps t p words state s reads is holds only =
    let tile : (cell_view p).tile ≡ t = ap (λ (v : View). v.tile) reads in
    let list : (cell_view p).list ≡ s.list = ap (λ (v : View). v.list) reads ∙ ap (λ (z : Reading). z.list) is in
    let h : HoldsAt words t (slice_index words 0) s.list = subst (λ (z : ℕ × PieceList). HoldsAt words z.0 (slice_index words 0) z.1) (λ i. (tile i, list i)) holds in
    (only (standing_at t (slice_index words 0) s.list) h.possible h.words_are, h.within)

pub seen_here : (ps : List Token) (t : ℕ) (p : Token) → t < length ps → p ≡ slice_index_or ps t p → slice_index (seen_of ps) t ≡ number_at p
seen_here ps t p lt at = lists.get_or-map (λ (q : Token). number_at q) ps t p 0 lt ∙ ap (λ (q : Token). number_at q) (sym at)

pub seen_at : (ps : List Token) (t : ℕ) (p : Token) (s : Reading) → p ≡ slice_index_or ps t p → t < length ps → reading ps ≡ s → slice_index s.seen t ≡ number_at p
seen_at ps t p s at lt is = ap (λ (z : Reading). slice_index z.seen t) (sym is) ∙ seen_here ps t p lt at

pub named_below : (ps : List Token) (s : Reading) (cells : List TableId) (t : ℕ) → reading ps ≡ s → s.cells ≡ cells → t < length cells → t < length ps
named_below ps s cells t is of lt = omega (arith, lists.length-map ps (λ (q : Token). q.table_id), ap (λ (r : Reading). length r.cells) is, ap length of)

-- what a reader holds beside a pass is what the pass has seen
pub seen_beside : (ps : List Token) (t : ℕ) (p : Token) (seen : List ℕ) (n : ℕ) → t < length ps → p ≡ slice_index_or ps t p → seen ≡ seen_of ps → n ≡ slice_index_or seen t n → n ≡ number_at p
seen_beside ps t p seen n lt at same is =
    is ∙ same_at seen t n 0 (omega (arith, lt, ap length same, lists.length-map ps (λ (q : Token). number_at q))) ∙ ap (λ l. slice_index l t) same ∙ seen_here ps t p lt at

-- a load of a reader's pass at its place
pub load_at : (ps : List Token) (t : ℕ) (p : Token) (words : List ℕ) (state : TileOf) (s : Reading) → AreReading ps → reading ps ≡ s → t < tile_count_of s.list.size → p ≡ slice_index_or ps t p
    → HoldsAt words (cell_view p).tile (slice_index words 0) (cell_view p).list → ((x : TileOf) → IsTile x → words ≡ words_of x → state ≡ x)
    → (t < length ps) × (state ≡ standing_at t (slice_index words 0) s.list) × (slice_index words 0 ≤ length (tile_list t s.list))
load_at ps t p words state s r is on at holds only =
    let lt = within ps s t r is on in
    let l = loaded ps t p words state s (pass_at ps t p r at lt) is holds only in
    (lt, l.0, l.1)
