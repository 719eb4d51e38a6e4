-- Writers that come back into the slots of their tiles.
use Rattle.std.proofs.Common.{◌≡◌, ⊎_elim, inl, inr, ℕ, ◌+◌, ◌/◌, ◌%◌, ◌<◌, ◌≤◌, List, [], ◌∷◌, Some, None, length, set, length-set, arith, refl, ap, ◌∙◌, sym, subst}
use Rattle.std.specs.Prelude.{slice_index_or, IsSome, MatchOption}
use Rattle.std.specs.declared.option.Option.{Option}
use Rattle.std.proofs.lemmas.Bool.{cases_eq, cases_lt}
use Rattle.std.proofs.lemmas.List.{get_or-set_other, get_or-set_same}
use Rattle.std.proofs.lemmas.Nat.{mod_below}
use Rattle.binning.specs.Axis.{bin_along}
use Rattle.binning.specs.Bins.{bin_of, bin_span_of}
use Rattle.binning.specs.Cut.{CutOf, IsCut, bin_count_of}
use Rattle.binning.proofs.Axes.{bin_below}
use Rattle.binning.proofs.BinSpans.{bin_is_span, in_bin, in_span, some_tile_columns, some_tile_rows}
use Rattle.cull_base.specs.Screen.{Dimensions, IsSize, tile_columns_of, tile_count_of, tile_place, tile_rows_of}
use Rattle.cull_base.specs.Span.{number_in}
use Rattle.cull_base.proofs.Places.{row_below}
use Rattle.masked_update.proofs.Grid.{number_below}
use Rattle.masked_update.proofs.Tiles.{number_within}
use Rattle.tile_cells.specs.Cells.{Writing}
use Rattle.tile_cells.specs.Standing.{StandsAt}
use Rattle.tile_cells.proofs.Lists.{same_at}
use Rattle.tile_queues.specs.declared.cell_bin.CellBin.{CellBin}
use Rattle.tile_queues.specs.CellBins.{tile_numbered, HoldsBin}
use Rattle.tile_queues.specs.Owners.{AreBinsOf, ArePut, ArePutBack, AreTasksOf, IsBack, IsHandedBack, IsPut}
use Rattle.bin_queues.specs.QueueParts.{BatchedFrame, IsBatched, places_before}
use Rattle.bin_queues.specs.Tasks.{QueuesOf, Tasking}
use Rattle.tile_queues.proofs.Slotting.{numbered}

pub put_none : (ws : List Writing) (slots : List (Option Writing)) → ArePut ws 0 slots slots
put_none ws slots = record { whole = refl; kept = λ t d lt. inl refl; put = λ m e d lt. absurd (omega arith) }

put_on : (ws : List Writing) (n t : ℕ) (o : Option Writing) → IsPut ws n t o → IsPut ws (n + 1) t o
put_on ws n t o (m, lt, is) = (m, omega (arith, lt), is)

pub put_more : (ws : List Writing) (n : ℕ) (old mid : List (Option Writing)) (w : Writing) (tile : ℕ) → ArePut ws n old mid → w ≡ slice_index_or ws n w → n < length ws → w.tile < length old → tile ≡ w.tile → ArePut ws (n + 1) old (set mid tile (Some w))
put_more ws n old mid w tile at is lt within tile_is = record {
  whole = length-set mid tile (Some w) ∙ at.whole;
  kept = λ t d tl. ⊎_elim
      (λ (e : t ≡ tile). inr (there t d e))
      (λ (ne : t ≡ tile → ⊥). let other = get_or-set_other mid tile t (Some w) d ne in
      ⊎_elim (λ (same : slice_index_or mid t d ≡ slice_index_or old t d). inl (other ∙ same))
      (λ (p : IsPut ws n t (slice_index_or mid t d)). inr (subst (IsPut ws (n + 1) t) (sym other) (put_on ws n t (slice_index_or mid t d) p))) (at.kept t d tl))
      (cases_eq t tile);
  put = λ m e d ml. ⊎_elim
      (λ (h : (slice_index_or ws m e).tile ≡ tile). there (slice_index_or ws m e).tile d h)
      (λ (ne : (slice_index_or ws m e).tile ≡ tile → ⊥).
      let below : m < n = ⊎_elim (λ (h : m < n). h) (λ (h : n ≤ m). let same : m ≡ n = omega (arith, ml, h) in absurd (ne (ap (λ k. (slice_index_or ws k e).tile) same ∙ sym (ap (λ (z : Writing). z.tile) (here e)) ∙ sym tile_is))) (cases_lt m n) in
      let other = get_or-set_other mid tile (slice_index_or ws m e).tile (Some w) d ne in
      subst (IsPut ws (n + 1) (slice_index_or ws m e).tile) (sym other) (put_on ws n (slice_index_or ws m e).tile (slice_index_or mid (slice_index_or ws m e).tile d) (at.put m e d below)))
      (cases_eq (slice_index_or ws m e).tile tile);
}
  where
    here : (e : Writing) → w ≡ slice_index_or ws n e
    here e = is ∙ same_at ws n w e lt

    there : (t : ℕ) (d : Option Writing) → t ≡ tile → IsPut ws (n + 1) t (slice_index_or (set mid tile (Some w)) t d)
    there t d e =
        let whole = at.whole in
        let inside : tile < length mid = omega (arith, within, tile_is, whole) in
        let got : slice_index_or (set mid tile (Some w)) t d ≡ Some w = ap (λ k. slice_index_or (set mid tile (Some w)) k d) e ∙ get_or-set_same mid tile (Some w) d inside in
        subst (IsPut ws (n + 1) t) (sym got) (n, omega arith, λ z. (ap Some (here z), sym (ap (λ (x : Writing). x.tile) (here z)) ∙ sym tile_is ∙ sym e))

-- a writer of a task's bin
pub record IsBinWriter (t : Tasking) (w : Writing) : Type 0 where
  pub stands : StandsAt t.of.frame.cells t.of.frame.list (places_before t.of.frame t.batches) w.tile w
  pub on_screen : w.tile < tile_count_of t.of.frame.list.size
  pub binned : bin_of t.of.frame.list.size t.of.frame.cut w.tile ≡ t.of.bin

pub bin_writer : (t : Tasking) (bin : CellBin) (n : ℕ) (d : Writing) → HoldsBin t bin → IsBatched t.of.frame → t.of.bin < bin_count_of t.of.frame.cut → n < length bin.writers.items → IsBinWriter t (slice_index_or bin.writers.items n d)
bin_writer t bin n d holds batched real lt =
    let f = t.of.frame in
    let window = bin_span_of f.list.size f.cut t.of.bin in
    let span = bin_is_span f.list.size f.cut t.of.bin batched.is_cut real in
    let whole = holds.whole in
    let at = numbered f.list.size window n span (omega (arith, lt, whole)) in
    let s = subst (λ m. StandsAt f.cells f.list (places_before f t.batches) (tile_numbered f.list.size window n) (slice_index_or bin.writers.items m d)) at.number (holds.each (tile_numbered f.list.size window n) d at.within) in
    let same = s.tile_is in
    let binned = in_bin f.list.size f.cut t.of.bin (tile_numbered f.list.size window n) batched.sized batched.is_cut at.within.on_screen at.within.within in
    record {
      stands = subst (λ u. StandsAt f.cells f.list (places_before f t.batches) u (slice_index_or bin.writers.items n d)) (sym same) s;
      on_screen = subst (λ u. u < tile_count_of f.list.size) (sym same) at.within.on_screen;
      binned = ap (bin_of f.list.size f.cut) same ∙ binned;
    }

some_of : (ws : List Writing) (m : ℕ) → m < length ws → Writing
some_of [] m lt = absurd (omega arith)
some_of (w ∷ ws) m lt = w

-- what was put into a slot comes from the task whose writers were put
handed : (frame : BatchedFrame) (tasks : List Tasking) (n : ℕ) (x : Tasking) (bin : CellBin) (t : ℕ) (o : Option Writing) → AreBinsOf frame tasks → x ≡ slice_index_or tasks n x → n < length tasks → HoldsBin x bin → x.of.bin < bin_count_of x.of.frame.cut
    → IsPut bin.writers.items (length bin.writers.items) t o → MatchOption o ⊥ (IsHandedBack frame tasks t)
handed frame tasks n x bin t o bins is lt holds real (m, ml, put) =
    let d = some_of bin.writers.items m ml in
    let w : Writing = slice_index_or bin.writers.items m d in
    let framed : x.of.frame ≡ frame = ap (λ (z : Tasking). z.of.frame) is ∙ bins.frame_is n x lt in
    let own = bin_writer x bin m d holds (subst IsBatched (sym framed) bins.batched) real ml in
    let p = put d in
    let back : IsHandedBack frame tasks t w = (
      n,
      lt,
      λ e.
          let same : x ≡ slice_index_or tasks n e = is ∙ same_at tasks n x e lt in
          let task = slice_index_or tasks n e in
          let at : (x.of.bin ≡ bin_of frame.list.size frame.cut t) × StandsAt frame.cells frame.list (places_before frame x.batches) t w =
          (sym own.binned ∙ (λ i. bin_of (framed i).list.size (framed i).cut (p.1 i)), subst (λ (z : BatchedFrame × ℕ). StandsAt z.0.cells z.0.list (places_before z.0 x.batches) z.1 w) (λ i. (framed i, p.1 i)) own.stands) in
          subst (λ (z : Tasking). (z.of.bin ≡ bin_of frame.list.size frame.cut t) × StandsAt frame.cells frame.list (places_before frame z.batches) t w) same at,
    ) in
    subst (λ (z : Option Writing). MatchOption z ⊥ (IsHandedBack frame tasks t)) (sym p.0) back

pub put_back_none : (frame : BatchedFrame) (tasks : List Tasking) (slots : List (Option Writing)) → ArePutBack frame tasks 0 slots slots
put_back_none frame tasks slots = record { kept = λ t d lt. inl refl; back = λ t d i lt il binned. absurd (omega (arith, il)) }

pub put_back_more : (frame : BatchedFrame) (tasks : List Tasking) (n : ℕ) (x : Tasking) (bin : CellBin) (old mid new : List (Option Writing)) → AreBinsOf frame tasks → x ≡ slice_index_or tasks n x → n < length tasks → HoldsBin x bin → x.of.bin < bin_count_of x.of.frame.cut
    → length mid ≡ tile_count_of frame.list.size → ArePutBack frame tasks n old mid → ArePut bin.writers.items (length bin.writers.items) mid new → ArePutBack frame tasks (n + 1) old new
put_back_more frame tasks n x bin old mid new bins is lt holds real whole at put = record {
  kept = λ t d tl. ⊎_elim
      (λ (same : slice_index_or new t d ≡ slice_index_or mid t d). ⊎_elim
      (λ (stayed : slice_index_or mid t d ≡ slice_index_or old t d). inl (same ∙ stayed))
      (λ (back : IsBack frame tasks t (slice_index_or mid t d)). inr (subst (IsBack frame tasks t) (sym same) back))
      (at.kept t d tl))
      (λ (p : IsPut bin.writers.items (length bin.writers.items) t (slice_index_or new t d)). inr (handed frame tasks n x bin t (slice_index_or new t d) bins is lt holds real p))
      (put.kept t d (omega (arith, tl, whole)));
  back = λ t d i tl il binned. ⊎_elim
      (λ (before : i < n). ⊎_elim
      (λ (same : slice_index_or new t d ≡ slice_index_or mid t d). subst (IsBack frame tasks t) (sym same) (at.back t d i tl before binned))
      (λ (p : IsPut bin.writers.items (length bin.writers.items) t (slice_index_or new t d)). handed frame tasks n x bin t (slice_index_or new t d) bins is lt holds real p)
      (put.kept t d (omega (arith, tl, whole))))
      (λ (after : n ≤ i).
      let here : i ≡ n = omega (arith, il, after) in
      let framed : x.of.frame ≡ frame = ap (λ (z : Tasking). z.of.frame) is ∙ bins.frame_is n x lt in
      let mine : bin_of x.of.frame.list.size x.of.frame.cut t ≡ x.of.bin = (λ j. bin_of (framed j).list.size (framed j).cut t) ∙ sym (ap (λ (z : Tasking). z.of.bin) is ∙ ap (λ k. (slice_index_or tasks k x).of.bin) (sym here) ∙ binned x) in
      let batched = subst IsBatched (sym framed) bins.batched in
      let below : t < tile_count_of x.of.frame.list.size = subst (λ (f : BatchedFrame). t < tile_count_of f.list.size) (sym framed) tl in
      let inside = in_span x.of.frame.list.size x.of.frame.cut x.of.bin t batched.sized batched.is_cut below mine in
      let window = bin_span_of x.of.frame.list.size x.of.frame.cut x.of.bin in
      let m = number_in window (tile_place x.of.frame.list.size t) in
      let many = holds.whole in
      let ml : m < length bin.writers.items = (let h = number_within window (tile_place x.of.frame.list.size t) inside in omega (arith, h, many)) in
      let e = some_of bin.writers.items m ml in
      let tile : (slice_index_or bin.writers.items m e).tile ≡ t = (holds.each t e (record { on_screen = below; within = inside })).tile_is in
      handed frame tasks n x bin t (slice_index_or new t d) bins is lt holds real (subst (λ u. IsPut bin.writers.items (length bin.writers.items) u (slice_index_or new u d)) tile (put.put m e d ml)))
      (cases_lt i n);
}

-- each tile has a bin
pub bin_within : (size : Dimensions) (cut : CutOf) (t : ℕ) → IsSize size.width size.height → IsCut cut.columns cut.rows → t < tile_count_of size → bin_of size cut t < bin_count_of cut
unfolding bin_of
bin_within size cut t sized valid lt =
    let columns = tile_columns_of size in
    let rows = tile_rows_of size in
    let some = some_tile_columns size sized in
    let any = some_tile_rows size sized in
    let row : t / columns < rows = row_below t columns rows some lt in
    let across = bin_below cut.columns columns (t % columns) some (mod_below t columns some) (let h = valid.some_columns in omega (arith, h)) in
    let down = bin_below cut.rows rows (t / columns) any row (let h = valid.some_rows in omega (arith, h)) in
    number_below (bin_along cut.rows rows (t / columns)) cut.rows (bin_along cut.columns columns (t % columns)) cut.columns down across

pub match_some : (o : Option Writing) (P : Writing → Type 0) → MatchOption o ⊥ P → IsSome o
match_some None P h = absurd h
match_some (Some w) P h = refl

pub match_at : (o : Option Writing) (P : Writing → Type 0) (w : Writing) → MatchOption o ⊥ P → o ≡ Some w → P w
match_at o P w h e = subst (λ (z : Option Writing). MatchOption z ⊥ P) e h

-- when all tasks' writers are back, each slot is full
pub all_back : (queues : QueuesOf) (frame : BatchedFrame) (tasks : List Tasking) (old slots : List (Option Writing)) → IsBatched frame → AreTasksOf queues frame tasks → ArePutBack frame tasks (length tasks) old slots
    → (t : ℕ) (d : Option Writing) → t < tile_count_of frame.list.size → IsBack frame tasks t (slice_index_or slots t d)
all_back queues frame tasks old slots batched at put t d lt =
    let there = at.all (bin_of frame.list.size frame.cut t) (bin_within frame.list.size frame.cut t batched.sized batched.is_cut lt) in
    put.back t d there.0 lt there.1 there.2
