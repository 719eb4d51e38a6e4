-- Batches: how many triangles they have, their first fault, and how they are read from their entries.
use Rattle.std.proofs.Common.{◌≡◌, ℕ, suc, zero, ◌+◌, ◌-◌, ◌<◌, ◌≤◌, ◌∷◌, ◌++◌, List, [], length, get_or, take, drop, map, arith, refl, sym, ap, ◌∙◌, subst, true, false, Option, Some, None, inl, inr, ◌⊎◌, is_some}
use Rattle.std.specs.Prelude.{sum, sum_by, not, nat_lt, ◌==◌, ◌&&◌, ◌||◌}
use Rattle.std.specs.List.{AllByRecursion}
use Rattle.std.specs.Option.{option_or}
use Rattle.std.proofs.lemmas.Bool.{or_from, or_right, or_parts, le-ltb, lt-ltb, ltb-false, eq-eqb, ne_eqb, not-false, not_from_true, and_left, and_right, and_cases, both_ways, cases_eq}
use Rattle.std.proofs.lemmas.List.{length-map, map-append, take-append-le, take_at, take_all, drop_all, drop_more, get_or-map, nil_from_length}
use Rattle.std.proofs.lemmas.List.Sums.{sum_by-cons, sum_by_push, sum_by_more, sum_by_more_le, sum-map}
use Rattle.cull_base.specs.Batches.{AreBatchesOf}
use Rattle.cull_base.specs.Stream.{SourceSays, Takes}
use Rattle.cull_base.specs.declared.scene_types.Batch.{Batch}
use Rattle.cull_base.specs.declared.triangle.Winding.{Winding}
use Rattle.cull_base.specs.declared.triangle.Winding.TheVariants.{Both, DropClockwise, DropCounter}
use Rattle.scene_reader.specs.declared.batches.Batches.{Batches}
use Rattle.scene_reader.specs.declared.header.Header.{Header}
use Rattle.scene_reader.specs.declared.error.SceneError.{SceneError}
use Rattle.scene_reader.specs.declared.error.SceneError.TheVariants.{BadBatch}
use Rattle.scene_reader.specs.Layout.{Parts, IsScene, raw_batch, winding_code, winding_byte, stored_batches}
use Rattle.scene_reader.specs.Fault.{entries, first_among, fault_if, triangles_in, is_bad_batch, batch_fault, is_one_batch, split_fault, sum_fault, batches_fault, raw_batch_of, batches_told}
use Rattle.scene_reader.specs.Reading.{TakesTable, TakesBatch, TakesBatchTable, TakesBatches}
use Rattle.scene_reader.proofs.Headers.{at_first, at_second, or_parts_none, or_none_from, or_first, or_second, fault_none, fault_none_from}
use Rattle.scene_reader.proofs.Entries.{table_none, table_more}
use Rattle.scene_reader.proofs.ObjectTable.{first_append, length_entries}

pub winding_small : (w : Winding) → winding_code w ≤ 2
winding_small Both = omega arith
winding_small DropClockwise = omega arith
winding_small DropCounter = omega arith

-- ---- how many triangles

counts_same : (bs : List Batch) → triangles_in (map raw_batch bs) ≡ sum_by (λ (b : Batch). b.count) bs
counts_same [] = refl
counts_same (b ∷ bs) =
    sum_by-cons (λ (r : ℕ × ℕ). r.0) (raw_batch b) (map raw_batch bs) ∙ ap (λ (n : ℕ). b.count + n) (counts_same bs) ∙ sym (sum_by-cons (λ (x : Batch). x.count) b bs)

-- batches, and what stands for them in bytes
pub triangles_of : (bs : List Batch) → triangles_in (map raw_batch bs) ≡ sum (map (λ (b : Batch). b.count) bs)
triangles_of bs = counts_same bs ∙ sym (sum-map (λ (b : Batch). b.count) bs)

-- ---- the first fault

first_same : {X : Type 0} (f g : ℕ → X → Option SceneError) (i : ℕ) (xs : List X) → ((j : ℕ) (x : X) → j < i + length xs → f j x ≡ g j x) → first_among f i xs ≡ first_among g i xs
first_same f g i [] same = refl
first_same f g i (x ∷ xs) same =
    ap (λ (o : Option SceneError). option_or o (first_among f (i + 1) xs)) (same i x (omega arith))
    ∙ ap (option_or (g i x)) (first_same f g (i + 1) xs (λ j y lt. same j y (omega (arith, lt))))

none_at : {X : Type 0} (f : ℕ → X → Option SceneError) (i : ℕ) (xs : List X) (k : ℕ) (d : X) → first_among f i xs ≡ None → k < length xs → (j : ℕ) → j ≡ i + k → f j (get_or xs k d) ≡ None
none_at f i [] k d e lt j is = absurd (omega (arith, lt))
none_at f i (x ∷ xs) zero d e lt j is = ap (λ (n : ℕ). f n x) (omega (arith, is)) ∙ (or_parts_none (f i x) (first_among f (i + 1) xs) e).0
none_at f i (x ∷ xs) (suc k) d e lt j is = none_at f (i + 1) xs k d (or_parts_none (f i x) (first_among f (i + 1) xs) e).1 (omega (arith, lt)) j (omega (arith, is))

all_clear : {X : Type 0} (f : ℕ → X → Option SceneError) (i : ℕ) (xs : List X) (d : X) → ((k : ℕ) → k < length xs → (j : ℕ) → j ≡ i + k → f j (get_or xs k d) ≡ None) → first_among f i xs ≡ None
all_clear f i [] d clear = refl
all_clear f i (x ∷ xs) d clear =
    or_none_from _ _ (clear zero (omega arith) i (omega arith)) (all_clear f (i + 1) xs d (λ k lt j is. clear (suc k) (omega (arith, lt)) j (omega (arith, is))))

-- the fault of a batch depends on those before it alone
fault_front : (tris : ℕ) (raws rest : List (ℕ × ℕ)) (j : ℕ) (b : ℕ × ℕ) → j ≤ length raws → batch_fault tris (raws ++ rest) j b ≡ batch_fault tris raws j b
fault_front tris raws rest j b le = ap (λ (front : List (ℕ × ℕ)). fault_if (is_bad_batch tris (triangles_in front) b) (BadBatch j)) (take-append-le j raws rest le)

-- with one batch more
first_more : (tris i : ℕ) (raws : List (ℕ × ℕ)) (b : ℕ × ℕ) → length raws ≡ i
    → first_among (batch_fault tris (raws ++ b ∷ [])) 0 (raws ++ b ∷ []) ≡ option_or (first_among (batch_fault tris raws) 0 raws) (fault_if (is_bad_batch tris (triangles_in raws) b) (BadBatch i))
first_more tris i raws b len =
    let more = raws ++ b ∷ [] in
    first_append (batch_fault tris more) 0 i raws b (omega (arith, len))
    ∙ ap (λ (o : Option SceneError). option_or o (batch_fault tris more i b)) (first_same (batch_fault tris more) (batch_fault tris raws) 0 raws (λ j x lt. fault_front tris raws (b ∷ []) j x (omega (arith, lt))))
    ∙ ap (λ (front : List (ℕ × ℕ)). option_or (first_among (batch_fault tris raws) 0 raws) (fault_if (is_bad_batch tris (triangles_in front) b) (BadBatch i))) (take_at raws (b ∷ []) i len)

-- a fault that there is already hides what a number would decide
same_or : (o : Option SceneError) (f : ℕ → Option SceneError) (m n : ℕ) → (o ≡ None → m ≡ n) → option_or o (f m) ≡ option_or o (f n)
same_or None f m n h = ap f (h refl)
same_or (Some e) f m n h = refl

sum_within : (tris : ℕ) (raws : List (ℕ × ℕ)) → first_among (batch_fault tris raws) 0 raws ≡ None → triangles_in raws ≤ tris
sum_within tris raws e = elim (cases_eq (length raws) 0) [
  | inl none ↦ let nil : raws ≡ [] = nil_from_length raws none in rw nil (omega arith)
  | inr some ↦
      let k = length raws - 1 in
      let lt : k < length raws = omega (arith, some) in
      let clear = none_at (batch_fault tris raws) 0 raws k (0, 0) e lt k (omega arith) in
      let last = get_or raws k (0, 0) in
      let over = nat_lt tris (triangles_in (take k raws) + last.0) in
      let fits = ltb-false tris (triangles_in (take k raws) + last.0) (or_parts (nat_lt 2 last.1) over (fault_none (nat_lt 2 last.1 || over) (BadBatch k) clear)).1 in
      let whole : take (k + 1) raws ≡ raws = take_all (k + 1) raws (omega (arith, some)) in
      omega (arith, fits, sum_by_more (λ (r : ℕ × ℕ). r.0) raws k (0, 0) lt, ap triangles_in whole)
]

one_length : (tris : ℕ) (bs : List Batch) → is_one_batch tris (map raw_batch bs) ≡ true → length bs ≡ 1
one_length tris [] e = absurd cc
one_length tris (b ∷ []) e = refl
one_length tris (b ∷ c ∷ bs) e = absurd cc

is_one : (tris : ℕ) (bs : List Batch) → length bs ≡ 1 → AreBatchesOf bs tris → is_one_batch tris (map raw_batch bs) ≡ true
is_one tris [] len sums = absurd (omega (arith, len))
is_one tris (b ∷ []) len sums = eq-eqb b.count tris (omega (arith, sums))
is_one tris (b ∷ c ∷ bs) len sums = absurd (omega (arith, len))

pub batches_valid : (version tris : ℕ) (bs : List Batch) → batches_fault version tris (map raw_batch bs) ≡ None → AreBatchesOf bs tris × (version ≡ 1 → length bs ≡ 1)
unfolding batches_fault sum_fault
batches_valid version tris bs e =
    let raws = map raw_batch bs in
    let p = or_parts_none (split_fault version tris raws) _ e in
    let q = or_parts_none (first_among (batch_fault tris raws) 0 raws) _ p.1 in
    let low = ltb-false (triangles_in raws) tris (fault_none _ _ q.1) in
    let high = sum_within tris raws q.0 in (
      omega (arith, low, high, triangles_of bs),
      λ one. elim (and_cases (version == 1) (not (is_one_batch tris raws)) (fault_none _ _ p.0)) [
        | inl other ↦ absurd (both_ways (version == 1) other (eq-eqb version 1 one))
        | inr whole ↦ one_length tris bs (not-false _ whole)
      ],
    )

windings_small : (tris : ℕ) (all : List (ℕ × ℕ)) (i : ℕ) (raws : List (ℕ × ℕ)) → first_among (batch_fault tris all) i raws ≡ None → AllByRecursion (λ (raw : ℕ × ℕ). raw.1 ≤ 2) raws
windings_small tris all i [] e = tt
windings_small tris all i (raw ∷ raws) e =
    let p = or_parts_none (batch_fault tris all i raw) (first_among (batch_fault tris all) (i + 1) raws) e in
    (ltb-false 2 raw.1 (or_parts _ _ (fault_none _ _ p.0)).0, windings_small tris all (i + 1) raws p.1)

-- batches without a fault have windings
pub windings_known : (version tris : ℕ) (raws : List (ℕ × ℕ)) → batches_fault version tris raws ≡ None → AllByRecursion (λ (raw : ℕ × ℕ). raw.1 ≤ 2) raws
unfolding batches_fault sum_fault
windings_known version tris raws e =
    let p = or_parts_none (split_fault version tris raws) _ e in
    windings_small tris raws 0 raws (or_parts_none (first_among (batch_fault tris raws) 0 raws) _ p.1).0

pub batches_good : (version tris : ℕ) (bs : List Batch) → AreBatchesOf bs tris → (version ≡ 1 → length bs ≡ 1) → batches_fault version tris (map raw_batch bs) ≡ None
unfolding batches_fault sum_fault
batches_good version tris bs sums one =
    let raws = map raw_batch bs in
    or_none_from (split_fault version tris raws) _ (fault_none_from _ (BadBatch 0) (split (cases_eq version 1)))
    (or_none_from (first_among (batch_fault tris raws) 0 raws) _ (all_clear (batch_fault tris raws) 0 raws (0, 0) fine) (fault_none_from _ _ (le-ltb (triangles_in raws) tris (omega (arith, triangles_of bs, sums)))))
  where
    split : (version ≡ 1) ⊎ (version ≡ 1 → ⊥) → (version == 1 && not (is_one_batch tris (map raw_batch bs))) ≡ false
    split (inl first) = and_right (version == 1) _ (not_from_true _ (is_one tris bs (one first) sums))
    split (inr other) = and_left (version == 1) _ (ne_eqb version 1 other)

    first_batch : Batch
    first_batch = record { count = 0; winding = Both }

    fine : (k : ℕ) → k < length (map raw_batch bs) → (j : ℕ) → j ≡ 0 + k → batch_fault tris (map raw_batch bs) j (get_or (map raw_batch bs) k (0, 0)) ≡ None
    fine k lt j is =
        let raws = map raw_batch bs in
        let here : j ≡ k = omega (arith, is) in
        let at : get_or raws k (0, 0) ≡ raw_batch (get_or bs k first_batch) = get_or-map raw_batch bs k first_batch (0, 0) (omega (arith, lt, length-map bs raw_batch)) in
        let small : (get_or raws k (0, 0)).1 ≤ 2 = rw at (winding_small (get_or bs k first_batch).winding) in
        let most = sum_by_more_le (λ (r : ℕ × ℕ). r.0) raws k (0, 0) lt in
        rw here (fault_none_from _ _ (or_from _ _ (le-ltb 2 (get_or raws k (0, 0)).1 small) (le-ltb tris (triangles_in (take k raws) + (get_or raws k (0, 0)).0) (omega (arith, most, triangles_of bs, sums)))))

-- the one batch that a header of version 1 tells
pub one_fine : (version tris winding : ℕ) → winding ≤ 2 → batches_fault version tris ((tris, winding) ∷ []) ≡ None
unfolding batches_fault sum_fault
one_fine version tris winding small =
    or_none_from (split_fault version tris ((tris, winding) ∷ [])) _ (fault_none_from _ (BadBatch 0) (and_right (version == 1) _ (not_from_true _ (eq-eqb tris tris refl))))
    (or_none_from (first_among (batch_fault tris ((tris, winding) ∷ [])) 0 ((tris, winding) ∷ [])) _
    (or_none_from _ None (fault_none_from _ (BadBatch 0) (or_from _ _ (le-ltb 2 winding small) (le-ltb tris (0 + tris) (omega arith)))) refl)
    (fault_none_from _ (BadBatch 1) (le-ltb (0 + tris) tris (omega arith))))

pub second_fault : (version tris : ℕ) (raws : List (ℕ × ℕ)) → (version ≡ 1 → ⊥) → batches_fault version tris raws ≡ sum_fault tris raws
unfolding batches_fault
second_fault version tris raws other = or_second (split_fault version tris raws) (sum_fault tris raws) (fault_none_from _ (BadBatch 0) (and_left (version == 1) _ (ne_eqb version 1 other)))

-- ---- one entry more

no_fault : (o : Option SceneError) → is_some o ≡ false → o ≡ None
no_fault None e = refl
no_fault (Some x) e = absurd cc

pub batch_added : (tris i : ℕ) (raw : ℕ × ℕ) (before after : Batches) (b : Batch) → is_some before.fault ≡ false → after.fault ≡ before.fault
    → after.items.items ≡ before.items.items ++ b ∷ [] → after.counted ≡ before.counted + b.count → raw_batch b ≡ raw → before.counted + b.count ≤ tris → TakesBatch tris i raw before after
batch_added tris i raw before after b clear same items count is within = record {
  first = rw (same, no_fault before.fault clear) (sym (fault_none_from _ (BadBatch i) fine));
  items = λ _. ap (map raw_batch) items ∙ map-append raw_batch before.items.items (b ∷ []) ∙ ap (λ (r : ℕ × ℕ). map raw_batch before.items.items ++ r ∷ []) is;
  counted = λ _. count ∙ ap (λ (r : ℕ × ℕ). before.counted + r.0) is;
  within = omega (arith, count, within);
}
  where
    fine : is_bad_batch tris before.counted raw ≡ false
    fine = ap (is_bad_batch tris before.counted) (sym is) ∙ or_from _ _ (le-ltb 2 (winding_code b.winding) (winding_small b.winding)) (le-ltb tris (before.counted + b.count) within)

pub batch_refused : (tris i : ℕ) (raw : ℕ × ℕ) (before after : Batches) (e : SceneError) → is_some before.fault ≡ false → after.fault ≡ Some e → e ≡ BadBatch i
    → is_bad_batch tris before.counted raw ≡ true → after.counted ≡ before.counted → before.counted ≤ tris → TakesBatch tris i raw before after
batch_refused tris i raw before after e clear set named bad same within = record {
  first = rw (set, named, no_fault before.fault clear, bad) refl;
  items = λ no. let never : ◌≡◌ {A = Option SceneError} (Some e) None = sym set ∙ no in absurd cc;
  counted = λ no. let never : ◌≡◌ {A = Option SceneError} (Some e) None = sym set ∙ no in absurd cc;
  within = omega (arith, same, within);
}

-- ---- the table

pub batches_none : (tris : ℕ) (a : SourceSays) (batches : Batches) → batches.items.items ≡ [] → batches.counted ≡ 0 → batches.fault ≡ None → TakesBatchTable 0 tris a a batches
batches_none tris a batches e none clear = record {
  raws = [];
  table = table_none 5 raw_batch_of a [] refl;
  first = clear;
  whole = λ _. ap (map raw_batch) e;
  counted = λ _. none;
  within = omega (arith, none);
}

raws_count : (count tris : ℕ) (a b : SourceSays) (batches : Batches) (t : TakesBatchTable count tris a b batches) → length t.raws ≡ count
raws_count count tris a b batches t = ap length t.table.each ∙ length-map (entries 5 count t.table.bytes) raw_batch_of ∙ length_entries 5 count t.table.bytes

pub batches_more : (tris i : ℕ) (a b c : SourceSays) (before after : Batches) (piece : List ℕ)
    → length piece ≡ 5 → TakesBatchTable i tris a b before → Takes b.left c.left piece
    → TakesBatch tris i (raw_batch_of piece) before after → TakesBatchTable (i + 1) tris a c after
batches_more tris i a b c before after piece one t p now =
    let raw = raw_batch_of piece in
    let clear : after.fault ≡ None → before.fault ≡ None = λ e. (or_parts_none before.fault (fault_if (is_bad_batch tris before.counted raw) (BadBatch i)) (sym now.first ∙ e)).0 in
    record {
      raws = t.raws ++ raw ∷ [];
      table = table_more 5 i raw_batch_of a b c t.raws piece raw one refl t.table p;
      first =
          now.first
          ∙ same_or before.fault (λ (k : ℕ). fault_if (is_bad_batch tris k raw) (BadBatch i)) before.counted (triangles_in t.raws) t.counted
          ∙ ap (λ (o : Option SceneError). option_or o (fault_if (is_bad_batch tris (triangles_in t.raws) raw) (BadBatch i))) t.first
          ∙ sym (first_more tris i t.raws raw (raws_count i tris a b before t));
      whole = λ e. now.items e ∙ ap (λ (r : List (ℕ × ℕ)). r ++ raw ∷ []) (t.whole (clear e));
      counted = λ e. now.counted e ∙ ap (λ (n : ℕ). n + raw.0) (t.counted (clear e)) ∙ sym (sum_by_push (λ (r : ℕ × ℕ). r.0) t.raws raw);
      within = now.within;
    }

-- ---- the batches of a scene

-- the fault of a table and of its end
table_decided : (count tris : ℕ) (a b : SourceSays) (table : Batches) (t : TakesBatchTable count tris a b table) → option_or table.fault (fault_if (nat_lt table.counted tris) (BadBatch count)) ≡ sum_fault tris t.raws
unfolding sum_fault
table_decided count tris a b table t =
    same_or table.fault (λ (k : ℕ). fault_if (nat_lt k tris) (BadBatch count)) table.counted (triangles_in t.raws) t.counted
    ∙ ap (λ (o : Option SceneError). option_or o (fault_if (nat_lt (triangles_in t.raws) tris) (BadBatch count))) t.first
    ∙ ap (λ (n : ℕ). option_or (first_among (batch_fault tris t.raws) 0 t.raws) (fault_if (nat_lt (triangles_in t.raws) tris) (BadBatch n))) (sym (raws_count count tris a b table t))

-- those of a table, with the fault of its end
pub second_taken : (h : Header) (a b : SourceSays) (table batches : Batches) → (h.version ≡ 1 → ⊥) → TakesBatchTable h.counts.batches h.counts.occluders a b table
    → batches.fault ≡ option_or table.fault (fault_if (nat_lt table.counted h.counts.occluders) (BadBatch h.counts.batches)) → batches.items.items ≡ table.items.items → TakesBatches h a b batches
second_taken h a b table batches other t fault same =
    let n = h.counts.batches in
    let tris = h.counts.occluders in
    let told : batches_told h.version (winding_code h.flags.winding) tris t.raws ≡ t.raws = at_second h.version ((tris, winding_code h.flags.winding) ∷ []) t.raws other in
    record {
      stored = t.raws;
      table = t.table;
      first = fault ∙ table_decided n tris a b table t ∙ sym (ap (batches_fault h.version tris) told ∙ second_fault h.version tris t.raws other);
      whole = λ e. ap (map raw_batch) same ∙ t.whole (or_parts_none table.fault _ (sym fault ∙ e)).0 ∙ sym told;
    }

-- the one that the header tells, beside a table without entries
pub first_taken : (h : Header) (a : SourceSays) (batches : Batches) → h.version ≡ 1 → h.counts.batches ≡ 0 → batches.items.items ≡ record { count = h.counts.occluders; winding = h.flags.winding } ∷ [] → batches.fault ≡ None
    → TakesBatches h a a batches
first_taken h a batches one none items clear =
    let tris = h.counts.occluders in
    let winding = winding_code h.flags.winding in
    let told : batches_told h.version winding tris [] ≡ (tris, winding) ∷ [] = at_first h.version ((tris, winding) ∷ []) [] one in
    record {
      stored = [];
      table = subst (λ (n : ℕ). TakesTable 5 n raw_batch_of a a []) (sym none) (table_none 5 raw_batch_of a [] refl);
      first = clear ∙ sym (ap (batches_fault h.version tris) told ∙ one_fine h.version tris winding (winding_small h.flags.winding));
      whole = λ _. ap (map raw_batch) items ∙ sym told;
    }

-- what a table holds of batches that are told
pub stored_is : (version winding tris : ℕ) (bs : List Batch) (stored : List (ℕ × ℕ)) → map raw_batch bs ≡ batches_told version winding tris stored → (version ≡ 1 → length stored ≡ 0) → map raw_batch (stored_batches version bs) ≡ stored
stored_is version winding tris bs stored told none = elim (cases_eq version 1) [
  | inl one ↦ ap (map raw_batch) (at_first version [] bs one) ∙ sym (nil_from_length stored (none one))
  | inr other ↦ ap (map raw_batch) (at_second version [] bs other) ∙ told ∙ at_second version ((tris, winding) ∷ []) stored other
]

byte_of : (version winding tris : ℕ) (bs : List Batch) → version ≡ 1 → map raw_batch bs ≡ (tris, winding) ∷ [] → winding_byte version bs ≡ winding
byte_of version winding tris [] one e = absurd cc
byte_of version winding tris (b ∷ []) one e =
    let same : raw_batch b ≡ (tris, winding) = cc in
    at_first version (winding_code b.winding) 0 one ∙ ap (λ (r : ℕ × ℕ). r.1) same
byte_of version winding tris (b ∷ c ∷ bs) one e = absurd cc

-- the winding's byte is one in version 1 and 0 otherwise
pub byte_second : (version : ℕ) (bs : List Batch) → (version ≡ 1 → ⊥) → winding_byte version bs ≡ 0
byte_second version [] other = refl
byte_second version (b ∷ bs) other = at_second version (winding_code b.winding) 0 other

pub byte_told : (version winding tris : ℕ) (bs : List Batch) (stored : List (ℕ × ℕ)) → map raw_batch bs ≡ batches_told version winding tris stored → ((version ≡ 1 → ⊥) → winding ≡ 0) → winding_byte version bs ≡ winding
byte_told version winding tris bs stored told none = elim (cases_eq version 1) [
  | inl one ↦ byte_of version winding tris bs one (told ∙ at_first version ((tris, winding) ∷ []) stored one)
  | inr other ↦ byte_second version bs other ∙ sym (none other)
]

one_told : (version tris : ℕ) (bs : List Batch) → version ≡ 1 → length bs ≡ 1 → AreBatchesOf bs tris → (tris, winding_byte version bs) ∷ [] ≡ map raw_batch bs
one_told version tris [] one len sums = absurd (omega (arith, len))
one_told version tris (b ∷ []) one len sums =
    let all : tris ≡ b.count = omega (arith, sums) in
    ap (λ (n : ℕ). (n, winding_byte version (b ∷ [])) ∷ []) all ∙ ap (λ (w : ℕ). (b.count, w) ∷ []) (at_first version (winding_code b.winding) 0 one)
one_told version tris (b ∷ c ∷ bs) one len sums = absurd (omega (arith, len))

-- what a scene's header and table tell are its batches
pub scene_told : (p : Parts) → IsScene p → batches_told p.version (winding_byte p.version p.batches) (length p.occluders) (map raw_batch (stored_batches p.version p.batches)) ≡ map raw_batch p.batches
scene_told p s =
    let tris = length p.occluders in
    let byte = winding_byte p.version p.batches in
    elim (cases_eq p.version 1) [
      | inl one ↦ at_first p.version ((tris, byte) ∷ []) (map raw_batch (stored_batches p.version p.batches)) one ∙ one_told p.version tris p.batches one (s.one_batch one) s.batches
      | inr other ↦ at_second p.version ((tris, byte) ∷ []) (map raw_batch (stored_batches p.version p.batches)) other ∙ ap (map raw_batch) (at_second p.version [] p.batches other)
    ]

-- ---- what the code's tests say

pub one_not : (tris : ℕ) (bs : List Batch) → (length bs ≡ 1 → ⊥) → false ≡ is_one_batch tris (map raw_batch bs)
one_not tris [] other = refl
one_not tris (b ∷ []) other = absurd (other refl)
one_not tris (b ∷ c ∷ bs) other = refl

pub one_by : (tris : ℕ) (bs : List Batch) (d : Batch) → length bs ≡ 1 → ((get_or bs 0 d).count == tris) ≡ is_one_batch tris (map raw_batch bs)
one_by tris [] d one = absurd (omega (arith, one))
one_by tris (b ∷ []) d one = refl
one_by tris (b ∷ c ∷ bs) d one = absurd (omega (arith, one))

pub byte_empty : (version : ℕ) (bs : List Batch) → length bs ≡ 0 → 0 ≡ winding_byte version bs
byte_empty version [] none = refl
byte_empty version (b ∷ bs) none = absurd (omega (arith, none))

pub byte_first : (version : ℕ) (bs : List Batch) (d : Batch) → version ≡ 1 → 0 < length bs → winding_code (get_or bs 0 d).winding ≡ winding_byte version bs
byte_first version [] d one some = absurd (omega (arith, some))
byte_first version (b ∷ bs) d one some = sym (at_first version (winding_code b.winding) 0 one)

module _ (tris : ℕ) (bs : List Batch) (i before : ℕ) (d : Batch) (lt : i < length bs) (so_far : before ≡ triangles_in (take i (map raw_batch bs))) where
  in_raws : i < length (map raw_batch bs)
  in_raws = omega (arith, lt, length-map bs raw_batch)

  at_raws : get_or (map raw_batch bs) i (0, 0) ≡ raw_batch (get_or bs i d)
  at_raws = get_or-map raw_batch bs i d (0, 0) lt

  pub counted_on : before + (get_or bs i d).count ≡ triangles_in (take (i + 1) (map raw_batch bs))
  counted_on = omega (arith, so_far, ap (λ (r : ℕ × ℕ). r.0) at_raws, sum_by_more (λ (r : ℕ × ℕ). r.0) (map raw_batch bs) i (0, 0) in_raws)

  pub batch_fits : before + (get_or bs i d).count ≤ tris → batch_fault tris (map raw_batch bs) i (get_or (map raw_batch bs) i (0, 0)) ≡ None
  batch_fits fits =
      ap (batch_fault tris (map raw_batch bs) i) at_raws
      ∙ fault_none_from _ (BadBatch i) (or_from _ _ (le-ltb 2 (winding_code (get_or bs i d).winding) (winding_small (get_or bs i d).winding)) (le-ltb tris (triangles_in (take i (map raw_batch bs)) + (get_or bs i d).count) (omega (arith, so_far, fits))))

  pub batch_over : tris < before + (get_or bs i d).count → first_among (batch_fault tris (map raw_batch bs)) i (drop i (map raw_batch bs)) ≡ first_among (batch_fault tris (map raw_batch bs)) 0 (map raw_batch bs)
      → Some (BadBatch i) ≡ sum_fault tris (map raw_batch bs)
  unfolding sum_fault
  batch_over over rest =
      let raws = map raw_batch bs in
      let bad : is_bad_batch tris (triangles_in (take i raws)) (raw_batch (get_or bs i d)) ≡ true = or_right _ _ (lt-ltb tris (triangles_in (take i raws) + (get_or bs i d).count) (omega (arith, so_far, over))) in
      let here : batch_fault tris raws i (get_or raws i (0, 0)) ≡ Some (BadBatch i) = ap (batch_fault tris raws i) at_raws ∙ (rw bad refl) in
      let first : first_among (batch_fault tris raws) 0 raws ≡ Some (BadBatch i) =
      sym rest ∙ ap (first_among (batch_fault tris raws) i) (drop_more raws i (0, 0) in_raws) ∙ or_first (batch_fault tris raws i (get_or raws i (0, 0))) _ (BadBatch i) here in
      sym (or_first (first_among (batch_fault tris raws) 0 raws) _ (BadBatch i) first)

module _ (tris : ℕ) (bs : List Batch) (i counts : ℕ) (whole : length bs ≤ i) (rest : first_among (batch_fault tris (map raw_batch bs)) i (drop i (map raw_batch bs)) ≡ first_among (batch_fault tris (map raw_batch bs)) 0 (map raw_batch bs)) (so_far : counts ≡ triangles_in (take i (map raw_batch bs))) where
  none_first : first_among (batch_fault tris (map raw_batch bs)) 0 (map raw_batch bs) ≡ None
  none_first = sym rest ∙ ap (first_among (batch_fault tris (map raw_batch bs)) i) (drop_all i (map raw_batch bs) (omega (arith, whole, length-map bs raw_batch)))

  all_counted : counts ≡ triangles_in (map raw_batch bs)
  all_counted = so_far ∙ ap triangles_in (take_all i (map raw_batch bs) (omega (arith, whole, length-map bs raw_batch)))

  pub counts_short : counts < tris → Some (BadBatch (length bs)) ≡ sum_fault tris (map raw_batch bs)
  unfolding sum_fault
  counts_short few =
      let raws = map raw_batch bs in
      let less : nat_lt (triangles_in raws) tris ≡ true = lt-ltb (triangles_in raws) tris (omega (arith, all_counted, few)) in
      ap (λ (n : ℕ). Some (BadBatch n)) (sym (length-map bs raw_batch)) ∙ sym (or_second (first_among (batch_fault tris raws) 0 raws) _ none_first ∙ (rw less refl))

  pub counts_whole : tris ≤ counts → None ≡ sum_fault tris (map raw_batch bs)
  unfolding sum_fault
  counts_whole enough =
      let raws = map raw_batch bs in
      sym (or_none_from (first_among (batch_fault tris raws) 0 raws) _ none_first (fault_none_from _ (BadBatch (length raws)) (le-ltb (triangles_in raws) tris (omega (arith, all_counted, enough)))))
