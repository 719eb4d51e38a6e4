-- Objects read from their entries, and the first fault among them.
use Rattle.std.proofs.Common.{◌≡◌, ℕ, ℤ, suc, zero, ◌+◌, ◌≤◌, ◌∷◌, ◌++◌, List, [], length, drop, map, arith, refl, sym, ap, ◌∙◌, subst, Bool, true, false, Option, Some, None, All, is_some}
use Rattle.std.specs.Option.{option_or}
use Rattle.std.proofs.lemmas.Bool.{le-ltb}
use Rattle.std.proofs.lemmas.List.{length-map, map-append}
use Rattle.std.proofs.lemmas.List.Elements.{All-push}
use Rattle.cull_base.specs.Stream.{SourceSays, Takes}
use Rattle.cull_base.specs.declared.scene_types.Object.{Object}
use Rattle.scene_reader.specs.declared.objects.Objects.{Objects}
use Rattle.scene_reader.specs.declared.error.SceneError.{SceneError}
use Rattle.scene_reader.specs.declared.error.SceneError.TheVariants.{BadObject}
use Rattle.scene_reader.specs.Layout.{IsObject, kind_of, numbers_of, raw_object}
use Rattle.scene_reader.specs.Fault.{entries, first_among, object_fault, is_bad_object, raw_of, fault_if}
use Rattle.scene_reader.specs.Reading.{IsObjectOf, TakesObject, TakesObjects}
use Rattle.scene_reader.proofs.Headers.{option_or_assoc}
use Rattle.scene_reader.proofs.Entries.{table_none, table_more}

fault_of : (m i kind : ℕ) (numbers : List ℤ) (b : Bool) → kind ≤ 2 → is_bad_object m kind numbers ≡ b → object_fault m i (kind, numbers) ≡ fault_if b (BadObject i)
fault_of m i kind numbers b small e = rw (le-ltb 2 kind small, e) refl

-- an object that was made and isn't bad
pub made_fine : (m i : ℕ) (raw : ℕ × List ℤ) (o : Object) → raw.0 ≤ 2 → (kind_of o ≡ raw.0) × (numbers_of o ≡ raw.1) → false ≡ is_bad_object m (kind_of o) (numbers_of o)
    → (object_fault m i raw ≡ None) × (raw_object o ≡ raw)
made_fine m i raw o small made good =
    let same : raw_object o ≡ raw = ap (λ (k : ℕ). (k, numbers_of o)) made.0 ∙ ap (λ (n : List ℤ). (raw.0, n)) made.1 in
    let fine : is_bad_object m raw.0 raw.1 ≡ false = ap (λ (r : ℕ × List ℤ). is_bad_object m r.0 r.1) (sym same) ∙ sym good in
    (fault_of m i raw.0 raw.1 false small fine, same)

-- one that was made and is bad
pub made_bad : (m i : ℕ) (raw : ℕ × List ℤ) (o : Object) → raw.0 ≤ 2 → (kind_of o ≡ raw.0) × (numbers_of o ≡ raw.1) → true ≡ is_bad_object m (kind_of o) (numbers_of o)
    → object_fault m i raw ≡ Some (BadObject i)
made_bad m i raw o small made bad =
    let same : raw_object o ≡ raw = ap (λ (k : ℕ). (k, numbers_of o)) made.0 ∙ ap (λ (n : List ℤ). (raw.0, n)) made.1 in
    fault_of m i raw.0 raw.1 true small (ap (λ (r : ℕ × List ℤ). is_bad_object m r.0 r.1) (sym same) ∙ sym bad)

-- one that can't be made
pub never_made : (m i : ℕ) (raw : ℕ × List ℤ) → raw.0 ≤ 2 → is_bad_object m raw.0 raw.1 ≡ true → object_fault m i raw ≡ Some (BadObject i)
never_made m i raw small bad = fault_of m i raw.0 raw.1 true small bad

-- ---- the table

pub option_or_none : (o : Option SceneError) → option_or o None ≡ o
option_or_none None = refl
option_or_none (Some e) = refl

pub first_append : {X : Type 0} (fault : ℕ → X → Option SceneError) (i j : ℕ) (xs : List X) (x : X) → i + length xs ≡ j → first_among fault i (xs ++ x ∷ []) ≡ option_or (first_among fault i xs) (fault j x)
first_append fault i j [] x e = option_or_none (fault i x) ∙ ap (λ (k : ℕ). fault k x) (omega (arith, e))
first_append fault i j (y ∷ xs) x e =
    ap (option_or (fault i y)) (first_append fault (i + 1) j xs x (omega (arith, e))) ∙ sym (option_or_assoc (fault i y) (first_among fault (i + 1) xs) (fault j x))

pub length_entries : (size n : ℕ) (bytes : List ℕ) → length (entries size n bytes) ≡ n
unfolding entries
length_entries size zero bytes = refl
length_entries size (suc n) bytes = ap suc (length_entries size n (drop size bytes))

pub objects_none : (m : ℕ) (a : SourceSays) (objects : Objects) → objects.items.items ≡ [] → objects.fault ≡ None → TakesObjects 0 m a a objects
objects_none m a objects e clear = record {
  raws = [];
  table = table_none 25 raw_of a [] refl;
  first = clear;
  whole = λ _. ap (map raw_object) e;
  valid = subst (λ (xs : List Object). All (IsObject m) xs) (sym e) (λ k d lt. absurd (omega (arith, lt)));
}

-- an object without a fault is put behind the others
pub object_added : (m i : ℕ) (raw : ℕ × List ℤ) (before after : Objects) (o : Object) → is_some before.fault ≡ false → after.fault ≡ before.fault
    → after.items.items ≡ before.items.items ++ o ∷ [] → IsObjectOf m i raw o → IsObject m o → TakesObject m i raw before after
object_added m i raw before after o clear same items is valid = record {
  first = rw (same, none before.fault clear) (sym is.0);
  items = λ _. ap (map raw_object) items ∙ map-append raw_object before.items.items (o ∷ []) ∙ ap (λ (r : ℕ × List ℤ). map raw_object before.items.items ++ r ∷ []) is.1;
  valid = λ h. rw items (All-push (IsObject m) before.items.items o h valid);
}
  where
    none : (o : Option SceneError) → is_some o ≡ false → o ≡ None
    none None e = refl
    none (Some x) e = absurd cc

pub objects_more : (m i : ℕ) (a b c : SourceSays) (before after : Objects) (piece : List ℕ)
    → length piece ≡ 25 → TakesObjects i m a b before → Takes b.left c.left piece
    → TakesObject m i (raw_of piece) before after → TakesObjects (i + 1) m a c after
objects_more m i a b c before after piece one t p now = record {
  raws = t.raws ++ raw_of piece ∷ [];
  table = table_more 25 i raw_of a b c t.raws piece (raw_of piece) one refl t.table p;
  first = now.first ∙ ap (λ (o : Option SceneError). option_or o (object_fault m i (raw_of piece))) t.first ∙ sym (first_append (object_fault m) 0 i t.raws (raw_of piece) count);
  whole = λ e. now.items e ∙ ap (λ (r : List (ℕ × List ℤ)). r ++ raw_of piece ∷ []) (t.whole (clear before.fault (object_fault m i (raw_of piece)) (sym now.first ∙ e)));
  valid = now.valid t.valid;
}
  where
    clear : (o p : Option SceneError) → option_or o p ≡ None → o ≡ None
    clear None p e = refl
    clear (Some x) p e = absurd cc

    count : 0 + length t.raws ≡ i
    count = omega (arith, ap length t.table.each, length-map (entries 25 i t.table.bytes) raw_of, length_entries 25 i t.table.bytes)
