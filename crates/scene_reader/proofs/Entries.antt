-- Tables, entry after entry.
use Rattle.std.proofs.Common.{◌≡◌, ℕ, zero, suc, ◌+◌, ◌*◌, ◌≤◌, ◌++◌, ◌∷◌, List, [], length, take, drop, map, arith, refl, ap, add-one}
use Rattle.std.proofs.lemmas.List.{length-drop, length-append, take_all, take-append-le, drop-append-le, nil_from_length, map-append}
use Rattle.cull_base.specs.Stream.{SourceSays, Takes}
use Rattle.scene_reader.specs.Fault.{entries}
use Rattle.scene_reader.specs.Reading.{TakesTable}
use Rattle.cull_base.proofs.Takes.{takes_nothing, takes_then}

-- one entry more
entries_suc : (size n : ℕ) (bytes piece : List ℕ) → length bytes ≡ size * n → length piece ≡ size → entries size (suc n) (bytes ++ piece) ≡ entries size n bytes ++ piece ∷ []
unfolding entries
entries_suc size zero bytes piece len one =
    let none : bytes ≡ [] = nil_from_length bytes (omega (arith, len)) in
    rw (none, take_all size piece (omega (arith, one))) refl
entries_suc size (suc n) bytes piece len one =
    let fits : size ≤ length bytes = omega (arith, len) in
    let rest : length (drop size bytes) ≡ size * n = omega (arith, length-drop size bytes, len) in
    rw (take-append-le size bytes piece fits, drop-append-le size bytes piece fits) (ap (λ (t : List (List ℕ)). take size bytes ∷ t) (entries_suc size n (drop size bytes) piece rest one))

pub table_none : {X : Type 0} (size : ℕ) (read : List ℕ → X) (a : SourceSays) (items : List X) → items ≡ [] → TakesTable size 0 read a a items
unfolding entries
table_none size read a items e = record { bytes = []; takes = takes_nothing a.left; whole = omega arith; each = e }

pub table_more : {X : Type 0} (size i : ℕ) (read : List ℕ → X) (a b c : SourceSays) (items : List X) (piece : List ℕ) (item : X)
    → length piece ≡ size → item ≡ read piece → TakesTable size i read a b items → Takes b.left c.left piece → TakesTable size (i + 1) read a c (items ++ item ∷ [])
table_more {X} size i read a b c items piece item one is t p = record {
  bytes = t.bytes ++ piece;
  takes = takes_then a.left b.left c.left t.bytes piece t.takes p;
  whole = omega (arith, length-append t.bytes piece, t.whole, one);
  each = joined;
}
  where
    joined : items ++ item ∷ [] ≡ map read (entries size (i + 1) (t.bytes ++ piece))
    joined = rw (add-one, entries_suc size i t.bytes piece t.whole one, map-append read (entries size i t.bytes) (piece ∷ []), ← t.each, is) refl
