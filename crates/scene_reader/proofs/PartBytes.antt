-- Bytes that were taken from the front of a part of a source.
use Rattle.std.proofs.Common.{◌≡◌, ℕ, ◌+◌, ◌-◌, ◌≤◌, min, ◌++◌, List, [], length, take, drop, arith, refl, sym, ap, ◌∙◌, subst, Option, Some, None, inl, inr}
use Rattle.std.specs.Prelude.{IfSome}
use Rattle.std.specs.Option.{option_map}
use Rattle.std.proofs.Math.Seq.{take-append-add}
use Rattle.std.proofs.lemmas.Bool.{cases_lt}
use Rattle.std.proofs.lemmas.List.{length-append, length-take, length-drop, take-append-drop, drop_at, drop_all, drop-drop, nil_from_length}
use Rattle.std.proofs.lemmas.Option.{same_Some}
use Rattle.cull_base.specs.Stream.{IsAtEnd, SourceSays, Takes}
use Rattle.cull_base.proofs.Takes.{takes_nothing}
use Rattle.scene_reader.specs.declared.error.SceneError.{SceneError}
use Rattle.scene_reader.specs.declared.header.Header.{Header}
use Rattle.scene_reader.specs.Fault.{header_fault, header_taken}
use Rattle.scene_reader.specs.Layout.{Parts, layout}
use Rattle.scene_reader.specs.Reading.{EndsWithin, IsDone, IsWithin, ReadsScene, Refuses, TakesOf, TakesParts, front_of, less}
use Rattle.scene_reader.proofs.Refusals.{bytes_layout, only_end}

-- ---- what was taken of the source was taken of the part

-- bytes in front of others, and the first ones of both
front_more : (x r : List ℕ) (most n k : ℕ) → length x ≡ k → n + k ≤ most → take (most - n) (x ++ r) ≡ x ++ take (most - (n + k)) r
front_more x r most n k len le =
    let both : most - n ≡ length x + (most - (n + k)) = omega (arith, len, le) in
    ap (λ (m : ℕ). take m (x ++ r)) both ∙ take-append-add x r (most - (n + k))

first_more : (x r : List ℕ) (most k : ℕ) → length x ≡ k → k ≤ most → take most (x ++ r) ≡ x ++ take (most - k) r
first_more x r most k len le =
    let both : most ≡ length x + (most - k) = omega (arith, len, le) in
    ap (λ (m : ℕ). take m (x ++ r)) both ∙ take-append-add x r (most - k)

pub takes_first : (part : Option ℕ) (k : ℕ) (a b : Option (List ℕ)) (x : List ℕ) → length x ≡ k → IsWithin part k → Takes a b x → Takes (front_of part a) (front_of (less part k) b) x
takes_first None k a b x len w t = t
takes_first (Some most) k None None x len w t = record { front = refl; fits = t.fits }
takes_first (Some most) k None (Some r) x len w t = let no : ◌≡◌ {A = Option (List ℕ)} None (Some (x ++ r)) = t.front in absurd cc
takes_first (Some most) k (Some b) None x len w t = let no : ◌≡◌ {A = Option (List ℕ)} (Some b) None = t.front in absurd cc
takes_first (Some most) k (Some b) (Some r) x len w t =
    record { front = ap Some (ap (take most) (same_Some b (x ++ r) t.front) ∙ first_more x r most k len w); fits = t.fits }

pub takes_next : (part : Option ℕ) (n k : ℕ) (a b : Option (List ℕ)) (x : List ℕ) → length x ≡ k → IsWithin part (n + k) → Takes a b x → Takes (front_of (less part n) a) (front_of (less part (n + k)) b) x
takes_next None n k a b x len w t = t
takes_next (Some most) n k None None x len w t = record { front = refl; fits = t.fits }
takes_next (Some most) n k None (Some r) x len w t = let no : ◌≡◌ {A = Option (List ℕ)} None (Some (x ++ r)) = t.front in absurd cc
takes_next (Some most) n k (Some b) None x len w t = let no : ◌≡◌ {A = Option (List ℕ)} (Some b) None = t.front in absurd cc
takes_next (Some most) n k (Some b) (Some r) x len w t =
    record { front = ap Some (ap (take (most - n)) (same_Some b (x ++ r) t.front) ∙ front_more x r most n k len w); fits = t.fits }

-- nothing was taken
pub takes_none : (part : Option ℕ) (a b : Option (List ℕ)) → Takes a b [] → Takes (front_of part a) (front_of part b) []
takes_none part a b t = subst (λ (o : Option (List ℕ)). Takes (front_of part a) (front_of part o) []) (same b t.front) (takes_nothing (front_of part a))
  where
    same : (o : Option (List ℕ)) → a ≡ option_map (λ (rest : List ℕ). [] ++ rest) o → a ≡ o
    same None e = e
    same (Some r) e = e

-- ---- its end

pub done_front : (part : Option ℕ) (n : ℕ) (after : Option (List ℕ)) → IsDone part n after → IsAtEnd (front_of (less part n) after)
done_front None n after d = only_end n after d
done_front (Some most) n None d = tt
done_front (Some most) n (Some r) d = nil_from_length (take (most - n) r) (elim d [
  | inl e ↦ let none : r ≡ [] = e in omega (arith, length-take (most - n) r, ap length none)
  | inr is ↦ let whole : most ≡ n = same_Some most n is in omega (arith, length-take (most - n) r, whole)
])

-- ---- what a source says of its part

abbrev pub part_says : Option ℕ → SourceSays → SourceSays
part_says part s = record { left = front_of part s.left; faults = s.faults; turns = s.turns }

pub ends_first : (part : Option ℕ) (a b : SourceSays) (wanted need : ℕ) (e : SceneError) (s : EndsWithin part wanted need 0 a b e) → EndsWithin None wanted need 0 (part_says part a) (part_says (less part (0 + length s.bytes)) b) e
ends_first part a b wanted need e s = record {
  bytes = s.bytes;
  takes = takes_first part (0 + length s.bytes) a.left b.left s.bytes (omega arith) s.within s.takes;
  few = s.few;
  within = tt;
  ended = inl (done_front part (0 + length s.bytes) b.left s.ended);
  truncated = s.truncated;
}

pub ends_next : (part : Option ℕ) (a b : SourceSays) (wanted need taken : ℕ) (e : SceneError) (s : EndsWithin part wanted need taken a b e)
    → EndsWithin None wanted need taken (part_says (less part taken) a) (part_says (less part (taken + length s.bytes)) b) e
ends_next part a b wanted need taken e s = record {
  bytes = s.bytes;
  takes = takes_next part taken (length s.bytes) a.left b.left s.bytes refl s.within s.takes;
  few = s.few;
  within = tt;
  ended = inl (done_front part (taken + length s.bytes) b.left s.ended);
  truncated = s.truncated;
}

-- the tables behind a header, of which all were taken
pub parts_next : {h : Header} {a b : SourceSays} {p : Parts} {batches objects : Option SceneError} (part : Option ℕ) (n k : ℕ) (t : TakesParts h a b p batches objects)
    → length (t.vertex_bytes ++ (t.occluder_bytes ++ (t.batch_bytes ++ (t.object_tri_bytes ++ (t.object_bytes ++ t.camera_bytes))))) ≡ k → IsWithin part (n + k)
    → TakesParts h (part_says (less part n) a) (part_says (less part (n + k)) b) p batches objects
parts_next {h} {a} {b} part n k t len w = record {
  vertex_bytes = t.vertex_bytes;
  occluder_bytes = t.occluder_bytes;
  batch_bytes = t.batch_bytes;
  object_tri_bytes = t.object_tri_bytes;
  object_bytes = t.object_bytes;
  camera_bytes = t.camera_bytes;
  stored = t.stored;
  raws = t.raws;
  takes = takes_next part n k a.left b.left _ len w t.takes;
  vertices = t.vertices;
  occluders = t.occluders;
  batches = t.batches;
  object_tris = t.object_tris;
  objects = t.objects;
  cameras = t.cameras;
  batches_first = t.batches_first;
  batches_whole = t.batches_whole;
  first = t.first;
  whole = t.whole;
  valid = t.valid;
  header = t.header;
}

-- ---- so many bytes of the part

pub takes_of : (part : Option ℕ) (a b : Option (List ℕ)) (x : List ℕ) (n : ℕ) → Takes a b x → length x ≡ n → IsWithin part n → TakesOf part a b n
takes_of part a b x n t len w = record { bytes = x; takes = t; whole = len; within = w }

-- as many were taken of the bytes that are told
told_of : (a b : Option (List ℕ)) (x : List ℕ) (n : ℕ) → Takes a b x → length x ≡ n → IfSome a (λ bytes. (n ≤ length bytes) × (b ≡ Some (drop n bytes)))
told_of None b x n t len = tt
told_of (Some a) None x n t len = let no : ◌≡◌ {A = Option (List ℕ)} (Some a) None = t.front in absurd cc
told_of (Some a) (Some r) x n t len =
    let is : a ≡ x ++ r = same_Some a (x ++ r) t.front in
    (omega (arith, ap length is, length-append x r, len), ap Some (sym (ap (drop n) is ∙ drop_at x r n len)))

pub told : (part : Option ℕ) (a b : Option (List ℕ)) (n : ℕ) → TakesOf part a b n → IfSome a (λ bytes. (n ≤ length bytes) × (b ≡ Some (drop n bytes)))
told part a b n t = told_of a b t.bytes n t.takes t.whole

-- ---- the promises about told bytes of a part of so many

-- nothing at the front, so nothing is left out
none_dropped : (n : ℕ) (xs : List ℕ) → take n xs ≡ [] → drop n xs ≡ xs
none_dropped n xs none = sym (ap (λ (t : List ℕ). t ++ drop n xs) none) ∙ take-append-drop n xs

module _ (most count : ℕ) (few : count ≤ most) where
  whole_part : count + (most - count) ≡ most
  whole_part = omega (arith, few)

  pub part_layout : (before after : Option (List ℕ)) (s : Parts) → IfSome before (λ bytes. (count ≤ length bytes) × (after ≡ Some (drop count bytes)))
      → ReadsScene (option_map (take most) before) (option_map (take (most - count)) after) s → IfSome before (λ bytes. (take most bytes ≡ layout s) × (after ≡ Some (drop most bytes)))
  part_layout None after s taken r = tt
  part_layout (Some b) after s taken r =
      let is = bytes_layout (Some (take most b)) (option_map (take (most - count)) after) s r in
      let none : take (most - count) (drop count b) ≡ [] = same_Some (take (most - count) (drop count b)) [] (sym (ap (option_map (take (most - count))) taken.1) ∙ is.1) in
      let end : drop count b ≡ drop most b = sym (none_dropped (most - count) (drop count b) none) ∙ drop-drop (most - count) count b ∙ ap (λ (n : ℕ). drop n b) whole_part in
      (is.0, taken.1 ∙ ap Some end)

  -- as many bytes were taken as leave those of the part behind the first k
  left_behind : (k : ℕ) (b : List ℕ) → count ≤ length b → take (most - count) (drop count b) ≡ drop k (take most b) → drop count b ≡ drop (min most k) b
  left_behind k b within is =
      let lengths = ap length is in
      let left = length-take (most - count) (drop count b) in
      let behind = length-drop count b in
      let all = length-take most b in
      let right = length-drop k (take most b) in
      elim (cases_lt (length b) (min most k)) [
        | inl short ↦ drop_all count b (omega (arith, lengths, left, behind, all, right, short, within, few)) ∙ sym (drop_all (min most k) b (omega (arith, short)))
        | inr long ↦ ap (λ (n : ℕ). drop n b) (omega (arith, lengths, left, behind, all, right, long, within, few))
      ]

  pub part_header : (before after : Option (List ℕ)) (e : SceneError) → IfSome before (λ bytes. (count ≤ length bytes) × (after ≡ Some (drop count bytes)))
      → Refuses (option_map (take most) before) (option_map (take (most - count)) after) e
      → IfSome before (λ bytes. header_fault (take most bytes) ≡ Some e → after ≡ Some (drop (min most (header_taken (take most bytes))) bytes))
  part_header None after e taken h = tt
  part_header (Some b) after e taken h = λ fault.
      let k = header_taken (take most b) in
      let is : take (most - count) (drop count b) ≡ drop k (take most b) =
      same_Some (take (most - count) (drop count b)) (drop k (take most b)) (sym (ap (option_map (take (most - count))) taken.1) ∙ h.1 fault) in
      taken.1 ∙ ap Some (left_behind k b taken.0 is)

-- no byte behind the part was taken, by the bytes that a call took
pub within_told : (most : ℕ) (before after : Option (List ℕ)) (x : List ℕ) → Takes before after x → length x ≤ most → IfSome before (λ bytes. (n : ℕ) × (n ≤ most) × (after ≡ Some (drop n bytes)))
within_told most None after x t few = tt
within_told most (Some b) after x t few = let is = told_of (Some b) after x (length x) t refl in (length x, few, is.1)
