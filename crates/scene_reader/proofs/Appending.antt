-- Writing entries, so many at once, and what an error leaves.
use Rattle.std.proofs.Common.{◌≡◌, ℕ, ℤ, ◌+◌, ◌-◌, ◌<◌, ◌≤◌, min, ◌++◌, ◌∷◌, List, [], length, get_or, take, drop, arith, refl, sym, ap, ◌∙◌, Result, Ok, Err}
use Rattle.std.specs.List.{flat_map}
use Rattle.std.proofs.Math.Seq.{take-add}
use Rattle.std.proofs.lemmas.List.{take-append-drop, take_more, take_min, append-nil}
use Rattle.std.proofs.lemmas.List.Concat.{flat_map-append}
use Rattle.cull_base.specs.Stream.{SinkSays, Writes}
use Rattle.cull_base.specs.declared.memory.SinkError.{SinkError}
use Rattle.cull_base.specs.declared.scene_types.Object.TheVariants.{Block}
use Rattle.cull_base.proofs.Streams.{writes_then, writes_no_more}
use Rattle.scene_reader.specs.Layout.{Parts, number_at, numbers_of, row_bytes, short_bytes, word_bytes, winding_byte, grade_code, batch_count_bytes, magic, header_bytes}
use Rattle.scene_reader.proofs.Shapes.{three}

-- a call that wrote its text, and then another
pub writes_on : {s0 s1 s2 : SinkSays} {r : Result (Unit {0}) SinkError} {x : Unit {0}} {a b : List ℕ} → Writes s0 s1 (Ok x) a → Writes s1 s2 r b → Writes s0 s2 r (a ++ b)
writes_on v w = writes_then _ _ _ _ _ _ v.ok v.faults_stay v.refusals_stay w

-- ---- entries

module _ {X : Type 0} (enc : X → List ℕ) (xs : List X) where
  -- the bytes so far and those of one entry more
  pub entry_more : (i : ℕ) (d : X) → i < length xs → flat_map enc (take (i + 1) xs) ≡ flat_map enc (take i xs) ++ enc (get_or xs i d)
  entry_more i d lt = ap (flat_map enc) (take_more xs i d lt) ∙ flat_map-append enc (take i xs) (get_or xs i d ∷ []) ∙ ap (λ (t : List ℕ). flat_map enc (take i xs) ++ t) (append-nil (enc (get_or xs i d)))

  -- the bytes so far and those of so many entries more, or of all that are left
  part_more : (i n m : ℕ) → i ≤ length xs → n ≡ min m (length xs - i) → flat_map enc (take (i + m) xs) ≡ flat_map enc (take i xs) ++ flat_map enc (take n (drop i xs))
  part_more i n m le is =
      let one : min (i + m) (length xs) ≡ min (i + n) (length xs) = omega (arith, is, le) in
      let same : take (i + m) xs ≡ take (i + n) xs = sym (take_min (i + m) xs) ∙ ap (λ k. take k xs) one ∙ take_min (i + n) xs in
      ap (flat_map enc) (same ∙ take-add i n xs) ∙ flat_map-append enc (take i xs) (take n (drop i xs))

  module _ (i n m : ℕ) (le : i ≤ length xs) (is : n ≡ min m (length xs - i)) {s0 s1 s2 : SinkSays} where
    -- one part more
    pub goes_on : {x y z : Unit {0}} → Writes s0 s1 (Ok x) (flat_map enc (take i xs)) → Writes s1 s2 (Ok y) (flat_map enc (take n (drop i xs))) → Writes s0 s2 (Ok z) (flat_map enc (take (i + m) xs))
    goes_on before now = rw (part_more i n m le is) (writes_on before now)

    -- an error in a part
    pub stops_at : {x : Unit {0}} {e : SinkError} → Writes s0 s1 (Ok x) (flat_map enc (take i xs)) → Writes s1 s2 (Err e) (flat_map enc (take n (drop i xs))) → Writes s0 s2 (Err e) (flat_map enc xs)
    stops_at {x} {e} before now =
        let some = take n (drop i xs) in
        let others = drop n (drop i xs) in
        let whole : flat_map enc xs ≡ flat_map enc (take i xs) ++ (flat_map enc some ++ flat_map enc others) =
        ap (flat_map enc) (sym (take-append-drop i xs)) ∙ flat_map-append enc (take i xs) (drop i xs)
        ∙ ap (λ (t : List ℕ). flat_map enc (take i xs) ++ t) (ap (flat_map enc) (sym (take-append-drop n (drop i xs))) ∙ flat_map-append enc some others) in
        rw whole (writes_on before (writes_no_more s1 s2 e (flat_map enc some) (flat_map enc others) now))

-- ---- objects and headers

pub block_bytes : (low high : List ℤ) → length low ≡ 3 → length high ≡ 3 → row_bytes low ++ row_bytes high ≡ row_bytes (numbers_of (Block low high))
block_bytes low high l h =
    ap (λ (xs : List ℤ). row_bytes xs ++ row_bytes high) (sym (three low l)) ∙ ap (λ (xs : List ℤ). row_bytes (number_at low 0 ∷ number_at low 1 ∷ number_at low 2 ∷ []) ++ row_bytes xs) (sym (three high h))

pub header_literal : (p : Parts) (a w h n k f v o t j b : List ℕ) → a ≡ short_bytes p.version → w ≡ short_bytes p.width → h ≡ short_bytes p.height → n ≡ short_bytes p.near → k ≡ winding_byte p.version p.batches ∷ grade_code p.grade ∷ []
    → f ≡ short_bytes (length p.cameras) → v ≡ word_bytes (length p.vertices) → o ≡ word_bytes (length p.occluders) → t ≡ word_bytes (length p.object_tris) → j ≡ word_bytes (length p.objects) → b ≡ batch_count_bytes p.version p.batches
    → (((((((((((magic ++ a) ++ w) ++ h) ++ n) ++ k) ++ f) ++ v) ++ o) ++ t) ++ j) ++ b) ≡ header_bytes p
unfolding header_bytes
header_literal p a w h n k f v o t j b ea ew eh en ek ef ev eo et ej eb = rw (ea, ew, eh, en, ek, ef, ev, eo, et, ej, eb) refl
