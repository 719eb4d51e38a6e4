-- Headers and tables as bytes, and back.
use Rattle.std.proofs.Common.{◌≡◌, ℕ, ℤ, pos, suc, zero, ◌+◌, ◌*◌, ◌<◌, ◌≤◌, ◌++◌, ◌∷◌, ◌^◌, List, [], length, get_or, take, drop, map, arith, refl, sym, ap, ◌∙◌, All, w32, take-append-drop}
use Rattle.std.specs.List.{AllByRecursion, flat_map}
use Rattle.std.specs.Int.{cast_unsigned}
use Rattle.std.proofs.lemmas.Int.{ints}
use Rattle.std.specs.Prelude.{slice_index}
use Rattle.std.proofs.lemmas.List.{length-drop, length-take, length-append, take_at, drop_at, drop_all, drop_more, take-append-le, drop-append-le, nil_from_length}
use Rattle.std.proofs.lemmas.List.Elements.{All-take, All-drop, All-from_recursion}
use Rattle.std.proofs.lemmas.List.Folds.{flat_map-map}
use Rattle.cull_base.specs.declared.scene_types.Batch.{Batch}
use Rattle.cull_base.specs.declared.scene_types.Tri.{Tri}
use Rattle.cull_base.specs.declared.scene_types.Object.{Object}
use Rattle.cull_base.specs.declared.scene_types.Object.TheVariants.{Area, Block, Mesh}
use Rattle.scene_reader.specs.Layout.{IsRow, IsTri, IsObject, InLimits, word_bytes, row_bytes, tri_bytes, object_bytes, batch_bytes, winding_code, kind_of, numbers_of, raw_object, raw_batch, number_at}
use Rattle.scene_reader.specs.Fault.{entries, raw_of, raw_batch_of}
use Rattle.scene_reader.specs.Reading.{IsTable}
use Rattle.cull_base.proofs.Takes.{IsByte}
use Rattle.scene_reader.proofs.Codes.{row_back, row_again, word_back, word_again}

-- ---- tables: from bytes to entries and back to the bytes

-- entries behind one another are the bytes
pub entries_whole : {X : Type 0} (size : ℕ) (enc : X → List ℕ) (read : List ℕ → X) → ((e : List ℕ) → length e ≡ size → All IsByte e → enc (read e) ≡ e)
    → (n : ℕ) (bytes : List ℕ) → length bytes ≡ size * n → All IsByte bytes → flat_map enc (map read (entries size n bytes)) ≡ bytes
unfolding entries
entries_whole size enc read back zero bytes len fits = sym (nil_from_length bytes (omega (arith, len)))
entries_whole size enc read back (suc n) bytes len fits =
    let more : length bytes ≡ size + size * n = omega (arith, len) in
    let one = back (take size bytes) (omega (arith, length-take size bytes, more)) (All-take IsByte size bytes fits) in
    let rest = entries_whole size enc read back n (drop size bytes) (omega (arith, length-drop size bytes, more)) (All-drop IsByte size bytes fits) in
    rw (one, rest) (take-append-drop size bytes)

-- the same, up to a fact that each item has to meet
pub table_back : {X : Type 0} (size count : ℕ) (enc : X → List ℕ) (read : List ℕ → X) (bytes : List ℕ) (items : List X) → ((e : List ℕ) → length e ≡ size → All IsByte e → enc (read e) ≡ e)
    → IsTable size count read bytes items → All IsByte bytes → flat_map enc items ≡ bytes
table_back size count enc read bytes items back t fits = ap (flat_map enc) t.each ∙ entries_whole size enc read back count bytes t.whole fits

-- ---- tables: from items to bytes and back to the items

pub length_flat : {X : Type 0} (size : ℕ) (enc : X → List ℕ) → ((x : X) → length (enc x) ≡ size) → (xs : List X) → length (flat_map enc xs) ≡ size * length xs
length_flat size enc len [] = omega arith
length_flat size enc len (x ∷ xs) = let rest = length_flat size enc len xs in omega (arith, length-append (enc x) (flat_map enc xs), len x, rest)

-- the same for items that all meet a fact
pub length_flat_of : {X : Type 0} (P : X → Type 0) (size : ℕ) (enc : X → List ℕ) → ((x : X) → P x → length (enc x) ≡ size) → (xs : List X) → AllByRecursion P xs → length (flat_map enc xs) ≡ size * length xs
length_flat_of P size enc len [] h = omega arith
length_flat_of P size enc len (x ∷ xs) h = let rest = length_flat_of P size enc len xs h.1 in omega (arith, length-append (enc x) (flat_map enc xs), len x h.0, rest)

pub entries_flat : {X Y : Type 0} (P : X → Type 0) (size : ℕ) (enc : X → List ℕ) (read : List ℕ → Y) (view : X → Y) → ((x : X) → P x → length (enc x) ≡ size) → ((x : X) → P x → read (enc x) ≡ view x)
    → (xs : List X) → AllByRecursion P xs → map read (entries size (length xs) (flat_map enc xs)) ≡ map view xs
unfolding entries
entries_flat P size enc read view len again [] h = refl
entries_flat P size enc read view len again (x ∷ xs) h =
    rw (take_at (enc x) (flat_map enc xs) size (len x h.0), drop_at (enc x) (flat_map enc xs) size (len x h.0), again x h.0, entries_flat P size enc read view len again xs h.1) refl

pub table_flat : {X Y : Type 0} (P : X → Type 0) (size count : ℕ) (enc : X → List ℕ) (read : List ℕ → Y) (view : X → Y) → ((x : X) → P x → length (enc x) ≡ size) → ((x : X) → P x → read (enc x) ≡ view x)
    → (xs : List X) → length xs ≡ count → AllByRecursion P xs → IsTable size count read (flat_map enc xs) (map view xs)
table_flat P size count enc read view len again xs n h = record {
  whole = length_flat_of P size enc len xs h ∙ ap (λ (k : ℕ). size * k) n;
  each = sym (entries_flat P size enc read view len again xs h) ∙ ap (λ (k : ℕ). map read (entries size k (flat_map enc xs))) n;
}

-- entries are read within the front of bytes
pub entries_front : (size n : ℕ) (front rest : List ℕ) → length front ≡ size * n → entries size n (front ++ rest) ≡ entries size n front
unfolding entries
entries_front size zero front rest len = refl
entries_front size (suc n) front rest len =
    let fits : size ≤ length front = omega (arith, len) in
    let left : length (drop size front) ≡ size * n = omega (arith, length-drop size front, len) in
    rw (take-append-le size front rest fits, drop-append-le size front rest fits, entries_front size n (drop size front) rest left) refl

-- ---- batches

pub raw_batch_bytes : ℕ × ℕ → List ℕ
raw_batch_bytes raw = word_bytes raw.0 ++ raw.1 ∷ []

pub batches_raw : (bs : List Batch) → flat_map batch_bytes bs ≡ flat_map raw_batch_bytes (map raw_batch bs)
unfolding raw_batch_bytes
batches_raw bs = sym (flat_map-map raw_batch_bytes raw_batch bs)

pub raw_batch_back : (e : List ℕ) → length e ≡ 5 → All IsByte e → raw_batch_bytes (raw_batch_of e) ≡ e
unfolding raw_batch_bytes
raw_batch_back e len fits =
    let last : drop 4 e ≡ slice_index e 4 ∷ [] = drop_more e 4 0 (omega (arith, len)) ∙ ap (λ (t : List ℕ). get_or e 4 0 ∷ t) (drop_all 5 e (omega (arith, len))) in
    ap (λ (t : List ℕ). t ++ slice_index e 4 ∷ []) (word_back 0 e (omega (arith, len)) fits) ∙ ap (λ (t : List ℕ). take 4 e ++ t) (sym last) ∙ take-append-drop 4 e

pub batch_again : (b : Batch) → b.count < 2 ^ 32 → raw_batch_of (batch_bytes b) ≡ raw_batch b
batch_again b fits = ap (λ (n : ℕ). (n, winding_code b.winding)) (word_again b.count fits)

pub batch_length : (b : Batch) → length (batch_bytes b) ≡ 5
batch_length b = refl

-- ---- objects

pub raw_bytes : ℕ × List ℤ → List ℕ
raw_bytes raw = raw.0 ∷ row_bytes raw.1

pub objects_raw : (xs : List Object) → flat_map object_bytes xs ≡ flat_map raw_bytes (map raw_object xs)
unfolding raw_bytes
objects_raw xs = sym (flat_map-map raw_bytes raw_object xs)

pub raw_back : (e : List ℕ) → length e ≡ 25 → All IsByte e → raw_bytes (raw_of e) ≡ e
unfolding raw_bytes
raw_back [] len fits = absurd (omega (arith, len))
raw_back (b ∷ rest) len fits = ap (λ (t : List ℕ). b ∷ t) (row_back 6 rest (omega (arith, len)) (All-drop IsByte 1 (b ∷ rest) fits))

zero_in : InLimits (pos 0)
zero_in = (omega (arith, ints), omega (arith, ints))

small_in : (n m : ℕ) → n ≤ m → m ≤ 262144 → InLimits (pos n)
small_in n m h few = (omega (arith, ints, h, few), omega (arith, ints, h, few))

six_in : (a b c d e f : ℤ) → InLimits a → InLimits b → InLimits c → InLimits d → InLimits e → InLimits f → IsRow 6 (a ∷ b ∷ c ∷ d ∷ e ∷ f ∷ [])
six_in a b c d e f ha hb hc hd he hf = (refl, All-from_recursion InLimits (a ∷ b ∷ c ∷ d ∷ e ∷ f ∷ []) (ha, (hb, (hc, (hd, (he, (hf, tt)))))))

at_axis : (row : List ℤ) (k : ℕ) → IsRow 3 row → k < 3 → InLimits (number_at row k)
at_axis row k h lt = h.1 k (pos 0) (omega (arith, h.0, lt))

pub numbers_row : (object_tris : ℕ) (o : Object) → object_tris ≤ 262144 → IsObject object_tris o → IsRow 6 (numbers_of o)
numbers_row m (Area r w) few h = six_in r.x0 r.y0 r.x1 r.y1 w (pos 0) h.2 h.3 h.4 h.5 h.6 zero_in
numbers_row m (Block low high) few h =
    six_in (number_at low 0) (number_at low 1) (number_at low 2) (number_at high 0) (number_at high 1) (number_at high 2)
    (at_axis low 0 h.0 (omega arith)) (at_axis low 1 h.0 (omega arith)) (at_axis low 2 h.0 (omega arith)) (at_axis high 0 h.1 (omega arith)) (at_axis high 1 h.1 (omega arith)) (at_axis high 2 h.1 (omega arith))
numbers_row m (Mesh first count) few h =
    six_in (pos first) (pos count) (pos 0) (pos 0) (pos 0) (pos 0) (small_in first m (omega (arith, h)) few) (small_in count m (omega (arith, h)) few) zero_in zero_in zero_in zero_in

pub raw_again : (object_tris : ℕ) (o : Object) → object_tris ≤ 262144 → IsObject object_tris o → raw_of (object_bytes o) ≡ raw_object o
raw_again m o few h = ap (λ (n : List ℤ). (kind_of o, n)) (row_again 6 (numbers_of o) (numbers_row m o few h))

pub row_length : (n : ℕ) (row : List ℤ) → IsRow n row → length (row_bytes row) ≡ 4 * n
row_length n row h = length_flat 4 (λ z. word_bytes (cast_unsigned w32 z)) (λ z. refl) row ∙ ap (λ (k : ℕ). 4 * k) h.0

pub tri_length : (n : ℕ) (t : Tri) → IsTri n t → length (tri_bytes t) ≡ 12
tri_length n t h = length_flat 4 word_bytes (λ w. refl) t.0 ∙ ap (λ (k : ℕ). 4 * k) h.0

pub object_length : (object_tris : ℕ) (o : Object) → object_tris ≤ 262144 → IsObject object_tris o → length (object_bytes o) ≡ 25
object_length m o few h = ap suc (row_length 6 (numbers_of o) (numbers_row m o few h))
