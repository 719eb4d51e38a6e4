-- Objects, batches and grades from the numbers that stand for them.
use Rattle.std.proofs.Common.{◌≡◌, ℕ, ℤ, pos, negsuc, suc, zero, ◌≤◌, ◌∷◌, List, [], length, map, arith, refl, sym, ap, ◌∙◌, false, inl, inr}
use Rattle.std.specs.Prelude.{◌≤ℤ◌}
use Rattle.std.specs.List.{AllByRecursion}
use Rattle.std.proofs.lemmas.Int.{ints}
use Rattle.std.proofs.lemmas.Bool.{or_parts, both_ways, cases_eq}
use Rattle.cull_base.specs.declared.nearness.Grade.{Grade}
use Rattle.cull_base.specs.declared.nearness.Grade.TheVariants.{Narrow, Wide}
use Rattle.cull_base.specs.declared.rect.Rect.{Rect}
use Rattle.cull_base.specs.declared.scene_types.Batch.{Batch}
use Rattle.cull_base.specs.declared.triangle.Winding.{Winding}
use Rattle.cull_base.specs.declared.triangle.Winding.TheVariants.{Both, DropClockwise, DropCounter}
use Rattle.cull_base.specs.declared.scene_types.Object.{Object}
use Rattle.cull_base.specs.declared.scene_types.Object.TheVariants.{Area, Block, Mesh}
use Rattle.scene_reader.specs.Layout.{IsObject, numbers_of, raw_object, raw_batch, winding_code, grade_code, number_at}
use Rattle.scene_reader.specs.Fault.{is_bad_row, is_bad_object, is_not_zero}
use Rattle.scene_reader.proofs.Valid.{area_valid, block_valid, mesh_valid, le_from_lt}
use Rattle.scene_reader.proofs.Shapes.{six, not_zero}

zero_from : (z : ℤ) → is_not_zero z ≡ false → z ≡ pos 0
zero_from (pos n) e = elim (cases_eq n 0) [ inl is ↦ ap pos is | inr ne ↦ absurd (both_ways _ e (not_zero (pos n) ne)) ]
zero_from (negsuc n) e = absurd (both_ways _ e refl)

natural_of : (z : ℤ) → pos 0 ≤ℤ z → (k : ℕ) × (z ≡ pos k)
natural_of (pos k) h = (k, refl)
natural_of (negsuc k) h = absurd (omega (arith, ints, h))

Made : ℕ → ℕ → List ℤ → Type 0
Made m kind ns = (o : Object) × (raw_object o ≡ (kind, ns)) × IsObject m o

made_area : (m : ℕ) (ns : List ℤ) → is_bad_object m 0 ns ≡ false → length ns ≡ 6 → Made m 0 ns
unfolding is_bad_object Made
made_area m ns good len =
    let last = zero_from (number_at ns 5) (or_parts _ _ (or_parts (is_bad_row ns) _ good).1).1 in
    let r : Rect = record { x0 = number_at ns 0; y0 = number_at ns 1; x1 = number_at ns 2; y1 = number_at ns 3 } in
    let numbers : numbers_of (Area r (number_at ns 4)) ≡ ns = ap (λ (z : ℤ). number_at ns 0 ∷ number_at ns 1 ∷ number_at ns 2 ∷ number_at ns 3 ∷ number_at ns 4 ∷ z ∷ []) (sym last) ∙ six ns len in
    (Area r (number_at ns 4), ap (λ (x : List ℤ). (0, x)) numbers, area_valid m r (number_at ns 4) (ap (λ (x : List ℤ). is_bad_object m 0 x) numbers ∙ good))

made_block : (m : ℕ) (ns : List ℤ) → is_bad_object m 1 ns ≡ false → length ns ≡ 6 → Made m 1 ns
unfolding Made
made_block m ns good len =
    let low : List ℤ = number_at ns 0 ∷ number_at ns 1 ∷ number_at ns 2 ∷ [] in
    let high : List ℤ = number_at ns 3 ∷ number_at ns 4 ∷ number_at ns 5 ∷ [] in
    let numbers : numbers_of (Block low high) ≡ ns = six ns len in
    (Block low high, ap (λ (x : List ℤ). (1, x)) numbers, block_valid m low high refl refl (ap (λ (x : List ℤ). is_bad_object m 1 x) numbers ∙ good))

six_same : (a b c d e f g h : ℤ) → a ≡ g → b ≡ h → c ≡ pos 0 → d ≡ pos 0 → e ≡ pos 0 → f ≡ pos 0 → g ∷ h ∷ pos 0 ∷ pos 0 ∷ pos 0 ∷ pos 0 ∷ [] ≡ a ∷ b ∷ c ∷ d ∷ e ∷ f ∷ []
six_same a b c d e f g h ea eb ec ed ee ef = rw (ea, eb, ec, ed, ee, ef) refl

made_mesh : (m : ℕ) (ns : List ℤ) → is_bad_object m 2 ns ≡ false → length ns ≡ 6 → Made m 2 ns
unfolding is_bad_object Made
made_mesh m ns good len =
    let all : List ℤ = number_at ns 0 ∷ number_at ns 1 ∷ number_at ns 2 ∷ number_at ns 3 ∷ number_at ns 4 ∷ number_at ns 5 ∷ [] in
    let fine : is_bad_object m 2 all ≡ false = ap (λ (x : List ℤ). is_bad_object m 2 x) (six ns len) ∙ good in
    let p = or_parts _ _ (or_parts (is_bad_row all) _ fine).1 in
    let q = or_parts _ _ (or_parts _ _ p.0).0 in
    let f = natural_of (number_at ns 0) (le_from_lt (number_at ns 0) (pos 0) q.0) in
    let c = natural_of (number_at ns 1) (le_from_lt (number_at ns 1) (pos 0) q.1) in
    let r2 = or_parts (is_not_zero (number_at ns 2)) _ p.1 in
    let r3 = or_parts (is_not_zero (number_at ns 3)) _ r2.1 in
    let r4 = or_parts (is_not_zero (number_at ns 4)) _ r3.1 in
    let r5 = or_parts (is_not_zero (number_at ns 5)) _ r4.1 in
    let numbers : numbers_of (Mesh f.0 c.0) ≡ ns =
    six_same (number_at ns 0) (number_at ns 1) (number_at ns 2) (number_at ns 3) (number_at ns 4) (number_at ns 5) (pos f.0) (pos c.0) f.1 c.1 (zero_from (number_at ns 2) r2.0) (zero_from (number_at ns 3) r3.0) (zero_from (number_at ns 4) r4.0) (zero_from (number_at ns 5) r5.0) ∙ six ns len in
    (Mesh f.0 c.0, ap (λ (x : List ℤ). (2, x)) numbers, mesh_valid m f.0 c.0 (ap (λ (x : List ℤ). is_bad_object m 2 x) numbers ∙ good))

made_kind : (m kind : ℕ) (ns : List ℤ) → kind ≤ 2 → is_bad_object m kind ns ≡ false → length ns ≡ 6 → Made m kind ns
made_kind m zero ns small good len = made_area m ns good len
made_kind m (suc zero) ns small good len = made_block m ns good len
made_kind m (suc (suc zero)) ns small good len = made_mesh m ns good len
made_kind m (suc (suc (suc k))) ns small good len = absurd (omega (arith, small))

-- an object from its kind and numbers
object_from : (m : ℕ) (raw : ℕ × List ℤ) → raw.0 ≤ 2 → is_bad_object m raw.0 raw.1 ≡ false → length raw.1 ≡ 6 → (o : Object) × (raw_object o ≡ raw) × IsObject m o
unfolding Made
object_from m raw small good len = made_kind m raw.0 raw.1 small good len

pub objects_made : (m : ℕ) (raws : List (ℕ × List ℤ)) → AllByRecursion (λ raw. (raw.0 ≤ 2) × (is_bad_object m raw.0 raw.1 ≡ false)) raws → AllByRecursion (λ raw. length raw.1 ≡ 6) raws
    → (xs : List Object) × (map raw_object xs ≡ raws) × AllByRecursion (IsObject m) xs
objects_made m [] good len = ([], refl, tt)
objects_made m (raw ∷ raws) good len =
    let x = object_from m raw good.0.0 good.0.1 len.0 in
    let xs = objects_made m raws good.1 len.1 in
    (x.0 ∷ xs.0, ap (λ (r : ℕ × List ℤ). r ∷ map raw_object xs.0) x.1 ∙ ap (λ (rs : List (ℕ × List ℤ)). raw ∷ rs) xs.1, (x.2, xs.2))

pub winding_of : ℕ → Winding
winding_of zero = Both
winding_of (suc zero) = DropClockwise
winding_of (suc (suc k)) = DropCounter

pub winding_is : (k : ℕ) → k ≤ 2 → k ≡ winding_code (winding_of k)
unfolding winding_of
winding_is zero h = refl
winding_is (suc zero) h = refl
winding_is (suc (suc zero)) h = refl
winding_is (suc (suc (suc k))) h = absurd (omega (arith, h))

pub grade_of : ℕ → Grade
grade_of zero = Narrow
grade_of (suc k) = Wide

pub grade_is : (k : ℕ) → k ≤ 1 → k ≡ grade_code (grade_of k)
unfolding grade_of
grade_is zero h = refl
grade_is (suc zero) h = refl
grade_is (suc (suc k)) h = absurd (omega (arith, h))

batch_of : ℕ × ℕ → Batch
batch_of raw = record { count = raw.0; winding = winding_of raw.1 }

batch_is : (raw : ℕ × ℕ) → raw.1 ≤ 2 → raw_batch (batch_of raw) ≡ raw
unfolding batch_of
batch_is raw small = ap (λ (w : ℕ). (raw.0, w)) (sym (winding_is raw.1 small))

pub batches_made : (raws : List (ℕ × ℕ)) → AllByRecursion (λ raw. raw.1 ≤ 2) raws → (bs : List Batch) × (map raw_batch bs ≡ raws)
batches_made [] small = ([], refl)
batches_made (raw ∷ raws) small =
    let rest = batches_made raws small.1 in
    (batch_of raw ∷ rest.0, ap (λ (r : ℕ × ℕ). r ∷ map raw_batch rest.0) (batch_is raw small.0) ∙ ap (λ (rs : List (ℕ × ℕ)). raw ∷ rs) rest.1)
