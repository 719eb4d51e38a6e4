-- From an accepted header and tables without a fault to a scene.
use Rattle.std.proofs.Common.{◌≡◌, ℕ, ◌≤◌, List, [], length, arith, refl, sym, ap, ◌∙◌, subst, All, inl, inr}
use Rattle.std.specs.Prelude.{slice_index}
use Rattle.std.proofs.lemmas.Bool.{cases_eq}
use Rattle.std.proofs.lemmas.List.{length-map}
use Rattle.cull_base.specs.Batches.{AreBatchesOf}
use Rattle.cull_base.specs.Screen.{IsSize}
use Rattle.cull_base.specs.declared.nearness.Grade.{Grade}
use Rattle.cull_base.specs.declared.nearness.Grade.TheVariants.{Narrow, Wide}
use Rattle.cull_base.specs.declared.scene_types.Batch.{Batch}
use Rattle.scene_reader.specs.declared.header.Counts.{Counts}
use Rattle.scene_reader.specs.Layout.{Parts, IsScene, IsObject, grade_code, winding_byte, stored_batches}
use Rattle.scene_reader.specs.Fault.{version_at, short_at, counts_at, entries}
use Rattle.scene_reader.specs.Header.{AreCounts}
use Rattle.scene_reader.specs.PartsFault.{AreTables}
use Rattle.scene_reader.proofs.ObjectTable.{length_entries}
use Rattle.scene_reader.specs.Reading.{IsTable}
use Rattle.scene_reader.proofs.Headers.{Accepted, at_second}
use Rattle.scene_reader.proofs.HeaderBytes.{counts_of, HeaderSays, says_counts}

pub table_count : {X : Type 0} (size n : ℕ) (read : List ℕ → X) (bytes : List ℕ) (items : List X) → IsTable size n read bytes items → length items ≡ n
table_count size n read bytes items t = ap length t.each ∙ length-map (entries size n bytes) read ∙ length_entries size n bytes

-- the header, and the number of entries of each table
pub record Fits (h : List ℕ) (p : Parts) : Type 0 where
  pub says : HeaderSays h p
  pub accepted : Accepted h
  pub counts : AreCounts (counts_of p)

narrow_code : (g : Grade) → grade_code g ≡ 0 → g ≡ Narrow
narrow_code Narrow e = refl
narrow_code Wide e = absurd (omega (arith, e))

-- one batch, or as many as the table has
batches_few : (version : ℕ) (bs : List Batch) → (version ≡ 1 → length bs ≡ 1) → length (stored_batches version bs) ≤ 4096 → length bs ≤ 4096
batches_few version bs one few = elim (cases_eq version 1) [
  | inl first ↦ omega (arith, one first)
  | inr other ↦ omega (arith, ap (λ (xs : List Batch). length xs) (at_second version [] bs other), few)
]

pub scene_from : (h : List ℕ) (p : Parts) → Fits h p → AreTables p → AreBatchesOf p.batches (length p.occluders) → (p.version ≡ 1 → length p.batches ≡ 1) → All (IsObject (length p.object_tris)) p.objects → IsScene p
unfolding counts_of
scene_from h p f t batches one objects = record {
  version_some = omega (arith, f.says.version, f.accepted.version_some);
  version_known = omega (arith, f.says.version, f.accepted.version_known);
  narrow = λ first. narrow_code p.grade (sym f.says.grade ∙ f.accepted.flags.first (f.says.version ∙ first));
  one_batch = one;
  size = subst (λ (x : ℕ). IsSize x p.height) f.says.width (subst (λ (y : ℕ). IsSize (short_at 6 h) y) f.says.height f.accepted.size);
  near_some = omega (arith, f.says.near, f.accepted.near_some);
  near_within = omega (arith, f.says.near, f.accepted.near_within);
  some_frames = f.counts.some_frames;
  few_frames = f.counts.few_frames;
  few_vertices = f.counts.few_vertices;
  few_occluders = f.counts.few_occluders;
  few_batches = batches_few p.version p.batches one f.counts.few_batches;
  few_object_tris = f.counts.few_object_tris;
  few_objects = f.counts.few_objects;
  vertices = t.vertices;
  occluders = t.occluders;
  batches = batches;
  object_tris = t.object_tris;
  objects = objects;
  cameras = t.cameras;
}

pub fits_from : (h : List ℕ) (n : Counts) (p : Parts) → Accepted h → counts_at h ≡ n → version_at h ≡ p.version → short_at 6 h ≡ p.width → short_at 8 h ≡ p.height → short_at 10 h ≡ p.near → slice_index h 12 ≡ winding_byte p.version p.batches → slice_index h 13 ≡ grade_code p.grade
    → length p.cameras ≡ n.frames → length p.vertices ≡ n.vertices → length p.occluders ≡ n.occluders → length (stored_batches p.version p.batches) ≡ n.batches → length p.object_tris ≡ n.object_tris → length p.objects ≡ n.objects → Fits h p
unfolding counts_of
fits_from h n p a e x w y z k g cf cv co cb ct cj =
    let says : HeaderSays h p = record {
      version = x;
      width = w;
      height = y;
      near = z;
      winding = k;
      grade = g;
      frames = ap (λ (m : Counts). m.frames) e ∙ sym cf;
      vertices = ap (λ (m : Counts). m.vertices) e ∙ sym cv;
      occluders = ap (λ (m : Counts). m.occluders) e ∙ sym co;
      object_tris = ap (λ (m : Counts). m.object_tris) e ∙ sym ct;
      objects = ap (λ (m : Counts). m.objects) e ∙ sym cj;
      batches = ap (λ (m : Counts). m.batches) e ∙ sym cb;
    } in
    record { says = says; accepted = a; counts = subst AreCounts (says_counts h p says) a.counts }
