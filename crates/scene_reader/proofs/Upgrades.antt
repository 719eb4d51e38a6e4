-- An upgraded scene.
use Rattle.std.proofs.Common.{◌≡◌, ℕ, arith, sym, ap}
use Rattle.scene_reader.specs.Layout.{Parts, IsScene, upgraded}

-- its batches are as before, and nothing else depends on the version
pub upgraded_scene : (p : Parts) → IsScene p → IsScene (upgraded p)
upgraded_scene p s = record {
  version_some = omega arith;
  version_known = omega arith;
  narrow = λ one. absurd (omega (arith, one));
  one_batch = λ one. absurd (omega (arith, one));
  size = s.size;
  near_some = s.near_some;
  near_within = s.near_within;
  some_frames = s.some_frames;
  few_frames = s.few_frames;
  few_vertices = s.few_vertices;
  few_occluders = s.few_occluders;
  few_batches = s.few_batches;
  few_object_tris = s.few_object_tris;
  few_objects = s.few_objects;
  vertices = s.vertices;
  occluders = s.occluders;
  batches = s.batches;
  object_tris = s.object_tris;
  objects = s.objects;
  cameras = s.cameras;
}

pub upgraded_again : (p : Parts) → p.version ≡ 2 → upgraded p ≡ p
upgraded_again p two = ap (λ (v : ℕ). record p { version = v }) (sym two)
