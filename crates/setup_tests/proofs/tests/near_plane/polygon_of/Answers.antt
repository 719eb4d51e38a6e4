use Rattle.std.proofs.Common.{◌≡◌, false, refl, [], ◌∷◌}
use Rattle.cull_base.specs.Guard.{is_past_guard}
use Rattle.near_clip.proofs.Reaches.{all_corners}
use Rattle.setup_tests.proofs.tests.near_plane.polygon_of.Goals as goal

pub clip_near-requires-clause-guarded : goal.clip_near-requires-clause-guarded
clip_near-requires-clause-guarded c = all_corners (λ v. is_past_guard v 2 ≡ false) (c.vertex.result ∷ c.vertex-2.result ∷ c.vertex-3.result ∷ []) refl c.vertex.ensures c.vertex-2.ensures c.vertex-3.ensures
