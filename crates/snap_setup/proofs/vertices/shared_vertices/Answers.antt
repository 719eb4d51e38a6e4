use Rattle.std.proofs.Common.{◌≡◌, ◌+◌, ◌<◌, ◌++◌, ◌∷◌, [], ℕ, List, pos, take, length, get_or, arith, sym, ap, ◌∙◌}
use Rattle.std.proofs.lemmas.List.{take_more, map_push}
use Rattle.cull_base.specs.declared.clip.ClipVertex.{ClipVertex}
use Rattle.cull_base.specs.Grade.{top_of}
use Rattle.cull_base.specs.Screen.{Dimensions}
use Rattle.snap_setup.specs.declared.vertices.ScreenVertex.{ScreenVertex}
use Rattle.snap_setup.specs.Vertices.{screen_vertex, screen_vertices}
use Rattle.snap_setup.proofs.vertices.shared_vertices.Goals as goal

pushed : (clips : List ClipVertex) (top near : ℕ) (size : Dimensions) (i : ℕ) (items more : List ScreenVertex) (s : ScreenVertex) (d : ClipVertex) → items ≡ screen_vertices (take i clips) top near size → i < length clips
    → s ≡ screen_vertex (get_or clips i d) top near size → more ≡ items ++ s ∷ [] → more ≡ screen_vertices (take (i + 1) clips) top near size
pushed clips top near size i items more s d e lt is m =
    m ∙ ap (λ (x : ScreenVertex). items ++ x ∷ []) is ∙ ap (λ (xs : List ScreenVertex). xs ++ screen_vertex (get_or clips i d) top near size ∷ []) e
    ∙ sym (ap (λ (vs : List ClipVertex). screen_vertices vs top near size) (take_more clips i d lt) ∙ map_push (λ v. screen_vertex v top near size) (take i clips) (get_or clips i d))

pub loop-v-preserved : goal.loop-v-preserved
loop-v-preserved c =
    let o = c.args.occluders.now in
    let d : ClipVertex = record { x = pos 0; y = pos 0; w = pos 0 } in
    record {
      made = pushed c.shared_clips-shared.result.now (top_of o.grade) o.near.distance o.size c.loop-v.v-index _ _ _ d c.loop-v.invariant.made c.loop-v-test.true c.screen_vertex.ensures c.push_reserved.ensures.items;
      room = omega (arith, c.loop-v.invariant.room, c.push_reserved.ensures.capacity);
    }
