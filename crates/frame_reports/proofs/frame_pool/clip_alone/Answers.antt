use Rattle.std.proofs.Common.{◌≡◌, pos, ◌+◌, [], List, ℤ, map, length, get_or, arith, sym, ap, ◌∙◌, rules}
use Rattle.std.proofs.lemmas.List.{ext_get_or, length-map, get_or-map}
use Rattle.cull_base.specs.declared.clip.ClipVertex.{ClipVertex}
use Rattle.camera_path.specs.Clip.{clip_of}
use Rattle.tile_cells.proofs.Lists.{set_each}
use Rattle.cull_report.specs.Scene.{frame_clips}
use Rattle.frame_reports.proofs.frame_pool.clip_alone.Goals as goal

nowhere : ClipVertex
nowhere = record { x = pos 0; y = pos 0; w = pos 0 }

pub loop-i-preserved : goal.loop-i-preserved
loop-i-preserved c =
    let i = c.loop-i.i in
    let vs = c.vertices-vertices.result.now in
    let f = clip_of (get_or c.cameras.result.now c.args.frame []) in
    let here : c.clip.result ≡ f (get_or vs i []) = search rules in
    λ k d lt. set_each (λ j (x : ClipVertex). x ≡ f (get_or vs j [])) c.loop-i.clips i c.clip.result (i + 1) (omega arith) (λ j e below ne. c.loop-i.invariant j e (omega arith)) here k d lt

pub returns-clause-clips : goal.returns-clause-clips
unfolding frame_clips
returns-clause-clips c =
    let clips = c.loop-i.clips in
    let vs = c.vertices-vertices.result.now in
    let f = clip_of (get_or c.cameras.result.now c.args.frame []) in
    let size : length clips ≡ length vs = search rules in
    let are : clips ≡ map f vs = ext_get_or nowhere clips (map f vs) (size ∙ sym (length-map vs f)) (λ i lt. c.loop-i.invariant i nowhere (omega (arith, lt, c.loop-i-test.false)) ∙ sym (get_or-map f vs i [] nowhere (omega (arith, lt, size)))) in
    are ∙ ap (map f) c.vertices-vertices.ensures ∙ ap (λ (cs : List (List ℤ)). map (clip_of (get_or cs c.args.frame [])) c.args.scene.now.vertices) c.cameras.ensures.value
