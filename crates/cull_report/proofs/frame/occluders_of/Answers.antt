use Rattle.std.proofs.Common.{◌≡◌, List, length, subst, sym, ap, ◌∙◌, refl}
use Rattle.std.specs.List.{All}
use Rattle.cull_base.specs.Batches.{AreBatchesOf}
use Rattle.cull_base.specs.declared.scene_types.Batch.{Batch}
use Rattle.cull_base.specs.declared.scene_types.Tri.{Tri}
use Rattle.snap_setup.specs.Pieces.{HasClips}
use Rattle.cull_report.specs.Scene.{frame_list}
use Rattle.cull_report.proofs.Forms.{clip_count, has_clips}
use Rattle.cull_report.proofs.frame.occluders_of.Goals as goal

pub invariant_of-result-2-clause-indices : goal.invariant_of-result-2-clause-indices
invariant_of-result-2-clause-indices c =
    let s = c.args.scene.now in
    let n : length c.args.clips.now ≡ length s.vertices = ap length c.requires ∙ clip_count s c.args._frame in
    let all : All (HasClips (length c.args.clips.now)) s.occluders = λ k d lt. has_clips (length c.args.clips.now) (length s.vertices) _ n ((c.near.ensures.valid).occluders k d lt).1 in
    subst (All (HasClips (length c.args.clips.now))) (sym c.occluders.ensures) all

pub invariant_of-result-2-clause-counted : goal.invariant_of-result-2-clause-counted
invariant_of-result-2-clause-counted c =
    let s = c.args.scene.now in
    let whole : AreBatchesOf s.batches (length s.occluders) = (c.near.ensures.valid).batches in
    let of_list = subst (λ (tris : List Tri). AreBatchesOf s.batches (length tris)) (sym c.occluders.ensures) whole in
    subst (λ (batches : List Batch). AreBatchesOf batches (length c.occluders.result.now)) (sym c.batches.ensures.value) of_list

pub returns-clause-list : goal.returns-clause-list
unfolding frame_list
returns-clause-list c = rw (c.requires, c.occluders.ensures, c.near.ensures.value, c.size.ensures, c.batches.ensures.value, c.grade.ensures) refl
