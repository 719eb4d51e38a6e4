use Rattle.std.proofs.Common.{ap, ◌∙◌, map, List, ℤ, [], get_or}
use Rattle.camera_path.specs.Clip.{clip_of}
use Rattle.cull_report.specs.Scene.{frame_clips}
use Rattle.cull_report.proofs.frame.clip_frame.Goals as goal

pub returns-clause-clips : goal.returns-clause-clips
unfolding frame_clips
returns-clause-clips g c =
    let cameras = c.cameras.ensures.value in let vertices = c.vertices.ensures in
    c.clip_into.ensures ∙ ap (map (clip_of (get_or c.cameras.result.now c.args.frame []))) vertices ∙ ap (λ (cs : List (List ℤ)). map (clip_of (get_or cs c.args.frame [])) c.args.scene.now.vertices) cameras
