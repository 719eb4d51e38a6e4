use Rattle.std.proofs.Common.{◌≡◌, pos, rules, [], length, map, arith, sym, ◌∙◌}
use Rattle.std.proofs.lemmas.List.{ext_get_or, length-map, get_or-map}
use Rattle.cull_base.specs.declared.clip.ClipVertex.{ClipVertex}
use Rattle.camera_path.specs.Clip.{clip_of}
use Rattle.camera_path.proofs.clips.clip_into.Goals as goal

nowhere : ClipVertex
nowhere = record { x = pos 0; y = pos 0; w = pos 0 }

pub returns : goal.returns
returns g c =
    let size : length c.for_each_share.new.s ≡ length c.args.vertices.now = search rules in
    ext_get_or nowhere c.for_each_share.new.s (map (clip_of c.args.camera.now.0) c.args.vertices.now) (size ∙ sym (length-map c.args.vertices.now (clip_of c.args.camera.now.0)))
    (λ i lt. let h = c.for_each_share.ensures i nowhere (omega (arith, lt, size, c.requires.places)) in
    let k = h.1 in
    sym k.left ∙ k.call ∙ sym (get_or-map (clip_of c.args.camera.now.0) c.args.vertices.now i [] nowhere (omega (arith, lt, size))))
