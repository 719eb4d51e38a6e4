use Rattle.std.proofs.Common.{◌∙◌, ◌∷◌, [], ap, ℕ, List, ℤ, length}
use Rattle.cull_base.specs.Screen.{Dimensions}
use Rattle.cull_base.specs.declared.scene_types.Tri.{Tri}
use Rattle.cull_base.specs.declared.scene_types.Object.{Object}
use Rattle.scene_reader.specs.Layout.{short_bytes, word_bytes, winding_byte, grade_code, batch_count_bytes}
use Rattle.scene_reader.proofs.Appending.{header_literal}
use Rattle.scene_reader.proofs.writing.header_of.Goals as goal

pub returns : goal.returns
returns c =
    let version = c.version-version.ensures.value in
    let batches = c.batches-batches.ensures.value in
    rw (
      c.push_batch_count.ensures,
      c.push-10.ensures,
      c.push-9.ensures,
      c.push-8.ensures,
      c.push-7.ensures,
      c.push-6.ensures,
      c.push-5.ensures,
      c.push-4.ensures,
      c.push-3.ensures,
      c.push-2.ensures,
      c.push.ensures,
      c.begin-header.ensures,
    )
    (header_literal c.args.scene.now _ _ _ _ _ _ _ _ _ _ _
    (c.to_le_bytes.ensures ∙ ap short_bytes version)
    (c.to_le_bytes-2.ensures ∙ ap short_bytes (c.width.ensures.value ∙ ap (λ (d : Dimensions). d.width) c.size.ensures))
    (c.to_le_bytes-3.ensures ∙ ap short_bytes (c.height.ensures.value ∙ ap (λ (d : Dimensions). d.height) c.size-2.ensures))
    (c.to_le_bytes-4.ensures ∙ ap short_bytes c.near.ensures.value)
    (ap (λ (k : ℕ). k ∷ c.code_of_grade.result ∷ []) (c.winding_byte.ensures ∙ ap (λ (v : ℕ). winding_byte v c.batches-batches.result.now) version ∙ ap (winding_byte c.args.scene.now.version) batches)
    ∙ ap (λ (k : ℕ). winding_byte c.args.scene.now.version c.args.scene.now.batches ∷ k ∷ []) (c.code_of_grade.ensures ∙ ap grade_code c.grade.ensures))
    (c.to_le_bytes-5.ensures ∙ ap (λ (xs : List (List ℤ)). short_bytes (length xs)) c.cameras.ensures.value)
    (c.to_le_bytes-6.ensures ∙ ap (λ (xs : List (List ℤ)). word_bytes (length xs)) c.vertices.ensures)
    (c.to_le_bytes-7.ensures ∙ ap (λ (xs : List Tri). word_bytes (length xs)) c.occluders.ensures)
    (c.to_le_bytes-8.ensures ∙ ap (λ (xs : List Tri). word_bytes (length xs)) c.object_tris.ensures)
    (c.to_le_bytes-9.ensures ∙ ap (λ (xs : List Object). word_bytes (length xs)) c.objects.ensures)
    (ap (λ (v : ℕ). batch_count_bytes v c.batches-batches.result.now) version ∙ ap (batch_count_bytes c.args.scene.now.version) batches))
