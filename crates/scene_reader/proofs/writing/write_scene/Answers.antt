use Rattle.std.proofs.Common.{◌++◌, List, ℕ}
use Rattle.std.specs.List.{flat_map}
use Rattle.std.proofs.lemmas.Result.{err_from_is_err_and}
use Rattle.cull_base.proofs.Streams.{writes_no_more}
use Rattle.scene_reader.specs.Layout.{Parts, layout, row_bytes, tri_bytes, batch_bytes, object_bytes, stored_batches}
use Rattle.scene_reader.proofs.Appending.{writes_on}
use Rattle.scene_reader.proofs.writing.write_scene.Goals as goal

-- what is written behind the objects, the object triangles, the batches, the occluders, the vertices and the header
abbrev after_objects : Parts → List ℕ
after_objects p = flat_map row_bytes p.cameras

abbrev after_object_tris : Parts → List ℕ
after_object_tris p = flat_map object_bytes p.objects ++ after_objects p

abbrev after_batches : Parts → List ℕ
after_batches p = flat_map tri_bytes p.object_tris ++ after_object_tris p

abbrev after_occluders : Parts → List ℕ
after_occluders p = flat_map batch_bytes (stored_batches p.version p.batches) ++ after_batches p

abbrev after_vertices : Parts → List ℕ
after_vertices p = flat_map tri_bytes p.occluders ++ after_occluders p

abbrev after_header : Parts → List ℕ
after_header p = flat_map row_bytes p.vertices ++ after_vertices p

pub returns-in_err-write_to : goal.returns-in_err-write_to
unfolding layout
returns-in_err-write_to g c =
    let q = err_from_is_err_and c.from_residual.result c.from_residual.ensures.1 in
    rw (q.1, q.2) (writes_no_more _ _ _ _ (after_header c.args.scene.now) (rw c.header_of.ensures at c.in_err-write_to.ensures))

pub returns-in_err-write_table : goal.returns-in_err-write_table
unfolding layout
returns-in_err-write_table g c =
    let q = err_from_is_err_and c.from_residual-in_err-write_table.result c.from_residual-in_err-write_table.ensures.1 in
    let header = rw c.header_of.ensures at c.in_ok-write_to.ensures in
    rw (q.1, q.2) (writes_on header (writes_no_more _ _ _ _ (after_vertices c.args.scene.now) (rw c.vertices.ensures at c.in_err-write_table.ensures)))

pub returns-in_err-write_table-2 : goal.returns-in_err-write_table-2
unfolding layout
returns-in_err-write_table-2 g c =
    let q = err_from_is_err_and c.from_residual-in_err-write_table-2.result c.from_residual-in_err-write_table-2.ensures.1 in
    let header = rw c.header_of.ensures at c.in_ok-write_to.ensures in
    let vertices = rw c.vertices.ensures at c.in_ok-write_table.ensures in
    rw (q.1, q.2) (writes_on header (writes_on vertices (writes_no_more _ _ _ _ (after_occluders c.args.scene.now) (rw c.occluders.ensures at c.in_err-write_table-2.ensures))))

pub returns-in_err-write_table-3 : goal.returns-in_err-write_table-3
unfolding layout
returns-in_err-write_table-3 g c =
    let q = err_from_is_err_and c.from_residual-in_err-write_table-3.result c.from_residual-in_err-write_table-3.ensures.1 in
    let header = rw c.header_of.ensures at c.in_ok-write_to.ensures in
    let vertices = rw c.vertices.ensures at c.in_ok-write_table.ensures in
    let occluders = rw c.occluders.ensures at c.in_ok-write_table-2.ensures in
    rw (q.1, q.2) (writes_on header (writes_on vertices (writes_on occluders (writes_no_more _ _ _ _ (after_batches c.args.scene.now) (rw (c.stored_batches.ensures, c.version.ensures.value, c.batches.ensures.value) at c.in_err-write_table-3.ensures)))))

pub returns-in_err-write_table-4 : goal.returns-in_err-write_table-4
unfolding layout
returns-in_err-write_table-4 g c =
    let q = err_from_is_err_and c.from_residual-in_err-write_table-4.result c.from_residual-in_err-write_table-4.ensures.1 in
    let header = rw c.header_of.ensures at c.in_ok-write_to.ensures in
    let vertices = rw c.vertices.ensures at c.in_ok-write_table.ensures in
    let occluders = rw c.occluders.ensures at c.in_ok-write_table-2.ensures in
    let batches = rw (c.stored_batches.ensures, c.version.ensures.value, c.batches.ensures.value) at c.in_ok-write_table-3.ensures in
    rw (q.1, q.2) (writes_on header (writes_on vertices (writes_on occluders (writes_on batches (writes_no_more _ _ _ _ (after_object_tris c.args.scene.now) (rw c.object_tris.ensures at c.in_err-write_table-4.ensures))))))

pub returns-in_err-write_table-5 : goal.returns-in_err-write_table-5
unfolding layout
returns-in_err-write_table-5 g c =
    let q = err_from_is_err_and c.from_residual-in_err-write_table-5.result c.from_residual-in_err-write_table-5.ensures.1 in
    let header = rw c.header_of.ensures at c.in_ok-write_to.ensures in
    let vertices = rw c.vertices.ensures at c.in_ok-write_table.ensures in
    let occluders = rw c.occluders.ensures at c.in_ok-write_table-2.ensures in
    let batches = rw (c.stored_batches.ensures, c.version.ensures.value, c.batches.ensures.value) at c.in_ok-write_table-3.ensures in
    let object_tris = rw c.object_tris.ensures at c.in_ok-write_table-4.ensures in
    rw (q.1, q.2) (writes_on header (writes_on vertices (writes_on occluders (writes_on batches (writes_on object_tris (writes_no_more _ _ _ _ (after_objects c.args.scene.now) (rw c.objects.ensures at c.in_err-write_table-5.ensures)))))))

pub returns : goal.returns
unfolding layout
returns g c =
    let header = rw c.header_of.ensures at c.in_ok-write_to.ensures in
    let vertices = rw c.vertices.ensures at c.in_ok-write_table.ensures in
    let occluders = rw c.occluders.ensures at c.in_ok-write_table-2.ensures in
    let batches = rw (c.stored_batches.ensures, c.version.ensures.value, c.batches.ensures.value) at c.in_ok-write_table-3.ensures in
    let object_tris = rw c.object_tris.ensures at c.in_ok-write_table-4.ensures in
    let objects = rw c.objects.ensures at c.in_ok-write_table-5.ensures in
    writes_on header (writes_on vertices (writes_on occluders (writes_on batches (writes_on object_tris (writes_on objects (rw c.cameras.ensures.value at c.write_table-6.ensures))))))
