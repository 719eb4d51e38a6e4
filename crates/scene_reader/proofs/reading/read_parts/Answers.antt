use Rattle.std.proofs.Common.{◌+◌, ◌-◌, refl, arith}
use Rattle.std.proofs.lemmas.Result.{err_from_is_err_and}
use Rattle.scene_reader.specs.Length.{header_length, scene_length}
use Rattle.cull_base.proofs.Takes.{takes_then}
use Rattle.cull_base.proofs.Turns.{progress_none}
use Rattle.scene_reader.proofs.Takes.{within_less}
use Rattle.scene_reader.proofs.Turns.{then_table, fetches_failed, fetches_whole}
use Rattle.scene_reader.proofs.reading.read_parts.Goals as goal

pub returns-in_err-vertices-clause-fetches : goal.returns-in_err-vertices-clause-fetches
returns-in_err-vertices-clause-fetches g c =
    let p = err_from_is_err_and c.from_residual.result c.from_residual.ensures.1 in
    let start = c.header_length-vertices_at.ensures.value in
    let before = progress_none _ in
    rw (p.1, p.2) (fetches_failed before (omega (arith, start)) (omega (arith, start)) (rw start at c.in_err-vertices.ensures.fetches))

pub returns-in_err-occluders-clause-fetches : goal.returns-in_err-occluders-clause-fetches
returns-in_err-occluders-clause-fetches g c =
    let p = err_from_is_err_and c.from_residual-in_err-occluders.result c.from_residual-in_err-occluders.ensures.1 in
    let start = c.header_length-vertices_at.ensures.value in
    let before = then_table (progress_none _) c.in_ok-vertices.ensures.taken c.in_ok-vertices.ensures.fetches in
    rw (p.1, p.2) (fetches_failed before (omega (arith, start)) (omega (arith, start)) (rw start at c.in_err-occluders.ensures.fetches))

pub returns-in_err-batches-clause-fetches : goal.returns-in_err-batches-clause-fetches
returns-in_err-batches-clause-fetches g c =
    let p = err_from_is_err_and c.from_residual-in_err-batches.result c.from_residual-in_err-batches.ensures.1 in
    let start = c.header_length-vertices_at.ensures.value in
    let before = then_table (then_table (progress_none _) c.in_ok-vertices.ensures.taken c.in_ok-vertices.ensures.fetches) c.in_ok-occluders.ensures.taken c.in_ok-occluders.ensures.fetches in
    rw (p.1, p.2) (fetches_failed before (omega (arith, start)) (omega (arith, start)) (rw start at c.in_err-batches.ensures.fetches))

pub returns-in_err-object_tris-clause-fetches : goal.returns-in_err-object_tris-clause-fetches
returns-in_err-object_tris-clause-fetches g c =
    let p = err_from_is_err_and c.from_residual-in_err-object_tris.result c.from_residual-in_err-object_tris.ensures.1 in
    let start = c.header_length-vertices_at.ensures.value in
    let before = then_table (then_table (then_table (progress_none _) c.in_ok-vertices.ensures.taken c.in_ok-vertices.ensures.fetches) c.in_ok-occluders.ensures.taken c.in_ok-occluders.ensures.fetches) c.in_ok-batches.ensures.taken.table c.in_ok-batches.ensures.fetches in
    rw (p.1, p.2) (fetches_failed before (omega (arith, start)) (omega (arith, start)) (rw start at c.in_err-object_tris.ensures.fetches))

pub returns-in_err-objects-clause-fetches : goal.returns-in_err-objects-clause-fetches
returns-in_err-objects-clause-fetches g c =
    let p = err_from_is_err_and c.from_residual-in_err-objects.result c.from_residual-in_err-objects.ensures.1 in
    let start = c.header_length-vertices_at.ensures.value in
    let before = then_table (then_table (then_table (then_table (progress_none _) c.in_ok-vertices.ensures.taken c.in_ok-vertices.ensures.fetches) c.in_ok-occluders.ensures.taken c.in_ok-occluders.ensures.fetches) c.in_ok-batches.ensures.taken.table c.in_ok-batches.ensures.fetches) c.in_ok-object_tris.ensures.taken c.in_ok-object_tris.ensures.fetches in
    rw (p.1, p.2) (fetches_failed before (omega (arith, start)) (omega (arith, start)) (rw start at c.in_err-objects.ensures.fetches))

pub returns-in_err-cameras-clause-fetches : goal.returns-in_err-cameras-clause-fetches
returns-in_err-cameras-clause-fetches g c =
    let p = err_from_is_err_and c.from_residual-in_err-cameras.result c.from_residual-in_err-cameras.ensures.1 in
    let start = c.header_length-vertices_at.ensures.value in
    let before = then_table (then_table (then_table (then_table (then_table (progress_none _) c.in_ok-vertices.ensures.taken c.in_ok-vertices.ensures.fetches) c.in_ok-occluders.ensures.taken c.in_ok-occluders.ensures.fetches) c.in_ok-batches.ensures.taken.table c.in_ok-batches.ensures.fetches) c.in_ok-object_tris.ensures.taken c.in_ok-object_tris.ensures.fetches) c.in_ok-objects.ensures.taken.table c.in_ok-objects.ensures.fetches in
    rw (p.1, p.2) (fetches_failed before (omega (arith, start)) (omega (arith, start)) (rw start at c.in_err-cameras.ensures.fetches))

pub returns-clause-fetches : goal.returns-clause-fetches
returns-clause-fetches g c =
    let start = c.header_length-vertices_at.ensures.value in
    let whole = within_less c.args.part _ (header_length c.args.header.version + (scene_length c.args.header.version c.args.header.counts - header_length c.args.header.version)) (omega (arith, start)) c.in_ok-cameras.ensures.fetches.within in
    fetches_whole (then_table (then_table (then_table (then_table (then_table (then_table (progress_none _) c.in_ok-vertices.ensures.taken c.in_ok-vertices.ensures.fetches) c.in_ok-occluders.ensures.taken c.in_ok-occluders.ensures.fetches) c.in_ok-batches.ensures.taken.table c.in_ok-batches.ensures.fetches) c.in_ok-object_tris.ensures.taken c.in_ok-object_tris.ensures.fetches) c.in_ok-objects.ensures.taken.table c.in_ok-objects.ensures.fetches) c.in_ok-cameras.ensures.taken c.in_ok-cameras.ensures.fetches) (omega arith) whole

pub returns-clause-length : goal.returns-clause-length
returns-clause-length g c = rw c.header_length-vertices_at.ensures.value refl

pub returns-clause-taken : goal.returns-clause-taken
returns-clause-taken g c =
    let v = c.in_ok-vertices.ensures.taken in
    let o = c.in_ok-occluders.ensures.taken in
    let b = c.in_ok-batches.ensures.taken in
    let t = c.in_ok-object_tris.ensures.taken in
    let j = c.in_ok-objects.ensures.taken in
    let m = c.in_ok-cameras.ensures.taken in
    record {
      vertex_bytes = v.bytes;
      occluder_bytes = o.bytes;
      batch_bytes = b.table.bytes;
      object_tri_bytes = t.bytes;
      object_bytes = j.table.bytes;
      camera_bytes = m.bytes;
      stored = b.stored;
      raws = j.raws;
      takes = takes_then _ _ _ _ _ v.takes (takes_then _ _ _ _ _ o.takes (takes_then _ _ _ _ _ b.table.takes (takes_then _ _ _ _ _ t.takes (takes_then _ _ _ _ _ j.table.takes m.takes))));
      vertices = record { whole = v.whole; each = v.each };
      occluders = record { whole = o.whole; each = o.each };
      batches = record { whole = b.table.whole; each = b.table.each };
      object_tris = record { whole = t.whole; each = t.each };
      objects = record { whole = j.table.whole; each = j.table.each };
      cameras = record { whole = m.whole; each = m.each };
      batches_first = b.first;
      batches_whole = b.whole;
      first = j.first;
      whole = j.whole;
      valid = j.valid;
      header = (refl, refl, refl, refl, refl);
    }
