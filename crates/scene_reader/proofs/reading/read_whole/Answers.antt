use Rattle.std.proofs.Common.{◌≡◌, ℕ, ◌+◌, ◌-◌, ◌++◌, [], length, Option, sym, refl, ap, ◌∙◌, arith, subst}
use Rattle.std.proofs.lemmas.List.{length-append}
use Rattle.std.proofs.lemmas.Result.{err_from_is_err_and}
use Rattle.cull_base.specs.Stream.{SourceSays, Takes}
use Rattle.cull_base.proofs.Takes.{takes_then}
use Rattle.scene_reader.specs.declared.error.SceneError.{SceneError}
use Rattle.scene_reader.specs.declared.header.Counts.{Counts}
use Rattle.scene_reader.specs.declared.header.Header.{Header}
use Rattle.scene_reader.specs.Layout.{Parts}
use Rattle.scene_reader.specs.Length.{header_length, scene_length}
use Rattle.scene_reader.specs.Fault.{version_at, word_at}
use Rattle.scene_reader.specs.Reading.{IsWithin, TakesHeader, TakesOf, TakesParts, batches_of, front_of, less}
use Rattle.scene_reader.proofs.Refusals.{refuses_body, refuses_trailing, refuses_tables, reads, parts_scene, batches_first, objects_first, whole_length, not_read, tables_refusal, err_is, refuses_same}
use Rattle.scene_reader.proofs.PartBytes.{done_front, ends_next, part_says, parts_next, takes_first, takes_next, takes_none, takes_of}
use Rattle.scene_reader.proofs.Takes.{within_less}
use Rattle.scene_reader.proofs.Headers.{at_first}
use Rattle.cull_base.proofs.Turns.{progress_none, progress_then}
use Rattle.scene_reader.proofs.Turns.{header_read, parts_read, most_turns, reads_then, reads_failed}
use Rattle.scene_reader.proofs.SceneFrom.{table_count}
use Rattle.scene_reader.proofs.reading.read_whole.Goals as goal

-- the header and the tables are as many bytes as were taken
all_taken : (h : Header) (length : ℕ) → length ≡ scene_length h.version h.counts → 0 + (header_length h.version + (scene_length h.version h.counts - header_length h.version)) ≡ length
all_taken h length is = omega (arith, is)

module _ (part : Option ℕ) {a b : SourceSays} {hd : Header} (t : TakesHeader a b hd) (w : IsWithin part (header_length hd.version)) where
  -- what was taken of the part
  header_part : Takes (front_of part a.left) (front_of (less part (header_length hd.version)) b.left) t.bytes
  header_part = takes_first part (header_length hd.version) a.left b.left t.bytes t.whole w t.takes

module _ (part : Option ℕ) {a b c : SourceSays} {hd : Header} {p : Parts} {batches objects : Option SceneError} (t : TakesHeader a b hd) (m : TakesParts hd b c p batches objects) (n : ℕ) (is : n ≡ scene_length hd.version hd.counts) (w : IsWithin part n) where
  both_long : length (t.bytes ++ (m.vertex_bytes ++ (m.occluder_bytes ++ (m.batch_bytes ++ (m.object_tri_bytes ++ (m.object_bytes ++ m.camera_bytes)))))) ≡ n
  both_long = whole_length t.whole t.takes t.says m ∙ sym is

  -- so many are behind the header
  rest_long : length (m.vertex_bytes ++ (m.occluder_bytes ++ (m.batch_bytes ++ (m.object_tri_bytes ++ (m.object_bytes ++ m.camera_bytes))))) ≡ n - header_length hd.version
  rest_long = omega (arith, both_long, t.whole, length-append t.bytes (m.vertex_bytes ++ (m.occluder_bytes ++ (m.batch_bytes ++ (m.object_tri_bytes ++ (m.object_bytes ++ m.camera_bytes))))))

  sum : header_length hd.version + (n - header_length hd.version) ≡ n
  sum = omega (arith, both_long, t.whole, length-append t.bytes (m.vertex_bytes ++ (m.occluder_bytes ++ (m.batch_bytes ++ (m.object_tri_bytes ++ (m.object_bytes ++ m.camera_bytes))))))

  parts_part : TakesParts hd (part_says (less part (header_length hd.version)) b) (part_says (less part n) c) p batches objects
  parts_part =
      subst (λ (k : ℕ). TakesParts hd (part_says (less part (header_length hd.version)) b) (part_says (less part k) c) p batches objects) sum
      (parts_next part (header_length hd.version) (n - header_length hd.version) m rest_long (within_less part n _ (omega (arith, sum)) w))

  all_part : TakesOf part a.left c.left n
  all_part = takes_of part a.left c.left _ n (takes_then a.left b.left c.left t.bytes _ t.takes m.takes) both_long w

pub returns-in_err-header-clause-refused : goal.returns-in_err-header-clause-refused
returns-in_err-header-clause-refused g c =
    let p = err_from_is_err_and c.from_residual.result c.from_residual.ensures.1 in
    rw (p.1, p.2) c.in_err-header.ensures.refused

pub returns-in_err-header-clause-reads : goal.returns-in_err-header-clause-reads
returns-in_err-header-clause-reads g c =
    let p = err_from_is_err_and c.from_residual.result c.from_residual.ensures.1 in
    rw (p.1, p.2) (reads_failed (progress_none _) (omega arith) (omega arith) c.in_err-header.ensures.reads)

pub read_parts-requires : goal.read_parts-requires
read_parts-requires g c =
    let says = c.in_ok-header.ensures.taken.says in
    let bytes = c.in_ok-header.ensures.taken.bytes in
    record {
      counts = c.in_ok-header.ensures.counts;
      none = λ one. ap (λ (n : Counts). n.batches) says.counts ∙ at_first (version_at bytes) 0 (word_at 32 bytes) (sym says.version ∙ one);
      known = c.in_ok-header.ensures.known;
      within = c.in_ok-header.ensures.within;
    }

pub returns-in_err-draft-clause-reads : goal.returns-in_err-draft-clause-reads
returns-in_err-draft-clause-reads g c =
    let p = err_from_is_err_and c.from_residual-in_err-draft.result c.from_residual-in_err-draft.ensures.1 in
    let h = c.in_ok-header.header in
    rw (p.1, p.2) (reads_failed (header_read c.in_ok-header.ensures.taken) (omega (arith, most_turns h.version h.counts c.in_ok-header.ensures.counts)) (omega arith) c.in_err-draft.ensures.fetches.reads)

pub returns-in_err-read_end-clause-reads : goal.returns-in_err-read_end-clause-reads
returns-in_err-read_end-clause-reads g c =
    let p = err_from_is_err_and c.from_residual-in_err-read_end.result c.from_residual-in_err-read_end.ensures.1 in
    let h = c.in_ok-header.header in
    rw (p.1, p.2) (reads_failed (progress_then (header_read c.in_ok-header.ensures.taken) (parts_read c.in_ok-draft.ensures.taken c.in_ok-draft.ensures.fetches)) (most_turns h.version h.counts c.in_ok-header.ensures.counts) (all_taken h c.in_ok-draft.draft.length c.in_ok-draft.ensures.length) c.in_err-read_end.ensures.reads)

pub returns-in-Some-clause-reads : goal.returns-in-Some-clause-reads
returns-in-Some-clause-reads g c =
    let h = c.in_ok-header.header in
    let hd = c.in_ok-header.ensures.taken in
    let t = c.in_ok-draft.ensures.taken in
    let p = c.in_ok-draft.draft.parts in
    let fault = sym (c.in-Some.ensures.value (batches_of h t.stored) t.raws (batches_first hd.whole hd.takes hd.says t) (objects_first hd.whole hd.takes hd.says t)) in
    reads_then (progress_then (header_read hd) (parts_read t c.in_ok-draft.ensures.fetches)) (most_turns h.version h.counts c.in_ok-header.ensures.counts) (all_taken h c.in_ok-draft.draft.length c.in_ok-draft.ensures.length)
    (λ read. absurd (not_read _ _ (tables_refusal p.version p.vertices p.occluders (batches_of h t.stored) p.object_tris t.raws p.cameras) fault (err_is _ _ read))) c.in_ok-read_end.ensures.reads

pub returns-in-None-clause-reads : goal.returns-in-None-clause-reads
returns-in-None-clause-reads g c =
    let h = c.in_ok-header.header in
    reads_then (progress_then (header_read c.in_ok-header.ensures.taken) (parts_read c.in_ok-draft.ensures.taken c.in_ok-draft.ensures.fetches)) (most_turns h.version h.counts c.in_ok-header.ensures.counts) (all_taken h c.in_ok-draft.draft.length c.in_ok-draft.ensures.length) (λ read. cc) c.in_ok-read_end.ensures.reads

pub read_end-requires : goal.read_end-requires
read_end-requires g c = within_less c.args.part _ c.in_ok-draft.draft.length (omega (arith, c.in_ok-draft.ensures.length, all_taken c.in_ok-header.header c.in_ok-draft.draft.length c.in_ok-draft.ensures.length)) c.in_ok-draft.ensures.fetches.within

pub returns-in_err-draft-clause-refused : goal.returns-in_err-draft-clause-refused
returns-in_err-draft-clause-refused g c =
    let p = err_from_is_err_and c.from_residual-in_err-draft.result c.from_residual-in_err-draft.ensures.1 in
    let hd = c.in_ok-header.ensures.taken in
    let v = header_length c.in_ok-header.header.version in
    let part = c.args.part in
    rw (p.1, p.2) (λ refusal.
    let s = c.in_err-draft.ensures.fetches.short refusal in
    record {
      count = v + length s.bytes;
      taken = takes_of part _ _ (hd.bytes ++ s.bytes) (v + length s.bytes) (takes_then _ _ _ hd.bytes s.bytes hd.takes s.takes) (omega (arith, length-append hd.bytes s.bytes, hd.whole)) s.within;
      refuses = refuses_body hd.whole (header_part part hd c.in_ok-header.ensures.within) hd.says _ _ (ends_next part _ _ _ _ _ _ s);
    })

pub returns-in_err-read_end-clause-refused : goal.returns-in_err-read_end-clause-refused
returns-in_err-read_end-clause-refused g c =
    let p = err_from_is_err_and c.from_residual-in_err-read_end.result c.from_residual-in_err-read_end.ensures.1 in
    let hd = c.in_ok-header.ensures.taken in
    let t = c.in_ok-draft.ensures.taken in
    let n = c.in_ok-draft.draft.length in
    let is = c.in_ok-draft.ensures.length in
    let part = c.args.part in
    rw (p.1, p.2) (λ refusal.
    let x = c.in_err-read_end.ensures.trailing refusal in
    let w = within_less part (n + length x.bytes) n (omega arith) x.within in
    let m = parts_part part hd t n is w in
    let all = all_part part hd t n is w in
    record {
      count = n + length x.bytes;
      taken = takes_of part _ _ (all.bytes ++ x.bytes) (n + length x.bytes) (takes_then _ _ _ all.bytes x.bytes all.takes x.takes) (omega (arith, length-append all.bytes x.bytes, all.whole)) x.within;
      refuses = refuses_same _ _ _ _ x.trailing
          (refuses_trailing hd.whole (header_part part hd c.in_ok-header.ensures.within) hd.says _ _ _ x.bytes (whole_length hd.whole (header_part part hd c.in_ok-header.ensures.within) hd.says m) m.takes
          (takes_next part n (length x.bytes) _ _ x.bytes refl x.within x.takes) x.some);
    })

pub tables_fault-requires : goal.tables_fault-requires
tables_fault-requires g c =
    let t = c.in_ok-draft.ensures.taken in
    let n = c.in_ok-header.ensures.counts in
    record {
      vertices = omega (arith, table_count _ _ _ _ _ t.vertices, n.few_vertices);
      occluders = omega (arith, table_count _ _ _ _ _ t.occluders, n.few_occluders);
      object_tris = omega (arith, table_count _ _ _ _ _ t.object_tris, n.few_object_tris);
      cameras = omega (arith, table_count _ _ _ _ _ t.cameras, n.few_frames);
    }

pub from_valid-requires : goal.from_valid-requires
from_valid-requires g c =
    let hd = c.in_ok-header.ensures.taken in
    let t = c.in_ok-draft.ensures.taken in
    let valid = c.in-None.ensures.valid refl in
    parts_scene hd.whole hd.takes hd.says t valid.0 valid.1 valid.2

pub returns-in-Some-clause-refused : goal.returns-in-Some-clause-refused
returns-in-Some-clause-refused g c =
    let hd = c.in_ok-header.ensures.taken in
    let t = c.in_ok-draft.ensures.taken in
    let n = c.in_ok-draft.draft.length in
    let is = c.in_ok-draft.ensures.length in
    let part = c.args.part in
    let w = within_less part _ n (omega (arith, is, all_taken c.in_ok-header.header n is)) c.in_ok-draft.ensures.fetches.within in
    let th = header_part part hd c.in_ok-header.ensures.within in
    let m = parts_part part hd t n is w in
    let all = all_part part hd t n is w in
    let ended = c.in_ok-read_end.ensures.ended in
    let batches = batches_first hd.whole th hd.says m in
    let objects = objects_first hd.whole th hd.says m in
    λ refusal. record {
      count = n;
      taken = takes_of part _ _ (all.bytes ++ []) n (takes_then _ _ _ all.bytes [] all.takes ended.0) (omega (arith, length-append all.bytes [], all.whole)) w;
      refuses = refuses_tables hd.whole th hd.says m _ c.in-Some.fault (takes_none (less part n) _ _ ended.0) (done_front part n _ ended.1)
          (sym (c.in-Some.ensures.value (batches_of c.in_ok-header.header m.stored) m.raws batches objects));
    }

pub returns-in-None-clause-ok : goal.returns-in-None-clause-ok
returns-in-None-clause-ok g c =
    let hd = c.in_ok-header.ensures.taken in
    let t = c.in_ok-draft.ensures.taken in
    let n = c.in_ok-draft.draft.length in
    let is = c.in_ok-draft.ensures.length in
    let part = c.args.part in
    let w = within_less part _ n (omega (arith, is, all_taken c.in_ok-header.header n is)) c.in_ok-draft.ensures.fetches.within in
    let th = header_part part hd c.in_ok-header.ensures.within in
    let m = parts_part part hd t n is w in
    let all = all_part part hd t n is w in
    let ended = c.in_ok-read_end.ensures.ended in
    let batches = batches_first hd.whole th hd.says m in
    let objects = objects_first hd.whole th hd.says m in
    let valid = c.in-None.ensures.valid refl in
    rw c.from_valid.ensures (record {
      count = n;
      taken = takes_of part _ _ (all.bytes ++ []) n (takes_then _ _ _ all.bytes [] all.takes ended.0) (omega (arith, length-append all.bytes [], all.whole)) w;
      reads = reads hd.whole th hd.says m _ (takes_none (less part n) _ _ ended.0) (done_front part n _ ended.1) valid.0 valid.1 valid.2
          (sym (c.in-None.ensures.value (batches_of c.in_ok-header.header m.stored) m.raws batches objects));
    })
