use Rattle.std.proofs.Common.{◌≡◌, ℕ, ◌++◌, List, ◌+◌, arith, length, refl, sym, subst, ◌∙◌, Result, Ok, Err, Some}
use Rattle.std.specs.Prelude.{MatchResult, IfOk, IfErr, IsErrOf}
use Rattle.std.proofs.lemmas.List.{length-append}
use Rattle.std.proofs.lemmas.Result.{err_from_is_err_and}
use Rattle.scene_reader.specs.declared.error.SceneError.{SceneError}
use Rattle.scene_reader.specs.declared.error.SceneError.TheVariants.{Read}
use Rattle.scene_reader.specs.declared.header.Header.{Header}
use Rattle.scene_reader.specs.Fault.{fields_fault}
use Rattle.scene_reader.specs.Header.{AreFieldsOf}
use Rattle.scene_reader.specs.Length.{header_length}
use Rattle.scene_reader.specs.Reading.{IsWithin}
use Rattle.cull_base.proofs.Takes.{takes_then}
use Rattle.scene_reader.proofs.Headers.{start_refusal, fields_refusal}
use Rattle.cull_base.proofs.Turns.{progress_none}
use Rattle.scene_reader.proofs.Turns.{progress_of, reads_then, reads_failed}
use Rattle.scene_reader.proofs.PartBytes.{ends_first, ends_next, takes_first, takes_of}
use Rattle.scene_reader.proofs.Refusals.{refuses_short, refuses_start, refuses_rest, refuses_header, header_whole, header_says, not_read, err_is}
use Rattle.scene_reader.proofs.Takes.{within_less}
use Rattle.scene_reader.proofs.reading.read_header.Goals as goal

if_header : {P : Header → Type 0} (bytes : List ℕ) (n : ℕ) (r : Result Header SceneError) → MatchResult r (λ h. AreFieldsOf bytes n h) (λ e. fields_fault bytes n ≡ Some e) → ((h : Header) → AreFieldsOf bytes n h → P h) → IfOk r P
if_header bytes n (Ok h) m gives = gives h m
if_header bytes n (Err e) m gives = tt

if_fault : {P : SceneError → Type 0} (bytes : List ℕ) (n : ℕ) (r : Result Header SceneError) → MatchResult r (λ h. AreFieldsOf bytes n h) (λ e. fields_fault bytes n ≡ Some e) → ((e : SceneError) → fields_fault bytes n ≡ Some e → P e) → IfErr r P
if_fault bytes n (Ok h) m gives = tt
if_fault bytes n (Err e) m gives = gives e m

never_read : (bytes : List ℕ) (n : ℕ) (r : Result Header SceneError) → MatchResult r (λ h. AreFieldsOf bytes n h) (λ e. fields_fault bytes n ≡ Some e) → IsErrOf r Read → ⊥
never_read bytes n (Ok h) m read = cc
never_read bytes n (Err e) m read = not_read (fields_fault bytes n) e (fields_refusal bytes n) m (err_is e Read read)

pub returns-in_err-fetch-clause-refused : goal.returns-in_err-fetch-clause-refused
returns-in_err-fetch-clause-refused g c =
    let p = err_from_is_err_and c.from_residual.result c.from_residual.ensures.1 in
    rw (p.1, p.2) (λ refusal.
    let s = c.in_err-fetch.ensures.fetches.short refusal in
    record {
      count = 0 + length s.bytes;
      taken = takes_of c.args.part _ _ s.bytes (0 + length s.bytes) s.takes (omega arith) s.within;
      refuses = refuses_short _ _ _ _ refl (ends_first c.args.part _ _ _ _ _ s);
    })

pub returns-in_err-fetch-clause-reads : goal.returns-in_err-fetch-clause-reads
returns-in_err-fetch-clause-reads g c =
    let p = err_from_is_err_and c.from_residual.result c.from_residual.ensures.1 in
    rw (p.1, p.2) (reads_failed (progress_none _) (omega arith) (omega arith) c.in_err-fetch.ensures.fetches.reads)

pub returns-in_err-version-clause-refused : goal.returns-in_err-version-clause-refused
returns-in_err-version-clause-refused g c =
    let p = err_from_is_err_and c.from_residual-in_err-version.result c.from_residual-in_err-version.ensures.1 in
    let part = c.args.part in
    let front = c.fetch.new.buffer in
    let t = c.in_ok-fetch.ensures.taken in
    let w = within_less part (0 + 32) 32 (omega arith) c.in_ok-fetch.ensures.fetches.within in
    rw (p.1, p.2) (λ refusal. record {
      count = 32;
      taken = takes_of part _ _ front 32 t c.fetch.auto.buffer w;
      refuses = refuses_start _ _ front _ c.fetch.auto.buffer (takes_first part 32 _ _ front c.fetch.auto.buffer w t) c.in_err-version.ensures.value;
    })

pub returns-in_err-version-clause-reads : goal.returns-in_err-version-clause-reads
returns-in_err-version-clause-reads g c =
    let p = err_from_is_err_and c.from_residual-in_err-version.result c.from_residual-in_err-version.ensures.1 in
    rw (p.1, p.2) (reads_then (progress_none _) (omega arith) (omega arith) (λ read. absurd (not_read _ _ (start_refusal c.fetch.new.buffer) c.in_err-version.ensures.value (err_is _ _ read))) c.in_ok-fetch.ensures.fetches.reads)

pub returns-in_err-batches-clause-refused : goal.returns-in_err-batches-clause-refused
returns-in_err-batches-clause-refused g c =
    let p = err_from_is_err_and c.from_residual-in_err-batches.result c.from_residual-in_err-batches.ensures.1 in
    let version = c.in_ok-version.ensures in
    let part = c.args.part in
    let front = c.fetch.new.buffer in
    let t = c.in_ok-fetch.ensures.taken in
    let w = within_less part (0 + 32) 32 (omega arith) c.in_ok-fetch.ensures.fetches.within in
    rw (p.1, p.2) (λ refusal.
    let s = rw version.value at (c.in_err-batches.ensures.short refusal) in
    record {
      count = 32 + length s.bytes;
      taken = takes_of part _ _ (front ++ s.bytes) (32 + length s.bytes) (takes_then _ _ _ front s.bytes t s.takes) (omega (arith, length-append front s.bytes, c.fetch.auto.buffer)) s.within;
      refuses = refuses_rest _ _ _ front _ c.fetch.auto.buffer version.start (λ one. c.in_err-batches.ensures.second (version.value ∙ one))
          (takes_first part 32 _ _ front c.fetch.auto.buffer w t) (ends_next part _ _ 4 _ 32 _ s);
    })

pub returns-in_err-batches-clause-reads : goal.returns-in_err-batches-clause-reads
returns-in_err-batches-clause-reads g c =
    let p = err_from_is_err_and c.from_residual-in_err-batches.result c.from_residual-in_err-batches.ensures.1 in
    let f = c.in_ok-fetch.ensures in
    rw (p.1, p.2) (reads_failed (progress_of c.fetch.new.buffer c.fetch.auto.buffer f.taken f.fetches.reads) (omega arith) (omega arith) c.in_err-batches.ensures.reads)

pub header_of-requires : goal.header_of-requires
header_of-requires g c =
    let version = c.in_ok-version.ensures in
    record { version = version.value; some = version.valid.0; known = version.valid.1 }

pub returns-clause-taken : goal.returns-clause-taken
returns-clause-taken g c =
    let front = c.fetch.new.buffer in
    let f = c.in_ok-fetch.ensures in
    let version = c.in_ok-version.ensures in
    let t = c.in_ok-batches.ensures.taken in
    let n = c.in_ok-batches.batches in
    if_header front n c.header_of.result c.header_of.ensures.value (λ h fields.
    let whole = header_whole front t.bytes c.in_ok-version.version n c.fetch.auto.buffer version.value t.whole t.says h fields in
    record {
      bytes = front ++ t.bytes;
      takes = takes_then _ _ _ front t.bytes f.taken t.takes;
      whole = whole;
      says = header_says front t.bytes c.in_ok-version.version n c.fetch.auto.buffer version.value t.whole t.says h version.start fields;
      faults_stay = omega (arith, f.fetches.reads.faults_stay, t.faults_stay);
      turns = omega (arith, f.fetches.reads.turns, t.turns, whole, length-append front t.bytes, c.fetch.auto.buffer);
    })

pub returns-clause-within : goal.returns-clause-within
returns-clause-within g c =
    let version = c.in_ok-version.ensures in
    if_header c.fetch.new.buffer c.in_ok-batches.batches c.header_of.result c.header_of.ensures.value
    (λ h fields. subst (λ (v : ℕ). IsWithin c.args.part (header_length v)) (sym (fields.version ∙ sym version.value)) c.in_ok-batches.ensures.within)

pub returns-clause-known : goal.returns-clause-known
returns-clause-known g c =
    let version = c.in_ok-version.ensures in
    if_header c.fetch.new.buffer c.in_ok-batches.batches c.header_of.result c.header_of.ensures.value
    (λ h fields. (omega (arith, fields.version, version.value, version.valid.0), omega (arith, fields.version, version.value, version.valid.1)))

pub returns-clause-refused : goal.returns-clause-refused
returns-clause-refused g c =
    let front = c.fetch.new.buffer in
    let version = c.in_ok-version.ensures in
    let t = c.in_ok-batches.ensures.taken in
    let n = c.in_ok-batches.batches in
    let part = c.args.part in
    let both = front ++ t.bytes in
    let count = 32 + length t.bytes in
    let taken = takes_then _ _ _ front t.bytes c.in_ok-fetch.ensures.taken t.takes in
    let len : length both ≡ count = omega (arith, length-append front t.bytes, c.fetch.auto.buffer) in
    let w = within_less part _ count (omega (arith, t.whole)) c.in_ok-batches.ensures.within in
    if_fault front n c.header_of.result c.header_of.ensures.value (λ e fault refusal. record {
      count = count;
      taken = takes_of part _ _ both count taken len w;
      refuses = refuses_header front t.bytes c.in_ok-version.version n c.fetch.auto.buffer version.value t.whole t.says _ _ e version.start (takes_first part count _ _ both len w taken) fault;
    })

pub returns-clause-reads : goal.returns-clause-reads
returns-clause-reads g c =
    let f = c.in_ok-fetch.ensures in
    reads_then (progress_of c.fetch.new.buffer c.fetch.auto.buffer f.taken f.fetches.reads) (omega arith) (omega arith)
    (λ read. absurd (never_read c.fetch.new.buffer c.in_ok-batches.batches c.header_of.result c.header_of.ensures.value read)) c.in_ok-batches.ensures.reads
