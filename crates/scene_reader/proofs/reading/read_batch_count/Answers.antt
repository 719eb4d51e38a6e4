use Rattle.std.proofs.Common.{◌+◌, arith, sym, ap, ◌∙◌, [], w32}
use Rattle.std.specs.Int.{from_le_bytes}
use Rattle.std.proofs.lemmas.List.{take_all}
use Rattle.std.proofs.lemmas.Result.{err_from_is_err_and}
use Rattle.cull_base.proofs.Takes.{takes_nothing}
use Rattle.cull_base.proofs.Turns.{progress_none}
use Rattle.scene_reader.specs.Fault.{word_at}
use Rattle.scene_reader.proofs.Headers.{at_first, at_second, length_first, length_second}
use Rattle.scene_reader.proofs.Takes.{within_less}
use Rattle.scene_reader.proofs.Turns.{progress_of, reads_failed, reads_whole}
use Rattle.scene_reader.proofs.reading.read_batch_count.Goals as goal

pub returns-then-version-eq1-clause-taken : goal.returns-then-version-eq1-clause-taken
returns-then-version-eq1-clause-taken g c =
    let one = c.if-version-eq1.true in
    record {
      bytes = [];
      takes = takes_nothing _;
      whole = omega (arith, length_first c.args.version one);
      says = sym (at_first c.args.version 0 (word_at 0 []) one);
      faults_stay = omega arith;
      turns = omega arith;
    }

pub returns-then-version-eq1-clause-within : goal.returns-then-version-eq1-clause-within
returns-then-version-eq1-clause-within g c = within_less c.args.part 32 _ (omega (arith, length_first c.args.version c.if-version-eq1.true)) c.requires

pub returns-then-version-eq1-clause-reads : goal.returns-then-version-eq1-clause-reads
returns-then-version-eq1-clause-reads g c = reads_whole (progress_none _) (omega arith) (λ is. cc) (within_less c.args.part 32 (32 + 0) (omega arith) c.requires)

pub returns-in_err-fetch-clause-short : goal.returns-in_err-fetch-clause-short
returns-in_err-fetch-clause-short g c =
    let p = err_from_is_err_and c.from_residual.result c.from_residual.ensures.1 in
    rw (p.1, p.2) (rw c.header_length.ensures.value at c.in_err-fetch.ensures.fetches.short)

pub returns-in_err-fetch-clause-reads : goal.returns-in_err-fetch-clause-reads
returns-in_err-fetch-clause-reads g c =
    let p = err_from_is_err_and c.from_residual.result c.from_residual.ensures.1 in
    rw (p.1, p.2) (reads_failed (progress_none _) (omega arith) (omega arith) c.in_err-fetch.ensures.fetches.reads)

pub returns-in_err-fetch-clause-second : goal.returns-in_err-fetch-clause-second
returns-in_err-fetch-clause-second g c = let p = err_from_is_err_and c.from_residual.result c.from_residual.ensures.1 in rw p.1 c.if-version-eq1.false

pub returns-clause-taken : goal.returns-clause-taken
returns-clause-taken g c =
    let bytes = c.fetch.new.buffer in
    let other = c.if-version-eq1.false in
    let f = c.in_ok-fetch.ensures in
    record {
      bytes = bytes;
      takes = f.taken;
      whole = omega (arith, c.fetch.auto.buffer, length_second c.args.version other);
      says = c.from_le_bytes.ensures ∙ ap (from_le_bytes w32) (sym (take_all 4 bytes (omega (arith, c.fetch.auto.buffer)))) ∙ sym (at_second c.args.version 0 (word_at 0 bytes) other);
      faults_stay = f.fetches.reads.faults_stay;
      turns = omega (arith, f.fetches.reads.turns, c.fetch.auto.buffer);
    }

pub returns-clause-within : goal.returns-clause-within
returns-clause-within g c = within_less c.args.part (32 + 4) _ (omega (arith, length_second c.args.version c.if-version-eq1.false)) c.in_ok-fetch.ensures.fetches.within

pub returns-clause-reads : goal.returns-clause-reads
returns-clause-reads g c =
    let f = c.in_ok-fetch.ensures in
    reads_whole (progress_of c.fetch.new.buffer c.fetch.auto.buffer f.taken f.fetches.reads) (omega arith) (λ is. cc) f.fetches.within
