use Rattle.std.proofs.Common.{refl, arith}
use Rattle.std.proofs.lemmas.Result.{err_from_is_err_and}
use Rattle.scene_reader.proofs.BatchTable.{first_taken, second_taken}
use Rattle.cull_base.proofs.Turns.{progress_none}
use Rattle.scene_reader.proofs.Takes.{within_less}
use Rattle.scene_reader.proofs.Turns.{progress_table, fetches_failed, fetches_memory, fetches_whole}
use Rattle.scene_reader.proofs.batches.read_batches.Goals as goal

-- room for the one batch was refused
pub returns-in_err-one_batch-clause-fetches : goal.returns-in_err-one_batch-clause-fetches
returns-in_err-one_batch-clause-fetches g c =
    let p = err_from_is_err_and c.from_residual.result c.from_residual.ensures.1 in
    rw (p.1, p.2) (fetches_memory (progress_none _) (omega arith) (within_less c.args.part c.args.taken _ (omega arith) c.requires.within))

pub returns-then-header-eq1-clause-taken : goal.returns-then-header-eq1-clause-taken
returns-then-header-eq1-clause-taken g c =
    let one = c.if-header-eq1.true in
    first_taken c.args.header.now _ _ one (c.requires.none one) c.in_ok-one_batch.ensures refl

pub returns-then-header-eq1-clause-fetches : goal.returns-then-header-eq1-clause-fetches
returns-then-header-eq1-clause-fetches g c =
    let none = c.requires.none c.if-header-eq1.true in
    fetches_whole (progress_none _) (omega arith) (within_less c.args.part c.args.taken _ (omega (arith, none)) c.requires.within)

pub returns-in_err-batches-clause-fetches : goal.returns-in_err-batches-clause-fetches
returns-in_err-batches-clause-fetches g c =
    let p = err_from_is_err_and c.from_residual-in_err-batches.result c.from_residual-in_err-batches.ensures.1 in
    rw (p.1, p.2) (fetches_failed (progress_none _) (omega arith) (omega arith) c.in_err-batches.ensures.fetches)

pub returns-clause-taken : goal.returns-clause-taken
returns-clause-taken g c = second_taken c.args.header.now _ _ c.in_ok-batches.batches _ c.if-header-eq1.false c.in_ok-batches.ensures.taken c.whole_fault-batches.ensures refl

pub returns-clause-fetches : goal.returns-clause-fetches
returns-clause-fetches g c =
    let f = c.in_ok-batches.ensures.fetches in
    fetches_whole (progress_table c.in_ok-batches.ensures.taken.table f.reads.faults_stay f.reads.turns) (omega arith) f.within
