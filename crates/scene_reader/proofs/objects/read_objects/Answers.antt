use Rattle.std.proofs.Common.{◌≡◌, ◌+◌, ◌*◌, refl, arith, length}
use Rattle.std.proofs.lemmas.Result.{err_from_is_err_and}
use Rattle.scene_reader.proofs.ObjectTable.{objects_none, objects_more}
use Rattle.cull_base.proofs.Turns.{progress_none, progress_then}
use Rattle.scene_reader.proofs.Takes.{within_less}
use Rattle.scene_reader.proofs.Turns.{progress_of, progress_table, fetches_failed, fetches_memory, fetches_whole}
use Rattle.scene_reader.proofs.objects.read_objects.Goals as goal

pub returns-in_err-with_capacity-clause-fetches : goal.returns-in_err-with_capacity-clause-fetches
returns-in_err-with_capacity-clause-fetches g c =
    let p = err_from_is_err_and c.from_residual.result c.from_residual.ensures.1 in
    rw (p.1, p.2) (fetches_memory (progress_none _) (omega arith) (within_less c.args.part c.args.taken _ (omega arith) c.requires.within))

pub loop-i-init : goal.loop-i-init
loop-i-init g c = record {
  buffer = refl;
  within = within_less c.args.part c.args.taken _ (omega arith) c.requires.within;
  taken = objects_none c.args.object_tris _ _ c.in_ok-with_capacity.ensures.items refl;
  faults = omega arith;
  turns = omega arith;
}

pub returns-in_err-fetch-clause-fetches : goal.returns-in_err-fetch-clause-fetches
returns-in_err-fetch-clause-fetches g c =
    let p = err_from_is_err_and c.from_residual-in_err-fetch.result c.from_residual-in_err-fetch.ensures.1 in
    let i = c.loop-i.invariant in
    rw (p.1, p.2) (fetches_failed (progress_table i.taken.table i.faults i.turns) (omega arith) refl c.in_err-fetch.ensures.fetches)

pub returns-in_err-keep-clause-fetches : goal.returns-in_err-keep-clause-fetches
returns-in_err-keep-clause-fetches g c =
    let p = err_from_is_err_and c.from_residual-in_err-keep.result c.from_residual-in_err-keep.ensures.1 in
    let i = c.loop-i.invariant in
    let one : length c.fetch.new.buffer ≡ length c.loop-i.entry = omega arith in
    rw (p.1, p.2) (fetches_memory (progress_then (progress_table i.taken.table i.faults i.turns) (progress_of c.fetch.new.buffer one c.in_ok-fetch.ensures.taken c.in_ok-fetch.ensures.fetches.reads)) (omega arith) (within_less c.args.part _ (c.args.taken + (25 * c.loop-i.i + length c.loop-i.entry)) (omega arith) c.in_ok-fetch.ensures.fetches.within))

pub loop-i-preserved : goal.loop-i-preserved
loop-i-preserved g c =
    let i = c.loop-i.invariant in
    let one : length c.fetch.new.buffer ≡ 25 = omega (arith, c.fetch.auto.buffer, i.buffer) in
    let reads = c.in_ok-fetch.ensures.fetches.reads in
    record {
      buffer = one;
      within = within_less c.args.part _ (c.args.taken + 25 * (c.loop-i.i + 1)) (omega (arith, i.buffer)) c.in_ok-fetch.ensures.fetches.within;
      taken = objects_more c.args.object_tris c.loop-i.i _ _ _ c.loop-i.objects _ c.fetch.new.buffer one i.taken c.in_ok-fetch.ensures.taken c.in_ok-keep.ensures;
      faults = omega (arith, i.faults, reads.faults_stay);
      turns = omega (arith, i.turns, reads.turns);
    }

pub returns-clause-fetches : goal.returns-clause-fetches
returns-clause-fetches g c = let i = c.loop-i.invariant in fetches_whole (progress_table i.taken.table i.faults i.turns) (omega arith) (within_less c.args.part _ (c.args.taken + 25 * c.args.count) (omega arith) i.within)
