use Rattle.std.proofs.Common.{◌≡◌, ℕ, ◌+◌, ◌*◌, ◌≤◌, List, length, take, arith, refl, ap}
use Rattle.std.proofs.Math.Nat.{mul-le-mul_left}
use Rattle.std.proofs.lemmas.List.{length-take}
use Rattle.std.proofs.lemmas.Result.{err_from_is_err_and}
use Rattle.scene_reader.proofs.Entries.{table_none, table_more}
use Rattle.scene_reader.proofs.Takes.{within_less}
use Rattle.cull_base.proofs.Turns.{progress_none, progress_then}
use Rattle.scene_reader.proofs.Turns.{progress_of, progress_table, fetches_failed, fetches_memory, fetches_whole}
use Rattle.scene_reader.proofs.tables.read_table.Goals as goal

front_length : (n : ℕ) (bytes : List ℕ) → length bytes ≡ 48 → n ≤ 48 → length (take n bytes) ≡ n
front_length n bytes long fits = omega (arith, length-take n bytes, long, fits)

next_entry : (size i : ℕ) → size * (i + 1) ≡ size * i + size
next_entry size i = omega arith

-- an entry more fits a table that isn't full
one_more : (size i count : ℕ) → i + 1 ≤ count → size * i + size ≤ size * count
one_more size i count up = omega (arith, mul-le-mul_left size up)

pub loop-i-init : goal.loop-i-init
loop-i-init g c = record {
  within = within_less c.args.part c.args.taken _ (omega arith) c.requires.within;
  buffer = rw c.SIZE.ensures (front_length g.E.Entry.SIZE _ refl g.met.E.Entry.fits);
  taken = table_none g.E.Entry.SIZE g.E.Entry.value _ c.in_ok-items.items.items c.in_ok-items.ensures.items;
  faults = omega arith;
  turns = omega arith;
}

pub returns-in_err-items-clause-fetches : goal.returns-in_err-items-clause-fetches
returns-in_err-items-clause-fetches g c =
    let p = err_from_is_err_and c.from_residual.result c.from_residual.ensures.1 in
    rw (p.1, p.2) (fetches_memory (progress_none _) (omega arith) (within_less c.args.part c.args.taken _ (omega arith) c.requires.within))

pub returns-in_err-fetch-clause-fetches : goal.returns-in_err-fetch-clause-fetches
returns-in_err-fetch-clause-fetches g c =
    let p = err_from_is_err_and c.from_residual-in_err-fetch.result c.from_residual-in_err-fetch.ensures.1 in
    let i = c.loop-i.invariant in
    rw (p.1, p.2) (fetches_failed (progress_table i.taken i.faults i.turns) (rw i.buffer (one_more g.E.Entry.SIZE c.loop-i.i c.args.count (omega arith))) (rw c.SIZE-in-loop-i.ensures refl) c.in_err-fetch.ensures.fetches)

pub returns-in_err-push-clause-fetches : goal.returns-in_err-push-clause-fetches
returns-in_err-push-clause-fetches g c =
    let p = err_from_is_err_and c.from_residual-in_err-push.result c.from_residual-in_err-push.ensures.1 in
    let i = c.loop-i.invariant in
    let one : length c.fetch.new.buffer ≡ length c.loop-i.entry = omega arith in
    let fetched = progress_of c.fetch.new.buffer one c.in_ok-fetch.ensures.taken c.in_ok-fetch.ensures.fetches.reads in
    let w = within_less c.args.part _ (c.args.taken + (g.E.Entry.SIZE * c.loop-i.i + length c.loop-i.entry)) (omega (arith, ap (λ (s : ℕ). s * c.loop-i.i) c.SIZE-in-loop-i.ensures)) c.in_ok-fetch.ensures.fetches.within in
    rw (p.1, p.2) (fetches_memory (progress_then (progress_table i.taken i.faults i.turns) fetched) (rw i.buffer (one_more g.E.Entry.SIZE c.loop-i.i c.args.count (omega arith))) w)

pub loop-i-preserved : goal.loop-i-preserved
loop-i-preserved g c =
    let i = c.loop-i.invariant in
    let one : length c.fetch.new.buffer ≡ g.E.Entry.SIZE = omega (arith, c.fetch.auto.buffer, i.buffer) in
    let reads = c.in_ok-fetch.ensures.fetches.reads in
    record {
      buffer = one;
      within = within_less c.args.part _ (c.args.taken + g.E.Entry.SIZE * (c.loop-i.i + 1)) (omega (arith, i.buffer, next_entry g.E.Entry.SIZE c.loop-i.i, ap (λ (s : ℕ). s * c.loop-i.i) c.SIZE-in-loop-i.ensures)) c.in_ok-fetch.ensures.fetches.within;
      taken = rw c.in_ok-push.ensures.items (table_more g.E.Entry.SIZE c.loop-i.i g.E.Entry.value _ _ _ c.loop-i.items.items c.fetch.new.buffer c.read.result one c.read.ensures i.taken c.in_ok-fetch.ensures.taken);
      faults = omega (arith, i.faults, reads.faults_stay);
      turns = omega (arith, i.turns, reads.turns, i.buffer);
    }

pub returns-clause-fetches : goal.returns-clause-fetches
returns-clause-fetches g c =
    let i = c.loop-i.invariant in
    let size = g.E.Entry.SIZE in
    let up : c.loop-i.i ≤ c.args.count = omega arith in
    let down : c.args.count ≤ c.loop-i.i = omega arith in
    fetches_whole (progress_table i.taken i.faults i.turns) (mul-le-mul_left size up)
    (within_less c.args.part _ (c.args.taken + size * c.args.count) (omega (arith, mul-le-mul_left size down)) i.within)
