use Rattle.std.proofs.Common.{◌≡◌, arith, refl, false}
use Rattle.std.specs.Prelude.{nat_lt}
use Rattle.std.proofs.lemmas.Bool.{le-ltb}
use Rattle.scene_reader.specs.Fault.{count_fault}
use Rattle.scene_reader.proofs.Headers.{option_or_assoc}
use Rattle.scene_reader.proofs.header.count_fault.Goals as goal

pub returns-then-counts-eq0-clause-value : goal.returns-then-counts-eq0-clause-value
unfolding count_fault
returns-then-counts-eq0-clause-value c = rw c.if-counts-eq0.true refl

pub returns-clause-value : goal.returns-clause-value
unfolding count_fault
returns-clause-value c =
    let n = c.args.counts.now in
    let some : nat_lt n.frames 1 ≡ false = le-ltb n.frames 1 (omega arith) in
    simp (c.or-5.ensures, c.or-4.ensures, c.or-3.ensures, c.or-2.ensures, c.or.ensures, c.limit_fault.ensures, c.limit_fault-2.ensures, c.limit_fault-3.ensures, c.limit_fault-4.ensures, c.limit_fault-5.ensures, c.limit_fault-6.ensures, some, option_or_assoc)
