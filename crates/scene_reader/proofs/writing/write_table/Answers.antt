use Rattle.std.proofs.Common.{◌≡◌, ℕ, ◌+◌, ◌-◌, ◌*◌, ◌≤◌, min, length, take, arith, sym, subst, Ok}
use Rattle.std.specs.List.{flat_map}
use Rattle.std.proofs.lemmas.Result.{err_from_is_err_and}
use Rattle.cull_base.specs.Stream.{Writes}
use Rattle.scene_reader.proofs.Appending.{goes_on, stops_at}
use Rattle.scene_reader.proofs.writing.write_table.Goals as goal

pub loop-part-preserved : goal.loop-part-preserved
loop-part-preserved g c =
    let entries = c.args.entries.now in
    let first = 256 * c.loop-part.part in
    let count = (first + c.min.result) - first in
    let le : first ≤ length entries = omega (arith, c.loop-part-test.true, c.div_ceil-part-end.ensures) in
    let is : count ≡ min 256 (length entries - first) = omega (arith, c.min.ensures) in
    let next : 256 * (c.loop-part.part + 1) ≡ first + 256 = omega arith in
    let s0 = g.W.Sink.says c.args.sink.now in
    let s2 = g.W.Sink.says c.write_to.new.sink in
    subst (λ (n : ℕ). Writes s0 s2 (Ok tt) (flat_map g.E.Written.bytes (take n entries))) (sym next)
    (goes_on g.E.Written.bytes entries first count 256 le is {s2 = s2} c.loop-part.invariant (rw c.piece_of.ensures at c.in_ok-write_to.ensures))

pub returns-in_err-write_to : goal.returns-in_err-write_to
returns-in_err-write_to g c =
    let entries = c.args.entries.now in
    let first = 256 * c.loop-part.part in
    let count = (first + c.min.result) - first in
    let p = err_from_is_err_and c.from_residual.result c.from_residual.ensures.1 in
    let le : first ≤ length entries = omega (arith, c.loop-part-test.true, c.div_ceil-part-end.ensures) in
    let is : count ≡ min 256 (length entries - first) = omega (arith, c.min.ensures) in
    rw (p.1, p.2) (stops_at g.E.Written.bytes entries first count 256 le is {s2 = g.W.Sink.says c.write_to.new.sink} c.loop-part.invariant (rw c.piece_of.ensures at c.in_err-write_to.ensures))
