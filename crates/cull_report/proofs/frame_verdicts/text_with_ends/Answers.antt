use Rattle.std.proofs.Common.{◌≡◌, ℕ, ◌+◌, ◌*◌, ◌-◌, ◌≤◌, ◌++◌, min, List, length, take, drop, arith, rules, ap, sym, ◌∙◌}
use Rattle.std.proofs.lemmas.List.{length-append, length-take, take_all}
use Rattle.std.proofs.lemmas.Nat.{mul-le}
use Rattle.cull_report.specs.Runs.{run_of}
use Rattle.cull_report.specs.Text.{verdict_lines}
use Rattle.cull_report.proofs.MadeRuns.{lines_more, next_run, whole_run}
use Rattle.cull_report.proofs.frame_verdicts.text_with_ends.Goals as goal

pub loop-number-preserved : goal.loop-number-preserved
loop-number-preserved c =
    let verdicts = c.args.verdicts.now in
    let size = c.args.size in
    let k = c.loop-number.number in
    let i = c.loop-number.invariant in
    let first = size * k in
    let count = (first + c.min.result) - first in
    let old = c.loop-number.text in
    let text = c.extend_from_slice.new.self in
    let is : count ≡ min size (length verdicts - first) = omega (arith, c.min.ensures) in
    let lines : c.lines_from-lines.result ≡ verdict_lines first (run_of verdicts size k) =
    c.lines_from-lines.ensures.value ∙ ap (verdict_lines first) (whole_run verdicts first size count is) in
    let longer : text.items ≡ old.items ++ c.as_slice.result.now = search rules in
    let few : length c.as_slice.result.now ≤ 30 * size =
    omega (arith, ap length c.as_slice.ensures, c.lines_from-lines.ensures.short, length-take count (drop first verdicts), is) in
    record {
      lines = longer ∙ ap (λ (t : List ℕ). t ++ c.as_slice.result.now) i.lines
          ∙ ap (λ (t : List ℕ). verdict_lines 0 (take first verdicts) ++ t) (c.as_slice.ensures ∙ lines) ∙ sym (lines_more verdicts size k);
      short = (let n = ap length longer in omega (arith, n, length-append old.items c.as_slice.result.now, i.short, few, next_run size k));
      room = omega (arith, i.room, c.extend_from_slice.ensures.capacity);
      ends = omega (arith, c.push_reserved.ensures.len, c.push_reserved.new.self.ok.0, c.loop-number.ends.ok.0, i.ends);
      end_room = omega (arith, i.end_room, c.push_reserved.ensures.capacity);
    }

pub returns : goal.returns
returns c =
    let verdicts = c.args.verdicts.now in
    let size = c.args.size in
    let k = c.loop-number.number in
    let whole : length verdicts ≤ size * k = omega (arith, c.run_count-pieces.ensures.whole, mul-le size c.run_count-pieces.result size k (omega arith) c.loop-number-test.false) in
    c.loop-number.invariant.lines ∙ ap (verdict_lines 0) (take_all (size * k) verdicts whole)
