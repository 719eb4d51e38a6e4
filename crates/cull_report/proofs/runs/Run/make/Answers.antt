use Rattle.std.proofs.Common.{◌≡◌, ℕ, ◌+◌, ◌*◌, ◌-◌, ◌++◌, ◌≤◌, min, List, length, take, drop, vec_len, vec_capacity, arith, rules, ap, ◌∙◌, subst}
use Rattle.cull_base.specs.declared.scene_types.Verdict.{Verdict}
use Rattle.cull_report.specs.Runs.{run_of, run_place}
use Rattle.cull_report.specs.Tallies.{Adds}
use Rattle.cull_report.specs.Text.{verdict_lines}
use Rattle.cull_report.proofs.MadeRuns.{next_run, run_length, whole_run}
use Rattle.cull_report.proofs.runs.Run.make.Goals as goal

pub overflow_mul-first : goal.overflow_mul-first
overflow_mul-first g c = omega (arith, c.requires.some, c.count-objects.ensures.count)

pub answer-self-requires-clause-room : goal.answer-self-requires-clause-room
answer-self-requires-clause-room g c = omega (arith, ap length c.requires.waits.no_verdicts, c.requires.waits.verdict_room, c.min-count.ensures)

pub lines_from-lines-requires-clause-room : goal.lines_from-lines-requires-clause-room
lines_from-lines-requires-clause-room g c =
    let all = g.A.Answering.all c.args.asked.now in
    let old = c.args.self.now.verdicts.items in
    let more = run_length old all c.answer-self.new.verdicts.items (c.args.size * c.args.number) c.min-count.result c.answer-self.ensures.verdicts in
    omega (arith, more, ap length c.requires.waits.no_verdicts, ap length c.as_slice.ensures.value, c.min-count.ensures, c.requires.size.few)

pub lines_from-lines-requires-clause-numbers : goal.lines_from-lines-requires-clause-numbers
lines_from-lines-requires-clause-numbers g c =
    let all = g.A.Answering.all c.args.asked.now in
    let old = c.args.self.now.verdicts.items in
    let more = run_length old all c.answer-self.new.verdicts.items (c.args.size * c.args.number) c.min-count.result c.answer-self.ensures.verdicts in
    omega (arith, more, ap length c.requires.waits.no_verdicts, ap length c.as_slice.ensures.value, c.min-count.ensures, c.requires.some, c.count-objects.ensures.count)

-- there is room for the lines
pub unreachable-requires : goal.unreachable-requires
unreachable-requires g c =
    let all = g.A.Answering.all c.args.asked.now in
    let old = c.args.self.now.verdicts.items in
    let lines = c.args.self.now.lines in
    let more = run_length old all c.answer-self.new.verdicts.items (c.args.size * c.args.number) c.min-count.result c.answer-self.ensures.verdicts in
    let few : length c.as_slice.result.now ≤ c.args.size = omega (arith, more, ap length c.requires.waits.no_verdicts, ap length c.as_slice.ensures.value, c.min-count.ensures) in
    let short : length c.as_slice-2.result.now ≤ 30 * c.args.size = omega (arith, few, c.lines_from-lines.ensures.short, ap length c.as_slice-2.ensures) in
    let room : vec_len lines + length c.as_slice-2.result.now ≤ vec_capacity lines = omega (arith, short, ap length c.requires.waits.no_lines, lines.ok.0, c.requires.waits.line_room) in
    first_of (search rules, omega (arith, room), grind (arith, room))

pub returns-clause-made : goal.returns-clause-made
returns-clause-made g c =
    let all = g.A.Answering.all c.args.asked.now in
    let size = c.args.size in
    let first = size * c.args.number in
    let count = c.min-count.result in
    let is : count ≡ min size (length all - first) = omega (arith, c.min-count.ensures, c.count-objects.ensures.count) in
    let verdicts : c.answer-self.new.verdicts.items ≡ run_of all size c.args.number =
    c.answer-self.ensures.verdicts ∙ ap (λ (xs : List Verdict). xs ++ take count (drop first all)) c.requires.waits.no_verdicts ∙ whole_run all first size count is in
    let lines : c.lines_from-lines.result ≡ verdict_lines first (run_of all size c.args.number) =
    c.lines_from-lines.ensures.value ∙ ap (verdict_lines first) (c.as_slice.ensures.value ∙ verdicts) in
    let longer : c.extend_from_slice.new.self.items ≡ c.args.self.now.lines.items ++ c.as_slice-2.result.now = search rules in
    record {
      verdicts_are = verdicts;
      lines_are = longer ∙ ap (λ (t : List ℕ). t ++ c.as_slice-2.result.now) c.requires.waits.no_lines ∙ c.as_slice-2.ensures ∙ lines;
    }

pub returns-clause-counted : goal.returns-clause-counted
returns-clause-counted g c =
    let all = g.A.Answering.all c.args.asked.now in let told = g.A.Answering.told c.args.asked.now in
    let size = c.args.size in let number = c.args.number in
    let first = size * number in
    let begins : first ≡ run_place (length all) size number = omega (arith, c.requires.some) in
    let ends : first + c.min-count.result ≡ run_place (length all) size (number + 1) =
    omega (arith, next_run size number, c.min-count.ensures, c.count-objects.ensures.count, c.requires.some) in
    subst (λ (m : ℕ). Adds (told (run_place (length all) size number)) c.answer-self.result (told m)) ends
    (subst (λ (m : ℕ). Adds (told m) c.answer-self.result (told (first + c.min-count.result))) begins c.answer-self.ensures.told)
