use Rattle.std.proofs.Common.{◌≡◌, ℕ, ◌+◌, ◌*◌, ◌++◌, List, length, length-append, append_assoc, arith, ap, sym, ◌∙◌}
use Rattle.cull_base.specs.State.{bound_at}
use Rattle.depth_image.specs.Picture.{number_line}
use Rattle.depth_image.specs.Samples.{cut_shade, sample_lines}
use Rattle.depth_image.proofs.Samples.{line_is, samples_more, samples_none}
use Rattle.depth_image.proofs.lines.push_samples.Goals as goal

pub loop-column-init : goal.loop-column-init
loop-column-init c = record { text = samples_none c.args.text.now c.args.grade c.args.sub.now (8 * c.args.row); short = omega arith }

pub line_at-line-requires-clause-sample : goal.line_at-line-requires-clause-sample
line_at-line-requires-clause-sample c = omega (arith, c.requires.row, c.loop-column-test.true)

pub line_at-line-requires-clause-working : goal.line_at-line-requires-clause-working
line_at-line-requires-clause-working c = c.depth_line-working.ensures.short

pub line_at-line-requires-clause-reference : goal.line_at-line-requires-clause-reference
line_at-line-requires-clause-reference c = c.depth_line-reference.ensures.short

pub push-requires : goal.push-requires
push-requires c = omega (arith, ap length c.as_slice.ensures, c.line_at-line.ensures.short, c.loop-column.invariant.short, c.loop-column-test.true, c.requires.room)

pub loop-column-preserved : goal.loop-column-preserved
loop-column-preserved c =
    let s = c.args.sub.now in
    let grade = c.args.grade in
    let first = 8 * c.args.row in
    let k = c.loop-column.column in
    let old = c.args.text.now in
    let so_far = sample_lines grade s first k in
    let line = number_line (cut_shade grade (bound_at s (first + k))) in
    let working = c.depth_line-working.ensures.value ∙ ap (λ (d : ℕ). number_line (cut_shade grade d)) c.working.ensures.value in
    let reference = c.depth_line-reference.ensures.value ∙ ap (λ (d : ℕ). number_line (cut_shade grade d)) c.reference.ensures.value in
    let is : c.as_slice.result.now ≡ line =
    c.as_slice.ensures ∙ c.line_at-line.ensures.value
    ∙ line_is grade s c.mask-mask.result (first + k) c.depth_line-working.result c.depth_line-reference.result c.mask-mask.ensures.value working reference in
    record {
      text = c.push.ensures ∙ ap (λ (t : List ℕ). t ++ c.as_slice.result.now) c.loop-column.invariant.text ∙ append_assoc old so_far c.as_slice.result.now
          ∙ ap (λ (t : List ℕ). old ++ (so_far ++ t)) is ∙ ap (λ (t : List ℕ). old ++ t) (sym (samples_more grade s first k));
      short = omega (arith, ap length c.push.ensures, ap length c.as_slice.ensures, c.line_at-line.ensures.short, c.loop-column.invariant.short, length-append c.loop-column.text c.as_slice.result.now);
    }

pub returns-clause-value : goal.returns-clause-value
returns-clause-value c =
    let end : c.loop-column.column ≡ 8 = omega (arith, c.loop-column-test.false, c.loop-column.auto.column-end) in
    c.loop-column.invariant.text ∙ ap (λ (n : ℕ). c.args.text.now ++ sample_lines c.args.grade c.args.sub.now (8 * c.args.row) n) end

pub returns-clause-room : goal.returns-clause-room
returns-clause-room c =
    let end : c.loop-column.column ≡ 8 = omega (arith, c.loop-column-test.false, c.loop-column.auto.column-end) in
    omega (arith, end, c.loop-column.invariant.short)
