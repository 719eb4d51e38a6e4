use Rattle.std.proofs.Common.{◌≡◌, ℕ, ◌+◌, length, arith, refl, sym, subst, ap, ◌∙◌, Err}
use Rattle.std.proofs.lemmas.List.{append-nil}
use Rattle.std.proofs.lemmas.Result.{err_from_is_err_and}
use Rattle.cull_base.specs.Stream.{Appends}
use Rattle.demo_scene.specs.Demo.{demo_of}
use Rattle.frame_reports.specs.Failures.{sink_failure}
use Rattle.culling.specs.Summary.{demo_line}
use Rattle.frame_reports.specs.declared.failure.Failure.TheVariants as failures
use Rattle.frame_reports.specs.declared.frames.Beside.TheVariants.{Nothing}
use Rattle.frame_reports.specs.declared.frames.FrameLines.TheVariants.{Summary}
use Rattle.culling.proofs.Comings.{demo_comes}
use Rattle.frame_reports.proofs.FrameByFrame.{frames_no_memory, head_unwritten, wrote_head, wrote_then}
use Rattle.culling.proofs.commands.demo.demo.Goals as goal

pub returns-in_err-scene : goal.returns-in_err-scene
returns-in_err-scene g c =
    let words = c.args.words.now in
    let s = demo_of words.seed words.triangles in
    let r = g.W.Sink.says c.args.report.now in let n = g.E.Sink.says c.args.notes.now in
    let p = err_from_is_err_and c.from_residual.result c.from_residual.ensures.1 in
    rw (p.1, p.2)
    (record {
      outcome = λ input. demo_comes words s input r r n n (Err failures.Memory) _ _ refl refl
          (frames_no_memory (demo_line words.seed words.triangles) Summary Nothing s 0 (length s.cameras) r n);
    })

pub returns-in_err-write_demo_line : goal.returns-in_err-write_demo_line
returns-in_err-write_demo_line g c =
    let words = c.args.words.now in
    let s = demo_of words.seed words.triangles in
    let e = c.in_err-write_demo_line.field-0.0 in
    let r0 = g.W.Sink.says c.args.report.now in let r1 = g.W.Sink.says c.write_demo_line.new.sink in let n = g.E.Sink.says c.args.notes.now in
    let p = err_from_is_err_and c.from_residual-in_err-write_demo_line.result c.from_residual-in_err-write_demo_line.ensures.1 in
    rw (p.1, p.2)
    (record {
      outcome = λ input. demo_comes words s input r0 r1 n n (Err (sink_failure e)) _ _ refl refl
          (head_unwritten (demo_line words.seed words.triangles) Summary Nothing s (length s.cameras) e r0 r1 n c.in_err-write_demo_line.ensures);
    })

pub returns : goal.returns
returns g c =
    let words = c.args.words.now in
    let s = c.in_ok-scene.scene in
    let head = demo_line words.seed words.triangles in
    let r0 = g.W.Sink.says c.args.report.now in let r1 = g.W.Sink.says c.write_demo_line.new.sink in let r2 = g.W.Sink.says c.report_frames.new.report in
    let n0 = g.E.Sink.says c.args.notes.now in let n1 = g.E.Sink.says c.report_frames.new.notes in
    let is = c.in_ok-scene.ensures ∙ ap (λ (n : ℕ). demo_of n words.triangles) c.from.ensures in
    let whole = subst (Appends r0 r1) (sym (append-nil head)) c.in_ok-write_demo_line.ensures.ok in
    let all : length s.cameras ≡ 0 + length s.cameras = omega arith in
    record {
      outcome = λ input. demo_comes words s input r0 r2 n0 n1 c.report_frames.result _ _ is (c.report_frames.ensures.quiet refl)
          (wrote_then c.report_frames.result refl all (wrote_head head Summary Nothing s 0 r0 r1 n0 whole c.write_demo_line.ensures.faults_stay) c.report_frames.ensures.reported);
    }
