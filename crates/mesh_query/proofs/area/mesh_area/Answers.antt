use Rattle.std.proofs.Common.{true, false, sym, ap, ◌∙◌}
use Rattle.std.specs.Prelude.{is_some}
use Rattle.cull_base.specs.declared.rect.Rect.{Rect}
use Rattle.cull_base.specs.Rectangle.{cut_of}
use Rattle.cull_base.specs.Screen.{screen_of}
use Rattle.mesh_query.proofs.Verdicts.{early_area, early_open, open_area}
use Rattle.mesh_query.proofs.area.mesh_area.Goals as goal

pub returns-then-is_some : goal.returns-then-is_some
returns-then-is_some c = λ top. sym (early_area top c.args.near c.args.size c.args.clips.now c.args.tris.now (sym (c.is_some.ensures ∙ ap is_some c.early_verdict.ensures) ∙ c.if-is_some.true))

pub returns-in-Some : goal.returns-in-Some
returns-in-Some c =
    let left = early_open c.args.near c.args.clips.now c.args.tris.now (sym (c.is_some.ensures ∙ ap is_some c.early_verdict.ensures) ∙ c.if-is_some.false) in
    λ top. c.cut.ensures.value ∙ ap (cut_of c.in-Some.rect) c.screen.ensures ∙ ap (λ (r : Rect). cut_of r (screen_of c.args.size)) c.in-Some.ensures.1
    ∙ sym (open_area top c.args.near c.args.size c.args.clips.now c.args.tris.now true left c.in-Some.ensures.0)

pub returns-in-None : goal.returns-in-None
returns-in-None c =
    let left = early_open c.args.near c.args.clips.now c.args.tris.now (sym (c.is_some.ensures ∙ ap is_some c.early_verdict.ensures) ∙ c.if-is_some.false) in
    λ top. sym (open_area top c.args.near c.args.size c.args.clips.now c.args.tris.now false left c.in-None.ensures)
