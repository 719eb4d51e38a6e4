use Rattle.std.proofs.Common.{◌∙◌, ap, sym, refl}
use Rattle.std.specs.Prelude.{◌==◌}
use Rattle.std.proofs.lemmas.Bool.{and_left, and_right, ne_eqb, eq-eqb}
use Rattle.cull_base.specs.declared.nearness.Grade.{Grade}
use Rattle.scene_reader.specs.declared.error.SceneError.TheVariants.{BadGrade}
use Rattle.scene_reader.specs.Layout.{Parts, grade_code}
use Rattle.scene_reader.proofs.Headers.{fault_none_from}
use Rattle.scene_reader.proofs.checks.grade_fault.Goals as goal

pub returns-then-parts-ne1-clause-value : goal.returns-then-parts-ne1-clause-value
returns-then-parts-ne1-clause-value c =
    let version = c.args.parts.now.version in
    let same = ap (λ (p : Parts). p.version) c.parts.view_is in
    sym (fault_none_from _ (BadGrade 1) (and_left (version == 1) _ (ne_eqb version 1 (λ one. c.if-parts-ne1.true (same ∙ one)))))

pub returns-in-Narrow-clause-value : goal.returns-in-Narrow-clause-value
returns-in-Narrow-clause-value c =
    let parts = c.args.parts.now in
    let same = ap (λ (p : Parts). p.grade) c.parts.view_is in
    sym (fault_none_from _ (BadGrade 1) (and_right (parts.version == 1) _ (ap (λ (g : Grade). grade_code g == 1) (sym same ∙ c.in-Narrow.is))))

pub returns-in-Wide-clause-value : goal.returns-in-Wide-clause-value
returns-in-Wide-clause-value c =
    let one = sym (ap (λ (p : Parts). p.version) c.parts.view_is) ∙ c.if-parts-ne1.false in
    let wide = sym (ap (λ (p : Parts). p.grade) c.parts.view_is) ∙ c.in-Wide.is in
    rw (eq-eqb c.args.parts.now.version 1 one, wide) refl
