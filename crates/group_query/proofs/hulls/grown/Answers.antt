use Rattle.std.proofs.Common.{Some, ap, ◌∙◌}
use Rattle.cull_base.specs.declared.rect.Rect.{Rect}
use Rattle.cull_base.specs.Rectangle.{cut_of}
use Rattle.group_query.specs.Hulls.{with_member}
use Rattle.group_query.proofs.hulls.grown.Goals as goal

pub returns-in-Flat : goal.returns-in-Flat
returns-in-Flat c =
    let r = c.in-Flat.rect in let q = c.in-Flat.q in
    rw c.in-Flat.is (c.with_member.ensures ∙ ap (λ (a : Rect). with_member (Some c.args.hull) a q) (c.cut.ensures.value ∙ ap (cut_of r) c.screen.ensures))
