use Rattle.std.proofs.Common.{length, sym, subst, ap, ◌∙◌, List}
use Rattle.group_query.specs.Grouping.{AreApart, groups_from}
use Rattle.group_query.specs.declared.grouping.Group.{Group}
use Rattle.group_query.proofs.InOrder.{groups_apart}
use Rattle.group_query.proofs.grouping.groups.Goals as goal

pub returns-clause-groups : goal.returns-clause-groups
returns-clause-groups c = c.in-Ok.ensures ∙ ap (groups_from c.args.most 0 0) c.objects.ensures

pub returns-clause-apart : goal.returns-clause-apart
returns-clause-apart c =
    let os = c.args.scene.now.objects in
    let is = c.in-Ok.ensures ∙ ap (groups_from c.args.most 0 0) c.objects.ensures in
    subst (λ (gs : List Group). AreApart (length os) gs) (sym is) (groups_apart c.args.most os c.requires)
