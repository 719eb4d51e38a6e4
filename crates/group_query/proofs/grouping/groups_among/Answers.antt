use Rattle.std.proofs.Common.{◌++◌, ◌≤◌, List, length, drop, arith, sym, ap, ◌∙◌}
use Rattle.std.proofs.lemmas.List.{append-nil, drop_all}
use Rattle.cull_base.specs.declared.scene_types.Object.{Object}
use Rattle.group_query.specs.Grouping.{groups_from}
use Rattle.group_query.specs.declared.grouping.Group.{Group}
use Rattle.group_query.proofs.BoxRuns.{drop_nothing}
use Rattle.group_query.proofs.grouping.groups_among.Goals as goal

pub loop-place-init : goal.loop-place-init
loop-place-init c =
    let os = c.args.objects.now in
    ap (λ (gs : List Group). gs ++ groups_from c.args.most 0 0 (drop 0 os)) c.new-groups.ensures.items ∙ ap (groups_from c.args.most 0 0) (drop_nothing os)

pub loop-place-preserved : goal.loop-place-preserved
loop-place-preserved c = c.in_ok-left.ensures ∙ c.loop-place.invariant

pub returns : goal.returns
returns c =
    let os = c.args.objects.now in let place = c.loop-place.place in
    let past : length os ≤ place = omega (arith, c.loop-place-test.false) in
    let items = c.loop-place.groups.items in
    sym (append-nil items) ∙ ap (λ (xs : List Object). items ++ groups_from c.args.most place c.loop-place.left xs) (sym (drop_all place os past)) ∙ c.loop-place.invariant
