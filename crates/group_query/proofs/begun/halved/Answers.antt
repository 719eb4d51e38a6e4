use Rattle.std.proofs.Common.{◌+◌, ◌-◌, ◌/◌, arith, sym, ◌∙◌}
use Rattle.group_query.proofs.BegunGroups.{begun_more, begun_no_more}
use Rattle.group_query.proofs.begun.halved.Goals as goal

pub returns-then-begins_before-clause-begun : goal.returns-then-begins_before-clause-begun
returns-then-begins_before-clause-begun c =
    let b = c.args.between in
    let middle = b.least + (b.greatest - b.least) / 2 in
    begun_more c.args._objects c.args.place c.args.groups.now b.least b.greatest middle c.requires.apart c.requires.begun (omega arith) (omega (arith, c.requires.some))
    (λ d. sym (c.begins_before.ensures d) ∙ c.if-begins_before.true)

pub returns-clause-begun : goal.returns-clause-begun
returns-clause-begun c =
    let b = c.args.between in
    let middle = b.least + (b.greatest - b.least) / 2 in
    begun_no_more c.args._objects c.args.place c.args.groups.now b.least b.greatest middle c.requires.apart c.requires.begun (omega arith) (omega (arith, c.requires.some))
    (λ d. sym (c.begins_before.ensures d) ∙ c.if-begins_before.false)
