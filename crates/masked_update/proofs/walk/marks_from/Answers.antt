use Rattle.std.proofs.Common.{◌≡◌, ◌+◌, ◌∙◌, ap, arith, length, subst, sym}
use Rattle.std.specs.Int.{bit_at}
use Rattle.masked_update.specs.Least.{NoneBelow}
use Rattle.masked_update.specs.TileOf.{tile_at}
use Rattle.masked_update.proofs.Marks.{among_first, clear_first, one_first, zero_first}
use Rattle.masked_update.proofs.walk.marks_from.Goals as goal

pub returns-then-count-eq1-clause-among : goal.returns-then-count-eq1-clause-among
returns-then-count-eq1-clause-among c i lt one =
    let first = one_first c.first_may_change.result i c.first_may_change.ensures.bit one in let alone = c.if-count-eq1.true in omega (arith, first, alone)

pub returns-then-count-eq1-clause-behind : goal.returns-then-count-eq1-clause-behind
returns-then-count-eq1-clause-behind c i lt clear =
    let m = c.first_may_change.result in
    let alone = c.if-count-eq1.true in
    let e : i ≡ 0 = omega (arith, lt, alone) in
    let here : c.args.number ≡ c.args.number + i = omega (arith, e) in
    subst (λ n. NoneBelow c.args.nearest (tile_at c.args.canvas.now.tiles n)) here
    (c.first_may_change.ensures.behind (zero_first m c.first_may_change.ensures.bit (ap (bit_at m) (sym e) ∙ clear)))

pub returns-then-count-eq1-clause-eight : goal.returns-then-count-eq1-clause-eight
returns-then-count-eq1-clause-eight c i lt =
    let alone = c.if-count-eq1.true in
    let here : c.args.number ≡ c.args.number + i = omega (arith, lt, alone) in
    subst (λ n. length (tile_at c.args.canvas.now.tiles n).subs ≡ 8) here c.first_may_change.ensures.eight

pub returns-else-count-eq1-clause-among : goal.returns-else-count-eq1-clause-among
returns-else-count-eq1-clause-among c i lt one = among_first c.may_change.result c.ones_between.result c.args.count i c.ones_between.ensures.value one

pub returns-else-count-eq1-clause-behind : goal.returns-else-count-eq1-clause-behind
returns-else-count-eq1-clause-behind c i lt clear =
    let few = c.requires.few in
    let within = c.requires.within in
    let bit = clear_first c.may_change.result c.ones_between.result c.args.count i c.ones_between.ensures.value lt clear in
    c.may_change.ensures.behind i (omega (arith, lt, few)) (omega (arith, lt, within)) bit

pub returns-else-count-eq1-clause-eight : goal.returns-else-count-eq1-clause-eight
returns-else-count-eq1-clause-eight c i lt =
    let few = c.requires.few in
    let within = c.requires.within in
    c.may_change.ensures.eight i (omega (arith, lt, few)) (omega (arith, lt, within))
