use Rattle.std.proofs.Common.{◌<◌, length, drop, arith, sym, ap, ◌∙◌}
use Rattle.std.proofs.lemmas.List.{length-drop}
use Rattle.cull_base.specs.declared.scene_types.Object.TheVariants.{Mesh}
use Rattle.group_query.specs.Grouping.{boxes_at_front}
use Rattle.group_query.proofs.BoxRuns.{drop_nothing, front_length, front_more, front_none}
use Rattle.group_query.proofs.grouping.boxes_at_front.Goals as goal

pub loop-place-init : goal.loop-place-init
loop-place-init c = omega (arith, ap boxes_at_front (sym (drop_nothing c.args.objects.now)))

pub returns-then-not-is_box_at : goal.returns-then-not-is_box_at
returns-then-not-is_box_at c =
    let os = c.args.objects.now in let k = c.loop-place.place in
    let lt : k < length os = omega (arith, c.loop-place-test.true, c.min-looked_at.ensures) in
    let none = front_none os k (Mesh 0 0) lt (sym (c.is_box_at.ensures (Mesh 0 0)) ∙ c.if-not-is_box_at.true) in
    omega (arith, c.loop-place.invariant, none, c.loop-place-test.true, c.min-looked_at.ensures)

pub loop-place-preserved : goal.loop-place-preserved
loop-place-preserved c =
    let os = c.args.objects.now in let k = c.loop-place.place in
    let lt : k < length os = omega (arith, c.loop-place-test.true, c.min-looked_at.ensures) in
    let more = front_more os k (Mesh 0 0) lt (sym (c.is_box_at.ensures (Mesh 0 0)) ∙ c.if-not-is_box_at.false) in
    omega (arith, c.loop-place.invariant, more)

pub returns : goal.returns
returns c =
    let os = c.args.objects.now in let k = c.loop-place.place in
    omega (arith, c.loop-place.invariant, c.loop-place-test.false, c.loop-place.auto.place-end, c.min-looked_at.ensures, front_length (drop k os), length-drop k os)
