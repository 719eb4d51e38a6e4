use Rattle.std.proofs.Common.{◌≡◌, ◌+◌, length, arith, rules, refl, ap, sym, subst, ◌∙◌}
use Rattle.std.proofs.lemmas.Nat.{mod_below}
use Rattle.cull_base.specs.Screen.{tile_count_of}
use Rattle.tile_cells.proofs.Lists.{turn}
use Rattle.bin_queues.specs.Frames.{over}
use Rattle.bin_queues.specs.QueueParts.{BinOfFrame}
use Rattle.bin_queues.specs.Tasks.{Tasking}
use Rattle.bin_queues.proofs.GoingOn.{first_task_at}
use Rattle.tile_queues.specs.Owners.{AreLeft}
use Rattle.tile_queues.specs.Shares.{AreDealt, IsFirstAt}
use Rattle.tile_queues.proofs.Dealing.{dealt_more, dealt_none}
use Rattle.tile_queues.proofs.share.deal_to.Goals as goal

pub loop-intake-init : goal.loop-intake-init
loop-intake-init g c =
    (tt, tt, search rules, search rules, refl, (c.requires.1.1.1.1, dealt_none (IsFirstAt c.args._queues.now (over c.args.frame.now g.cells)) c.args.workers c.args.shares.now c.requires.0 c.requires.1.0))

pub take_bin-requires-clause-list : goal.take_bin-requires-clause-list
take_bin-requires-clause-list g c =
    let frame = over c.args.frame.now g.cells in
    let t = turn c.args.intakes.items c.loop-intake.bin c.in-Some.intake _ (sym c.loop-intake.invariant.2 ∙ c.in-Some.ensures.steps.0) in
    let at = first_task_at c.args._queues.now frame c.args.intakes.items c.loop-intake.bin c.in-Some.intake t.1 t.2 c.requires.1.1.0 in
    ap (λ (k : Tasking). k.of.frame.list) at.1

pub take_bin-requires-clause-first : goal.take_bin-requires-clause-first
take_bin-requires-clause-first g c =
    let frame = over c.args.frame.now g.cells in
    let t = turn c.args.intakes.items c.loop-intake.bin c.in-Some.intake _ (sym c.loop-intake.invariant.2 ∙ c.in-Some.ensures.steps.0) in
    let at = first_task_at c.args._queues.now frame c.args.intakes.items c.loop-intake.bin c.in-Some.intake t.1 t.2 c.requires.1.1.0 in
    ap (λ (k : Tasking). k.batches) at.1

pub take_bin-requires-clause-whole : goal.take_bin-requires-clause-whole
take_bin-requires-clause-whole g c =
    let frame = over c.args.frame.now g.cells in
    let t = turn c.args.intakes.items c.loop-intake.bin c.in-Some.intake _ (sym c.loop-intake.invariant.2 ∙ c.in-Some.ensures.steps.0) in
    let at = first_task_at c.args._queues.now frame c.args.intakes.items c.loop-intake.bin c.in-Some.intake t.1 t.2 c.requires.1.1.0 in
    c.loop-intake.invariant.4 ∙ c.requires.1.1.1.0 ∙ sym (ap (λ (k : Tasking). tile_count_of k.of.frame.list.size) at.1)

pub take_bin-requires-clause-left : goal.take_bin-requires-clause-left
take_bin-requires-clause-left g c =
    let frame = over c.args.frame.now g.cells in
    let t = turn c.args.intakes.items c.loop-intake.bin c.in-Some.intake _ (sym c.loop-intake.invariant.2 ∙ c.in-Some.ensures.steps.0) in
    let at = first_task_at c.args._queues.now frame c.args.intakes.items c.loop-intake.bin c.in-Some.intake t.1 t.2 c.requires.1.1.0 in
    subst (λ (b : BinOfFrame). AreLeft b.frame b.bin 0 c.loop-intake.slots) (sym (ap (λ (k : Tasking). k.of) at.1)) c.loop-intake.invariant.5.0

pub of-requires : goal.of-requires
of-requires g c = c.in_ok-keeper.ensures.bin

pub give-requires : goal.give-requires
give-requires g c =
    let count = c.loop-intake.invariant.5.1.count in
    let below = mod_below c.loop-intake.bin c.args.workers c.requires.0 in
    omega (arith, count, below)

pub loop-intake-preserved : goal.loop-intake-preserved
loop-intake-preserved g c =
    let i = c.loop-intake.invariant in
    let s = c.in-Some.ensures.steps in
    let frame = over c.args.frame.now g.cells in
    let bin = c.loop-intake.bin in
    let t = turn c.args.intakes.items bin c.in-Some.intake _ (sym i.2 ∙ s.0) in
    let at = first_task_at c.args._queues.now frame c.args.intakes.items bin c.in-Some.intake t.1 t.2 c.requires.1.1.0 in
    let holds = subst (IsFirstAt c.args._queues.now frame bin) (sym c.of.ensures) (record { queues_are = at.0; first = at.1 }) in (
      tt,
      tt,
      t.0,
      omega (arith, i.3, s.1),
      c.in_ok-keeper.ensures.whole ∙ i.4,
      (
        subst (λ (b : BinOfFrame). AreLeft b.frame (b.bin + 1) 0 c.take_bin.new.slots) (ap (λ (k : Tasking). k.of) at.1) c.in_ok-keeper.ensures.left,
        dealt_more (IsFirstAt c.args._queues.now frame) c.args.workers bin c.requires.0 c.of.result c.loop-intake.shares c.give.new.shares c.in_ok-give.ensures i.5.1 holds,
      ),
    )

pub returns-clause-dealt : goal.returns-clause-dealt
returns-clause-dealt g c =
    let i = c.loop-intake.invariant in
    let frame = over c.args.frame.now g.cells in
    let none = c.in-None.ensures.steps.0 in
    let count = c.requires.1.1.0.count in
    let last : c.loop-intake.bin ≡ length c.args.intakes.items = omega (arith, i.3, none) in
    subst (λ n. AreDealt (IsFirstAt c.args._queues.now frame) c.args.workers n c.loop-intake.shares) (last ∙ count) i.5.1
