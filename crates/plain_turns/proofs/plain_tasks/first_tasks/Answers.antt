use Rattle.std.proofs.Common.{◌≡◌, ◌+◌, ◌∷◌, [], ℕ, List, None, Some, drop, length, arith, sym, subst, ap, ◌∙◌}
use Rattle.std.proofs.lemmas.List.{length-append}
use Rattle.std.specs.declared.option.Option.{Option}
use Rattle.masked_update.specs.Canvas.{CanvasOf}
use Rattle.seats.specs.declared.seats.Loan.{Loan}
use Rattle.seats.proofs.First.{AreFirst, BeginsWith, all_seated, first_pushed}
use Rattle.cull_base.proofs.Lists.{turn}
use Rattle.bin_queues.specs.Frames.{over}
use Rattle.plain_turns.specs.Waiting.{IsWaitingTask}
use Rattle.bin_tasks.specs.declared.task.Task.{Task}
use Rattle.bin_queues.proofs.GoingOn.{first_task_at}
use Rattle.plain_turns.proofs.PlainTasks.{first_waiting}
use Rattle.plain_turns.proofs.plain_tasks.first_tasks.Goals as goal

pub push_reserved-requires : goal.push_reserved-requires
push_reserved-requires c =
    let i = c.loop-intake.invariant in
    let t = turn c.args.intakes.items (length c.loop-intake.slots.items) c.in-Some.intake _ (sym i.2 ∙ c.in-Some.ensures.steps.0) in
    let below = t.2 in
    let count = c.requires.count in
    omega (arith, below, count, i.5, c.bins-count.ensures.value)

pub loop-intake-preserved : goal.loop-intake-preserved
loop-intake-preserved c =
    let i = c.loop-intake.invariant in
    let s = c.in-Some.ensures.steps in
    let queues = c.args._queues.now in
    let frame = over c.args.frame.now [] in
    let old = c.loop-intake.slots.items in
    let n = length old in
    let t = turn c.args.intakes.items n c.in-Some.intake _ (sym i.2 ∙ s.0) in
    let at = first_task_at queues frame c.args.intakes.items n c.in-Some.intake t.1 t.2 c.requires in
    let task : Task (Option CanvasOf) = record { intake = c.in-Some.intake; keeper = None } in
    let holds : ℕ → Task (Option CanvasOf) → Type 0 = IsWaitingTask queues frame in
    let waits : holds n task = first_waiting queues frame n c.in-Some.intake at.0 at.1 in
    let loan = c.new.result in
    let begins : BeginsWith holds n (Some loan) = record {
      seat_is = c.new.ensures.seat ∙ c.len-bin.ensures ∙ c.loop-intake.slots.ok.0;
      seal_parts = c.new.ensures.seal;
      at = subst (holds n) (sym c.new.ensures.task) waits;
    } in
    let items = c.push_reserved.ensures.items in
    let new = c.push_reserved.new.self.items in
    let grown : length new ≡ n + 1 = (let e = ap length items in omega (arith, e, length-append old (Some loan ∷ []))) in (
      tt,
      tt,
      t.0 ∙ ap (λ k. drop k c.args.intakes.items) (sym grown),
      omega (arith, i.3, s.1, grown),
      subst (λ (xs : List (Option (Loan (Task (Option CanvasOf))))). AreFirst holds xs) (sym items) (first_pushed holds old (Some loan) i.4 begins),
      omega (arith, i.5, c.push_reserved.ensures.capacity),
    )

pub returns : goal.returns
returns c =
    let i = c.loop-intake.invariant in
    let frame = over c.args.frame.now [] in
    let none = c.in-None.ensures.steps.0 in
    let count = c.requires.count in
    let all : length c.loop-intake.slots.items ≡ length c.args.intakes.items = omega (arith, i.3, none) in
    record {
      count = all ∙ count;
      seated = all_seated (IsWaitingTask c.args._queues.now frame) c.loop-intake.slots.items i.4;
    }
