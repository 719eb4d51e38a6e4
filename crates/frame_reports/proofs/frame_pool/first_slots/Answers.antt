use Rattle.std.proofs.Common.{◌+◌, ◌<◌, List, Some, length, arith, ap, sym, subst}
use Rattle.std.specs.declared.option.Option.{Option}
use Rattle.std.proofs.lemmas.List.{length_push}
use Rattle.seats.specs.declared.seats.Loan.{Loan}
use Rattle.seats.proofs.First.{AreFirst, BeginsWith, all_seated, first_pushed}
use Rattle.frame_reports.specs.Windows.{IsSlotOf}
use Rattle.frame_reports.specs.declared.frame_pool.Slot.{Slot}
use Rattle.frame_reports.proofs.frame_pool.first_slots.Goals as goal

pub loop-number-preserved : goal.loop-number-preserved
loop-number-preserved g c =
    let w = c.args.window.now in
    let s = w.drawing.now.scene.now in let gs = w.drawing.now.groups.now in
    let old = c.loop-number.slots.items in
    let n = c.loop-number.number in
    let i = c.loop-number.invariant in
    let loan = c.new.result in
    let items = c.push_reserved.ensures.items in
    let at : w.first + n < length s.cameras = omega (arith, c.requires, c.loop-number-test.true) in
    let begins : BeginsWith (IsSlotOf s gs w.first) n (Some loan) = record {
      seat_is = c.new.ensures.seat;
      seal_parts = c.new.ensures.seal;
      at = subst (IsSlotOf s gs w.first n) (sym c.new.ensures.task) at;
    } in
    record {
      count = (let e = ap length items in omega (arith, e, length_push old (Some loan), i.count));
      first = subst (λ (xs : List (Option (Loan Slot))). AreFirst (IsSlotOf s gs w.first) xs) (sym items) (first_pushed (IsSlotOf s gs w.first) old (Some loan) i.first (subst (λ m. BeginsWith (IsSlotOf s gs w.first) m (Some loan)) (sym i.count) begins));
      room = omega (arith, i.room, c.push_reserved.ensures.capacity);
    }

pub returns-clause-slots : goal.returns-clause-slots
returns-clause-slots g c =
    let w = c.args.window.now in
    all_seated (IsSlotOf w.drawing.now.scene.now w.drawing.now.groups.now w.first) c.loop-number.slots.items c.loop-number.invariant.first
