use Rattle.std.proofs.Common.{◌≡◌, ◌<◌, None, Some, arith, length, ap, sym, ◌∙◌}
use Rattle.std.specs.declared.option.Option.{Option}
use Rattle.seats.specs.Seats.{IsLoan, Known, gap}
use Rattle.seats.specs.declared.seats.Loan.{Loan}
use Rattle.seats.proofs.Slots.{from_known, gaps_set, put_in}
use Rattle.seats.proofs.seats.Seats.take.Goals as goal

pub invariant_of-self-2 : goal.invariant_of-self-2
invariant_of-self-2 g c =
    let slots = c.args.self.now.slots.items in
    let at = c.args.seat in
    let empty = c.take.new.self in
    let inside : at < length slots = omega (arith, c.if-seat-len.false, c.len.ensures) in
    let was : gap c.index_mut.result.now ≡ 0 = ap gap (sym c.take.ensures.value ∙ c.in_ok-loan.was) in
    let one = gaps_set slots at c.index_mut.result.now empty inside c.index_mut.ensures.value in
    let is_empty : gap empty ≡ 1 = ap gap c.take.ensures.after in
    record {
      placed = put_in (Known g.P.Seating.holds) g.P.Seating.names slots at empty c.args.self.now.placed (λ l is. let no : ◌≡◌ {A = Option (Loan g.row.T.Denot)} None (Some l) = sym c.take.ensures.after ∙ is in absurd cc);
      counted = omega (arith, was, one, is_empty, c.add.ensures.total, c.args.self.now.counted);
    }

pub returns-clause-taken : goal.returns-clause-taken
returns-clause-taken g c =
    let slots = c.args.self.now.slots.items in
    let at = c.args.seat in
    let loan = c.in_ok-loan.loan in
    let holds = g.P.Seating.holds in
    let names = g.P.Seating.names in
    let inside : at < length slots = omega (arith, c.if-seat-len.false, c.len.ensures) in
    let found : Some loan ≡ c.index_mut.result.now = sym c.in_ok-loan.was ∙ c.take.ensures.value in
    let here : IsLoan (Known holds) names at loan = c.args.self.now.placed.each at c.index_mut.result.now loan inside (sym c.index_mut.ensures.value ∙ sym found) in (
      omega (arith, c.requires.none, c.add.ensures.amount),
      from_known holds names at loan g.P.Seating.is_fact here,
    )
