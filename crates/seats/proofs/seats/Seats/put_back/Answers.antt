use Rattle.std.proofs.Common.{◌≡◌, ◌<◌, None, Some, arith, length, set, length-set, get_or-set_same, ap, sym, subst, ◌∙◌}
use Rattle.std.specs.declared.option.Option.{Option}
use Rattle.seats.specs.Seats.{IsLoan, Known, gap}
use Rattle.seats.specs.declared.seats.Loan.{Loan}
use Rattle.seats.proofs.Slots.{put_in, gaps_set, same_seal, same_some, to_known}
use Rattle.seats.proofs.seats.Seats.put_back.Goals as goal

pub alone-loan-requires-clause-other : goal.alone-loan-requires-clause-other
alone-loan-requires-clause-other g c =
    let slots = c.args.self.now.slots.items in
    let at = c.args.loan.seat in
    let inside : at < length slots = omega (arith, c.requires.loan.there, c.args.self.now.placed.count) in
    same_seal g.P.Seating.holds g.P.Seating.names slots c.args.loan c.take.result c.index_mut.result.now c.args.self.now.placed inside c.requires.loan.seal_is (c.take.ensures.value ∙ c.index_mut.ensures.value)

pub invariant_of-self : goal.invariant_of-self
invariant_of-self g c =
    let slots = c.args.self.now.slots.items in
    let at = c.args.loan.seat in
    let empty = c.take.new.self in
    let loan = c.alone-loan.result in
    let holds = g.P.Seating.holds in
    let names = g.P.Seating.names in
    let inside : at < length slots = omega (arith, c.requires.loan.there, c.args.self.now.placed.count) in
    let inside_too : at < length (set slots at empty) = omega (arith, inside, length-set slots at empty) in
    let before = put_in (Known holds) names slots at empty c.args.self.now.placed (λ l is. let no : ◌≡◌ {A = Option (Loan g.row.T.Denot)} None (Some l) = sym c.take.ensures.after ∙ is in absurd cc) in
    let was : gap c.index_mut.result.now ≡ 1 = ap gap (sym c.take.ensures.value ∙ c.alone-loan.ensures.none) in
    let one = gaps_set slots at c.index_mut.result.now empty inside c.index_mut.ensures.value in
    let is_empty : gap empty ≡ 1 = ap gap c.take.ensures.after in
    let two = gaps_set (set slots at empty) at empty (Some loan) inside_too (sym (get_or-set_same slots at empty empty inside)) in
    record {
      placed = put_in (Known holds) names (set slots at empty) at (Some loan) before (λ l is.
          subst (λ u. IsLoan (Known holds) names at u) (sym c.alone-loan.ensures.same ∙ same_some loan l is) (to_known holds names at c.args.loan c.requires.loan));
      counted = omega (arith, was, one, is_empty, two, c.sub.ensures.total, c.args.self.now.counted);
    }
