use Rattle.std.proofs.Common.{Some, length, arith, ap}
use Rattle.std.proofs.lemmas.List.{length_push}
use Rattle.seats.specs.Things.{IsThing}
use Rattle.seats.proofs.First.{all_seated, first_more}
use Rattle.seats.proofs.pool.first_things.Goals as goal

pub begin-requires : goal.begin-requires
begin-requires g c = c.requires c.loop-number.number (omega (arith, c.loop-number-test.true))

pub loop-number-preserved : goal.loop-number-preserved
loop-number-preserved g c =
    let i = c.loop-number.invariant in
    let old = c.loop-number.slots.items in
    let loan = c.new.result in
    let items = c.push_reserved.ensures.items in
    record {
      count = (let n = ap length items in omega (arith, n, length_push old (Some loan), i.count));
      first = first_more (IsThing (g.M.Makes.waits c.args.maker.now) (g.M.Makes.made c.args.maker.now)) old _ c.loop-number.number loan _
          items i.count i.first c.new.ensures.seat c.new.ensures.seal c.new.ensures.task c.in_ok-thing.ensures;
      room = omega (arith, i.room, c.push_reserved.ensures.capacity);
    }

pub returns-clause-slots : goal.returns-clause-slots
returns-clause-slots g c =
    all_seated (IsThing (g.M.Makes.waits c.args.maker.now) (g.M.Makes.made c.args.maker.now)) c.loop-number.slots.items c.loop-number.invariant.first
