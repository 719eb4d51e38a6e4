use Rattle.std.proofs.Common.{arith}
use Rattle.cull_base.proofs.Reciprocals.{estimate_of}
use Rattle.cull_base.proofs.divisor.Divisor.guess.Goals as goal

pub returns-clause-least : goal.returns-clause-least
returns-clause-least c =
    (estimate_of c.args.n c.args.self.now c.self.inside.reciprocal c.from.result c.from-2.result c.self.inside.number c.self.view_is c.self.invariant (omega (arith, c.ranges.n)) c.from.ensures c.from-2.ensures).least

pub returns-clause-most : goal.returns-clause-most
returns-clause-most c =
    (estimate_of c.args.n c.args.self.now c.self.inside.reciprocal c.from.result c.from-2.result c.self.inside.number c.self.view_is c.self.invariant (omega (arith, c.ranges.n)) c.from.ensures c.from-2.ensures).most
