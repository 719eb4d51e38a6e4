use Rattle.std.proofs.Common.{refl}
use Rattle.edge_lanes.proofs.Reciprocals.{estimate}
use Rattle.edge_lanes.proofs.reciprocal.Reciprocal.guess.Goals as goal

pub returns-clause-least : goal.returns-clause-least
returns-clause-least c = let e = c.args.self.now in (estimate c.args.n e.number e.reciprocal c.from.result c.from-2.result _ c.requires e.is_reciprocal c.from.ensures c.from-2.ensures refl).least

pub returns-clause-most : goal.returns-clause-most
returns-clause-most c = let e = c.args.self.now in (estimate c.args.n e.number e.reciprocal c.from.result c.from-2.result _ c.requires e.is_reciprocal c.from.ensures c.from-2.ensures refl).most
