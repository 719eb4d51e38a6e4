use Rattle.std.proofs.Common.{arith}
use Rattle.masked_update.proofs.Hiding.{hides_both, hides_not}
use Rattle.masked_update.proofs.sub_tile.SubTile.hides.Goals as goal

pub returns-then-is_hidden_by : goal.returns-then-is_hidden_by
returns-then-is_hidden_by c =
    hides_both c.self.inside.reference c.self.inside.working c.self.inside.mask c.args.samples c.args.q c.args.self.now c.is_hidden_by-then-is_hidden_by.result
    c.self.view_is (omega (arith, c.self.invariant.not_full)) (c.is_hidden_by.ensures.0 c.if-is_hidden_by.true) c.is_hidden_by-then-is_hidden_by.ensures

pub returns-else-is_hidden_by : goal.returns-else-is_hidden_by
returns-else-is_hidden_by c =
    hides_not c.self.inside.reference c.self.inside.working c.self.inside.mask c.args.samples c.args.q c.args.self.now c.is_hidden_by.result
    c.self.view_is c.is_hidden_by.ensures c.if-is_hidden_by.false
