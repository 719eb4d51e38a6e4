use Rattle.masked_update.proofs.Wanting.{all_of}
use Rattle.masked_update.proofs.piece_setup.PieceDepths.subtiles_on_screen.Goals as goal

pub returns-then-is_inner-clause-wanted : goal.returns-then-is_inner-clause-wanted
returns-then-is_inner-clause-wanted c subs =
    let (column, row) = c.requires.inner c.if-is_inner.true in
    all_of c.args.reached.now.size c.args.place c.args.self.now subs column row
