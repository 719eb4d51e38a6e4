use Rattle.inward_pieces.proofs.Fans.{all_within_quad}
use Rattle.inward_pieces.proofs.proposals.quad_pieces.Goals as goal

pub returns-else-is_empty-clause-within : goal.returns-else-is_empty-clause-within
returns-else-is_empty-clause-within c =
    all_within_quad c.args.eye.now c.args.a.now c.args.b.now c.args.c.now c.args.d.now c.in-Some.forms c.in-Some-quad_fan.pieces
    c.in-Some.ensures.stand c.in-Some-quad_fan.ensures
