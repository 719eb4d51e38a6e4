use Rattle.inward_pieces.proofs.Fans.{all_within_triangle}
use Rattle.inward_pieces.proofs.proposals.triangle_pieces.Goals as goal

pub returns-in-Some-triangle_fan-clause-within : goal.returns-in-Some-triangle_fan-clause-within
returns-in-Some-triangle_fan-clause-within c =
    all_within_triangle c.args.eye.now c.args.a.now c.args.b.now c.args.c.now c.in-Some.forms c.in-Some-triangle_fan.pieces
    c.in-Some.ensures.stand c.in-Some-triangle_fan.ensures.certified
