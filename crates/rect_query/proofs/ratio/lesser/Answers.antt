use Rattle.rect_query.proofs.Rising.{lesser_first, lesser_second}
use Rattle.rect_query.proofs.ratio.lesser.Goals as goal

pub returns-then-is_less-clause-place : goal.returns-then-is_less-clause-place
returns-then-is_less-clause-place c = lesser_second c.args.near.distance c.args.a c.args.b c.is_less.result c.args.near.least c.requires.a c.requires.b c.is_less.ensures c.if-is_less.true

pub returns-else-is_less-clause-place : goal.returns-else-is_less-clause-place
returns-else-is_less-clause-place c = lesser_first c.args.near.distance c.args.a c.args.b c.is_less.result c.args.near.least c.requires.a c.requires.b c.is_less.ensures c.if-is_less.false
