use Rattle.exact_clip.proofs.Reach.{three_true}
use Rattle.exact_clip.proofs.rows.Rows.is_in_reach.Goals as goal

pub returns : goal.returns
returns c = three_true c.reaches.result c.reaches-2.result c.reaches-3.result _ _ _ c.reaches.ensures c.reaches-2.ensures c.reaches-3.ensures
