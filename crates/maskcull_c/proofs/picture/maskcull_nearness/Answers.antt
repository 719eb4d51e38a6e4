use Rattle.std.proofs.Common.{sym, subst}
use Rattle.cull_base.specs.Screen.{Dimensions}
use Rattle.maskcull_c.specs.Picture.{IsBeside}
use Rattle.maskcull_c.proofs.picture.maskcull_nearness.Goals as goal

pub returns-clause-beside : goal.returns-clause-beside
returns-clause-beside c i off = c.draw_rows.ensures.beside i (subst (λ (s : Dimensions). IsBeside s c.args.row_stride i) (sym c.in-Some.ensures.size) off)
