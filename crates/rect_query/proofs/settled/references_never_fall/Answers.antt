use Rattle.rect_query.proofs.References.{references_hold}
use Rattle.rect_query.proofs.settled.references_never_fall.Goals as goal

pub returns : goal.returns
returns c = λ list tile j k l lt le. references_hold list tile j k l lt le
