use Rattle.masked_update.proofs.Canvases.{stands_on}
use Rattle.masked_update.proofs.window.missing_members.Goals as goal

pub returns : goal.returns
returns c = stands_on
