use Rattle.masked_update.proofs.Canvases.{drawn_in}
use Rattle.masked_update.proofs.window.drawn_window.Goals as goal

pub returns : goal.returns
returns c = drawn_in
