use Rattle.std.proofs.Common.{sym, []}
use Rattle.scene_reader.proofs.Headers.{at_first, at_second}
use Rattle.scene_reader.proofs.writing.stored_batches.Goals as goal

pub returns-then-version-eq1 : goal.returns-then-version-eq1
returns-then-version-eq1 c = sym (at_first c.args.version [] c.args.batches.now c.if-version-eq1.true)

pub returns : goal.returns
returns c = sym (at_second c.args.version [] c.args.batches.now c.if-version-eq1.false)
