use Rattle.std.proofs.Common.{sym}
use Rattle.scene_reader.proofs.Headers.{length_first, length_second}
use Rattle.scene_reader.proofs.header.header_length.Goals as goal

pub returns-then-version-eq1-clause-value : goal.returns-then-version-eq1-clause-value
returns-then-version-eq1-clause-value c = sym (length_first c.args.version c.if-version-eq1.true)

pub returns-clause-value : goal.returns-clause-value
returns-clause-value c = sym (length_second c.args.version c.if-version-eq1.false)
