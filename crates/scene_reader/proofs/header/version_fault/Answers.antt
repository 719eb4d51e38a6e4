use Rattle.std.proofs.Common.{refl}
use Rattle.scene_reader.proofs.Valid.{in_range, off_range}
use Rattle.scene_reader.proofs.header.version_fault.Goals as goal

pub returns-then-version-eq0-clause-value : goal.returns-then-version-eq0-clause-value
returns-then-version-eq0-clause-value c = rw (off_range c.args.version 2 c.then-version-eq0.either) refl

pub returns-clause-value : goal.returns-clause-value
returns-clause-value c = rw (in_range c.args.version 2 c.if-version-eq0.false c.if-version-gt2.false) refl
