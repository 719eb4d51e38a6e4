-- Each grade's top is one that pieces hold.
use Rattle.std.proofs.Common.{◌≤◌, arith}
use Rattle.cull_base.specs.declared.nearness.Grade.{Grade}
use Rattle.cull_base.specs.declared.nearness.Grade.TheVariants.{Narrow, Wide}
use Rattle.cull_base.specs.declared.nearness.TheConstants.{HELD_TOP}
use Rattle.cull_base.specs.Grade.{top_of}

pub top_held : (grade : Grade) → top_of grade ≤ HELD_TOP
top_held Narrow = omega arith
top_held Wide = omega arith
