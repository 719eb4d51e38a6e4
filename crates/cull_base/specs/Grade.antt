-- The tops of the two grades of nearness.
use Rattle.std.specs.Prelude.{ℕ}
use Rattle.cull_base.specs.declared.nearness.Grade.{Grade}
use Rattle.cull_base.specs.declared.nearness.Grade.TheVariants.{Narrow, Wide}

-- the nearness of the near distance, the greatest that there is
abbrev pub top_of : Grade → ℕ
top_of Narrow = 65535
top_of Wide = 16777215
