-- What is counted of objects, from place to place.
use Rattle.std.specs.Prelude.{◌≡◌, ◌+◌, ◌^◌, ◌<◌}
use Rattle.cull_report.specs.declared.tally.Tally.{Tally}

-- nothing is counted
abbrev pub no_tally : Tally
no_tally = record { hidden = 0; members = 0 }

-- this lies between two tallies
pub record Adds (before between after : Tally) : Type 0 where
  pub hidden : before.hidden + between.hidden ≡ after.hidden
  pub members : before.members + between.members ≡ after.members

-- both numbers fit 32 bits
pub record IsFew (t : Tally) : Type 0 where
  pub hidden : t.hidden < 2 ^ 32
  pub members : t.members < 2 ^ 32
