use Rattle.std.proofs.Common.{subst}
use Rattle.frame_reports.specs.Frames.{HasMembers}
use Rattle.frame_reports.proofs.frames.groups_beside.Goals as goal

pub groups-requires : goal.groups-requires
groups-requires c = subst HasMembers c.in-Groups.is c.requires
