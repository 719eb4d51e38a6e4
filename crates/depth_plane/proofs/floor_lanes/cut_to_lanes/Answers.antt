use Rattle.std.proofs.Common.{◌+◌, ◌^◌}
use Rattle.cull_base.specs.declared.nearness.TheConstants.{HELD_TOP}
use Rattle.depth_plane.proofs.FloorLanes.{eight_no_less, eight_cut}
use Rattle.depth_plane.proofs.floor_lanes.cut_to_lanes.Goals as goal

pub overflow_sub-result : goal.overflow_sub-result
overflow_sub-result c = eight_no_less (2 ^ 29 + 2 ^ 28) c.args.sums c.fits-sums.0

pub returns : goal.returns
returns c = eight_cut (2 ^ 29 + 2 ^ 28) HELD_TOP c.args.sums c.fits-sums.0
