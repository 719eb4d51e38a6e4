use Rattle.std.proofs.Common.{◌≤◌, length}
use Rattle.std.specs.List.{All}
use Rattle.inward_pieces.specs.Fans.{IsCorner, HasCorners}
use Rattle.inward_pieces.proofs.fan.fan.Given as goal

abbrev pub invariant-loop-spot : goal.invariant-loop-spot
invariant-loop-spot l = record {
  before : IsCorner l.eye l.forms l.before;
  pieces : All (HasCorners l.eye l.forms) l.pieces;
  few : length l.pieces ≤ l.spot-index;
}
