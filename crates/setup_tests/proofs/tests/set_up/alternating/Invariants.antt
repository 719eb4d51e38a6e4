use Rattle.std.proofs.Common.{◌≡◌, ◌*◌, ◌≤◌, length, vec_capacity}
use Rattle.std.specs.List.{All}
use Rattle.snap_setup.specs.Pieces.{HasClips}
use Rattle.setup_tests.proofs.tests.set_up.alternating.Given as goal

abbrev pub invariant-loop : goal.invariant-loop
invariant-loop l = record {
  made : length l.tris.items ≡ 2 * l.counter;
  indices : All (HasClips 4) l.tris.items;
  room : 2500 ≤ vec_capacity l.tris;
}
