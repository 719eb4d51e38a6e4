use Rattle.std.proofs.Common.{◌≡◌, ◌+◌, ◌≤◌, vec_len, vec_capacity}
use Rattle.std.specs.List.{All}
use Rattle.frame_reports.specs.Windows.{HasPlaces, HavePlaces}
use Rattle.frame_reports.proofs.frame_pool.makers_of.Given as goal

abbrev pub invariant-loop-i : goal.invariant-loop-i
invariant-loop-i g l = record {
  made : vec_len l.makers ≡ l._i;
  hands_left : vec_len l.hands + l._i ≡ l.count;
  rooms_left : vec_len l.rooms + l._i ≡ l.count;
  left : HavePlaces l.scene l.rooms.items;
  places : All (λ m. HasPlaces l.scene m.room) l.makers.items;
  room : l.count ≤ vec_capacity l.makers;
  back_hands : vec_capacity l.hands ≡ vec_capacity l.fn.hands;
  back_rooms : vec_capacity l.rooms ≡ vec_capacity l.fn.rooms;
}
