use Rattle.std.proofs.Common.{◌≡◌, ℕ, ◌<◌, true, get_or}
use Rattle.cull_base.specs.Rectangle.{meets}
use Rattle.cull_base.specs.declared.rect.Rect.{Rect}
use Rattle.binning.specs.Rooms.{RoomOf}
use Rattle.binning.proofs.around.rect_around.Given as goal

abbrev pub invariant-loop-room : goal.invariant-loop-room
invariant-loop-room l = (j : ℕ) (r : RoomOf) (box : Rect) → j < l.room-index → meets box (get_or l.rooms j r).rect ≡ true → meets box l.around ≡ true
