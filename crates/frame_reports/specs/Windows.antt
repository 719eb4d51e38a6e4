-- Windows: frames that are made side by side, each in a seat of its own.
use Rattle.std.specs.Prelude.{ℕ, ◌≡◌, ◌+◌, ◌<◌, List, length, IfSome, slice_index_or}
use Rattle.std.specs.List.{All}
use Rattle.std.specs.declared.option.Option.{Option}
use Rattle.cull_base.specs.Tiles.{ArePieces}
use Rattle.scene_reader.specs.Layout.{Parts}
use Rattle.cull_report.specs.Scene.{frame_pieces, frame_verdicts}
use Rattle.group_query.specs.declared.grouping.Group.{Group}
use Rattle.frame_reports.specs.Frames.{AreCounted}
use Rattle.frame_reports.specs.declared.frames.Beside.{Beside}
use Rattle.frame_reports.specs.declared.frames.Beside.TheVariants.{Nothing, Looks, Groups}
use Rattle.frame_reports.specs.declared.frames.Frame.{Frame}
use Rattle.frame_reports.specs.declared.frame_pool.Room.{Room}
use Rattle.frame_reports.specs.declared.frame_pool.Slot.{Slot}
use Rattle.frame_reports.specs.declared.frame_pool.Slot.TheVariants.{Waits, Made, NoMemory}

-- windows are of frames that aren't looked at
abbrev pub IsUnseen : Beside → Type 0
IsUnseen Nothing = Unit {0}
IsUnseen (Looks rounds watch) = ⊥
IsUnseen (Groups most) = Unit {0}

-- so there are none where there are looks
abbrev pub AreUnseen : Beside → ℕ → Type 0
AreUnseen Nothing count = Unit {0}
AreUnseen (Looks rounds watch) count = count ≡ 0
AreUnseen (Groups most) count = Unit {0}

-- what was drawn is a frame of a scene: so many pieces, the verdicts after all of them, and what is counted of some groups
pub record IsDrawn (s : Parts) (gs : List Group) (frame : ℕ) (drawn : Frame) : Type 0 where
  pub pieces : drawn.pieces ≡ length (frame_pieces s frame)
  pub verdicts : drawn.verdicts ≡ frame_verdicts s frame
  pub counted : AreCounted s frame gs drawn.hidden drawn.members
  pub valid : ArePieces (frame_pieces s frame)

-- so many frames from a first on: each is there, or none where memory gave out
abbrev pub AreDrawnFrom : Parts → List Group → ℕ → ℕ → List (Option Frame) → Type 0
AreDrawnFrom s gs first count frames = (k : ℕ) (d : Option Frame) → k < count → IfSome (slice_index_or frames k d) (IsDrawn s gs (first + k))

-- the seat of a frame, by its number from a first on: the frame waits, and the scene has it; it was drawn; or memory
-- gave out
abbrev pub IsSlotOf : Parts → List Group → ℕ → ℕ → Slot → Type 0
IsSlotOf s gs first k Waits = first + k < length s.cameras
IsSlotOf s gs first k (Made drawn) = IsDrawn s gs (first + k) drawn
IsSlotOf s gs first k NoMemory = Unit {0}

-- rooms with a place for each vertex
abbrev pub HasPlaces : Parts → Room → Type 0
HasPlaces s room = length room.clips.items ≡ length s.vertices

abbrev pub HavePlaces : Parts → List Room → Type 0
HavePlaces s rooms = All (HasPlaces s) rooms
