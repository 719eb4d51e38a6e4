-- What is written of the frames of a scene, the lines of the report or those of the summary, and what is noted beside.
use Rattle.std.specs.Coded.{Unit-prop, le_prop}
use Rattle.std.specs.Prelude.{ℕ, ◌≡◌, ◌≤◌, List, [], length, Option, Some, None}
use Rattle.cull_base.specs.declared.scene_types.Verdict.{Verdict}
use Rattle.scene_reader.specs.Layout.{Parts}
use Rattle.cull_report.specs.Live.{IsRisingIn, LiveLineOf, frame_live}
use Rattle.cull_report.specs.Scene.{frame_pieces, frame_verdicts}
use Rattle.cull_report.specs.Text.{frame_text}
use Rattle.group_query.specs.Grouping.{groups_of}
use Rattle.group_query.specs.Hidden.{hidden_groups, hidden_members}
use Rattle.group_query.specs.Text.{frame_groups, states_after}
use Rattle.group_query.specs.declared.grouping.Group.{Group}
use Rattle.frame_reports.specs.LiveFrames.{AreLive}
use Rattle.frame_reports.specs.SummaryLine.{summary_line}
use Rattle.frame_reports.specs.declared.frames.Beside.{Beside}
use Rattle.frame_reports.specs.declared.frames.Beside.TheVariants.{Nothing, Looks, Groups}
use Rattle.frame_reports.specs.declared.frames.FrameLines.{FrameLines}
use Rattle.frame_reports.specs.declared.frames.FrameLines.TheVariants.{Report, Summary}

-- a frame's lines, by its pieces and its verdicts
abbrev pub lines_by : FrameLines → ℕ → ℕ → List Verdict → List ℕ
lines_by Report frame pieces verdicts = frame_text frame pieces verdicts
lines_by Summary frame pieces verdicts = summary_line frame pieces verdicts

abbrev pub lines_of : FrameLines → Parts → ℕ → List ℕ
lines_of lines s frame = lines_by lines frame (length (frame_pieces s frame)) (frame_verdicts s frame)

-- how many rounds of looks there are, and at how many objects
abbrev pub rounds_of : Beside → ℕ
rounds_of Nothing = 0
rounds_of (Looks rounds watch) = rounds
rounds_of (Groups most) = 0

abbrev pub watch_of : Beside → ℕ
watch_of Nothing = 0
watch_of (Looks rounds watch) = watch
watch_of (Groups most) = 0

-- what is noted where boxes are taken in groups, or not
abbrev pub beside_of : Option ℕ → Beside
beside_of None = Nothing
beside_of (Some most) = Groups most

-- a group may have a member
abbrev pub HasMembers : Beside → Type 0
HasMembers Nothing = Unit {0}
HasMembers (Looks rounds watch) = Unit {0}
HasMembers (Groups most) = 1 ≤ most

pub HasMembers-prop : (beside : Beside) → IsProp (HasMembers beside)
HasMembers-prop Nothing = Unit-prop
HasMembers-prop (Looks rounds watch) = Unit-prop
HasMembers-prop (Groups most) = le_prop

-- the groups whose line is noted
abbrev pub groups_beside : Beside → Parts → List Group
groups_beside Nothing s = []
groups_beside (Looks rounds watch) s = []
groups_beside (Groups most) s = groups_of s most

-- so many of some groups are hidden after a frame's whole list, and so many members of these count
pub record AreCounted (s : Parts) (frame : ℕ) (groups : List Group) (hidden members : ℕ) : Type 0 where
  pub hidden_are : hidden ≡ hidden_groups s frame (states_after s frame) groups
  pub members_are : members ≡ hidden_members s frame (states_after s frame) groups

-- what is noted of a frame: where it is looked at its live lines, by their counts, which rise; of groups their line
abbrev pub noted_of : Beside → Parts → (ℕ → ℕ → ℕ → ℕ) → ℕ → List ℕ
noted_of Nothing s counts frame = []
noted_of (Looks rounds watch) s counts frame = frame_live s rounds watch counts frame
noted_of (Groups most) s counts frame = frame_groups s most frame

abbrev pub IsRisingBeside : Beside → Parts → ℕ → (ℕ → ℕ → ℕ → ℕ) → Type 0
IsRisingBeside Nothing s frame counts = Unit {0}
IsRisingBeside (Looks rounds watch) s frame counts = IsRisingIn s rounds watch frame counts
IsRisingBeside (Groups most) s frame counts = Unit {0}

-- the lines of looks to note of a frame, if there are
abbrev pub AreSeen : Beside → Parts → ℕ → List LiveLineOf → Type 0
AreSeen Nothing s frame lines = Unit {0}
AreSeen (Looks rounds watch) s frame lines = AreLive s rounds watch frame lines
AreSeen (Groups most) s frame lines = Unit {0}
