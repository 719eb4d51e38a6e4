-- What is said of a slot has at most one proof.
use Rattle.std.proofs.Common.{ℕ, List}
use Rattle.std.proofs.Props.{props}
use Rattle.scene_reader.specs.Layout.{Parts}
use Rattle.group_query.specs.declared.grouping.Group.{Group}
use Rattle.frame_reports.specs.Windows.{IsSlotOf}
use Rattle.frame_reports.specs.declared.frame_pool.Slot.{Slot}
use Rattle.frame_reports.specs.declared.frame_pool.Slot.TheVariants.{Waits, Made, NoMemory}

pub slot_once : (s : Parts) (gs : List Group) (first k : ℕ) (slot : Slot) → IsProp (IsSlotOf s gs first k slot)
slot_once s gs first k Waits = hlevel props
slot_once s gs first k (Made drawn) = hlevel props
slot_once s gs first k NoMemory = hlevel props
