-- Windows are of frames that aren't looked at.
use Rattle.std.proofs.Common.{◌≡◌, ℕ, []}
use Rattle.scene_reader.specs.Layout.{Parts}
use Rattle.frame_reports.specs.Frames.{AreSeen}
use Rattle.frame_reports.specs.Windows.{AreUnseen, IsUnseen}
use Rattle.frame_reports.specs.declared.frames.Beside.{Beside}
use Rattle.frame_reports.specs.declared.frames.Beside.TheVariants.{Nothing, Looks, Groups}

-- no line of a look is to note of such a frame
pub none_seen : (beside : Beside) (s : Parts) (frame : ℕ) → IsUnseen beside → AreSeen beside s frame []
none_seen Nothing s frame unseen = tt
none_seen (Looks rounds watch) s frame unseen = absurd unseen
none_seen (Groups most) s frame unseen = tt

pub unseen_if : (beside : Beside) (count : ℕ) → AreUnseen beside count → (count ≡ 0 → ⊥) → IsUnseen beside
unseen_if Nothing count are some = tt
unseen_if (Looks rounds watch) count are some = absurd (some are)
unseen_if (Groups most) count are some = tt
