-- The line of a frame's groups, and the groups themselves.
use Rattle.std.proofs.Common.{◌≡◌, ℕ, List, [], length, arith, ap, ◌∙◌, sym, subst, Result, Ok, Err}
use Rattle.std.specs.Prelude.{IfOk}
use Rattle.cull_base.specs.declared.memory.Memory.{Memory}
use Rattle.cull_base.specs.declared.place.Sub.{Sub}
use Rattle.cull_base.specs.State.{State}
use Rattle.scene_reader.specs.Layout.{Parts}
use Rattle.masked_update.specs.TileOf.{TileOf}
use Rattle.masked_update.specs.Views.{state_in}
use Rattle.cull_report.proofs.TileStates.{drawn_agrees}
use Rattle.cull_report.specs.Scene.{frame_pieces, frame_verdicts, size_of}
use Rattle.group_query.specs.Grouping.{AreApart, groups_of}
use Rattle.group_query.specs.Hidden.{IsReported, hidden_groups, hidden_members}
use Rattle.group_query.specs.Text.{frame_groups, group_line, states_after}
use Rattle.group_query.specs.declared.grouping.Group.{Group}
use Rattle.group_query.specs.declared.report.GroupReport.{GroupReport}
use Rattle.group_query.proofs.CountsAlike.{hidden_alike, members_alike}
use Rattle.group_query.proofs.InOrder.{apart_from, groups_apart}
use Rattle.frame_reports.specs.DrawnFrames.{TookFrame}
use Rattle.frame_reports.specs.Frames.{AreCounted, HasMembers, groups_beside}
use Rattle.frame_reports.specs.declared.frames.Beside.{Beside}
use Rattle.frame_reports.specs.declared.frames.Beside.TheVariants.{Nothing, Looks, Groups}
use Rattle.frame_reports.proofs.Marks.{verdicts_over_frame}

none_apart : (n : ℕ) → AreApart n []
none_apart n = apart_from 0 n [] (omega arith)

-- the groups whose line is noted are in order
beside_apart : (beside : Beside) (s : Parts) → HasMembers beside → AreApart (length s.objects) (groups_beside beside s)
beside_apart Nothing s some = none_apart (length s.objects)
beside_apart (Looks rounds watch) s some = none_apart (length s.objects)
beside_apart (Groups most) s some = groups_apart most s.objects some

pub groups_are_apart : (beside : Beside) (s : Parts) (gs : List Group) → HasMembers beside → gs ≡ groups_beside beside s → AreApart (length s.objects) gs
groups_are_apart beside s gs some is = subst (λ (xs : List Group). AreApart (length s.objects) xs) (sym is) (beside_apart beside s some)

-- what is reported over tiles that took the frame's list: the verdicts are the frame's
pub framed_by : (s : Parts) (frame : ℕ) (tile_of : ℕ → TileOf) (gs : List Group) (r : Result GroupReport Memory) → TookFrame s frame tile_of → IfOk r (IsReported s frame tile_of gs)
    → IfOk r (λ v. v.frame ≡ frame_verdicts s frame)
framed_by s frame tile_of gs (Ok v) took is = is.verdicts ∙ verdicts_over_frame s frame tile_of took
framed_by s frame tile_of gs (Err x) took is = tt

-- and so is what was counted
pub counted_by : (s : Parts) (frame : ℕ) (tile_of : ℕ → TileOf) (gs : List Group) (r : Result GroupReport Memory) → TookFrame s frame tile_of → IfOk r (IsReported s frame tile_of gs)
    → IfOk r (λ v. AreCounted s frame gs v.hidden v.members)
counted_by s frame tile_of gs (Ok v) took is =
    let held : Sub → State = state_in (size_of s) tile_of in
    let same = drawn_agrees (size_of s) (frame_pieces s frame) tile_of took in
    record { hidden_are = is.hidden ∙ hidden_alike s frame held (states_after s frame) gs same; members_are = is.members ∙ members_alike s frame held (states_after s frame) gs same }
counted_by s frame tile_of gs (Err x) took is = tt

-- a line of what was counted is the frame's
pub line_is : (s : Parts) (frame most hidden members : ℕ) (gs : List Group) → gs ≡ groups_of s most → AreCounted s frame gs hidden members → group_line frame (length gs) hidden members ≡ frame_groups s most frame
line_is s frame most hidden members gs is counted =
    ap (λ (n : ℕ). group_line frame (length gs) n members) counted.hidden_are ∙ ap (λ (n : ℕ). group_line frame (length gs) (hidden_groups s frame (states_after s frame) gs) n) counted.members_are
    ∙ ap (λ (xs : List Group). group_line frame (length xs) (hidden_groups s frame (states_after s frame) xs) (hidden_members s frame (states_after s frame) xs)) is
