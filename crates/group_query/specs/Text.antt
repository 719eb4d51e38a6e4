-- The text of groups: a line a frame.
use Rattle.std.specs.Prelude.{ℕ, List, [], ◌∷◌, length, codes}
use Rattle.std.specs.Fmt.{decimal}
use Rattle.std.specs.List.{flat_map, range_with_len}
use Rattle.cull_base.specs.declared.place.Sub.{Sub}
use Rattle.cull_base.specs.Fold.{after}
use Rattle.cull_base.specs.State.{State}
use Rattle.scene_reader.specs.Layout.{Parts}
use Rattle.text_lines.specs.Lines.{line}
use Rattle.cull_report.specs.Scene.{frame_pieces}
use Rattle.group_query.specs.Grouping.{groups_of}
use Rattle.group_query.specs.Hidden.{hidden_groups, hidden_members}

-- how many groups there are, how many of them are hidden, and how many members of these count
unfoldable pub group_line : ℕ → ℕ → ℕ → ℕ → List ℕ
group_line frame count hidden members = line (codes "groups" ∷ decimal frame ∷ codes "count" ∷ decimal count
    ∷ codes "hidden" ∷ decimal hidden ∷ codes "members" ∷ decimal members ∷ [])

-- the states after a frame's whole list
abbrev pub states_after : Parts → ℕ → Sub → State
states_after s frame u = after u (frame_pieces s frame)

-- the line of a frame, of groups of at most n, over these
abbrev pub frame_groups : Parts → ℕ → ℕ → List ℕ
frame_groups s n frame =
    let groups = groups_of s n in
    group_line frame (length groups) (hidden_groups s frame (states_after s frame) groups) (hidden_members s frame (states_after s frame) groups)

-- the line of each frame
abbrev pub group_text : Parts → ℕ → List ℕ
group_text s n = flat_map (frame_groups s n) (range_with_len 0 (length s.cameras))
