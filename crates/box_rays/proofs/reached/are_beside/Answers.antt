use Rattle.std.proofs.Common.{◌≡◌, ◌∙◌, true, sym}
use Rattle.cull_base.specs.Screen.{dimensions}
use Rattle.box_rays.specs.Objects.{IsBeside}
use Rattle.box_rays.proofs.Objects.{beside_left, beside_right, beside_above, beside_below, beside_behind}
use Rattle.box_rays.proofs.reached.are_beside.Goals as goal
use Rattle.box_rays.proofs.reached.are_beside.Goals.{then-has_all, else-has_all, then-has_all-2, else-has_all-2, then-has_all-3, else-has_all-3}

pub returns-then-has_all-4 : goal.returns-then-has_all-4
returns-then-has_all-4 c =
    let size = dimensions c.args.width c.args.height in
    λ is unit points held.
    let first : c.if-has_all.value ≡ true → IsBeside size points = elim c.if-has_all.branch [
      | then-has_all w ↦ λ e. beside_left size c.left_of.result points c.left_of.ensures.left (c.has_all.ensures w.if-has_all.true unit points held)
      | else-has_all w ↦ λ e. beside_right size w.right_of.result points w.right_of.ensures.right (w.has_all-else-has_all.ensures (sym w.value-is ∙ e) unit points held)
    ] in
    let second : c.if-has_all-2.value ≡ true → IsBeside size points = elim c.if-has_all-2.branch [
      | then-has_all-2 w ↦ λ e. first w.if-has_all-2.true
      | else-has_all-2 w ↦ λ e. beside_above size w.above.result points w.above.ensures.above (w.has_all-else-has_all-2.ensures (sym w.value-is ∙ e) unit points held)
    ] in
    let third : c.if-has_all-3.value ≡ true → IsBeside size points = elim c.if-has_all-3.branch [
      | then-has_all-3 w ↦ λ e. second w.if-has_all-3.true
      | else-has_all-3 w ↦ λ e. beside_below size w.below.result points w.below.ensures.below (w.has_all-else-has_all-3.ensures (sym w.value-is ∙ e) unit points held)
    ] in
    third is

pub returns-else-has_all-4 : goal.returns-else-has_all-4
returns-else-has_all-4 c =
    λ is unit points held.
    beside_behind (dimensions c.args.width c.args.height) c.behind.result points c.behind.ensures.behind (c.has_all-else-has_all-4.ensures is unit points held)
