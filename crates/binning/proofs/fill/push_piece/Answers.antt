use Rattle.std.proofs.Common.{◌≡◌, ◌<◌, ℕ, List, length, subst}
use Rattle.std.proofs.lemmas.Result.{on_ok_weaker}
use Rattle.cull_base.specs.Piece.{box_of}
use Rattle.cull_base.specs.declared.rect.Rect.{Rect}
use Rattle.binning.specs.Cut.{bin_count_of}
use Rattle.binning.specs.Grid.{CutScreen}
use Rattle.binning.specs.Parts.{PartOf}
use Rattle.binning.specs.Pushed.{PushedWhere, is_met, is_reached}
use Rattle.binning.specs.declared.grid.Reach.{Reach}
use Rattle.binning.proofs.Pushed.{same_pushed}
use Rattle.binning.proofs.fill.push_piece.Goals as goal

-- the bins that are reached are those that the box meets
where_met : (screen : CutScreen) (reach : Reach) (box : Rect) (index : ℕ) (parts new : List PartOf) → length parts ≡ bin_count_of screen.cut
    → ((b : ℕ) → b < bin_count_of screen.cut → is_reached screen reach b ≡ is_met screen box b) → PushedWhere (is_reached screen reach) index parts new → PushedWhere (is_met screen box) index parts new
where_met screen reach box index parts new many same = same_pushed (is_reached screen reach) (is_met screen box) index parts new (λ b lt. same b (subst (λ n. b < n) many lt))

pub returns-then-is_one : goal.returns-then-is_one
returns-then-is_one c =
    on_ok_weaker c.push_in_one.result
    (where_met c.args.grid.now c.reached-reach.result (box_of c.args.tri.now) c.args.index c.args.parts.now c.push_in_one.new.parts c.requires.parts c.reached-reach.ensures.bins) c.push_in_one.ensures

pub returns-else-is_one : goal.returns-else-is_one
returns-else-is_one c =
    on_ok_weaker c.push_in_rows.result
    (where_met c.args.grid.now c.reached-reach.result (box_of c.args.tri.now) c.args.index c.args.parts.now c.push_in_rows.new.parts c.requires.parts c.reached-reach.ensures.bins) c.push_in_rows.ensures
