use Rattle.std.proofs.Common.{◌∙◌, ap}
use Rattle.cull_base.specs.Rectangle.{meets}
use Rattle.cull_base.specs.declared.rect.Rect.{Rect}
use Rattle.bin_tiles.proofs.meeting.is_met.Goals as goal

pub returns : goal.returns
returns c = c.meets_in_lanes.ensures ∙ ap (λ (b : Rect). meets b c.args.rect.now) c.boxed.ensures
