use Rattle.cull_base.specs.Screen.{dimensions}
use Rattle.box_rays.proofs.Objects.{reached}
use Rattle.box_rays.proofs.reached.is_certain.Goals as goal

pub returns : goal.returns
returns c =
    λ is unit points held.
    reached (dimensions c.args.width c.args.height) c.args.rect.now c.of.result points c.of.ensures.frames (c.has_all.ensures is unit points held)
