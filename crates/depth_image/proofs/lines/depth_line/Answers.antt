use Rattle.std.proofs.Common.{◌∙◌, ap}
use Rattle.depth_image.specs.Picture.{number_line}
use Rattle.depth_image.proofs.lines.depth_line.Goals as goal

pub returns-clause-value : goal.returns-clause-value
returns-clause-value c = c.number_line.ensures.value ∙ ap number_line c.cut_shade.ensures.value
