use Rattle.depth_image.proofs.Numbers.{shade_fits}
use Rattle.depth_image.proofs.laws.shades_fit.Goals as goal

pub returns : goal.returns
returns c = λ grade bound le. shade_fits grade bound le
