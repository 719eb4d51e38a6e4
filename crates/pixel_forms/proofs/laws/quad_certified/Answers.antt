use Rattle.pixel_forms.specs.Certified.{IsHalf}
use Rattle.pixel_forms.proofs.Certified.{within}
use Rattle.pixel_forms.proofs.laws.quad_certified.Goals as goal

pub returns : goal.returns
returns g sight nearest forms a b c d t stand has = within sight nearest forms (IsHalf a b c d) t stand has
