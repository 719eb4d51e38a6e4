use Rattle.pixel_forms.specs.Certified.{IsTriangle}
use Rattle.pixel_forms.proofs.Certified.{within}
use Rattle.pixel_forms.proofs.laws.triangle_certified.Goals as goal

pub returns : goal.returns
returns g sight nearest forms a b c t stand has = within sight nearest forms (IsTriangle a b c) t stand has
