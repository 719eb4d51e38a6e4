use Rattle.std.proofs.Common.{arith, ap, ◌∙◌}
use Rattle.cull_base.specs.Screen.{dimensions}
use Rattle.pixel_forms.specs.Within.{Sight}
use Rattle.maskcull_c.specs.Given.{size_of}
use Rattle.maskcull_c.specs.Lenses.{unit_of}
use Rattle.maskcull_c.proofs.Lenses.{range_meets, stands_for}
use Rattle.maskcull_c.proofs.lens.Lens.reached.Goals as goal

pub returns-clause-stands : goal.returns-clause-stands
returns-clause-stands c points zip =
    let lens = c.args.self.now in
    stands_for lens.setup lens.view (dimensions lens.eye.width lens.eye.height) c.top.result _ points c.of.result
    (ap (λ (s : Sight). s.size) lens.sight_is) (c.top.ensures.value ∙ ap (λ (s : Sight). s.top) lens.sight_is) (ap (λ (s : Sight). s.near) lens.sight_is)
    (c.of.ensures.says (unit_of lens) points zip)

pub returns-clause-meets : goal.returns-clause-meets
returns-clause-meets c =
    let lens = c.args.self.now in
    let size = ap (λ (s : Sight). s.size) lens.sight_is in
    let wide = ap (λ d. d.width) size in
    let high = ap (λ d. d.height) size in
    let allowed = lens.allowed in
    let within = allowed.within_width in let below = allowed.within_height in
    range_meets (dimensions lens.eye.width lens.eye.height) (size_of lens.setup) c.top.result c.of.result (omega (arith, wide, within)) (omega (arith, high, below)) c.of.ensures.in_range
