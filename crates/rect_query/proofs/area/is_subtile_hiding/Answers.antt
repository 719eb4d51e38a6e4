use Rattle.std.proofs.Common.{◌<◌, arith, rules}
use Rattle.cull_base.specs.Pixels.{sample_of_pixel}
use Rattle.cull_base.proofs.HiddenObjects.{below_reference}
use Rattle.rect_query.proofs.Subtiles.{mask_to, mask_from}
use Rattle.rect_query.proofs.area.is_subtile_hiding.Goals as goal

pub returns-then-q-reference : goal.returns-then-q-reference
returns-then-q-reference c =
    let under : c.args.q < c.args.sub.now.reference = omega (arith, c.if-q-reference.true, c.reference.ensures.value) in (
      (λ t px py inside column row. below_reference c.args.sub.now (sample_of_pixel px py) c.args.q c.reference.ensures.layered under),
      (λ h. search rules),
    )

pub returns-else-q-reference : goal.returns-else-q-reference
returns-else-q-reference c = (
  (λ t. mask_to c.args.area.now c.args.sub.now c.args.column c.args.row c.samples_in.result c.args.q c.samples_in.ensures (c.hides.ensures.0 t)),
  (λ h. c.hides.ensures.1 (mask_from c.args.area.now c.args.sub.now c.args.column c.args.row c.samples_in.result c.args.q c.samples_in.ensures h)),
)
