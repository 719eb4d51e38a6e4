use Rattle.std.proofs.Common.{◌<◌, ◌*◌, ◌+◌, ◌/◌, ◌%◌, ℕ, arith, rules}
use Rattle.cull_base.specs.Pixels.{sample_of_pixel}
use Rattle.cull_base.proofs.HiddenObjects.{below_reference}
use Rattle.masked_update.specs.TileOf.{sub_at}
use Rattle.rect_query.proofs.area.is_tile_hiding.Goals as goal

of_eight : (px py : ℕ) → 4 * (py / 4 % 2) + px / 8 % 4 < 8
of_eight px py = omega arith

pub returns-then-q-least_reference : goal.returns-then-q-least_reference
returns-then-q-least_reference g c = (
  (λ t px py inside column row.
      let j = 4 * (py / 4 % 2) + px / 8 % 4 in
      let lt = of_eight px py in
      let le = c.least_reference.ensures.least j lt in
      below_reference (sub_at (g.V.TileView.tile_of c.args.view.now c.args.tile) j) (sample_of_pixel px py) c.args.q (c.least_reference.ensures.layered j lt) (omega (arith, le, c.if-q-least_reference.true))),
  (λ h. search rules),
)
