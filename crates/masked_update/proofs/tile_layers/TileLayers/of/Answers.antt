use Rattle.std.proofs.Common.{rules, ◌≡◌, ◌∙◌, length, sym, arith}
use Rattle.std.proofs.lemmas.List.{ext_get_or}
use Rattle.cull_base.specs.State.{empty_state}
use Rattle.masked_update.proofs.tile_layers.TileLayers.of.Goals as goal

pub returns : goal.returns
returns c =
    let eight : length c.args.subs.now ≡ 8 = search rules in
    let all = c.loop-j.invariant.eight in
    ext_get_or empty_state c.loop-j.layers c.args.subs.now (all ∙ sym eight) (λ k h. c.loop-j.invariant.same k (omega (arith, h, all, c.loop-j-test.false)))
