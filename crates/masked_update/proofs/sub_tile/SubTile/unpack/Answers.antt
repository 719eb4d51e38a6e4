use Rattle.std.proofs.Common.{Some, refl, sym, ap, ◌∙◌, arith}
use Rattle.std.proofs.lemmas.Bool.{both_ways}
use Rattle.std.proofs.lemmas.Nat.{and_mask}
use Rattle.masked_update.proofs.Packed.{layers_are, packed_of_fields, only_state, only_layers}
use Rattle.masked_update.proofs.sub_tile.SubTile.unpack.Goals as goal

pub returns-then-are_layers-clause-value : goal.returns-then-are_layers-clause-value
returns-then-are_layers-clause-value c =
    let low = and_mask c.args.layers 24 in (
      layers_are _ _ _ _ (sym c.of_layers.ensures) (c.are_layers.ensures.0 c.if-are_layers.true),
      packed_of_fields c.args.layers c.args.mask c.of_layers.result (omega (arith, c.ranges.mask)) (c.of_layers.ensures ∙ rw low),
    )

pub returns-then-are_layers-clause-back : goal.returns-then-are_layers-clause-back
returns-then-are_layers-clause-back c s is e =
    ap Some (c.of_layers.ensures ∙ only_state c.args.layers c.args.mask _ _ s (and_mask c.args.layers 24) refl is e)

pub returns-else-are_layers-clause-value : goal.returns-else-are_layers-clause-value
returns-else-are_layers-clause-value c s is e =
    let layers = c.are_layers.ensures.1 (only_layers c.args.layers c.args.mask _ _ s (and_mask c.args.layers 24) refl is e) in
    both_ways c.are_layers.result c.if-are_layers.false layers

pub returns-else-are_layers-clause-back : goal.returns-else-are_layers-clause-back
returns-else-are_layers-clause-back c s is e = absurd (returns-else-are_layers-clause-value c s is e)
