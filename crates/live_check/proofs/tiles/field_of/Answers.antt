use Rattle.std.proofs.Common.{ℕ, List, [], ◌∷◌, ◌++◌, length, arith, ap, ◌∙◌}
use Rattle.std.specs.Fmt.{decimal}
use Rattle.live_check.proofs.tiles.field_of.Goals as goal

pub number-requires : goal.number-requires
number-requires c = omega (arith, ap length c.empty-text.ensures)

pub push-requires : goal.push-requires
push-requires c = omega (arith, c.number.ensures.room, ap length c.empty-text.ensures)

pub returns : goal.returns
returns c = c.push.ensures ∙ ap (λ (t : List ℕ). t ++ (58 ∷ [])) (c.number.ensures.value ∙ ap (λ (t : List ℕ). t ++ (32 ∷ decimal c.from.result)) c.empty-text.ensures) ∙ ap (λ (n : ℕ). (32 ∷ decimal n) ++ (58 ∷ [])) c.from.ensures
