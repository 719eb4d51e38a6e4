use Rattle.std.proofs.Common.{◌≡◌, ◌<◌, ℕ, arith, sym, subst}
use Rattle.masked_update.specs.Least.{NoneBelow}
use Rattle.masked_update.proofs.Merging.{merged_behind}
use Rattle.masked_update.proofs.tile_state.TileState.merge_bare.Goals as goal

-- a tile whose references are all as near
pub returns-then-near-least : goal.returns-then-near-least
returns-then-near-least c =
    let near = c.greatest_nearness-near.ensures in
    let behind : NoneBelow c.greatest_nearness-near.result c.args.self.now = record {
      eight = c.sub-first.ensures.eight;
      behind = λ j lt. let least = c.least_reference-least.ensures.least j lt in let le = c.if-near-least.true in omega (arith, least, le);
    } in
    sym (merged_behind c.args.size c.args.place c.args.tri.now c.args.self.now near.valid (subst (λ (q : ℕ). NoneBelow q c.args.self.now) near.value behind))
