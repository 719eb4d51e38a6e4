use Rattle.std.proofs.Common.{◌≡◌, ◌-◌, ◌<◌, length, inl, inr, ap, ◌∙◌, arith}
use Rattle.std.proofs.lemmas.Bool.{cases_lt}
use Rattle.masked_update.specs.TileOf.{no_tile, tile_at}
use Rattle.maskcull_c.proofs.Clearing.{fresh}
use Rattle.maskcull_c.proofs.tiles.maskcull_clear.Goals as goal

pub returns-clause-fresh : goal.returns-clause-fresh
returns-clause-fresh c size first = fresh size first c.fill.new.self (λ t lt. elim (cases_lt t (length c.args.tiles.now - 1)) [
  | inl before ↦ c.fill.ensures.clones_before_last t no_tile (omega arith) before ∙ c.empty.ensures
  | inr past ↦
      let long = c.fill.ensures.len in
      let some : 0 < length c.args.tiles.now = omega (arith, lt, long) in
      let e : t ≡ length c.args.tiles.now - 1 = omega (arith, lt, past, long) in
      ap (tile_at c.fill.new.self) e ∙ c.fill.ensures.last some no_tile ∙ c.empty.ensures
])
