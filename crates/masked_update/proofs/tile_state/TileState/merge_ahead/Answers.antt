use Rattle.std.proofs.Common.{◌≡◌, ◌+◌, ◌<◌, ℕ, arith, sym, subst}
use Rattle.masked_update.specs.Least.{NoneBelow}
use Rattle.masked_update.specs.Merged.{CoversNone}
use Rattle.masked_update.proofs.Covering.{covers_none}
use Rattle.masked_update.proofs.Merging.{merged_behind, merged_uncovered}
use Rattle.masked_update.proofs.Tiles.{tile_with}
use Rattle.masked_update.proofs.tile_state.TileState.merge_ahead.Goals as goal

-- a tile that isn't ahead
pub returns-then-ahead-eq0 : goal.returns-then-ahead-eq0
returns-then-ahead-eq0 c =
    let x = c.args.piece.now in
    let place = c.args.place in
    let size = c.args.reached.now.size in
    let column : c.from.result ≡ place.column = c.from.ensures in
    let within : c.from.result + 0 < 64 = omega (arith, column, c.requires.column, c.tile_columns-columns.ensures.value, c.tile_columns-columns.ensures.small) in
    let small : place.row < 256 = omega (arith, c.requires.row, c.tile_rows-rows.ensures.value, c.tile_rows-rows.ensures.small) in
    let none = covers_none c.args.over.now place.row x c.from.result c.ahead-ahead.result 0 c.requires.over small c.ahead-ahead.ensures.clear (omega arith) within (omega (arith, c.if-ahead-eq0.true)) in
    let same : c.from.result + 0 ≡ place.column = omega (arith, column) in
    sym (merged_uncovered size place x c.args.self.now c.sub-first.ensures.eight (subst (λ (n : ℕ). CoversNone x (tile_with n place.row)) same none))

-- a tile whose references are all as near
pub returns-then-nearest-least : goal.returns-then-nearest-least
returns-then-nearest-least c =
    let x = c.args.piece.now in
    let near = c.nearest-nearest.ensures in
    let behind : NoneBelow c.nearest-nearest.result c.args.self.now = record {
      eight = c.sub-first.ensures.eight;
      behind = λ j lt. let least = c.least_reference-least.ensures.least j lt in let le = c.if-nearest-least.true in omega (arith, least, le);
    } in
    sym (merged_behind c.args.reached.now.size c.args.place x c.args.self.now near.valid (subst (λ (q : ℕ). NoneBelow q c.args.self.now) near.value behind))
