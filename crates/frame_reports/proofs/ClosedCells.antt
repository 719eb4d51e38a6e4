-- The tiles of cells that are closed after a whole list.
use Rattle.std.proofs.Common.{◌≡◌, ◌<◌, List, [], ◌∷◌, length, arith, ap, ◌∙◌}
use Rattle.std.proofs.Math.Seq.{take-length}
use Rattle.atomic_table.specs.Seated.{TableId}
use Rattle.cull_base.specs.Piece.{Piece}
use Rattle.cull_base.specs.Screen.{IsSize, tile_count_of}
use Rattle.cull_base.specs.Tiles.{PieceList, ArePieces, tile_list, tile_after}
use Rattle.masked_update.specs.Canvas.{own_tile}
use Rattle.masked_update.specs.Taken.{standing_at}
use Rattle.masked_update.specs.TileOf.{TileOf, tile_at}
use Rattle.masked_update.proofs.TileLists.{drawn_of, tile_with}
use Rattle.tile_cells.specs.Cells.{Writing, AreClosed}
use Rattle.tile_cells.specs.Standing.{AreStanding, rank}
use Rattle.tile_queues.specs.Frames.{HaveStates}

some_of : (ws : List Writing) → 0 < length ws → Writing
some_of [] lt = absurd (omega arith)
some_of (w ∷ ws) lt = w

-- the tiles that the cells hold when their writers stand at the whole list
pub closed_have : (cells : List TableId) (list : PieceList) (ws : List Writing) (tiles : List TileOf) → IsSize list.size.width list.size.height → ArePieces list.members → length cells ≡ tile_count_of list.size
    → AreStanding cells list (length list.members) ws → AreClosed (length cells) ws tiles → HaveStates list tiles
closed_have cells list ws tiles sized pieces whole standing states t lt =
    let own = tile_list t list in
    let below : t < length cells = omega (arith, lt, whole) in
    let same = standing.whole in
    let d = some_of ws (omega (arith, below, same)) in
    let at = standing.each t d below in
    let ranked : rank t list (length list.members) ≡ length own = ap (λ (ms : List Piece). length (tile_list t (record { size = list.size; members = ms }))) (take-length list.members) in
    let all : standing_at t (length own) list ≡ own_tile list t = ap (λ (ps : List Piece). tile_with (tile_after list.size t ps) (length own)) (take-length own) in
    (drawn_of list t (tile_at tiles t) (states t d below ∙ (λ i. standing_at t ((at.count ∙ ranked) i) (at.list_is i)) ∙ all) pieces (λ some. sized)).states
