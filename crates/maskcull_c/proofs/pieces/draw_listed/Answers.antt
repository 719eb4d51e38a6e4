use Rattle.std.proofs.Common.{◌≡◌, ◌+◌, List, [], ◌∷◌, ◌++◌, take, arith, ap, ◌∙◌, sym, subst}
use Rattle.std.proofs.lemmas.List.{take_all, take_more}
use Rattle.cull_base.specs.Piece.{Piece}
use Rattle.maskcull_c.specs.Bands.{AreMerged, first_in}
use Rattle.maskcull_c.proofs.Bands.{merged_more}
use Rattle.maskcull_c.proofs.Merged.{merged_none}
use Rattle.maskcull_c.proofs.pieces.draw_listed.Goals as goal

pub loop-piece-init : goal.loop-piece-init
loop-piece-init c = merged_none c.args.size (first_in c.args.size c.args.window) c.args.tiles.now

pub loop-piece-preserved : goal.loop-piece-preserved
loop-piece-preserved c =
    let all = c.args.pieces.now in let k = c.loop-piece.piece-index in let x = c.tri.result in
    let more : take k all ++ x ∷ [] ≡ take (k + 1) all =
    ap (λ y. take k all ++ y ∷ []) (c.tri.ensures ∙ c.piece-item.is) ∙ sym (take_more all k c.piece-item.result c.loop-piece-test.true) in
    merged_more c.args.size c.args.window all k x c.args.tiles.now c.loop-piece.tiles c.draw_piece.new.tiles more
    c.draw_piece.ensures.piece c.requires c.loop-piece.invariant c.draw_piece.ensures.whole c.draw_piece.ensures.met

pub returns : goal.returns
returns c =
    let all = c.args.pieces.now in
    let whole = take_all c.loop-piece.piece-index all (omega (arith, c.loop-piece-test.false)) in
    subst (λ (ps : List Piece). AreMerged c.args.size (first_in c.args.size c.args.window) ps c.args.tiles.now c.loop-piece.tiles) whole c.loop-piece.invariant
