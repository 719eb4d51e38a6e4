use Rattle.std.proofs.Common.{◌≡◌, ◌+◌, ◌<◌, List, [], ◌∷◌, ◌++◌, length, take, arith, ap, ◌∙◌, sym, subst}
use Rattle.std.proofs.lemmas.List.{take_more, take_all}
use Rattle.cull_base.specs.Piece.{Piece}
use Rattle.maskcull_c.specs.Bands.{AreMerged, first_in}
use Rattle.maskcull_c.proofs.Bands.{merged_more}
use Rattle.maskcull_c.proofs.Merged.{merged_none}
use Rattle.maskcull_c.proofs.draw.draw_pieces.Goals as goal

pub loop-k-init : goal.loop-k-init
loop-k-init c = merged_none c.args.size (first_in c.args.size c.args.window) c.args.tiles.now

pub loop-k-preserved : goal.loop-k-preserved
loop-k-preserved c =
    let all = c.args.pieces.now in let k = c.loop-k.k in let x = c.get.result in
    let lt : k < length all = omega (arith, c.loop-k-test.true, c.len-k-end.ensures.value) in
    let more : take k all ++ x ∷ [] ≡ take (k + 1) all = ap (λ y. take k all ++ y ∷ []) c.get.ensures ∙ sym (take_more all k x lt) in
    merged_more c.args.size c.args.window all k x c.args.tiles.now c.loop-k.tiles c.draw_piece.new.tiles more
    c.draw_piece.ensures.piece c.requires c.loop-k.invariant c.draw_piece.ensures.whole c.draw_piece.ensures.met

pub returns : goal.returns
returns c =
    let all = c.args.pieces.now in
    let whole = take_all c.loop-k.k all (omega (arith, c.loop-k-test.false, c.len-k-end.ensures.value)) in
    subst (λ (ps : List Piece). AreMerged c.args.size (first_in c.args.size c.args.window) ps c.args.tiles.now c.loop-k.tiles) whole c.loop-k.invariant
