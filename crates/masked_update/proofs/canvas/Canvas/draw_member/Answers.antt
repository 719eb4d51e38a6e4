use Rattle.std.proofs.Common.{sym, subst}
use Rattle.cull_base.specs.Screen.{Dimensions}
use Rattle.masked_update.specs.Canvas.{MergedMet}
use Rattle.masked_update.proofs.Canvases.{counts_stay, stands_more}
use Rattle.masked_update.proofs.canvas.Canvas.draw_member.Goals as goal

pub returns-clause-stands : goal.returns-clause-stands
returns-clause-stands c =
    let list = c.args.list.now.list in
    let x = c.get.result.now in
    let merged = subst (λ (s : Dimensions). MergedMet s x c.args.self.now c.draw_piece.new.canvas) c.size.ensures c.draw_piece.ensures in
    stands_more list c.args.index x c.args.self.now c.draw_piece.new.canvas c.requires.index (sym c.get.ensures) c.requires.stands merged

pub returns-clause-counts : goal.returns-clause-counts
returns-clause-counts c k =
    let x = c.get.result.now in
    let merged = subst (λ (s : Dimensions). MergedMet s x c.args.self.now c.draw_piece.new.canvas) c.size.ensures c.draw_piece.ensures in
    counts_stay c.args.list.now.list k x c.args.self.now c.draw_piece.new.canvas merged
