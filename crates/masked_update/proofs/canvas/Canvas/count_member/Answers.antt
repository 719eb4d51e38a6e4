use Rattle.std.proofs.Common.{ℕ, ◌<◌, arith, sym, subst}
use Rattle.cull_base.specs.Screen.{Dimensions}
use Rattle.masked_update.specs.Canvas.{CountedMet, IsInWindow, tile_in}
use Rattle.masked_update.proofs.Canvases.{counts_few, counts_more, stands_still}
use Rattle.masked_update.proofs.canvas.Canvas.count_member.Goals as goal

pub count_piece-requires-clause-counts : goal.count_piece-requires-clause-counts
count_piece-requires-clause-counts c =
    let list = c.args.list.now.list in
    let old = c.args.self.now in
    subst (λ (s : Dimensions). (t : ℕ) → IsInWindow s old.window t → (tile_in s old t).count < 131072) (sym c.size.ensures)
    (λ t within. let few = counts_few list c.args.index t old c.requires.counts (omega (arith, c.requires.index)) within in omega (arith, few, c.requires.index, c.len-length.ensures))

pub returns-clause-counts : goal.returns-clause-counts
returns-clause-counts c =
    let x = c.get.result.now in
    let counted = subst (λ (s : Dimensions). CountedMet s x c.args.self.now c.count_piece.new.canvas) c.size.ensures c.count_piece.ensures in
    counts_more c.args.list.now.list c.args.index x c.args.self.now c.count_piece.new.canvas c.requires.index (sym c.get.ensures) c.requires.counts counted

pub returns-clause-stands : goal.returns-clause-stands
returns-clause-stands c k =
    let x = c.get.result.now in
    let counted = subst (λ (s : Dimensions). CountedMet s x c.args.self.now c.count_piece.new.canvas) c.size.ensures c.count_piece.ensures in
    stands_still c.args.list.now.list k x c.args.self.now c.count_piece.new.canvas counted
