use Rattle.cull_base.specs.Piece.{box_of}
use Rattle.depth_plane.proofs.Boxes.{covers-in_box}
use Rattle.masked_update.proofs.Merging.{merged_nowhere}
use Rattle.masked_update.proofs.piece_setup.PieceDepths.merge_into.Goals as goal

pub returns-then-subtiles_behind-eq0 : goal.returns-then-subtiles_behind-eq0
returns-then-subtiles_behind-eq0 c =
    merged_nowhere c.args.reached.now.size c.args.place c.args.self.now c.subtiles_behind.result c.args.layers.now c.subtiles_behind.ensures.eight c.if-subtiles_behind-eq0.true c.subtiles_behind.ensures.wanted

-- the box has each sample that the piece covers
pub merge_over-requires-clause-reached : goal.merge_over-requires-clause-reached
merge_over-requires-clause-reached c = (box_of c.args.self.now, λ px py on. covers-in_box c.args.self.now px py c.nearest-nearest.ensures.valid on, c.requires.reached)
