use Rattle.std.proofs.Common.{rules, ◌≡◌, ◌∙◌, length, ap, subst}
use Rattle.cull_base.specs.Piece.{IsPiece, Piece}
use Rattle.cull_base.specs.State.{samples_of}
use Rattle.depth_plane.specs.Plane.{plane_of}
use Rattle.masked_update.proofs.piece_setup.PieceDepths.coverage.Goals as goal

pub returns : goal.returns
returns c =
    let x = c.args.self.now in
    let plane = c.self.invariant.plane_is ∙ ap (λ (t : Piece). plane_of t) c.self.view_is in
    let piece = subst (λ (t : Piece). IsPiece t) c.self.view_is c.self.invariant.valid in
    let bounds = c.floors-lows.ensures.raised x plane piece in
    let eight_lows : length c.floors-lows.result ≡ 8 = search rules in
    let eight_masks : length c.masks_among-masks.result ≡ 8 = search rules in
    record {
      mergeable = record { eight_lows = eight_lows; eight_masks = eight_masks; within = c.floors-lows.ensures.within };
      inside = λ j lt one. record {
        samples = ap samples_of (c.masks_among-masks.ensures.inside j lt one) ∙ c.requires.masks j lt;
        bound = λ some. bounds j lt;
      };
      others = c.masks_among-masks.ensures.others;
    }
