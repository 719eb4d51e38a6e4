use Rattle.std.proofs.Common.{rules, ◌∷◌, [], ◌++◌, inl, inr, subst, sym, List}
use Rattle.std.proofs.lemmas.List.Elements.{Contains-push_cases}
use Rattle.cull_base.specs.Piece.{Piece, IsPiece}
use Rattle.cull_base.specs.Tiles.{ArePieces}
use Rattle.cull_base.proofs.frame_list.FrameList.push.Goals as goal

more : (pieces : List Piece) (x : Piece) → ArePieces pieces → IsPiece x → ArePieces (pieces ++ x ∷ [])
more pieces x all piece t m = elim (Contains-push_cases pieces x t m) [ inl h ↦ all t h | inr e ↦ subst IsPiece e piece ]

pub invariant_of-self : goal.invariant_of-self
invariant_of-self c =
    (search rules, search rules, search rules, subst ArePieces (sym c.push_reserved.ensures.items) (more c.self.inside.pieces.items c.args.tri c.self.invariant.3 c.q-nearness.ensures.valid))
