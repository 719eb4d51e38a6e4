-- The state of a subtile after a list, one piece more at a time, and what is sound of it.
use Rattle.std.proofs.Common.{◌≡◌, List, [], ◌∷◌, ◌++◌, arith, refl, subst, sym, append_assoc}
use Rattle.std.specs.List.{fold}
use Rattle.std.proofs.lemmas.List.{append-nil}
use Rattle.std.proofs.lemmas.List.Sums.{fold_push}
use Rattle.std.proofs.lemmas.List.Elements.{Contains-append_left, Contains-append_right}
use Rattle.cull_base.specs.Piece.{Piece, IsPiece}
use Rattle.cull_base.specs.State.{State, empty_state}
use Rattle.cull_base.specs.Fold.{step, after, IsSound}
use Rattle.cull_base.specs.Tiles.{ArePieces}
use Rattle.cull_base.specs.declared.place.Sub.{Sub}
use Rattle.masked_update.proofs.Best.{IsReached, none_reached, step_is_reached, reached_is_sound}

pub after-none : (u : Sub) → after u [] ≡ empty_state
unfolding after
after-none u = refl

pub after-more : (u : Sub) (pieces : List Piece) (x : Piece) → after u (pieces ++ x ∷ []) ≡ step u (after u pieces) x
unfolding after
after-more u pieces x = fold_push (step u) empty_state pieces x

along : (u : Sub) (done rest : List Piece) (s : State) → ArePieces (done ++ rest) → IsReached u done s → IsReached u (done ++ rest) (fold (step u) s rest)
along u done [] s all r = let e = append-nil done in rw e r
along u done (x ∷ rest) s all r =
    let e : (done ++ x ∷ []) ++ rest ≡ done ++ (x ∷ rest) = append_assoc done (x ∷ []) rest in
    let all' : ArePieces ((done ++ x ∷ []) ++ rest) = subst ArePieces (sym e) all in
    let piece : IsPiece x = all x (Contains-append_right done (x ∷ rest) x (0, omega arith, refl)) in
    let begun : ArePieces (done ++ x ∷ []) = λ t m. all' t (Contains-append_left (done ++ x ∷ []) rest t m) in
    subst (λ ts. IsReached u ts (fold (step u) (step u s x) rest)) e (along u (done ++ x ∷ []) rest (step u s x) all' (step_is_reached u done s x begun piece r))

pub after_is_reached : (u : Sub) (pieces : List Piece) → ArePieces pieces → IsReached u pieces (after u pieces)
unfolding after
after_is_reached u pieces all = along u [] pieces empty_state all (none_reached u)

-- the state after a list of pieces is sound for it
pub after_is_sound : (u : Sub) (pieces : List Piece) → ArePieces pieces → IsSound u pieces (after u pieces)
after_is_sound u pieces all = reached_is_sound u pieces (after u pieces) all (after_is_reached u pieces all)
