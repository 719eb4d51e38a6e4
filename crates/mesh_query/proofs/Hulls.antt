-- The hull of some rectangles, one more at a time.
use Rattle.std.proofs.Common.{◌≡◌, List, [], ◌∷◌, ◌++◌, Option, Some, None, refl, sym, ap, ◌∙◌}
use Rattle.std.specs.Prelude.{MatchOption}
use Rattle.cull_base.specs.declared.rect.Rect.{Rect}
use Rattle.mesh_query.specs.Meshes.{hull_of}
use Rattle.mesh_query.proofs.Boxes.{hull_push}

-- none of no rectangles, else their hull
abbrev pub IsHull : Option Rect → List Rect → Type 0
IsHull o rects = MatchOption o (rects ≡ []) (λ r. (rects ≡ [] → ⊥) × (r ≡ hull_of rects))

not_empty : (rects : List Rect) (r : Rect) → rects ++ r ∷ [] ≡ [] → ⊥
not_empty [] r e = cc
not_empty (x ∷ xs) r e = cc

pub hull_first : (o : Option Rect) (rects : List Rect) (r : Rect) → o ≡ None → IsHull o rects → IsHull (Some r) (rects ++ r ∷ [])
hull_first None rects r e h = (not_empty rects r, rw h refl)
hull_first (Some s) rects r e h = absurd cc

pub hull_next : (o : Option Rect) (rects : List Rect) (s r wider : Rect) → o ≡ Some s → IsHull o rects → wider ≡ hull_of (s ∷ r ∷ []) → IsHull (Some wider) (rects ++ r ∷ [])
hull_next None rects s r wider e h w = absurd cc
hull_next (Some t) rects s r wider e h w =
    let is : t ≡ s = cc in
    (not_empty rects r, w ∙ ap (λ (a : Rect). hull_of (a ∷ r ∷ [])) (sym is ∙ h.1) ∙ hull_push rects r h.0)
