-- Verdicts on the triangles of a mesh, one after another.
use Rattle.std.proofs.Common.{◌≡◌, ◌==◌, ℕ, ◌+◌, ◌<◌, Bool, false, List, [], ◌∷◌, ◌++◌, length, map, take, drop, get_or, arith, refl, ap, sym, ◌∙◌, subst}
use Rattle.std.specs.List.{All, AllZip, fold}
use Rattle.std.proofs.lemmas.List.{get_or-map, length-map, map-append, map_push, take-append-drop, take_more}
use Rattle.std.proofs.lemmas.List.Sums.{fold-append}
use Rattle.std.proofs.lemmas.Slice.Zip.{all_zipped_more}
use Rattle.cull_base.specs.declared.scene_types.Verdict.{Verdict}
use Rattle.cull_base.specs.declared.scene_types.Verdict.TheVariants.{Visible, Occluded, Outside}
use Rattle.cull_base.specs.Shape.{Shape, AlwaysVisible}
use Rattle.box_rays.specs.Objects.{IsBeside}
use Rattle.masked_update.specs.TileOf.{TileOf}
use Rattle.maskcull_c.specs.Asked.{verdict_over}
use Rattle.maskcull_c.specs.Floats.{IsMeshAnswerFor, MayStandFor, all_joined, joined, points_of, screen_of}
use Rattle.maskcull_c.specs.Given.{size_of}
use Rattle.maskcull_c.specs.Lenses.{IsMeshVerdict}
use Rattle.maskcull_c.specs.Tiles.{Hides, code_of}
use Rattle.maskcull_c.specs.declared.given.Setup.{Setup}
use Rattle.maskcull_c.specs.declared.given.Triangle.{Triangle}
use Rattle.maskcull_c.specs.declared.status.TheConstants.{OCCLUDED}
use Rattle.maskcull_c.specs.declared.view.View.{View}
use Rattle.maskcull_c.proofs.Codes.{occluded_by_code}
use Rattle.maskcull_c.proofs.Verdicts.{all_parts, all_shapes, joined_more, outside_is_beside, part_hides, parts_not_visible, parts_outside, visible_stays}

module _ (s : Setup) (v : View) (tiles : List TileOf) (floats : List ℕ) where
  abbrev Stands : Triangle → Shape → Type 0
  Stands t shape = MayStandFor s v (points_of v floats t) shape

  abbrev verdict : Shape → Verdict
  verdict shape = verdict_over (size_of s) tiles shape

  pub none_asked : IsMeshVerdict s v tiles floats [] Outside
  none_asked = record { shapes = []; stand = tt; value = refl }

  -- one triangle more
  one_asked : (ts : List Triangle) (t : Triangle) (shape : Shape) (so_far next : Verdict) → IsMeshVerdict s v tiles floats ts so_far → Stands t shape → next ≡ joined so_far (verdict shape)
      → IsMeshVerdict s v tiles floats (ts ++ t ∷ []) next
  one_asked ts t shape so_far next m stands is = record {
    shapes = m.shapes ++ shape ∷ [];
    stand = all_zipped_more Stands ts m.shapes t shape m.stand stands;
    value = is ∙ ap (λ w. joined w (verdict shape)) m.value ∙ sym (joined_more (map verdict m.shapes) (verdict shape)) ∙ ap all_joined (sym (map_push verdict m.shapes shape));
  }

  -- the others are visible whatever the tiles hold
  unasked : (ts : List Triangle) → AllZip Stands ts (map (λ t. AlwaysVisible) ts)
  unasked [] = tt
  unasked (t ∷ ts) = (tt, unasked ts)

  all_unasked : (ts : List Triangle) → fold joined Visible (map verdict (map (λ t. AlwaysVisible) ts)) ≡ Visible
  all_unasked ts = visible_stays (map verdict (map (λ t. AlwaysVisible) ts))

  visible_at_once : (t : Triangle) (ts : List Triangle) → IsMeshVerdict s v tiles floats (t ∷ ts) Visible
  visible_at_once t ts = record { shapes = map (λ t. AlwaysVisible) (t ∷ ts); stand = unasked (t ∷ ts); value = sym (all_unasked ts) }

  pub visible_of_some : (ts : List Triangle) (none : Bool) → none ≡ (length ts == 0) → none ≡ false → IsMeshVerdict s v tiles floats ts Visible
  visible_of_some [] none is e = absurd cc
  visible_of_some (t ∷ ts) none is e = visible_at_once t ts

  zip_both : (ts us : List Triangle) (xs ys : List Shape) → AllZip Stands ts xs → AllZip Stands us ys → AllZip Stands (ts ++ us) (xs ++ ys)
  zip_both [] us [] ys z w = w
  zip_both [] us (x ∷ xs) ys z w = absurd z
  zip_both (t ∷ ts) us [] ys z w = absurd z
  zip_both (t ∷ ts) us (x ∷ xs) ys z w = (z.0, zip_both ts us xs ys z.1 w)

  -- after a triangle that makes it visible
  visible_from : (ts us : List Triangle) → IsMeshVerdict s v tiles floats ts Visible → IsMeshVerdict s v tiles floats (ts ++ us) Visible
  visible_from ts us m = record {
    shapes = m.shapes ++ map (λ t. AlwaysVisible) us;
    stand = zip_both ts us m.shapes (map (λ t. AlwaysVisible) us) m.stand (unasked us);
    value =
        sym (ap all_joined (map-append verdict m.shapes (map (λ t. AlwaysVisible) us)) ∙ fold-append joined Outside (map verdict m.shapes) (map verdict (map (λ t. AlwaysVisible) us))
        ∙ ap (λ w. fold joined w (map verdict (map (λ t. AlwaysVisible) us))) (sym m.value) ∙ all_unasked us);
  }

  -- one triangle more of a list
  pub next_asked : (ts : List Triangle) (i : ℕ) (d : Triangle) (shape : Shape) (so_far next : Verdict) → i < length ts → IsMeshVerdict s v tiles floats (take i ts) so_far
      → Stands (get_or ts i d) shape → next ≡ joined so_far (verdict shape) → IsMeshVerdict s v tiles floats (take (i + 1) ts) next
  next_asked ts i d shape so_far next lt m stands is =
      subst (λ (us : List Triangle). IsMeshVerdict s v tiles floats us next) (sym (take_more ts i d lt)) (one_asked (take i ts) (get_or ts i d) shape so_far next m stands is)

  pub visible_after : (ts : List Triangle) (i : ℕ) (w : Verdict) → IsMeshVerdict s v tiles floats (take i ts) w → w ≡ Visible → IsMeshVerdict s v tiles floats ts Visible
  visible_after ts i w m e =
      subst (λ (us : List Triangle). IsMeshVerdict s v tiles floats us Visible) (take-append-drop i ts)
      (visible_from (take i ts) (drop i ts) (subst (λ (u : Verdict). IsMeshVerdict s v tiles floats (take i ts) u) e m))

  -- the answer by the verdict's number
  pub mesh_answer : (ts : List Triangle) (w : Verdict) (code : ℕ) → IsMeshVerdict s v tiles floats ts w → code ≡ code_of w → IsMeshAnswerFor s v tiles floats ts code
  mesh_answer ts w code m number = record {
    shapes = m.shapes;
    stand = m.stand;
    value = number ∙ ap code_of m.value;
    hide = all_shapes Stands (λ shape. Hides (size_of s) tiles shape code) ts m.shapes m.stand
        (λ t shape member stands. part_hides s v (size_of s) tiles (points_of v floats t) shape code stands
        (λ occluded. let (k, lt, is) = member in
        λ e. shown occluded k Visible (omega (arith, lt, length-map m.shapes verdict)) (get_or-map verdict m.shapes k shape Visible lt ∙ ap verdict is ∙ e)));
  }
    where
      not_both : Occluded ≡ Visible → ⊥
      not_both e = cc

      shown : code ≡ OCCLUDED → All (λ u. u ≡ Visible → ⊥) (map verdict m.shapes)
      shown occluded = parts_not_visible (map verdict m.shapes) (λ e. not_both (sym (occluded_by_code w (sym number ∙ occluded)) ∙ m.value ∙ e))

  -- outside: each triangle is beside the screen
  pub mesh_beside : (ts : List Triangle) (w : Verdict) → IsMeshVerdict s v tiles floats ts w → w ≡ Outside → All (λ t. IsBeside (screen_of v) (points_of v floats t)) ts
  mesh_beside ts w m e =
      all_parts Stands (λ shape. verdict shape ≡ Outside) (λ t. IsBeside (screen_of v) (points_of v floats t)) ts m.shapes m.stand
      (λ k d lt. sym (get_or-map verdict m.shapes k d Outside lt) ∙ parts_outside (map verdict m.shapes) (sym m.value ∙ e) k Outside (omega (arith, lt, length-map m.shapes verdict)))
      (λ t shape stands out. outside_is_beside s v (size_of s) tiles (points_of v floats t) shape stands out)
