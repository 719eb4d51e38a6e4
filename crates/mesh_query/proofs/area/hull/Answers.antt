use Rattle.std.proofs.Common.{◌≡◌, ◌+◌, ◌++◌, ◌∷◌, List, [], Bool, ◌||◌, false, take, get_or, append-nil, Option, Some, sym, ap, ◌∙◌, subst}
use Rattle.std.specs.Option.{option_to_list}
use Rattle.std.specs.List.{All, list_any}
use Rattle.std.proofs.Math.Bool.{or-false}
use Rattle.std.proofs.lemmas.List.Folds.{list_any-append}
use Rattle.cull_base.specs.declared.clip.ClipVertex.{ClipVertex}
use Rattle.cull_base.specs.declared.rect.Rect.{Rect}
use Rattle.cull_base.specs.declared.scene_types.Tri.{Tri}
use Rattle.cull_base.specs.Guard.{is_past_guard}
use Rattle.cull_base.specs.Rectangle.{meets}
use Rattle.cull_base.specs.Screen.{Dimensions, screen_of}
use Rattle.snap_setup.specs.Triangles.{near_box_of_triangle}
use Rattle.mesh_query.specs.Meshes.{vertices_of, near_box_at, near_boxes, is_one_on_screen}
use Rattle.mesh_query.proofs.Hulls.{IsHull, hull_first, hull_next}
use Rattle.mesh_query.proofs.Members.{none_holds, none_there, joined_more}
use Rattle.mesh_query.proofs.area.hull.Goals as goal
use Rattle.mesh_query.proofs.area.hull.Goals.{in-Some+in-Some-hull, in-Some+in-None, in_default}

one_more : (size : Dimensions) (boxes : List Rect) (r : Rect) → is_one_on_screen size (boxes ++ r ∷ []) ≡ (is_one_on_screen size boxes || meets r (screen_of size))
one_more size boxes r = list_any-append (λ a. meets a (screen_of size)) boxes (r ∷ []) ∙ ap (λ (b : Bool). is_one_on_screen size boxes || b) (or-false (meets r (screen_of size)))

no_triangle : Tri
no_triangle = record { 0 = [] }

pub near_box-requires-clause-guarded : goal.near_box-requires-clause-guarded
unfolding no_triangle
near_box-requires-clause-guarded c =
    let here = none_there (λ t. list_any (λ v. is_past_guard v c.args.near.distance) (vertices_of c.args.clips.now t)) c.args.tris.now c.loop-tri.tri-index no_triangle c.requires.guarded c.loop-tri-test.true in
    subst (All (λ v. is_past_guard v c.args.near.distance ≡ false)) (sym c.corners.ensures.whole) (none_holds (λ v. is_past_guard v c.args.near.distance) (vertices_of c.args.clips.now (get_or c.args.tris.now c.loop-tri.tri-index no_triangle)) here)

pub loop-tri-preserved : goal.loop-tri-preserved
unfolding no_triangle
loop-tri-preserved c =
    let size = c.args.size in let near = c.args.near.distance in let clips = c.args.clips.now in let tris = c.args.tris.now in
    let i = c.loop-tri.tri-index in
    let t = get_or tris i no_triangle in
    let boxes = near_boxes near size clips (take i tris) in
    let more = joined_more (λ u. option_to_list (near_box_at near size clips u)) tris i no_triangle c.loop-tri-test.true in
    let box : c.near_box.result ≡ near_box_at near size clips t = c.near_box.ensures.value ∙ ap (λ (vs : List ClipVertex). near_box_of_triangle vs near size) c.corners.ensures.whole in
    let known = is_one_on_screen size boxes in
    let found : (r : Rect) (m : Bool) → c.near_box.result ≡ Some r → m ≡ meets r c.screen-screen.result → c.match-near_box.met ≡ (c.loop-tri.met || m) → c.match-near_box.met ≡ is_one_on_screen size (near_boxes near size clips (take (i + 1) tris)) =
    λ r m is e met. met ∙ ap (λ (b : Bool). b || m) c.loop-tri.invariant.met ∙ ap (λ (b : Bool). known || b) (e ∙ ap (meets r) c.screen-screen.ensures) ∙ sym (one_more size boxes r)
    ∙ ap (is_one_on_screen size) (sym (more ∙ ap (λ (o : Option Rect). boxes ++ option_to_list o) (sym box ∙ is))) in
    let hull : (r : Rect) (o : Option Rect) → c.near_box.result ≡ Some r → IsHull o (boxes ++ r ∷ []) → c.match-near_box.hull ≡ o → IsHull c.match-near_box.hull (near_boxes near size clips (take (i + 1) tris)) =
    λ r o is h e. subst (λ (p : Option Rect). IsHull p (near_boxes near size clips (take (i + 1) tris))) (sym e)
    (subst (IsHull o) (sym (more ∙ ap (λ (p : Option Rect). boxes ++ option_to_list p) (sym box ∙ is))) h) in
    elim c.match-near_box.branch [
      | in-Some+in-Some-hull w ↦ record {
        met = found w.in-Some.rect w.meets.result w.in-Some.is w.meets.ensures.value w.met-is;
        hull = hull w.in-Some.rect (Some w.around.result) w.in-Some.is (hull_next c.loop-tri.hull boxes w.in-Some-hull.so_far w.in-Some.rect w.around.result w.in-Some-hull.is c.loop-tri.invariant.hull w.around.ensures) w.hull-is;
      }
      | in-Some+in-None w ↦ record {
        met = found w.in-Some.rect w.meets.result w.in-Some.is w.meets.ensures.value w.met-is;
        hull = hull w.in-Some.rect (Some w.in-Some.rect) w.in-Some.is (hull_first c.loop-tri.hull boxes w.in-Some.rect w.in-None.is c.loop-tri.invariant.hull) w.hull-is;
      }
      | in_default w ↦
          let none : near_boxes near size clips (take (i + 1) tris) ≡ boxes = more ∙ ap (λ (p : Option Rect). boxes ++ option_to_list p) (sym box ∙ w.in_default.is) ∙ append-nil boxes in
          record {
            met = w.met-is ∙ c.loop-tri.invariant.met ∙ ap (is_one_on_screen size) (sym none);
            hull = subst (λ (p : Option Rect). IsHull p (near_boxes near size clips (take (i + 1) tris))) (sym w.hull-is) (subst (IsHull c.loop-tri.hull) (sym none) c.loop-tri.invariant.hull);
          }
    ]
