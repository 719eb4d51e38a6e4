use Rattle.std.proofs.Common.{◌≡◌, Bool, true, false, cond, Option, None, refl, sym, ap, ◌∙◌}
use Rattle.std.specs.Prelude.{is_some}
use Rattle.std.proofs.lemmas.Bool.{not-true, not-false}
use Rattle.cull_base.specs.declared.scene_types.Verdict.{Verdict}
use Rattle.cull_base.specs.declared.scene_types.Verdict.TheVariants.{Visible, Occluded, Outside}
use Rattle.cull_base.specs.Grade.{top_of}
use Rattle.masked_update.specs.Views.{state_in}
use Rattle.cull_base.specs.Shape.{verdict_of}
use Rattle.mesh_query.specs.Meshes.{mesh_shape}
use Rattle.mesh_query.proofs.Verdicts.{IsOpen, early_decides, early_open, holds_boxes, found_verdict, shown_verdict}
use Rattle.mesh_query.proofs.mesh.mesh_test.Given as given
use Rattle.mesh_query.proofs.mesh.mesh_test.Goals as goal
use Rattle.mesh_query.proofs.mesh.mesh_test.Goals.{In-Some-ask_triangles, In_default}

pub returns-in-Some : goal.returns-in-Some
returns-in-Some g c =
    sym (early_decides (top_of c.args.grade) c.args.near c.args.size c.args.clips.now c.args.tris.now (state_in c.args.size (g.V.TileView.tile_of c.args.view.now)) c.in-Some.verdict (sym c.early_verdict.ensures ∙ c.in-Some.is))

none_left : (o p : Option Verdict) → o ≡ p → o ≡ None → is_some p ≡ false
none_left o p e f = ap is_some (sym e ∙ f)

-- where nothing decides the verdict before a triangle is asked
left : (g : given.Over) (c : In_default g) → IsOpen c.args.near c.args.clips.now c.args.tris.now
left g c = early_open c.args.near c.args.clips.now c.args.tris.now (none_left c.early_verdict.result _ c.early_verdict.ensures c.in_default.is)

pub ask_triangles-requires-clause-guarded : goal.ask_triangles-requires-clause-guarded
ask_triangles-requires-clause-guarded g c = (left g (goal.at.ask_triangles-requires-clause-guarded g c).In_default).guarded

pub ask_triangles-requires-clause-holds : goal.ask_triangles-requires-clause-holds
ask_triangles-requires-clause-holds g c =
    holds_boxes (g.V.TileView.held c.args.view.now) (top_of c.args.grade) c.args.near c.args.size c.args.clips.now c.args.tris.now (left g (goal.at.ask_triangles-requires-clause-holds g c).In_default) c.requires.holds

pub returns-in_default-ask_triangles : goal.returns-in_default-ask_triangles
returns-in_default-ask_triangles g c =
    sym (shown_verdict (state_in c.args.size (g.V.TileView.tile_of c.args.view.now)) c.args.grade c.args.near c.args.size c.args.clips.now c.args.tris.now c.width-width.ensures.valid c.requires.least c.requires.most
    (left g (goal.at.returns-in_default-ask_triangles g c).In_default) c.in_default-ask_triangles.ensures)

-- the verdict by what was found
by_found : (met touched : Bool) (v : Verdict) (m t : Bool) → v ≡ cond met (cond touched Occluded Visible) Outside → met ≡ m → touched ≡ t → cond m (cond t Occluded Visible) Outside ≡ v
by_found met touched v m t e em et = sym (e ∙ ap (λ (b : Bool). cond b (cond touched Occluded Visible) Outside) em ∙ ap (λ (b : Bool). cond m (cond b Occluded Visible) Outside) et)

found : (g : given.Over) (c : In-Some-ask_triangles g) → verdict_of c.args.size (state_in c.args.size (g.V.TileView.tile_of c.args.view.now)) (mesh_shape (top_of c.args.grade) c.args.near c.args.size c.args.clips.now c.args.tris.now)
    ≡ cond c.in-Some-ask_triangles.found.met (cond c.in-Some-ask_triangles.found.touched Occluded Visible) Outside
found g c =
    found_verdict (state_in c.args.size (g.V.TileView.tile_of c.args.view.now)) (top_of c.args.grade) c.args.near c.args.size c.args.clips.now c.args.tris.now c.in-Some-ask_triangles.found
    (early_open c.args.near c.args.clips.now c.args.tris.now (none_left c.early_verdict.result _ c.early_verdict.ensures c.in_default.is)) c.in-Some-ask_triangles.ensures

pub returns-then-not-found : goal.returns-then-not-found
returns-then-not-found g c =
    let f = c.in-Some-ask_triangles.found in
    by_found f.met f.touched _ false f.touched (found g (goal.at.returns-then-not-found g c).In-Some-ask_triangles) (not-true f.met c.if-not-found.true) refl

pub returns-then-found : goal.returns-then-found
returns-then-found g c =
    let f = c.in-Some-ask_triangles.found in
    by_found f.met f.touched _ true true (found g (goal.at.returns-then-found g c).In-Some-ask_triangles) (not-false f.met c.if-not-found.false) c.if-found.true

pub returns-else-found : goal.returns-else-found
returns-else-found g c =
    let f = c.in-Some-ask_triangles.found in
    by_found f.met f.touched _ true false (found g (goal.at.returns-else-found g c).In-Some-ask_triangles) (not-false f.met c.if-not-found.false) c.if-found.false
