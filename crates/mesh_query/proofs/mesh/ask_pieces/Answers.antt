use Rattle.std.proofs.Common.{◌≡◌, ◌<◌, true, false, arith, ap, sym, ◌∙◌, subst, get_or, length}
use Rattle.std.proofs.lemmas.List.Elements.{All-get_or}
use Rattle.cull_base.specs.declared.rect.Rect.{Rect}
use Rattle.cull_base.specs.Piece.{Piece, IsPiece, box_of}
use Rattle.cull_base.specs.Rectangle.{meets}
use Rattle.cull_base.specs.Screen.{screen_of}
use Rattle.cull_base.proofs.HiddenObjects.{met}
use Rattle.masked_update.specs.Views.{state_in}
use Rattle.mesh_query.specs.declared.mesh.Progress.{Progress}
use Rattle.mesh_query.specs.Asked.{Asked, TouchedIn}
use Rattle.mesh_query.proofs.Progresses.{member_asked, piece_asked, piece_beside}
use Rattle.mesh_query.proofs.TileParts.{Anywhere}
use Rattle.mesh_query.proofs.mesh.ask_pieces.Goals as goal
use Rattle.mesh_query.proofs.mesh.ask_pieces.Goals.{then-meets+in_ok-touched, else-meets}

pub loop-i-preserved : goal.loop-i-preserved
loop-i-preserved g c =
    let f = state_in c.args.size (g.V.TileView.tile_of c.args.view.now) in let size = c.args.size in
    let ps = c.args.pieces.now in let i = c.loop-i.i in let d = c.get-piece.result in
    let t = get_or ps i d in
    let lt : i < length ps = omega (arith, c.loop-i-test.true, c.len-i-end.ensures.value) in
    let x : Progress = record { met = c.loop-i.met; touched = c.loop-i.touched } in
    let box : c.boxed-reached.result ≡ box_of t = c.boxed-reached.ensures ∙ ap (λ (p : Piece). box_of p) c.get-piece.ensures in
    elim c.if-meets.branch [
      | then-meets+in_ok-touched w ↦
          let on = ap (λ (r : Rect). meets r (screen_of size)) (sym box) ∙ met c.meets.result true c.boxed-reached.result c.screen-screen.result size c.meets.ensures.value c.screen-screen.ensures w.if-meets.true in
          let asked : Asked f (TouchedIn size t Anywhere) c.loop-i.touched w.in_ok-touched.touched = subst (λ (p : Piece). Asked f (TouchedIn size p Anywhere) c.loop-i.touched w.in_ok-touched.touched) (w.of.ensures.value ∙ c.get-piece.ensures) w.in_ok-touched.ensures in
          rw (w.met-is, w.touched-is) (member_asked f size ps i d c.args.before x (record { met = true; touched = w.in_ok-touched.touched }) lt c.loop-i.invariant (piece_asked f size t c.loop-i.met c.loop-i.touched w.in_ok-touched.touched on asked))
      | else-meets w ↦
          let off = ap (λ (r : Rect). meets r (screen_of size)) (sym box) ∙ met c.meets.result false c.boxed-reached.result c.screen-screen.result size c.meets.ensures.value c.screen-screen.ensures w.if-meets.false in
          rw (w.met-is, w.touched-is) (member_asked f size ps i d c.args.before x x lt c.loop-i.invariant (piece_beside f size t x (All-get_or IsPiece ps i d lt c.requires.valid) off))
    ]
