use Rattle.std.proofs.Common.{◌≡◌, ◌+◌, ℕ, Bool, arith, ap, sym, ◌∙◌, subst}
use Rattle.std.specs.Int.{bit_at}
use Rattle.std.proofs.lemmas.Nat.Bits.{shr_and_one}
use Rattle.cull_base.specs.Piece.{Piece, touched}
use Rattle.cull_base.specs.State.{no_samples}
use Rattle.edge_lanes.specs.Inside.{sub_of}
use Rattle.mesh_query.specs.Asked.{Asked, TouchedIn, states_of}
use Rattle.mesh_query.proofs.Subtiles.{none_touched, none_beside}
use Rattle.mesh_query.proofs.TileParts.{BeforeSub, sub_more, sub_none, sub_shows, tile_none, tile_all}
use Rattle.mesh_query.proofs.piece.MeshPiece.ask_subtiles.Goals as goal
use Rattle.mesh_query.proofs.piece.MeshPiece.ask_subtiles.Goals.{then-candidates-j-eq1+then-on_screen+in_ok-touched, else-candidates-j-eq1, else-candidates-j-eq1-via-then-candidates-j-eq1+else-on_screen, else-candidates-j-eq1-via-else-candidates-j-eq1}

pub returns-in_err-touched : goal.returns-in_err-touched
returns-in_err-touched c =
    rw (c.from_residual.ensures) (sub_shows c.args.size c.args.self.now c.args.place c.args.state.now c.sub-sub_tile.result c.loop-j.j c.loop-j-test.true c.sub-sub_tile.ensures.value c.in_err-touched.ensures)

pub loop-j-init : goal.loop-j-init
loop-j-init c = tile_none c.args.size c.args.self.now c.args.place c.args.state.now c.args.known

-- a bit that isn't 1 is 0
clear : (n k : ℕ) → (bit_at n k ≡ 1 → ⊥) → bit_at n k ≡ 0
clear n k ne = omega arith

pub loop-j-preserved : goal.loop-j-preserved
loop-j-preserved c =
    let size = c.args.size in let t = c.args.self.now in let place = c.args.place in let tile = c.args.state.now in let j = c.loop-j.j in
    let P : Bool → Type 0 = λ b. Asked (states_of tile) (TouchedIn size t (BeforeSub place (j + 1))) c.args.known b in
    elim c.if-candidates-j-eq1.branch [
      | then-candidates-j-eq1+then-on_screen+in_ok-touched w ↦ subst P (sym w.touched-is) (sub_more size t place tile w.sub-sub_tile.result j c.args.known c.loop-j.touched w.in_ok-touched.touched c.loop-j-test.true w.sub-sub_tile.ensures.value c.loop-j.invariant w.in_ok-touched.ensures)
      | else-candidates-j-eq1 w ↦ subst P (sym w.touched-is) (elim w.else-candidates-j-eq1.branch [
        | else-candidates-j-eq1-via-then-candidates-j-eq1+else-on_screen v ↦
            sub_none size t place tile j c.args.known c.loop-j.touched c.loop-j-test.true c.loop-j.invariant (λ u px py on. none_beside size t (sub_of place j) u px py (sym v.on_screen.ensures ∙ v.if-on_screen.false) on)
        | else-candidates-j-eq1-via-else-candidates-j-eq1 v ↦
            let bit = clear c.candidates-candidates.result j (λ e. v.if-candidates-j-eq1.false (shr_and_one c.candidates-candidates.result j ∙ e)) in
            let none : touched t (sub_of place j) ≡ no_samples =
            sym (ap (λ (x : Piece). touched x (sub_of place j)) c.self.view_is) ∙ sym (c.self.invariant.edges_touch (sub_of place j)) ∙ sym (c.at_tile-edges.ensures j) ∙ c.candidates-candidates.ensures.clear j c.loop-j-test.true bit in
            sub_none size t place tile j c.args.known c.loop-j.touched c.loop-j-test.true c.loop-j.invariant (λ u px py on. none_touched size t (sub_of place j) u px py none on)
      ])
    ]

pub returns : goal.returns
returns c =
    let end : c.loop-j.j ≡ 8 = omega (arith, c.loop-j-test.false, c.loop-j.auto.j-end) in
    tile_all c.args.size c.args.self.now c.args.place c.args.state.now c.args.known c.loop-j.touched
    (subst (λ (n : ℕ). Asked (states_of c.args.state.now) (TouchedIn c.args.size c.args.self.now (BeforeSub c.args.place n)) c.args.known c.loop-j.touched) end c.loop-j.invariant)
