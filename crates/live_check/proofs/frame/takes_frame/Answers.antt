use Rattle.std.proofs.Common.{◌≡◌, ℕ, ◌<◌, ◌≤◌, length, refl, sym, ap, ◌∙◌, subst}
use Rattle.std.proofs.lemmas.Result.{IfOk-weaker}
use Rattle.cull_base.specs.Screen.{Dimensions, tile_count_of}
use Rattle.cull_base.specs.Tiles.{PieceList}
use Rattle.scene_reader.specs.Layout.{Parts}
use Rattle.cull_report.specs.Scene.{frame_list, size_of}
use Rattle.live_check.proofs.frame.takes_frame.Goals as goal

-- a frame's list is of the scene's screen
list_size : (s : Parts) (frame : ℕ) → (frame_list s frame).size ≡ size_of s
unfolding frame_list
list_size s frame = refl

pub spans_of-spans-requires : goal.spans_of-spans-requires
spans_of-spans-requires g c =
    let f = c.args.frame.now in let p = c.args.plan.now in
    record {
      frame = f.laid.is_frame;
      clips = f.laid.clips_are;
      within = subst (λ (s : Parts). p.objects ≤ length s.objects) (sym c.requires.scene) p.within;
      few = p.few_objects;
    }

pub empty-requires : goal.empty-requires
empty-requires g c =
    let f = c.args.frame.now in c.requires.size ∙ sym (ap (λ (l : PieceList). l.size) f.laid.list_is ∙ list_size f.scene.now f.number)

pub takes_rounds-requires : goal.takes_rounds-requires
takes_rounds-requires g c = record {
  scene = c.requires.scene;
  spans = c.spans_of-spans.ensures;
  standing = c.empty.ensures.standing;
  none = λ t lt. c.empty.ensures.none t (subst (λ (d : Dimensions). t < tile_count_of d) (sym c.requires.size) lt);
}

pub returns-clause-comes : goal.returns-clause-comes
returns-clause-comes g c watch objects = c.takes_rounds.ensures.comes watch objects

pub returns-clause-stops : goal.returns-clause-stops
returns-clause-stops g c watch objects = c.takes_rounds.ensures.stops watch objects

pub returns-clause-size : goal.returns-clause-size
returns-clause-size g c =
    let f = c.args.frame.now in
    let size = ap (λ (l : PieceList). l.size) f.laid.list_is ∙ list_size f.scene.now f.number ∙ sym c.requires.size in
    IfOk-weaker c.takes_rounds.result _ _ (λ o standing none. (standing none).size ∙ size) c.takes_rounds.ensures.standing
