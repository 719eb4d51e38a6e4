use Rattle.std.proofs.Common.{◌≡◌, ℕ, ◌+◌, ◌*◌, arith, sym, ap, ◌∙◌, subst}
use Rattle.demo_scene.specs.Demo.{box_of, boxes_of, box_count}
use Rattle.demo_scene.proofs.Draws.{none_drawn, box_after, drawn_after, boxes_of-none, boxes_of-next}
use Rattle.demo_scene.proofs.scene.boxes.Goals as goal

pub loop-box-init : goal.loop-box-init
loop-box-init c = record {
  made = c.new-boxes.ensures.items ∙ sym (boxes_of-none c.args.generator.now.state 0);
  drawn = none_drawn c.args.generator.now.state;
}

pub loop-box-preserved : goal.loop-box-preserved
loop-box-preserved c =
    let s = c.args.generator.now.state in let i = c.loop-box._box in
    let so_far = c.loop-box.invariant in
    let object : c.object.result ≡ box_of s (0 + 6 * i) =
    c.object.ensures.value ∙ ap (λ (t : ℕ). box_of t 0) so_far.drawn ∙ box_after s (6 * i) 0 (0 + 6 * i) (omega arith) in
    record {
      made = rw (c.in_ok-push.ensures.items, so_far.made, object) (sym (boxes_of-next s 0 i));
      drawn = drawn_after s (6 * i) 6 (6 * (i + 1)) _ _ (omega arith) so_far.drawn c.object.ensures.state;
    }

pub returns : goal.returns
returns c =
    let all : c.loop-box._box ≡ box_count = omega arith in
    subst (λ (n : ℕ). c.loop-box.boxes.items ≡ boxes_of c.args.generator.now.state 0 n) all c.loop-box.invariant.made
