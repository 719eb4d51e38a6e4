use Rattle.std.proofs.Common.{◌≢◌, ◌<◌, length, IfSome, Option, arith, sym, ◌∙◌, subst}
use Rattle.std.proofs.Common.{below_more}
use Rattle.std.proofs.lemmas.List.{get_or-set_other, get_or-set_same}
use Rattle.exact_clip.specs.declared.held.Held.{Held}
use Rattle.maskcull_c.specs.Lenses.{IsPoint, held_in, no_scratch}
use Rattle.maskcull_c.specs.declared.scratch.Scratch.{Scratch}
use Rattle.maskcull_c.proofs.float_set_up.hold.Goals as goal

pub loop-k-preserved : goal.loop-k-preserved
loop-k-preserved c =
    let scratch = c.loop-k.scratch in let k = c.loop-k.k in let r = c.of.result in
    let lt : k < length scratch = omega arith in
    below_more _ _
    (λ j h.
    let other : j ≢ k = omega (arith, h) in
    subst (λ (s : Scratch). IfSome (held_in s) (IsPoint c.args.lens.now c.args.positions.now j)) (sym (get_or-set_other scratch k j r no_scratch other)) (c.loop-k.invariant j h))
    (subst (λ (s : Scratch). IfSome (held_in s) (IsPoint c.args.lens.now c.args.positions.now k)) (sym (get_or-set_same scratch k r no_scratch lt))
    (subst (λ (o : Option Held). IfSome o (IsPoint c.args.lens.now c.args.positions.now k)) (sym c.of.ensures) c.point.ensures))

pub returns : goal.returns
returns c = record {
  count = c.loop-k.auto.scratch ∙ c.requires;
  each = λ j h. c.loop-k.invariant j (omega (arith, h, c.loop-k-test.false));
}
