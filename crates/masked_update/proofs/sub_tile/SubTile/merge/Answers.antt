use Rattle.std.proofs.Common.{rules, ◌≡◌, arith, inl, inr, sym, ap, refl}
use Rattle.cull_base.specs.State.{State}
use Rattle.masked_update.proofs.Steps.{stays, step_filled, step_more, next_layers, layered_of, filled_layers, lowered_within}
use Rattle.masked_update.proofs.MergeSound.{merge_sound}
use Rattle.masked_update.proofs.sub_tile.SubTile.merge.Goals as goal
use Rattle.masked_update.proofs.sub_tile.SubTile.merge.Goals.{then-c-eq0-via-then-c-eq0, then-c-eq0-via-else-c-eq0+then-t-self}

pub returns-then-c-eq0-clause-step : goal.returns-then-c-eq0-clause-step
returns-then-c-eq0-clause-step c =
    let is : c.self.inside.reference ≡ c.args.self.now.reference = ap (λ (s : State). s.reference) c.self.view_is in
    sym (stays c.args.self.now c.args.t c.args.c (omega (arith, c.ranges.c))
    (elim c.then-c-eq0.branch [
      | then-c-eq0-via-then-c-eq0 w ↦ inl (search rules)
      | then-c-eq0-via-else-c-eq0+then-t-self w ↦ inr (omega (arith, is, w.if-t-self.true))
    ]))

pub returns-then-c-eq0-clause-layered : goal.returns-then-c-eq0-clause-layered
returns-then-c-eq0-clause-layered c = layered_of _ _ _ _ c.self.view_is c.self.invariant

pub invariant_of-self-else-mask : goal.invariant_of-self-else-mask
invariant_of-self-else-mask c =
    next_layers _ _ _ c.args.t _ _ _ c.self.invariant c.requires (omega (arith, c.ranges.c)) c.mask_left-left.type_inv c.if-c-eq0.false c.if-t-self.false c.mask_left-left.ensures c.lowered_depth-working.ensures c.if-mask.false

pub returns-then-mask-clause-step : goal.returns-then-mask-clause-step
returns-then-mask-clause-step c =
    step_filled c.self.inside.reference c.self.inside.working c.self.inside.mask c.args.t c.args.c c.mask_left-left.result c.lowered_depth-working.result _ c.self.view_is c.self.invariant
    (omega (arith, c.ranges.c)) c.mask_left-left.type_inv c.if-c-eq0.false c.if-t-self.false c.mask_left-left.ensures c.lowered_depth-working.ensures c.if-mask.true

pub returns-then-mask-clause-layered : goal.returns-then-mask-clause-layered
returns-then-mask-clause-layered c =
    layered_of c.lowered_depth-working.result 0 0 _ refl (filled_layers c.lowered_depth-working.result
    (lowered_within c.self.inside.working c.args.t c.mask_left-left.result _ c.self.invariant.working_within c.requires c.lowered_depth-working.ensures))

pub returns-else-mask-clause-layered : goal.returns-else-mask-clause-layered
returns-else-mask-clause-layered c = layered_of _ _ _ _ refl (invariant_of-self-else-mask c)

pub returns-else-mask-clause-step : goal.returns-else-mask-clause-step
returns-else-mask-clause-step c =
    step_more c.self.inside.reference c.self.inside.working c.self.inside.mask c.args.t c.args.c c.mask_left-left.result c.lowered_depth-working.result _ c.self.view_is c.self.invariant
    (omega (arith, c.ranges.c)) c.mask_left-left.type_inv c.if-c-eq0.false c.if-t-self.false c.mask_left-left.ensures c.lowered_depth-working.ensures c.if-mask.false

pub returns-then-c-eq0-clause-sound : goal.returns-then-c-eq0-clause-sound
returns-then-c-eq0-clause-sound c =
    merge_sound c.self.inside.reference c.self.inside.working c.self.inside.mask c.args.self.now _ c.args.t c.args.c c.self.view_is c.self.invariant (returns-then-c-eq0-clause-step c)

pub returns-then-mask-clause-sound : goal.returns-then-mask-clause-sound
returns-then-mask-clause-sound c =
    merge_sound c.self.inside.reference c.self.inside.working c.self.inside.mask c.args.self.now _ c.args.t c.args.c c.self.view_is c.self.invariant (returns-then-mask-clause-step c)

pub returns-else-mask-clause-sound : goal.returns-else-mask-clause-sound
returns-else-mask-clause-sound c =
    merge_sound c.self.inside.reference c.self.inside.working c.self.inside.mask c.args.self.now _ c.args.t c.args.c c.self.view_is c.self.invariant (returns-else-mask-clause-step c)
