use Rattle.std.proofs.Common.{ap, ◌∙◌}
use Rattle.cull_base.specs.State.{State, samples_of, step_with}
use Rattle.rect_query.proofs.Bare.{merged_bare}
use Rattle.rect_query.specs.References.{bare_state}
use Rattle.rect_query.proofs.settled.bare_sub.Goals as goal

pub returns : goal.returns
returns c =
    c.merge.ensures.step ∙ ap (λ (s : State). step_with s c.reference.result (samples_of 4294967295)) c.empty-bare.ensures ∙ merged_bare c.reference.result
    ∙ ap bare_state c.reference.ensures.value ∙ ap (λ (s : State). bare_state s.reference) c.sub.ensures.value
