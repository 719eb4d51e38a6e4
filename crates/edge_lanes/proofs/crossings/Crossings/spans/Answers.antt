use Rattle.std.proofs.Common.{ap₂, ◌∙◌, ◌&&◌, Bool}
use Rattle.edge_lanes.proofs.crossings.Crossings.spans.Goals as goal

-- of the second and the third edge, and then of the first
pub returns : goal.returns
returns c r x lr lx =
    c.and.ensures r x lr
    ∙ ap₂ (λ (a : Bool) (b : Bool). a && b) (c.spans-3.ensures r x lr lx)
    (c.and-others.ensures r x lr ∙ ap₂ (λ (a : Bool) (b : Bool). a && b) (c.spans.ensures r x lr lx) (c.spans-2.ensures r x lr lx))
