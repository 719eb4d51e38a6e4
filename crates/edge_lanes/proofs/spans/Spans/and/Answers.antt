use Rattle.std.proofs.Common.{◌≡◌, ℕ, ◌&&◌, cond, nat_le, nat_lt, ap₂, ◌∙◌, arith, w16}
use Rattle.std.proofs.lemmas.Bool.Decides.{nat_tests}
use Rattle.edge_lanes.proofs.SpanLanes.{chosen_long, chosen_at}
use Rattle.edge_lanes.proofs.spans.Spans.and.Goals as goal

pub invariant_of-result : goal.invariant_of-result
invariant_of-result c =
    let s = c.args.self in let o = c.args.other in
    record {
      eight_firsts = chosen_long w16 nat_lt 8 s.first o.first o.first s.first s.eight_firsts o.eight_firsts o.eight_firsts s.eight_firsts;
      eight_ends = chosen_long w16 nat_lt 8 s.end o.end s.end o.end s.eight_ends o.eight_ends s.eight_ends o.eight_ends;
    }

in_both : (f e g h x : ℕ) → (nat_le (cond (nat_lt f g) g f) x && nat_lt x (cond (nat_lt e h) e h)) ≡ ((nat_le f x && nat_lt x e) && (nat_le g x && nat_lt x h))
in_both f e g h x = grind (arith, nat_tests)

pub returns : goal.returns
returns c r x lt =
    let s = c.args.self in let o = c.args.other in
    ap₂ (λ f e. nat_le f x && nat_lt x e)
    (chosen_at w16 nat_lt 8 s.first o.first o.first s.first s.eight_firsts o.eight_firsts o.eight_firsts s.eight_firsts r lt)
    (chosen_at w16 nat_lt 8 s.end o.end s.end o.end s.eight_ends o.eight_ends s.eight_ends o.eight_ends r lt)
    ∙ in_both _ _ _ _ x
