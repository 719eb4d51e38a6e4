use Rattle.std.proofs.Common.{◌≡◌, ℕ, ◌&&◌, cond, nat_le, nat_lt, refl, ap, ap₂, ◌∙◌, arith, w16, replicate, slice_index_or}
use Rattle.std.proofs.lemmas.Bool.Decides.{nat_tests}
use Rattle.std.proofs.lemmas.Simd.{get_or-replicate}
use Rattle.edge_lanes.proofs.SpanLanes.{chosen_long, chosen_at}
use Rattle.edge_lanes.proofs.spans.Spans.tidied.Goals as goal

pub invariant_of-result : goal.invariant_of-result
invariant_of-result c =
    let s = c.args.self in
    record {
      eight_firsts = chosen_long w16 nat_lt 8 s.first s.end s.first (replicate 8 65535) s.eight_firsts s.eight_ends s.eight_firsts refl;
      eight_ends = chosen_long w16 nat_lt 8 s.first s.end s.end (replicate 8 0) s.eight_firsts s.eight_ends s.eight_ends refl;
    }

same : (f e x : ℕ) → (nat_le (cond (nat_lt f e) f 65535) x && nat_lt x (cond (nat_lt f e) e 0)) ≡ (nat_le f x && nat_lt x e)
same f e x = grind (arith, nat_tests)

pub returns : goal.returns
returns c r x lt =
    let s = c.args.self in
    let f = slice_index_or s.first r 0 in let e = slice_index_or s.end r 0 in
    ap₂ (λ f e. nat_le f x && nat_lt x e)
    (chosen_at w16 nat_lt 8 s.first s.end s.first (replicate 8 65535) s.eight_firsts s.eight_ends s.eight_firsts refl r lt ∙ ap (cond (nat_lt f e) f) (get_or-replicate 8 r 65535 0 lt))
    (chosen_at w16 nat_lt 8 s.first s.end s.end (replicate 8 0) s.eight_firsts s.eight_ends s.eight_ends refl r lt ∙ ap (cond (nat_lt f e) e) (get_or-replicate 8 r 0 0 lt))
    ∙ same f e x
