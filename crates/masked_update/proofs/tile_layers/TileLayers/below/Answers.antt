use Rattle.std.proofs.Common.{◌∙◌, ◌<◌, ◌≤◌, ◌^◌, List, length, map, nat_lt, ap, sym, subst, arith, w32, Fits, slice_index_or}
use Rattle.std.specs.Int.{bit_at}
use Rattle.std.specs.Simd.Lanes.{mask_l}
use Rattle.std.proofs.lemmas.List.{length-map}
use Rattle.std.proofs.lemmas.Simd.{bitmask_splat, mask_l-lt}
use Rattle.cull_base.specs.State.{State, empty_state}
use Rattle.masked_update.proofs.Lanes.{behind_where_clear, eight_states}
use Rattle.masked_update.proofs.tile_layers.TileLayers.below.Goals as goal

pub overflow_cast-result : goal.overflow_cast-result
overflow_cast-result c =
    let rs = c.self.inside.references in
    let is = bitmask_splat w32 nat_lt rs 8 c.args.nearest c.self.invariant.eight_references (omega arith) in
    let lt = mask_l-lt (map (λ r. nat_lt r c.args.nearest) rs) in
    let byte = subst (λ n. mask_l (map (λ r. nat_lt r c.args.nearest) rs) < 2 ^ n) (length-map rs (λ r. nat_lt r c.args.nearest) ∙ c.self.invariant.eight_references) lt in
    subst (Fits w32) (sym is) (record { fits = omega (arith, byte) })

pub returns-clause-behind : goal.returns-clause-behind
returns-clause-behind c j lt clear =
    let s = c.self.inside in
    let is = bitmask_splat w32 nat_lt s.references 8 c.args.nearest c.self.invariant.eight_references (omega arith) in
    subst (λ (v : List State). c.args.nearest ≤ (slice_index_or v j empty_state).reference) c.self.view_is
    (behind_where_clear s.references s.workings s.masks c.args.nearest j c.self.invariant.eight_references lt (ap (λ n. bit_at n j) (sym is) ∙ clear))

pub returns-clause-eight : goal.returns-clause-eight
returns-clause-eight c = let s = c.self.inside in sym (ap length c.self.view_is) ∙ eight_states s.references s.workings s.masks
