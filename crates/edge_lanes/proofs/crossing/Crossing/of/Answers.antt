use Rattle.std.proofs.Common.{ap, refl, ◌≡◌, ◌^◌, ◌<◌, ℕ, ℤ, pos, neg_ℤ, nat_abs, ◌+ℤ◌, ◌*ℤ◌, ◌≤ℤ◌, to_z, of_z, arith, FitsSigned, w64}
use Rattle.std.proofs.lemmas.Int.{ints, to_z-of_z}
use Rattle.cull_base.specs.Bounds.{Bounded}
use Rattle.cull_base.specs.Depth.{floor_of}
use Rattle.cull_base.proofs.Bounds.{bounded-mul}
use Rattle.edge_lanes.specs.declared.turned.Turned.{Turned}
use Rattle.edge_lanes.proofs.Shortfalls.{eight_rows, kept_crossing, kept_first, kept_step}
use Rattle.edge_lanes.proofs.crossing.Crossing.of.Goals as goal

-- what the code divides by, and took for the parts of the first row and of a step
abbrev IsSize : Turned → ℕ → Type 0
IsSize v d = pos d ≡ v.size

is_size : (v : Turned) (d : ℕ) → IsSize v d → d ≡ nat_abs v.size
is_size v d e = ap nat_abs e

abbrev ArePartsOf : ℤ → ℕ → ℤ → Type 0
ArePartsOf pixels d parts = parts ≡ floor_of (to_z w64 (of_z w64 pixels) *ℤ pos (2 ^ 32)) (pos d)

near_first : (v : Turned) (a : ℤ) (d : ℕ) → IsSize v d → ArePartsOf v.start d a → Bounded (2 ^ 30) v.start → Bounded (2 ^ 62) a
near_first v a d ed ea n =
    let fs : FitsSigned w64 v.start = omega (arith, ints, n) in
    kept_first v.start v.size a d v.positive (is_size v d ed) n (simp to_z-of_z at ea)

near_step : (v : Turned) (t : ℤ) (d : ℕ) → IsSize v d → ArePartsOf v.row d t → v.row ≤ℤ (pos (2 ^ 18) *ℤ v.size) → (neg_ℤ (pos (2 ^ 18)) *ℤ v.size) ≤ℤ v.row → Bounded (2 ^ 50) t
near_step v t d ed et above below =
    let r = v.row_bounded in
    let fr : FitsSigned w64 v.row = omega (arith, ints, r) in
    kept_step v.row v.size t d v.positive (is_size v d ed) above below (simp to_z-of_z at et)

times_fit : (t : ℤ) (k : ℕ) → k < 8 → Bounded (2 ^ 50) t → FitsSigned w64 (pos k *ℤ to_z w64 (of_z w64 t))
times_fit t k h b =
    let f : FitsSigned w64 t = omega (arith, ints, b) in
    let n = bounded-mul 8 (2 ^ 50) (pos k) t (omega (arith, ints, h), omega (arith, ints, h)) b in
    simp to_z-of_z (omega (arith, ints, n))

pub overflow_mul-result : goal.overflow_mul-result
overflow_mul-result c = times_fit c.parts-step.result 2 (omega arith) (near_step c.args.edge.now c.parts-step.result c.args.size.now.number c.requires.size c.parts-step.ensures c.requires.near.above c.requires.near.below)

pub overflow_mul-result-2 : goal.overflow_mul-result-2
overflow_mul-result-2 c = times_fit c.parts-step.result 3 (omega arith) (near_step c.args.edge.now c.parts-step.result c.args.size.now.number c.requires.size c.parts-step.ensures c.requires.near.above c.requires.near.below)

pub overflow_mul-result-3 : goal.overflow_mul-result-3
overflow_mul-result-3 c = times_fit c.parts-step.result 4 (omega arith) (near_step c.args.edge.now c.parts-step.result c.args.size.now.number c.requires.size c.parts-step.ensures c.requires.near.above c.requires.near.below)

pub overflow_mul-result-4 : goal.overflow_mul-result-4
overflow_mul-result-4 c = times_fit c.parts-step.result 5 (omega arith) (near_step c.args.edge.now c.parts-step.result c.args.size.now.number c.requires.size c.parts-step.ensures c.requires.near.above c.requires.near.below)

pub overflow_mul-result-5 : goal.overflow_mul-result-5
overflow_mul-result-5 c = times_fit c.parts-step.result 6 (omega arith) (near_step c.args.edge.now c.parts-step.result c.args.size.now.number c.requires.size c.parts-step.ensures c.requires.near.above c.requires.near.below)

pub overflow_mul-result-6 : goal.overflow_mul-result-6
overflow_mul-result-6 c = times_fit c.parts-step.result 7 (omega arith) (near_step c.args.edge.now c.parts-step.result c.args.size.now.number c.requires.size c.parts-step.ensures c.requires.near.above c.requires.near.below)

pub invariant_of-result : goal.invariant_of-result
invariant_of-result c =
    let v = c.args.edge.now in let t = c.parts-step.result in
    let bb : Bounded (2 ^ 50) t = near_step v t c.args.size.now.number c.requires.size c.parts-step.ensures c.requires.near.above c.requires.near.below in
    let ba : Bounded (2 ^ 62) c.parts.result = near_first v c.parts.result c.args.size.now.number c.requires.size c.parts.ensures c.requires.near.start in
    let fa : FitsSigned w64 c.parts.result = omega (arith, ints, ba) in
    let fs : FitsSigned w64 (c.parts.result +ℤ pos 2048) = omega (arith, ints, ba) in
    let f1 : FitsSigned w64 t = omega (arith, ints, bb) in
    let f2 : FitsSigned w64 (pos 2 *ℤ t) = omega (arith, ints, bb) in
    let f3 : FitsSigned w64 (pos 3 *ℤ t) = omega (arith, ints, bb) in
    let f4 : FitsSigned w64 (pos 4 *ℤ t) = omega (arith, ints, bb) in
    let f5 : FitsSigned w64 (pos 5 *ℤ t) = omega (arith, ints, bb) in
    let f6 : FitsSigned w64 (pos 6 *ℤ t) = omega (arith, ints, bb) in
    let f7 : FitsSigned w64 (pos 7 *ℤ t) = omega (arith, ints, bb) in
    record {
      start_bounded = simp to_z-of_z (omega (arith, ints, ba));
      step_bounded = simp to_z-of_z bb;
      are_rows = simp to_z-of_z (eight_rows t);
      is_limit = v.is_limit;
      are_limits = refl;
    }

pub returns-clause-crossed : goal.returns-clause-crossed
returns-clause-crossed c y hy =
    let v = c.args.edge.now in let t = c.parts-step.result in let r = v.row_bounded in let n = c.requires.near.start in
    let fr : FitsSigned w64 v.row = omega (arith, ints, r) in
    let fn : FitsSigned w64 v.start = omega (arith, ints, n) in
    let bb : Bounded (2 ^ 50) t = near_step v t c.args.size.now.number c.requires.size c.parts-step.ensures c.requires.near.above c.requires.near.below in
    let ba : Bounded (2 ^ 62) c.parts.result = near_first v c.parts.result c.args.size.now.number c.requires.size c.parts.ensures n in
    let fa : FitsSigned w64 c.parts.result = omega (arith, ints, ba) in
    let fs : FitsSigned w64 (c.parts.result +ℤ pos 2048) = omega (arith, ints, ba) in
    let ft : FitsSigned w64 t = omega (arith, ints, bb) in
    simp to_z-of_z (kept_crossing v.start v.row v.size c.parts.result t (c.parts.result +ℤ pos 2048) c.args.size.now.number y v.positive v.size_bounded hy (is_size v c.args.size.now.number c.requires.size)
    (simp to_z-of_z at c.parts.ensures) (simp to_z-of_z at c.parts-step.ensures) refl)
