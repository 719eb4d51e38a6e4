use Rattle.std.proofs.Common.{◌≡◌, ℕ, ◌+◌, ◌-◌, ◌*◌, ◌%◌, ◌^◌, ◌<◌, ◌≤◌, min, arith, map}
use Rattle.std.specs.List.{range_with_len}
use Rattle.std.specs.Simd.Lanes.{mask_l}
use Rattle.std.proofs.Math.Pow.{pow_mono}
use Rattle.cull_base.specs.Span.{is_between}
use Rattle.cull_base.proofs.Ranges.{between_mask}
use Rattle.rect_query.proofs.area.bits_between.Goals as goal

-- a bit below the ninth
one_bit : (k : ℕ) → k ≤ 8 → 1 * 2 ^ k % 4294967296 ≡ 2 ^ k
one_bit k le = let small : 2 ^ k ≤ 2 ^ 8 = pow_mono {i = k} {j = 8} le in omega arith

shifted : (first from a b : ℕ) → b ≡ min a 8 → a ≡ from - first → b ≡ min (from - first) 8
shifted first from a b e f = omega arith

-- both ends, as the code cuts them to eight
ends : (first from end s l t h : ℕ) → l ≡ min s 8 → s ≡ from - first → h ≡ min t 8 → t ≡ end - first → (l ≡ min (from - first) 8) × (h ≡ min (end - first) 8)
ends first from end s l t h el es eh et = (shifted first from s l el es, shifted first end t h eh et)

pub overflow_sub-result : goal.overflow_sub-result
overflow_sub-result c =
    let cut = ends c.args.first c.args.from c.args.end c.saturating_sub.result c.min-lowest.result c.saturating_sub-2.result c.min-end.result c.min-lowest.ensures c.saturating_sub.ensures c.min-end.ensures c.saturating_sub-2.ensures in
    let e = one_bit c.min-lowest.result (omega (arith, cut.0)) in let f = one_bit c.min-end.result (omega (arith, cut.1)) in
    rw (e, f) (pow_mono {i = c.min-lowest.result} {j = c.min-end.result} (omega (arith, cut.0, cut.1, c.requires)))

difference : (m p q : ℕ) → m + p ≡ q → q - p ≡ m
difference m p q e = omega arith

pub returns-clause-value : goal.returns-clause-value
returns-clause-value c =
    let cut = ends c.args.first c.args.from c.args.end c.saturating_sub.result c.min-lowest.result c.saturating_sub-2.result c.min-end.result c.min-lowest.ensures c.saturating_sub.ensures c.min-end.ensures c.saturating_sub-2.ensures in
    let e = one_bit c.min-lowest.result (omega (arith, cut.0)) in let f = one_bit c.min-end.result (omega (arith, cut.1)) in
    let m = between_mask c.args.first c.args.from c.args.end 8 c.requires in
    rw (e, f, cut.0, cut.1) (difference (mask_l (map (λ k. is_between c.args.from c.args.end (c.args.first + k)) (range_with_len 0 8))) _ _ m)

small : (p q : ℕ) → p ≤ 256 → 1 ≤ q → p - q < 256
small p q le some = omega arith

pub returns-clause-byte : goal.returns-clause-byte
returns-clause-byte c =
    let cut = ends c.args.first c.args.from c.args.end c.saturating_sub.result c.min-lowest.result c.saturating_sub-2.result c.min-end.result c.min-lowest.ensures c.saturating_sub.ensures c.min-end.ensures c.saturating_sub-2.ensures in
    let e = one_bit c.min-lowest.result (omega (arith, cut.0)) in let f = one_bit c.min-end.result (omega (arith, cut.1)) in
    let most : 2 ^ c.min-end.result ≤ 2 ^ 8 = pow_mono {i = c.min-end.result} {j = 8} (omega (arith, cut.1)) in
    let least : 2 ^ 0 ≤ 2 ^ c.min-lowest.result = pow_mono {i = 0} {j = c.min-lowest.result} (omega arith) in
    rw (e, f) (small (2 ^ c.min-end.result) (2 ^ c.min-lowest.result) most least)
