use Rattle.std.proofs.Common.{rules, ◌≡◌, ℕ, ◌*◌, ◌<◌, ◌≤◌, ◌^◌, List, [], ◌∷◌, length, Bool, true, false, nat_eq, cond, bit_and, slice_index_or, refl, ap, ◌∙◌, arith}
use Rattle.std.specs.Int.{bit_at}
use Rattle.std.specs.Simd.Lanes.{sel_l, top}
use Rattle.std.proofs.Math.Nat.{one-le-pow}
use Rattle.std.proofs.lemmas.Bool.Decides.{nat_tests}
use Rattle.std.proofs.lemmas.Nat.Bits.{and_pow}
use Rattle.std.proofs.lemmas.Simd.{get_or-sel_l}
use Rattle.cull_base.proofs.EightLanes.{each_of_eight}
use Rattle.masked_update.proofs.LaneMerge.{told_is}
use Rattle.masked_update.proofs.coverage.masks_among.Goals as goal

-- which bits of eight are clear, as lanes
abbrev clear_lane : ℕ → ℕ → Bool
clear_lane bits n = top 31 (cond (nat_eq (bit_and bits n) 0) 4294967295 0)

abbrev clear_lanes : ℕ → List Bool
clear_lanes bits =
    clear_lane bits 1 ∷ clear_lane bits 2 ∷ clear_lane bits 4 ∷ clear_lane bits 8 ∷ clear_lane bits 16 ∷ clear_lane bits 32 ∷ clear_lane bits 64 ∷ clear_lane bits 128 ∷ []

abbrev nothing : List ℕ
nothing = 0 ∷ 0 ∷ 0 ∷ 0 ∷ 0 ∷ 0 ∷ 0 ∷ 0 ∷ []

lane : (bits j : ℕ) → j < 8 → slice_index_or (clear_lanes bits) j false ≡ nat_eq (bit_and bits (2 ^ j)) 0
lane bits =
    each_of_eight (λ j. slice_index_or (clear_lanes bits) j false ≡ nat_eq (bit_and bits (2 ^ j)) 0) (told_is (nat_eq (bit_and bits 1) 0)) (told_is (nat_eq (bit_and bits 2) 0)) (told_is (nat_eq (bit_and bits 4) 0))
    (told_is (nat_eq (bit_and bits 8) 0)) (told_is (nat_eq (bit_and bits 16) 0)) (told_is (nat_eq (bit_and bits 32) 0)) (told_is (nat_eq (bit_and bits 64) 0)) (told_is (nat_eq (bit_and bits 128) 0))

none : (j : ℕ) → j < 8 → slice_index_or nothing j 0 ≡ 0
none = each_of_eight (λ j. slice_index_or nothing j 0 ≡ 0) refl refl refl refl refl refl refl refl

-- a lane is empty where its bit is clear, and has its mask elsewhere
picked : (masks : List ℕ) (bits j : ℕ) → length masks ≡ 8 → j < 8 → slice_index_or (sel_l (clear_lanes bits) nothing masks) j 0 ≡ cond (nat_eq (bit_and bits (2 ^ j)) 0) 0 (slice_index_or masks j 0)
picked masks bits j eight lt =
    get_or-sel_l (clear_lanes bits) nothing masks j 0 lt lt (omega (arith, lt, eight)) ∙ ap (λ n. cond (slice_index_or (clear_lanes bits) j false) n (slice_index_or masks j 0)) (none j lt)
    ∙ ap (λ b. cond b 0 (slice_index_or masks j 0)) (lane bits j lt)

set_bit : (bits j : ℕ) → bit_at bits j ≡ 1 → nat_eq (bit_and bits (2 ^ j)) 0 ≡ false
set_bit bits j one = ap (λ n. nat_eq n 0) (and_pow bits j ∙ ap (λ n. n * 2 ^ j) one) ∙ not_zero (1 * 2 ^ j) (let least = one-le-pow j 2 (omega arith) in omega (arith, least))
  where
    not_zero : (n : ℕ) → 1 ≤ n → nat_eq n 0 ≡ false
    not_zero n le = grind (arith, nat_tests)

clear_bit : (bits j : ℕ) → bit_at bits j ≡ 0 → nat_eq (bit_and bits (2 ^ j)) 0 ≡ true
clear_bit bits j zero = ap (λ n. nat_eq n 0) (and_pow bits j ∙ ap (λ n. n * 2 ^ j) zero ∙ times_none (2 ^ j))
  where
    times_none : (n : ℕ) → 0 * n ≡ 0
    times_none n = omega arith

pub returns-clause-inside : goal.returns-clause-inside
returns-clause-inside c j lt one =
    let eight : length c.args.masks ≡ 8 = search rules in
    picked c.args.masks c.args.bits j eight lt ∙ ap (λ b. cond b 0 (slice_index_or c.args.masks j 0)) (set_bit c.args.bits j one)

pub returns-clause-others : goal.returns-clause-others
returns-clause-others c j lt zero =
    let eight : length c.args.masks ≡ 8 = search rules in
    picked c.args.masks c.args.bits j eight lt ∙ ap (λ b. cond b 0 (slice_index_or c.args.masks j 0)) (clear_bit c.args.bits j zero)
