-- Eight numbers of a table, compared with another at once.
use Rattle.std.proofs.Common.{◌≡◌, ℕ, ◌+◌, ◌-◌, ◌<◌, ◌≤◌, List, drop, length, take, map, false, cond, nat_lt, get_or, arith, ap, ◌∙◌, sym}
use Rattle.std.specs.Int.{bit_at}
use Rattle.std.specs.Simd.Lanes.{chunk, mask_l}
use Rattle.std.proofs.lemmas.Bool.Decides.{nat_tests}
use Rattle.std.proofs.lemmas.Simd.{bit_mask_l, length-chunk, get_or-chunk}
use Rattle.std.proofs.lemmas.List.{get_or-drop, get_or-map, length-drop, take_all}

-- a lane whose bit of a comparison is clear
lane_clear : (xs : List ℕ) (nearest i : ℕ) → length xs ≡ 8 → i < 8 → bit_at (mask_l (map (λ r. nat_lt r nearest) xs)) i ≡ 0 → nearest ≤ get_or xs i 0
lane_clear xs nearest i eight lt clear =
    let is = bit_mask_l (map (λ r. nat_lt r nearest) xs) i in
    let one : get_or (map (λ r. nat_lt r nearest) xs) i false ≡ nat_lt (get_or xs i 0) nearest = get_or-map (λ r. nat_lt r nearest) xs i 0 false (omega (arith, eight, lt)) in
    let e = sym clear ∙ is ∙ ap (λ b. cond b 1 0) one in
    grind (arith, nat_tests)

-- the eight numbers of a table from one on
abbrev pub eight_from : List ℕ → ℕ → List ℕ
eight_from table n = chunk 0 8 (take (length table - n) (drop n table))

rest : (table : List ℕ) (n : ℕ) → take (length table - n) (drop n table) ≡ drop n table
rest table n = let long = length-drop n table in take_all (length table - n) (drop n table) (omega (arith, long))

pub are_eight : (table : List ℕ) (n : ℕ) → n + 8 ≤ length table → length (eight_from table n) ≡ 8
are_eight table n le =
    let long = length-drop n table in
    ap (λ zs. length (chunk 0 8 zs)) (rest table n) ∙ length-chunk 0 8 (drop n table) (omega (arith, le, long))

pub clear_at : (table : List ℕ) (n nearest i : ℕ) → n + 8 ≤ length table → i < 8 → bit_at (mask_l (map (λ r. nat_lt r nearest) (eight_from table n))) i ≡ 0 → nearest ≤ get_or table (n + i) 0
clear_at table n nearest i le lt clear =
    let here = lane_clear (eight_from table n) nearest i (are_eight table n le) lt clear in
    let none : 0 + i ≡ i = omega arith in
    let is : get_or (eight_from table n) i 0 ≡ get_or table (n + i) 0 = ap (λ zs. get_or (chunk 0 8 zs) i 0) (rest table n) ∙ get_or-chunk 0 8 (drop n table) i 0 lt ∙ ap (λ k. get_or (drop n table) k 0) none ∙ get_or-drop n table i 0 in
    omega (arith, here, is)
