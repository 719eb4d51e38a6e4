use Rattle.std.proofs.Common.{◌≡◌, pos, ◌+ℤ◌, ◌*ℤ◌, length, get_or, rules, FitsSigned, w64, arith}
use Rattle.std.proofs.lemmas.Int.{ints}
use Rattle.point_lanes.proofs.Rowing.{held, held_product, held_same, held_sum, parts_fit, products_fit, read, sum_wide, sums_fit, two_fit}
use Rattle.point_lanes.proofs.rows.sums_of.Goals as goal

lit_fits : FitsSigned w64 (pos 65536)
lit_fits = omega (arith, ints)

pub overflow_add-two : goal.overflow_add-two
overflow_add-two c =
    let la : length c.args.a ≡ 8 = search rules in let lb : length c.args.b ≡ 8 = search rules in let lc : length c.args.c ≡ 8 = search rules in
    let ha = held w64 c.args.a la (λ j lt. sum_wide (get_or c.args.a j (pos 0)) (c.requires.a j lt)) in
    let hb = held w64 c.args.b lb (λ j lt. sum_wide (get_or c.args.b j (pos 0)) (c.requires.b j lt)) in
    let hc = held w64 c.args.c lc (λ j lt. sum_wide (get_or c.args.c j (pos 0)) (c.requires.c j lt)) in
    sums_fit w64 _ _ (λ j. get_or c.args.a j (pos 0)) (λ j. get_or c.args.b j (pos 0)) ha hb
    (λ j lt. two_fit (get_or c.args.a j (pos 0)) (get_or c.args.b j (pos 0)) (c.requires.a j lt) (c.requires.b j lt))

pub overflow_add-sums : goal.overflow_add-sums
overflow_add-sums c =
    let la : length c.args.a ≡ 8 = search rules in let lb : length c.args.b ≡ 8 = search rules in let lc : length c.args.c ≡ 8 = search rules in
    let ha = held w64 c.args.a la (λ j lt. sum_wide (get_or c.args.a j (pos 0)) (c.requires.a j lt)) in
    let hb = held w64 c.args.b lb (λ j lt. sum_wide (get_or c.args.b j (pos 0)) (c.requires.b j lt)) in
    let hc = held w64 c.args.c lc (λ j lt. sum_wide (get_or c.args.c j (pos 0)) (c.requires.c j lt)) in
    sums_fit w64 _ _ (λ j. get_or c.args.a j (pos 0) +ℤ get_or c.args.b j (pos 0)) (λ j. get_or c.args.c j (pos 0))
    (held_sum w64 _ _ (λ j. get_or c.args.a j (pos 0)) (λ j. get_or c.args.b j (pos 0)) ha hb (λ j lt. two_fit (get_or c.args.a j (pos 0)) (get_or c.args.b j (pos 0)) (c.requires.a j lt) (c.requires.b j lt))) hc
    (λ j lt. sum_wide ((get_or c.args.a j (pos 0) +ℤ get_or c.args.b j (pos 0)) +ℤ get_or c.args.c j (pos 0)) (c.requires.sums j lt))

pub overflow_mul-result : goal.overflow_mul-result
overflow_mul-result c =
    let la : length c.args.a ≡ 8 = search rules in let lb : length c.args.b ≡ 8 = search rules in let lc : length c.args.c ≡ 8 = search rules in
    let ha = held w64 c.args.a la (λ j lt. sum_wide (get_or c.args.a j (pos 0)) (c.requires.a j lt)) in
    let hb = held w64 c.args.b lb (λ j lt. sum_wide (get_or c.args.b j (pos 0)) (c.requires.b j lt)) in
    let hc = held w64 c.args.c lc (λ j lt. sum_wide (get_or c.args.c j (pos 0)) (c.requires.c j lt)) in
    products_fit w64 _ _ (λ j. (get_or c.args.a j (pos 0) +ℤ get_or c.args.b j (pos 0)) +ℤ get_or c.args.c j (pos 0)) (λ j. pos 65536)
    (held_sum w64 _ _ (λ j. get_or c.args.a j (pos 0) +ℤ get_or c.args.b j (pos 0)) (λ j. get_or c.args.c j (pos 0)) (held_sum w64 _ _ (λ j. get_or c.args.a j (pos 0)) (λ j. get_or c.args.b j (pos 0)) ha hb (λ j lt. two_fit (get_or c.args.a j (pos 0)) (get_or c.args.b j (pos 0)) (c.requires.a j lt) (c.requires.b j lt))) hc (λ j lt. sum_wide ((get_or c.args.a j (pos 0) +ℤ get_or c.args.b j (pos 0)) +ℤ get_or c.args.c j (pos 0)) (c.requires.sums j lt)))
    (held_same w64 (pos 65536) (lit_fits))
    (λ j lt. parts_fit ((get_or c.args.a j (pos 0) +ℤ get_or c.args.b j (pos 0)) +ℤ get_or c.args.c j (pos 0)) (c.requires.sums j lt))

pub returns : goal.returns
returns c =
    let la : length c.args.a ≡ 8 = search rules in let lb : length c.args.b ≡ 8 = search rules in let lc : length c.args.c ≡ 8 = search rules in
    let ha = held w64 c.args.a la (λ j lt. sum_wide (get_or c.args.a j (pos 0)) (c.requires.a j lt)) in
    let hb = held w64 c.args.b lb (λ j lt. sum_wide (get_or c.args.b j (pos 0)) (c.requires.b j lt)) in
    let hc = held w64 c.args.c lc (λ j lt. sum_wide (get_or c.args.c j (pos 0)) (c.requires.c j lt)) in
    read w64 _ (λ j. ((get_or c.args.a j (pos 0) +ℤ get_or c.args.b j (pos 0)) +ℤ get_or c.args.c j (pos 0)) *ℤ pos 65536)
    (held_product w64 _ _ (λ j. (get_or c.args.a j (pos 0) +ℤ get_or c.args.b j (pos 0)) +ℤ get_or c.args.c j (pos 0)) (λ j. pos 65536)
    (held_sum w64 _ _ (λ j. get_or c.args.a j (pos 0) +ℤ get_or c.args.b j (pos 0)) (λ j. get_or c.args.c j (pos 0)) (held_sum w64 _ _ (λ j. get_or c.args.a j (pos 0)) (λ j. get_or c.args.b j (pos 0)) ha hb (λ j lt. two_fit (get_or c.args.a j (pos 0)) (get_or c.args.b j (pos 0)) (c.requires.a j lt) (c.requires.b j lt))) hc (λ j lt. sum_wide ((get_or c.args.a j (pos 0) +ℤ get_or c.args.b j (pos 0)) +ℤ get_or c.args.c j (pos 0)) (c.requires.sums j lt)))
    (held_same w64 (pos 65536) (lit_fits))
    (λ j lt. parts_fit ((get_or c.args.a j (pos 0) +ℤ get_or c.args.b j (pos 0)) +ℤ get_or c.args.c j (pos 0)) (c.requires.sums j lt)))
