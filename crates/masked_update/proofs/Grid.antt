-- Things in rows and columns, numbered row by row, and numbers between two others.
use Rattle.std.proofs.Common.{◌≡◌, ◌≢◌, ℕ, suc, ◌+◌, ◌*◌, ◌/◌, ◌%◌, ◌<◌, ◌≤◌, true, false, arith, ◌∙◌}
use Rattle.std.specs.Cmp.{both_ways}
use Rattle.std.proofs.lemmas.Bool.Decides.{nat_tests}
use Rattle.std.proofs.lemmas.Nat.{div-mul-add}
use Rattle.std.proofs.Math.Nat.{mul-add-mod_self_right, mod-eq_of_lt, mul-le-mul_right}
use Rattle.cull_base.specs.Span.{is_between}

-- the place of a number
pub place : (row columns column : ℕ) → column < columns → ((row * columns + column) / columns ≡ row) × ((row * columns + column) % columns ≡ column)
place row columns column lt = (div-mul-add row columns column lt, mul-add-mod_self_right row columns column ∙ mod-eq_of_lt lt)

pub number_below : (row rows column columns : ℕ) → row < rows → column < columns → row * columns + column < columns * rows
number_below row rows column columns lt below =
    let le : suc row * columns ≤ rows * columns = mul-le-mul_right columns (omega arith) in
    omega arith

-- a test that grows by one number keeps its answer elsewhere
pub grows_elsewhere : (first n k : ℕ) → k ≢ n → is_between first n k ≡ is_between first (n + 1) k
grows_elsewhere first n k ne = both_ways _ _ (λ h. grind (arith, nat_tests)) (λ h. grind (arith, nat_tests))

pub before : (first n k : ℕ) → k ≡ n → is_between first n k ≡ false
before first n k e = grind (arith, nat_tests)

pub last_between : (first n k : ℕ) → first ≤ n → k ≡ n → is_between first (n + 1) k ≡ true
last_between first n k le e = grind (arith, nat_tests)

pub none_between : (first k : ℕ) → is_between first first k ≡ false
none_between first k = grind (arith, nat_tests)
