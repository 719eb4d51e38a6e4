-- Eight lanes one by one.
use Rattle.std.proofs.Common.{ℕ, zero, suc, ◌<◌, List, [], ◌∷◌, length, get_or, arith}
use Rattle.std.specs.Simd.Lanes.{Each2}

-- what holds at each of eight places
pub each_of_eight : (P : ℕ → Type 0) → P 0 → P 1 → P 2 → P 3 → P 4 → P 5 → P 6 → P 7 → (j : ℕ) → j < 8 → P j
each_of_eight P a b c d e f g h zero lt = a
each_of_eight P a b c d e f g h (suc zero) lt = b
each_of_eight P a b c d e f g h (suc (suc zero)) lt = c
each_of_eight P a b c d e f g h (suc (suc (suc zero))) lt = d
each_of_eight P a b c d e f g h (suc (suc (suc (suc zero)))) lt = e
each_of_eight P a b c d e f g h (suc (suc (suc (suc (suc zero))))) lt = f
each_of_eight P a b c d e f g h (suc (suc (suc (suc (suc (suc zero)))))) lt = g
each_of_eight P a b c d e f g h (suc (suc (suc (suc (suc (suc (suc zero))))))) lt = h
each_of_eight P a b c d e f g h (suc (suc (suc (suc (suc (suc (suc (suc n)))))))) lt = absurd (omega arith)

-- a fact of the lanes of two vectors at each place
pub each_pair : (R : ℕ → ℕ → Type 0) (xs ys : List ℕ) → ((j : ℕ) → j < length xs → R (get_or xs j 0) (get_or ys j 0)) → Each2 R xs ys
each_pair R [] ys h = tt
each_pair R (x ∷ xs) [] h = tt
each_pair R (x ∷ xs) (y ∷ ys) h = (h 0 (omega arith), each_pair R xs ys (λ j lt. h (suc j) (omega (arith, lt))))
