-- Bounds on products of integers.
use Rattle.std.proofs.Common.{ℕ, ℤ, pos, negsuc, suc, ◌*◌, ◌≤◌, ◌*ℤ◌, arith}
use Rattle.std.proofs.lemmas.Int.{ints}
use Rattle.std.proofs.Math.Nat.{mul-le-mul, mul-le-mul_left}
use Rattle.cull_base.specs.Bounds.{Bounded}

pub bounded-mul : (m n : ℕ) (a b : ℤ) → Bounded m a → Bounded n b → Bounded (m * n) (a *ℤ b)
bounded-mul m n (pos a) (pos b) h k = let x : a ≤ m = omega (arith, ints, h) in let y : b ≤ n = omega (arith, ints, k) in let p = mul-le-mul x y in (omega (arith, ints, p), omega (arith, ints, p))
bounded-mul m n (pos a) (negsuc b) h k = let x : a ≤ m = omega (arith, ints, h) in let y : suc b ≤ n = omega (arith, ints, k) in let p = mul-le-mul x y in (omega (arith, ints, p), omega (arith, ints, p))
bounded-mul m n (negsuc a) (pos b) h k = let x : suc a ≤ m = omega (arith, ints, h) in let y : b ≤ n = omega (arith, ints, k) in let p = mul-le-mul x y in (omega (arith, ints, p), omega (arith, ints, p))
bounded-mul m n (negsuc a) (negsuc b) h k = let x : suc a ≤ m = omega (arith, ints, h) in let y : suc b ≤ n = omega (arith, ints, k) in let p = mul-le-mul x y in (omega (arith, ints, p), omega (arith, ints, p))

-- so many times a bounded number
pub times-bounded : (g m : ℕ) (b : ℤ) → Bounded g b → Bounded (g * m) (pos m *ℤ b)
times-bounded g m (pos b) h = let le : b ≤ g = omega (arith, ints, h) in let k = mul-le-mul_left m le in (omega (arith, ints, k), omega (arith, ints, k))
times-bounded g m (negsuc b) h = let le : suc b ≤ g = omega (arith, ints, h) in let k = mul-le-mul_left m le in (omega (arith, ints, k), omega (arith, ints, k))
