-- An array made by calls that leave the closure as it is.
use Rattle.std.proofs.Common.{◌≡◌, ℕ, zero, suc, ◌+◌, ◌<◌, ◌≤◌, List, refl, slice_index_or, arith}
use Rattle.std.specs.Fn.{Called}
use Rattle.std.specs.Array.{IsFromFnResult, IsFromFnResultFrom}
use denote.Param.Members.{Mut}

made_from : {F B : Type 0} (g : Mut F (ℕ × Unit {0}) B) (P : ℕ → B → Type 0) (f : F) (top : ℕ)
    (step : (i : ℕ) (y : B) (q : F) → i < top → Called g f (i, tt) y q → P i y × (q ≡ f)) (d : B) (ys : List B)
    (p : F) (i n m k : ℕ) → p ≡ f → k ≡ i + m → m < n → i + n ≤ top → IsFromFnResultFrom g p ys i n → P k (slice_index_or ys k d)
made_from g P f top step d ys p i zero m k same e l t made = absurd (omega arith)
made_from g P f top step d ys p i (suc n) zero k same e l t made =
    let called = rw same at made.3 in
    let h = step i made.1 made.0 (omega arith) called in
    let is = made.2.1 d in let at : k ≡ i = omega arith in rw (at, is) h.0
made_from g P f top step d ys p i (suc n) (suc m) k same e l t made =
    let called = rw same at made.3 in
    let h = step i made.1 made.0 (omega arith) called in
    made_from g P f top step d ys made.0 (i + 1) n m k h.1 (omega arith) (omega arith) (omega arith) made.4

-- what holds of each call holds of each element
pub each_made : {F B : Type 0} (g : Mut F (ℕ × Unit {0}) B) (P : ℕ → B → Type 0) (f : F) (n : ℕ)
    (step : (i : ℕ) (y : B) (q : F) → i < n → Called g f (i, tt) y q → P i y × (q ≡ f)) (d : B) (ys : List B) →
    IsFromFnResult g f ys n → (k : ℕ) → k < n → P k (slice_index_or ys k d)
each_made g P f n step d ys made k l = made_from g P f n step d ys f 0 n k k refl (omega arith) l (omega arith) made.each
