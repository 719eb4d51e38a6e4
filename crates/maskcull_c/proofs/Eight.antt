-- The eight corners of a box, one by one.
use Rattle.std.proofs.Common.{◌≡◌, List, [], ◌∷◌, length, get_or, arith, refl}

pub eight_of : {X : Type 0} (vs : List X) (d : X) → length vs ≡ 8
    → vs ≡ get_or vs 0 d ∷ get_or vs 1 d ∷ get_or vs 2 d ∷ get_or vs 3 d ∷ get_or vs 4 d ∷ get_or vs 5 d ∷ get_or vs 6 d ∷ get_or vs 7 d ∷ []
eight_of [] d n = absurd (omega (arith, n))
eight_of (a ∷ []) d n = absurd (omega (arith, n))
eight_of (a ∷ b ∷ []) d n = absurd (omega (arith, n))
eight_of (a ∷ b ∷ c ∷ []) d n = absurd (omega (arith, n))
eight_of (a ∷ b ∷ c ∷ e ∷ []) d n = absurd (omega (arith, n))
eight_of (a ∷ b ∷ c ∷ e ∷ f ∷ []) d n = absurd (omega (arith, n))
eight_of (a ∷ b ∷ c ∷ e ∷ f ∷ g ∷ []) d n = absurd (omega (arith, n))
eight_of (a ∷ b ∷ c ∷ e ∷ f ∷ g ∷ h ∷ []) d n = absurd (omega (arith, n))
eight_of (a ∷ b ∷ c ∷ e ∷ f ∷ g ∷ h ∷ i ∷ []) d n = refl
eight_of (a ∷ b ∷ c ∷ e ∷ f ∷ g ∷ h ∷ i ∷ j ∷ vs) d n = absurd (omega (arith, n))
