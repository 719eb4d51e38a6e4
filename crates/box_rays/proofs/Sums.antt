-- What holds of some points holds of each sum of them with weights.
use Rattle.std.proofs.Common.{◌≡◌, ◌⊎◌, inl, inr, ℕ, ℤ, pos, negsuc, neg_ℤ, zero, suc, ◌+ℤ◌, ◌*ℤ◌, ◌<ℤ◌, List, [], ◌∷◌, arith, refl}
use Rattle.std.specs.List.{All, AllZip}
use Rattle.std.proofs.lemmas.Int.{ints}
use Rattle.std.proofs.lemmas.List.Elements.{All-nil, All-cons, All-head, All-tail, All-weaker}
use Rattle.exact_clip.specs.Clip.{Clip}
use Rattle.exact_clip.specs.Held.{Holds}
use Rattle.exact_clip.specs.declared.held.Held.{Held}
use Rattle.box_rays.specs.Objects.{weighted}
use Rattle.box_rays.specs.HalfSpaces.{sum_at, IsIn}
use Rattle.box_rays.specs.declared.half_space.HalfSpace.{HalfSpace}
use Rattle.box_rays.proofs.Orders.{at_least_once, none_times, over_three, weighted_times, weighted_turned}

sum_at-weighted : (half : HalfSpace) (n : ℕ) (ns : List ℕ) (p : Clip) (ps : List Clip) → sum_at half (weighted (n ∷ ns) (p ∷ ps)) ≡ (pos n *ℤ sum_at half p) +ℤ sum_at half (weighted ns ps)
sum_at-weighted half n ns p ps =
    let rest = weighted ns ps in
    join
    (half.across *ℤ ((pos n *ℤ p.x) +ℤ rest.x)) (half.down *ℤ neg_ℤ ((pos n *ℤ p.y) +ℤ rest.y)) (half.w *ℤ ((pos n *ℤ p.w) +ℤ rest.w))
    (pos n *ℤ (half.across *ℤ p.x)) (pos n *ℤ (half.down *ℤ neg_ℤ p.y)) (pos n *ℤ (half.w *ℤ p.w))
    (half.across *ℤ rest.x) (half.down *ℤ neg_ℤ rest.y) (half.w *ℤ rest.w) (pos n *ℤ sum_at half p)
    (weighted_times half.across (pos n) p.x rest.x) (weighted_turned half.down (pos n) p.y rest.y) (weighted_times half.w (pos n) p.w rest.w)
    (over_three (pos n) (half.across *ℤ p.x) (half.down *ℤ neg_ℤ p.y) (half.w *ℤ p.w))
  where
    join : (f g h a b c i j k t : ℤ) → f ≡ a +ℤ i → g ≡ b +ℤ j → h ≡ c +ℤ k → t ≡ (a +ℤ b) +ℤ c → (f +ℤ g) +ℤ h ≡ t +ℤ ((i +ℤ j) +ℤ k)
    join f g h a b c i j k t ef eg eh et = omega (arith, ints, ef, eg, eh, et)

-- a sum is in a half of space, or its weights are all 0
abbrev IsInOrNone : HalfSpace → Clip → Type 0
IsInOrNone half v = IsIn half v ⊎ ((sum_at half v ≡ pos 0) × (v.w ≡ pos 0))

times_none : (z : ℤ) → z *ℤ pos 0 ≡ pos 0
times_none (pos z) = omega (arith, ints)
times_none (negsuc z) = omega (arith, ints)

none_in : (half : HalfSpace) → sum_at half (record { x = pos 0; y = pos 0; w = pos 0 }) ≡ pos 0
none_in half = sum _ _ _ (times_none half.across) (times_none half.down) (times_none half.w)
  where
    sum : (a b c : ℤ) → a ≡ pos 0 → b ≡ pos 0 → c ≡ pos 0 → (a +ℤ b) +ℤ c ≡ pos 0
    sum a b c i j k = omega (arith, ints, i, j, k)

-- n times a point with the sum s > 0 and the w v, and others with r and u
one_more : (n : ℕ) (s r t v u z : ℤ) → t ≡ (pos n *ℤ s) +ℤ r → z ≡ (pos n *ℤ v) +ℤ u → pos 0 <ℤ s → (pos 0 <ℤ r) ⊎ ((r ≡ pos 0) × (u ≡ pos 0)) → (pos 0 <ℤ t) ⊎ ((t ≡ pos 0) × (z ≡ pos 0))
one_more n s r t v u z et ez h (inl k) = let p = at_least_once n s h in inl (omega (arith, ints, et, p, k))
one_more zero s r t v u z et ez h (inr (er, eu)) = let p = none_times s in let q = none_times v in inr (omega (arith, ints, et, p, er), omega (arith, ints, ez, q, eu))
one_more (suc n) s r t v u z et ez h (inr (er, eu)) = let p = at_least_once (suc n) s h in inl (omega (arith, ints, et, p, er))

in_or_none : (half : HalfSpace) (ns : List ℕ) (ps : List Clip) → All (IsIn half) ps → IsInOrNone half (weighted ns ps)
in_or_none half [] ps all = inr (none_in half, refl)
in_or_none half (n ∷ ns) [] all = inr (none_in half, refl)
in_or_none half (n ∷ ns) (p ∷ ps) all =
    let rest = weighted ns ps in
    one_more n (sum_at half p) (sum_at half rest) _ p.w rest.w _ (sum_at-weighted half n ns p ps) refl (All-head (IsIn half) p ps all) (in_or_none half ns ps (All-tail (IsIn half) p ps all))

-- so each point of an object whose corners are all in a half of space is in it
pub in_weighted : (half : HalfSpace) (ns : List ℕ) (ps : List Clip) → All (IsIn half) ps → pos 0 <ℤ (weighted ns ps).w → IsIn half (weighted ns ps)
in_weighted half ns ps all front = front_in (in_or_none half ns ps all)
  where
    front_in : IsInOrNone half (weighted ns ps) → IsIn half (weighted ns ps)
    front_in (inl is) = is
    front_in (inr (sum, none)) = absurd (omega (arith, ints, none, front))

-- what each held corner says of each point that it holds
pub all_held : (P : Clip → Type 0) (unit : ℕ) (vs : List Held) (ps : List Clip) → All (λ v. (exact : Clip) → Holds unit v exact → P exact) vs → AllZip (Holds unit) vs ps → All P ps
all_held P unit [] [] all held = All-nil P
all_held P unit [] (p ∷ ps) all held = absurd held
all_held P unit (v ∷ vs) [] all held = absurd held
all_held P unit (v ∷ vs) (p ∷ ps) all held =
    All-cons P p ps (All-head (λ v. (exact : Clip) → Holds unit v exact → P exact) v vs all p held.0) (all_held P unit vs ps (All-tail (λ v. (exact : Clip) → Holds unit v exact → P exact) v vs all) held.1)

-- a held corner of which no exact point is otherwise
abbrev pub IsSure : (Clip → Type 0) → Held → Type 0
IsSure P v = (unit : ℕ) (exact : Clip) → Holds unit v exact → P exact

pub all_sure : (P : Clip → Type 0) (unit : ℕ) (vs : List Held) (ps : List Clip) → All (IsSure P) vs → AllZip (Holds unit) vs ps → All P ps
all_sure P unit vs ps all held = all_held P unit vs ps (All-weaker (IsSure P) (λ v. (exact : Clip) → Holds unit v exact → P exact) (λ v sure. sure unit) vs all) held

-- what stands in place of a corner past the last
abbrev pub no_corner : Held
no_corner = record { x = pos 0; y = pos 0; w = pos 0 }
