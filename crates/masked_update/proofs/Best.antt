-- The best depth is there where some member covers, and it is at least what any covering member reaches.
use Rattle.std.proofs.Common.{◌≡◌, ℕ, pos, zero, suc, ◌<◌, ◌≤◌, ◌*ℤ◌, List, [], ◌∷◌, ◌++◌, Bool, true, false, length, arith, refl, ◌∙◌, sym, subst, ◌⊎◌, inl, inr}
use Rattle.std.specs.List.{Contains}
use Rattle.std.proofs.lemmas.Bool.{both_ways}
use Rattle.std.proofs.lemmas.Int.{ints}
use Rattle.std.proofs.lemmas.List.Elements.{Contains-append_left, Contains-append_right, Contains-push_cases}
use Rattle.cull_base.specs.Piece.{Piece, Point, IsPiece, covers, sample, covered}
use Rattle.cull_base.specs.Depth.{numerator, denominator, low_of, DepthAtLeast, DepthNoGreater}
use Rattle.cull_base.specs.State.{State, bound_at, empty_state}
use Rattle.cull_base.specs.Fold.{HasBestDepth, BestAtLeast, IsSound, IsLayered, step}
use Rattle.cull_base.specs.Tiles.{ArePieces}
use Rattle.cull_base.specs.declared.place.Sub.{Sub}
use Rattle.depth_plane.proofs.Products.{le_times}
use Rattle.masked_update.proofs.Fractions.{either_le, through, reaches_through}
use Rattle.masked_update.proofs.Unchanged.{length-covered, has-covered, low_reached}
use Rattle.masked_update.proofs.Sounds.{Reached, step_reached, empty_reached}

-- some member that covers p is at least v there
Reaches : List Piece → Point → ℕ → Type 0
Reaches pieces p v = (t : Piece) × Contains pieces t × (covers t p ≡ true) × DepthAtLeast t p v

-- one piece more
pub pieces_more : (pieces : List Piece) (x : Piece) → ArePieces pieces → IsPiece x → ArePieces (pieces ++ x ∷ [])
pieces_more pieces x all piece t m = elim (Contains-push_cases pieces x t m) [ inl h ↦ all t h | inr e ↦ subst IsPiece e piece ]

pub at_head : (x : Piece) (xs : List Piece) → Contains (x ∷ xs) x
at_head x xs = (0, omega arith, refl)

pub in_tail : (x y : Piece) (xs : List Piece) → Contains xs y → Contains (x ∷ xs) y
in_tail x y xs (k, lt, e) = (suc k, omega arith, e)

head_or_tail : (x y : Piece) (xs : List Piece) → Contains (x ∷ xs) y → (x ≡ y) ⊎ Contains xs y
head_or_tail x y xs (zero, lt, e) = inl e
head_or_tail x y xs (suc k, lt, e) = inr (k, omega arith, e)

no_greater_itself : (t : Piece) (p : Point) → DepthNoGreater t t p
no_greater_itself t p = omega (arith, ints)

NoneCovers : List Piece → Point → Type 0
NoneCovers pieces p = (t : Piece) → Contains pieces t → covers t p ≡ true → ⊥

none_longer : (x : Piece) (xs : List Piece) (p : Point) → covers x p ≡ false → NoneCovers xs p → NoneCovers (x ∷ xs) p
unfolding NoneCovers
none_longer x xs p e n t m c = elim (head_or_tail x t xs m) [
  | inl is ↦ let f : covers t p ≡ false = rw (← is) e in absurd (both_ways (covers t p) f c)
  | inr r ↦ n t r c
]

-- a longer list has the same best where its first member is no better
best_stays : (x t : Piece) (xs : List Piece) (p : Point) → HasBestDepth xs p t → (covers x p ≡ true → DepthNoGreater x t p) → HasBestDepth (x ∷ xs) p t
best_stays x t xs p best no_better = record {
  member = in_tail x t xs best.member;
  covering = best.covering;
  greatest = λ other m c. elim (head_or_tail x other xs m) [
    | inl is ↦ let P : Piece → Type 0 = λ y. covers y p ≡ true → DepthNoGreater y t p in subst P is no_better c
    | inr r ↦ best.greatest other r c
  ];
}

-- its first member is the best where it covers and no covering member behind it is better
best_changes : (x : Piece) (xs : List Piece) (p : Point) → covers x p ≡ true → ((other : Piece) → Contains xs other → covers other p ≡ true → DepthNoGreater other x p) → HasBestDepth (x ∷ xs) p x
best_changes x xs p c no_better = record {
  member = at_head x xs;
  covering = c;
  greatest = λ other m d. elim (head_or_tail x other xs m) [
    | inl is ↦ let P : Piece → Type 0 = λ y. DepthNoGreater y x p in subst P is (no_greater_itself x p)
    | inr r ↦ no_better other r d
  ];
}

better_of : (x t : Piece) (xs : List Piece) (p : Point) → ArePieces (x ∷ xs) → covers x p ≡ true → HasBestDepth xs p t → (b : Piece) × HasBestDepth (x ∷ xs) p b
better_of x t xs p all c best = elim (either_le (numerator x p *ℤ denominator t) (numerator t p *ℤ denominator x)) [
  | inl le ↦ (t, best_stays x t xs p best (λ _. le))
  | inr ge ↦ (
    x,
    best_changes x xs p c (λ other m d.
        through (numerator other p) (denominator other) (numerator t p) (denominator t) (numerator x p) (denominator x)
        (all other (in_tail x other xs m)).positive_area (all t (in_tail x t xs best.member)).positive_area (all x (at_head x xs)).positive_area
        (best.greatest other m d) ge),
  )
]

best_or_none : (pieces : List Piece) (p : Point) → ArePieces pieces → NoneCovers pieces p ⊎ ((t : Piece) × HasBestDepth pieces p t)
unfolding NoneCovers
best_or_none [] p all = inl (λ t m c. let lt = m.1 in absurd (omega (arith, lt)))
best_or_none (x ∷ xs) p all = by (covers x p) refl (best_or_none xs p (λ t m. all t (in_tail x t xs m)))
  where
    by : (b : Bool) → covers x p ≡ b → NoneCovers xs p ⊎ ((t : Piece) × HasBestDepth xs p t) → NoneCovers (x ∷ xs) p ⊎ ((t : Piece) × HasBestDepth (x ∷ xs) p t)
    by false e (inl n) = inl (none_longer x xs p e n)
    by false e (inr (t, best)) = inr (t, best_stays x t xs p best (λ c. absurd (both_ways (covers x p) e c)))
    by true e (inl n) = inr (x, best_changes x xs p e (λ other m c. absurd (n other m c)))
    by true e (inr (t, best)) = inr (better_of x t xs p all e best)

-- what some member reaches, the best does
best_reaches : (pieces : List Piece) (p : Point) (v : ℕ) → ArePieces pieces → Reaches pieces p v → BestAtLeast pieces p v
unfolding NoneCovers Reaches
best_reaches pieces p v all (t, m, c, at_least) = elim (best_or_none pieces p all) [
  | inl n ↦ absurd (n t m c)
  | inr (b, best) ↦ (b, best, reaches_through (pos v) (numerator t p) (denominator t) (numerator b p) (denominator b) (all t m).positive_area (all b best.member).positive_area at_least (best.greatest t m c))
]

reaches_best : (pieces : List Piece) (p : Point) (v : ℕ) → BestAtLeast pieces p v → Reaches pieces p v
unfolding Reaches
reaches_best pieces p v (t, best, at_least) = (t, best.member, best.covering, at_least)

reaches_less : (pieces : List Piece) (p : Point) (v w : ℕ) → ArePieces pieces → w ≤ v → Reaches pieces p v → Reaches pieces p w
unfolding Reaches
reaches_less pieces p v w all le (t, m, c, at_least) =
    let d = (all t m).positive_area in
    let x = le_times (pos w) (pos v) (denominator t) (omega (arith, ints, d)) (omega (arith, ints, le)) in
    (t, m, c, omega (arith, ints, x, at_least))

reaches_longer : (pieces : List Piece) (x : Piece) (p : Point) (v : ℕ) → Reaches pieces p v → Reaches (pieces ++ x ∷ []) p v
unfolding Reaches
reaches_longer pieces x p v (t, m, c, at_least) = (t, Contains-append_left pieces (x ∷ []) t m, c, at_least)

reaches_new : (pieces : List Piece) (x : Piece) (u : Sub) (k : ℕ) → IsPiece x → k < 32 → covers x (sample u k) ≡ true → Reaches (pieces ++ x ∷ []) (sample u k) (low_of x u)
unfolding Reaches
reaches_new pieces x u k piece h c = (x, Contains-append_right pieces (x ∷ []) x (at_head x []), c, low_reached x u k piece h c)

pub IsReached : Sub → List Piece → State → Type 0
IsReached u pieces s = Reached (λ k v. Reaches pieces (sample u k) v) s

pub none_reached : (u : Sub) → IsReached u [] empty_state
unfolding IsReached
none_reached u = empty_reached (λ k v. Reaches [] (sample u k) v)

pub step_is_reached : (u : Sub) (pieces : List Piece) (s : State) (x : Piece) → ArePieces (pieces ++ x ∷ []) → IsPiece x → IsReached u pieces s → IsReached u (pieces ++ x ∷ []) (step u s x)
unfolding IsReached
step_is_reached u pieces s x all piece r =
    step_reached (λ k v. Reaches pieces (sample u k) v) (λ k v. Reaches (pieces ++ x ∷ []) (sample u k) v)
    (λ k v w le h. reaches_less (pieces ++ x ∷ []) (sample u k) v w all le h)
    (λ k v h. reaches_longer pieces x (sample u k) v h)
    s (low_of x u) (covered x u) (length-covered x u)
    (λ k lt h. reaches_new pieces x u k piece lt (sym (has-covered x u k lt) ∙ h))
    r

pub reached_is_sound : (u : Sub) (pieces : List Piece) (s : State) → ArePieces pieces → IsReached u pieces s → IsSound u pieces s
unfolding IsReached
reached_is_sound u pieces s all r k lt = elim (r.reached k lt) [
  | inl z ↦ inl z
  | inr h ↦ inr (best_reaches pieces (sample u k) (bound_at s k) all h)
]

pub sound_is_reached : (u : Sub) (pieces : List Piece) (s : State) → length s.samples ≡ 32 → IsLayered s → IsSound u pieces s → IsReached u pieces s
unfolding IsReached
sound_is_reached u pieces s whole layered sound = record {
  whole = whole;
  layered = layered;
  reached = λ k lt. elim (sound k lt) [
    | inl z ↦ inl z
    | inr h ↦ inr (reaches_best pieces (sample u k) (bound_at s k) h)
  ];
}

pub reached_is_layered : (u : Sub) (pieces : List Piece) (s : State) → IsReached u pieces s → IsLayered s
unfolding IsReached
reached_is_layered u pieces s r = r.layered
