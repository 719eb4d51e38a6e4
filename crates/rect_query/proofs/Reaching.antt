-- What the reach of some vertices says of each of them.
use Rattle.std.proofs.Common.{◌≡◌, ◌∙◌, ℕ, ℤ, pos, neg_ℤ, ◌*◌, ◌<◌, ◌≤◌, ◌≤ℤ◌, FitsSigned, w32, w64, List, [], ◌∷◌, length, map, take, drop, get_or, ◌+◌, Bool, true, false, ◌||◌, ◌&&◌, int_lt, cond, arith, refl, sym, ap}
use Rattle.std.specs.Int.{int_min, int_max}
use Rattle.std.specs.List.{fold, list_all, list_any, All}
use Rattle.std.proofs.lemmas.Int.{ints, clamps, fold-int_min_bounds}
use Rattle.std.proofs.lemmas.List.Elements.{All-drop}
use Rattle.std.proofs.lemmas.Bool.{both_ways, or_parts, false_from_ne_true}
use Rattle.std.proofs.lemmas.List.Folds.{list_any_at}
use Rattle.std.proofs.lemmas.List.Sums.{fold_more}
use Rattle.cull_base.specs.declared.clip.ClipVertex.{ClipVertex}
use Rattle.cull_base.specs.Guard.{is_beyond, is_past_guard}
use Rattle.cull_base.specs.NearPlane.{is_behind}
use Rattle.cull_base.specs.Piece.{least_of}
use Rattle.rect_query.specs.declared.reach.Limits.{Limits}
use Rattle.rect_query.specs.declared.reach.Reach.{Reach}
use Rattle.rect_query.specs.Reaches.{widened, reach_of, reach_with, reach_of_all, are_beyond, is_reach_astray}
use Rattle.rect_query.proofs.Corners.{w_front, w_guarded}

-- tests joined by `or` and `and`
or_swap : (a b c d : Bool) → ((a || b) || (c || d)) ≡ ((a || c) || (b || d))
or_swap true b c d = refl
or_swap false true true d = refl
or_swap false true false d = refl
or_swap false false c d = refl

or_assoc : (a b c : Bool) → ((a || b) || c) ≡ (a || (b || c))
or_assoc true b c = refl
or_assoc false b c = refl

and_assoc : (a b c : Bool) → ((a && b) && c) ≡ (a && (b && c))
and_assoc true b c = refl
and_assoc false b c = refl

or_none : (a : Bool) → a ≡ (a || false)
or_none true = refl
or_none false = refl

and_all : (a : Bool) → a ≡ (a && true)
and_all true = refl
and_all false = refl

or_same : (a b c d : Bool) → a ≡ c → b ≡ d → (a || b) ≡ (c || d)
or_same a b c d e f = rw (e, f) refl

-- where one of two tests follows from the other
or_second : (x y : Bool) → (x ≡ true → y ≡ true) → y ≡ (x || y)
or_second true y h = h refl
or_second false y h = refl

or_first : (x y : Bool) → (y ≡ true → x ≡ true) → x ≡ (x || y)
or_first true y h = refl
or_first false true h = h refl
or_first false false h = refl

and_first : (x y : Bool) → (x ≡ true → y ≡ true) → x ≡ (x && y)
and_first true y h = sym (h refl)
and_first false y h = refl

and_second : (x y : Bool) → (y ≡ true → x ≡ true) → y ≡ (x && y)
and_second true y h = refl
and_second false true h = sym (h refl)
and_second false false h = refl

-- two orders after one another
less_less : (a b c : ℤ) → int_lt a b ≡ true → int_lt b c ≡ true → int_lt a c ≡ true
less_less a b c e f = grind (arith, ints)

most_less : (a b c : ℤ) → int_lt b a ≡ false → int_lt b c ≡ true → int_lt a c ≡ true
most_less a b c e f = grind (arith, ints)

less_most : (a b c : ℤ) → int_lt a b ≡ true → int_lt c b ≡ false → int_lt a c ≡ true
less_most a b c e f = grind (arith, ints)

-- the least of two numbers is below a limit where one is
least_below : (a z c : ℤ) → int_lt (int_min a z) c ≡ (int_lt a c || int_lt z c)
least_below a z c = by (int_lt z a) refl
  where
    by : (p : Bool) → int_lt z a ≡ p → int_lt (cond p z a) c ≡ (int_lt a c || int_lt z c)
    by true e = or_second (int_lt a c) (int_lt z c) (λ h. less_less z a c e h)
    by false e = or_first (int_lt a c) (int_lt z c) (λ h. most_less a z c e h)

-- the greatest is above one where one is, and below one where both are
greatest_above : (a z c : ℤ) → int_lt c (int_max a z) ≡ (int_lt c a || int_lt c z)
greatest_above a z c = by (int_lt z a) refl
  where
    by : (p : Bool) → int_lt z a ≡ p → int_lt c (cond p a z) ≡ (int_lt c a || int_lt c z)
    by true e = or_first (int_lt c a) (int_lt c z) (λ h. less_less c z a h e)
    by false e = or_second (int_lt c a) (int_lt c z) (λ h. less_most c a z h e)

greatest_below : (a z c : ℤ) → int_lt (int_max a z) c ≡ (int_lt a c && int_lt z c)
greatest_below a z c = by (int_lt z a) refl
  where
    by : (p : Bool) → int_lt z a ≡ p → int_lt (cond p a z) c ≡ (int_lt a c && int_lt z c)
    by true e = and_first (int_lt a c) (int_lt z c) (λ h. less_less z a c e h)
    by false e = and_second (int_lt a c) (int_lt z c) (λ h. most_less a z c e h)

beyond_more : (n : ℕ) (l : Limits) (z : ℤ) → are_beyond n (widened l z) ≡ (are_beyond n l || is_beyond n z)
beyond_more n l z =
    or_same _ _ _ _ (least_below l.least z (neg_ℤ (pos n))) (greatest_above l.greatest z (pos n))
    ∙ or_swap (int_lt l.least (neg_ℤ (pos n))) (int_lt z (neg_ℤ (pos n))) (int_lt (pos n) l.greatest) (int_lt (pos n) z)

-- one more vertex
abbrev is_stray : ℕ → ClipVertex → Bool
is_stray near v = is_past_guard v near || is_behind near v

astray_more : (near : ℕ) (r : Reach) (v : ClipVertex) → is_reach_astray near (reach_with r v) ≡ (is_reach_astray near r || is_stray near v)
astray_more near r v =
    let n = 16384 * near in
    let yw = or_same _ _ _ _ (beyond_more n r.y v.y) (beyond_more n r.w v.w) ∙ or_swap (are_beyond n r.y) (is_beyond n v.y) (are_beyond n r.w) (is_beyond n v.w) in
    let xyw = or_same _ _ _ _ (beyond_more n r.x v.x) yw ∙ or_swap (are_beyond n r.x) (is_beyond n v.x) (are_beyond n r.y || are_beyond n r.w) (is_beyond n v.y || is_beyond n v.w) in
    or_same _ _ _ _ xyw (least_below r.w.least v.w (pos near))
    ∙ or_swap (are_beyond n r.x || (are_beyond n r.y || are_beyond n r.w)) (is_past_guard v near) (int_lt r.w.least (pos near)) (is_behind near v)

-- and all of them
astray_from : (near : ℕ) (vs : List ClipVertex) (r : Reach) → is_reach_astray near (fold reach_with r vs) ≡ (is_reach_astray near r || list_any (is_stray near) vs)
astray_from near [] r = or_none (is_reach_astray near r)
astray_from near (v ∷ vs) r =
    astray_from near vs (reach_with r v) ∙ ap (λ (b : Bool). b || list_any (is_stray near) vs) (astray_more near r v)
    ∙ or_assoc (is_reach_astray near r) (is_stray near v) (list_any (is_stray near) vs)

pub astray_is : (near : ℕ) (vs : List ClipVertex) → 0 < length vs → is_reach_astray near (reach_of_all vs) ≡ list_any (λ v. is_past_guard v near || is_behind near v) vs
astray_is near [] lt = absurd (omega arith)
astray_is near (v ∷ vs) lt = astray_from near vs (reach_of v)

behind_from : (near : ℕ) (vs : List ClipVertex) (r : Reach) → int_lt (fold reach_with r vs).w.greatest (pos near) ≡ (int_lt r.w.greatest (pos near) && list_all (is_behind near) vs)
behind_from near [] r = and_all (int_lt r.w.greatest (pos near))
behind_from near (v ∷ vs) r =
    behind_from near vs (reach_with r v) ∙ ap (λ (b : Bool). b && list_all (is_behind near) vs) (greatest_below r.w.greatest v.w (pos near))
    ∙ and_assoc (int_lt r.w.greatest (pos near)) (is_behind near v) (list_all (is_behind near) vs)

pub behind_is : (near : ℕ) (vs : List ClipVertex) → 0 < length vs → int_lt (reach_of_all vs).w.greatest (pos near) ≡ list_all (is_behind near) vs
behind_is near [] lt = absurd (omega arith)
behind_is near (v ∷ vs) lt = behind_from near vs (reach_of v)

least_w_from : (vs : List ClipVertex) (r : Reach) → (fold reach_with r vs).w.least ≡ fold int_min r.w.least (map (λ v. v.w) vs)
least_w_from [] r = refl
least_w_from (v ∷ vs) r = least_w_from vs (reach_with r v)

-- the reach of a first vertex and some more
pub reach_more : (v : ClipVertex) (vs : List ClipVertex) (i : ℕ) (d : ClipVertex) (r next : Reach) → i < length vs → r ≡ fold reach_with (reach_of v) (take i vs) → next ≡ reach_with r (get_or vs i d)
    → next ≡ fold reach_with (reach_of v) (take (i + 1) vs)
reach_more v vs i d r next lt e g = g ∙ ap (λ (x : Reach). reach_with x (get_or vs i d)) e ∙ sym (fold_more reach_with (reach_of v) vs i d lt)

pub reach_is : (vs : List ClipVertex) (d : ClipVertex) → 0 < length vs → fold reach_with (reach_of (get_or vs 0 d)) (drop 1 vs) ≡ reach_of_all vs
reach_is [] d lt = absurd (omega arith)
reach_is (v ∷ vs) d lt = refl

-- the least distance of vertices within the guard and in front of the near plane
pub record IsLeastW (near : ℕ) (vs : List ClipVertex) (w : ℤ) : Type 0 where
  pub value : w ≡ least_of (map (λ v. v.w) vs)
  pub front : pos near ≤ℤ w
  pub fits : FitsSigned w32 w

front_from : (near : ℕ) (a : ℤ) (vs : List ClipVertex) → pos near ≤ℤ a → All (λ v. is_behind near v ≡ false) vs → pos near ≤ℤ fold int_min a (map (λ v. v.w) vs)
front_from near a [] h all = h
front_from near a (v ∷ vs) h all =
    front_from near (int_min a v.w) vs
    (both (pos near) a v.w (int_min a v.w) refl h (w_front near v (all 0 v (omega arith))))
    (All-drop (λ u. is_behind near u ≡ false) 1 (v ∷ vs) all)
  where
    both : (n x y m : ℤ) → m ≡ int_min x y → n ≤ℤ x → n ≤ℤ y → n ≤ℤ m
    both n x y m e i j = omega (arith, ints, clamps, e, i, j)

pub least_w_is : (near : ℕ) (vs : List ClipVertex) → near ≤ 1024 → 0 < length vs → All (λ v. is_past_guard v near ≡ false) vs → All (λ v. is_behind near v ≡ false) vs → IsLeastW near vs (reach_of_all vs).w.least
least_w_is near [] few lt g f = absurd (omega arith)
least_w_is near (v ∷ vs) few lt g f =
    let e = least_w_from vs (reach_of v) in
    let low = front_from near v.w vs (w_front near v (f 0 v (omega arith))) (All-drop (λ u. is_behind near u ≡ false) 1 (v ∷ vs) f) in
    let most = (fold-int_min_bounds v.w (map (λ u. u.w) vs) _ refl).0 in
    record { value = e; front = rw e low; fits = rw e (between _ _ low most (w_guarded near v (g 0 v (omega arith)))) }
  where
    between : (x y : ℤ) → pos near ≤ℤ x → x ≤ℤ y → y ≤ℤ pos (16384 * near) → FitsSigned w32 x
    between x y low i j = omega (arith, ints, few, low, i, j)

pub least_w_of : (near : ℕ) (vs : List ClipVertex) (r : Reach) → near ≤ 1024 → r ≡ reach_of_all vs → 0 < length vs → All (λ v. is_past_guard v near ≡ false) vs → All (λ v. is_behind near v ≡ false) vs → IsLeastW near vs r.w.least
least_w_of near vs r few e lt g f = rw e (least_w_is near vs few lt g f)

pub fits_wide : (z : ℤ) → FitsSigned w32 z → FitsSigned w64 z
fits_wide z h = omega (arith, ints, h)

-- limits by their two numbers
pub limits_is : (l : Limits) (a b : ℤ) → l.least ≡ a → l.greatest ≡ b → let k : Limits = record { least = a; greatest = b } in l ≡ k
limits_is l a b e f = rw (← e, ← f) refl

-- where no vertex is astray
pub none_stray : (near : ℕ) (vs : List ClipVertex) (k : ℕ) (d : ClipVertex) → list_any (λ v. is_past_guard v near || is_behind near v) vs ≡ false → k < length vs
    → (is_past_guard (get_or vs k d) near ≡ false) × (is_behind near (get_or vs k d) ≡ false)
none_stray near vs k d e lt = or_parts _ _ (false_from_ne_true (is_stray near (get_or vs k d)) (λ h. both_ways (list_any (is_stray near) vs) e (list_any_at (is_stray near) vs k d lt h)))
