-- Lanes that are chosen by a comparison, and the bytes of lanes.
use Rattle.std.proofs.Common.{◌≡◌, ℕ, ◌+◌, ◌-◌, ◌%◌, ◌^◌, ◌<◌, ◌≤◌, ◌&&◌, Bool, true, false, cond, nat_le, nat_lt, min, zero, suc, List, [], ◌∷◌, map, length, get_or, slice_index_or, replicate, refl, sym, ap, ap₂, ◌∙◌, arith, w8, w16, Fits}
use Rattle.std.specs.Int.{bit_at}
use Rattle.std.specs.Simd.Lanes.{zip2, sel_l, top, mask_l, Each1, Each2}
use Rattle.std.proofs.lemmas.Bool.Decides.{nat_tests}
use Rattle.std.proofs.lemmas.Nat.Bits.{bit_at-zero}
use Rattle.std.proofs.lemmas.Simd.{tops_compared, bit_mask_l, mask_l-mod, get_or-sel_l, length-sel_l, get_or-zip2, length-zip2, get_or-replicate, Each1-get_or, Each1-from_get_or, Each2-splat, below_from_Fits}
use mir.Syntax.{Width}
use mir.Val.{bits, hbits}

-- the lanes of us where a test of xs and ys holds, and else those of vs
abbrev pub chosen : Width → (ℕ → ℕ → Bool) → List ℕ → List ℕ → List ℕ → List ℕ → List ℕ
chosen w t xs ys us vs = sel_l (map (top (hbits w)) (zip2 (λ a b. cond (t a b) (2 ^ bits w - 1) 0) xs ys)) us vs

-- as many as there are of each
pub chosen_long : (w : Width) (t : ℕ → ℕ → Bool) (n : ℕ) (xs ys us vs : List ℕ) → length xs ≡ n → length ys ≡ n → length us ≡ n → length vs ≡ n → length (chosen w t xs ys us vs) ≡ n
chosen_long w t n xs ys us vs hx hy hu hv =
    let told : length (zip2 t xs ys) ≡ n = length-zip2 t xs ys (hx ∙ sym hy) ∙ hx in
    ap (λ ms. length (sel_l ms us vs)) (tops_compared w t xs ys) ∙ length-sel_l (zip2 t xs ys) us vs (told ∙ sym hu) (told ∙ sym hv) ∙ told

-- one of them
pub chosen_at : (w : Width) (t : ℕ → ℕ → Bool) (n : ℕ) (xs ys us vs : List ℕ) → length xs ≡ n → length ys ≡ n → length us ≡ n → length vs ≡ n → (i : ℕ) → i < n
    → get_or (chosen w t xs ys us vs) i 0 ≡ cond (t (get_or xs i 0) (get_or ys i 0)) (get_or us i 0) (get_or vs i 0)
chosen_at w t n xs ys us vs hx hy hu hv i lt =
    let told : length (zip2 t xs ys) ≡ n = length-zip2 t xs ys (hx ∙ sym hy) ∙ hx in
    ap (λ ms. get_or (sel_l ms us vs) i 0) (tops_compared w t xs ys)
    ∙ get_or-sel_l (zip2 t xs ys) us vs i 0 (omega arith) (omega arith) (omega arith)
    ∙ ap (λ b. cond b (get_or us i 0) (get_or vs i 0)) (get_or-zip2 t xs ys i 0 0 false (omega arith) (omega arith))

-- where no number is below the one at its place in other eight, none lies from the first to before the second
pub none_between : (xs ys : List ℕ) → length xs ≡ 8 → length ys ≡ 8 → mask_l (map (top 15) (zip2 (λ a b. cond (nat_lt a b) 65535 0) xs ys)) % 2 ^ 64 ≡ 0
    → (i n : ℕ) → i < 8 → (nat_le (slice_index_or xs i 0) n && nat_lt n (slice_index_or ys i 0)) ≡ false
none_between xs ys hx hy none i n lt =
    let told : length (zip2 nat_lt xs ys) ≡ 8 = length-zip2 nat_lt xs ys (hx ∙ sym hy) ∙ hx in
    let empty : mask_l (zip2 nat_lt xs ys) ≡ 0 =
    sym (mask_l-mod (zip2 nat_lt xs ys) 64 (omega (arith, told))) ∙ sym (ap (λ ms. mask_l ms % 2 ^ 64) (tops_compared w16 nat_lt xs ys)) ∙ none in
    let clear : ◌≡◌ {A = ℕ} 0 (cond (get_or (zip2 nat_lt xs ys) i false) 1 0) = sym (ap (λ m. bit_at m i) empty ∙ bit_at-zero i) ∙ bit_mask_l (zip2 nat_lt xs ys) i in
    apart (get_or xs i 0) (get_or ys i 0) n
    (sym (get_or-zip2 nat_lt xs ys i 0 0 false (omega (arith, hx, lt)) (omega (arith, hy, lt))) ∙ unset (get_or (zip2 nat_lt xs ys) i false) clear)
  where
    unset : (b : Bool) → ◌≡◌ {A = ℕ} 0 (cond b 1 0) → b ≡ false
    unset true e = absurd (omega (arith, e))
    unset false e = refl

    apart : (a b n : ℕ) → nat_lt a b ≡ false → (nat_le a n && nat_lt n b) ≡ false
    apart a b n e = grind (arith, nat_tests)

-- the lesser of two, as the lanes choose it
pub lesser : (x y : ℕ) → cond (nat_lt x y) x y ≡ min x y
lesser x y = grind (arith, nat_tests)

-- ---- what is left of eight numbers past one, and at most so much

-- each number, or c where that is greater
abbrev pub raised : ℕ → List ℕ → List ℕ
raised c xs = chosen w16 nat_lt xs (replicate 8 c) (replicate 8 c) xs

raised_long : (c : ℕ) (xs : List ℕ) → length xs ≡ 8 → length (raised c xs) ≡ 8
raised_long c xs long = chosen_long w16 nat_lt 8 xs (replicate 8 c) (replicate 8 c) xs long refl refl long

raised_at : (c : ℕ) (xs : List ℕ) → length xs ≡ 8 → (i : ℕ) → i < 8 → get_or (raised c xs) i 0 ≡ cond (nat_lt (get_or xs i 0) c) c (get_or xs i 0)
raised_at c xs long i lt =
    chosen_at w16 nat_lt 8 xs (replicate 8 c) (replicate 8 c) xs long refl refl long i lt
    ∙ ap (λ n. cond (nat_lt (get_or xs i 0) n) n (get_or xs i 0)) (get_or-replicate 8 i c 0 lt)

-- so that c can be taken from each
pub none_below : (c : ℕ) (xs : List ℕ) → length xs ≡ 8 → Each2 (λ a b. b ≤ a) (raised c xs) (replicate 8 c)
none_below c xs long =
    Each2-splat (λ a b. b ≤ a) (raised c xs) 8 c
    (Each1-from_get_or (λ a. c ≤ a) (raised c xs) 0 (λ i lt. let e = raised_at c xs long i (omega (arith, raised_long c xs long)) in grind (arith, nat_tests)))

-- how far each lies past c
abbrev pub left : ℕ → List ℕ → List ℕ
left c xs = zip2 (λ a b. a - b) (raised c xs) (replicate 8 c)

left_long : (c : ℕ) (xs : List ℕ) → length xs ≡ 8 → length (left c xs) ≡ 8
left_long c xs long = length-zip2 (λ a b. a - b) (raised c xs) (replicate 8 c) (raised_long c xs long) ∙ raised_long c xs long

left_at : (c : ℕ) (xs : List ℕ) → length xs ≡ 8 → (i : ℕ) → i < 8 → get_or (left c xs) i 0 ≡ get_or xs i 0 - c
left_at c xs long i lt =
    get_or-zip2 (λ a b. a - b) (raised c xs) (replicate 8 c) i 0 0 0 (omega (arith, raised_long c xs long)) (omega arith)
    ∙ ap₂ (λ a b. a - b) (raised_at c xs long i lt) (get_or-replicate 8 i c 0 lt)
    ∙ past (get_or xs i 0) c
  where
    past : (x c : ℕ) → cond (nat_lt x c) c x - c ≡ x - c
    past x c = grind (arith, nat_tests)

-- at most so many of that
abbrev pub cut : ℕ → ℕ → List ℕ → List ℕ
cut c most xs = chosen w16 nat_lt (left c xs) (replicate 8 most) (left c xs) (replicate 8 most)

-- eight of them
pub cut_long : (c most : ℕ) (xs : List ℕ) → length xs ≡ 8 → length (cut c most xs) ≡ 8
cut_long c most xs long = let l = left_long c xs long in chosen_long w16 nat_lt 8 (left c xs) (replicate 8 most) (left c xs) (replicate 8 most) l refl l refl

-- each of them
pub cut_at : (c most : ℕ) (xs : List ℕ) → length xs ≡ 8 → (i : ℕ) → i < 8 → get_or (cut c most xs) i 0 ≡ min (get_or xs i 0 - c) most
cut_at c most xs long i lt =
    let l = left_long c xs long in
    chosen_at w16 nat_lt 8 (left c xs) (replicate 8 most) (left c xs) (replicate 8 most) l refl l refl i lt
    ∙ ap₂ (λ a b. cond (nat_lt a b) a b) (left_at c xs long i lt) (get_or-replicate 8 i most 0 lt) ∙ lesser (get_or xs i 0 - c) most

-- so that as many can be taken from as much
pub none_above : (most : ℕ) (xs : List ℕ) → length xs ≡ 8 → ((i : ℕ) → i < 8 → get_or xs i 0 ≤ most) → Each2 (λ a b. b ≤ a) (replicate 8 most) xs
none_above most xs long le = by 8 xs long le
  where
    by : (n : ℕ) (xs : List ℕ) → length xs ≡ n → ((i : ℕ) → i < n → get_or xs i 0 ≤ most) → Each2 (λ a b. b ≤ a) (replicate n most) xs
    by zero xs long le = tt
    by (suc n) [] long le = absurd (omega (arith, long))
    by (suc n) (x ∷ xs) long le = (le 0 (omega arith), by n xs (omega (arith, long)) (λ i lt. le (suc i) (omega (arith, lt))))

pub taken_long : (most : ℕ) (xs : List ℕ) → length xs ≡ 8 → length (zip2 (λ a b. a - b) (replicate 8 most) xs) ≡ 8
taken_long most xs long = length-zip2 (λ a b. a - b) (replicate 8 most) xs (sym long)

pub taken_at : (most : ℕ) (xs : List ℕ) → length xs ≡ 8 → (i : ℕ) → i < 8 → get_or (zip2 (λ a b. a - b) (replicate 8 most) xs) i 0 ≡ most - get_or xs i 0
taken_at most xs long i lt =
    get_or-zip2 (λ a b. a - b) (replicate 8 most) xs i 0 0 0 (omega arith) (omega (arith, long, lt)) ∙ ap (λ a. a - get_or xs i 0) (get_or-replicate 8 i most 0 lt)

-- ---- the same of bytes, past as many, and at most 8

-- a difference of bytes, which wraps
abbrev pub less : ℕ → ℕ → ℕ
less a b = (a + (2 ^ 8 - b)) % 2 ^ 8

-- a difference that stops at 0
abbrev pub excess : List ℕ → List ℕ → List ℕ
excess xs ys = zip2 less (chosen w8 nat_lt xs ys ys xs) ys

excess_long : (xs ys : List ℕ) → length xs ≡ 32 → length ys ≡ 32 → length (excess xs ys) ≡ 32
excess_long xs ys hx hy =
    let l = chosen_long w8 nat_lt 32 xs ys ys xs hx hy hy hx in length-zip2 less (chosen w8 nat_lt xs ys ys xs) ys (l ∙ sym hy) ∙ l

excess_at : (xs ys : List ℕ) → length xs ≡ 32 → length ys ≡ 32 → Each1 (Fits w8) xs → Each1 (Fits w8) ys → (i : ℕ) → i < 32 → get_or (excess xs ys) i 0 ≡ get_or xs i 0 - get_or ys i 0
excess_at xs ys hx hy fx fy i lt =
    let l = chosen_long w8 nat_lt 32 xs ys ys xs hx hy hy hx in
    let bx = Each1-get_or (λ a. a < 256) xs i 0 (omega arith) (below_from_Fits w8 xs fx) in
    let by = Each1-get_or (λ a. a < 256) ys i 0 (omega arith) (below_from_Fits w8 ys fy) in
    get_or-zip2 less (chosen w8 nat_lt xs ys ys xs) ys i 0 0 0 (omega arith) (omega arith)
    ∙ ap (λ a. less a (get_or ys i 0)) (chosen_at w8 nat_lt 32 xs ys ys xs hx hy hy hx i lt)
    ∙ one (nat_lt (get_or xs i 0) (get_or ys i 0)) (get_or xs i 0) (get_or ys i 0) refl bx by
  where
    one : (t : Bool) (a b : ℕ) → nat_lt a b ≡ t → a < 256 → b < 256 → less (cond t b a) b ≡ a - b
    one true a b e la lb = let h : a < b = grind (arith, nat_tests) in omega arith
    one false a b e la lb = let h : b ≤ a = grind (arith, nat_tests) in omega arith

-- at most 8 of it
abbrev pub at_most_8 : List ℕ → List ℕ → List ℕ
at_most_8 xs ys = chosen w8 nat_lt (excess xs ys) (replicate 32 8) (excess xs ys) (replicate 32 8)

-- 32 of them
pub at_most_8_long : (xs ys : List ℕ) → length xs ≡ 32 → length ys ≡ 32 → length (at_most_8 xs ys) ≡ 32
at_most_8_long xs ys hx hy = let l = excess_long xs ys hx hy in chosen_long w8 nat_lt 32 (excess xs ys) (replicate 32 8) (excess xs ys) (replicate 32 8) l refl l refl

-- each of them
pub at_most_8_at : (xs ys : List ℕ) → length xs ≡ 32 → length ys ≡ 32 → Each1 (Fits w8) xs → Each1 (Fits w8) ys → (i : ℕ) → i < 32 → get_or (at_most_8 xs ys) i 0 ≡ min (get_or xs i 0 - get_or ys i 0) 8
at_most_8_at xs ys hx hy fx fy i lt =
    let l = excess_long xs ys hx hy in
    chosen_at w8 nat_lt 32 (excess xs ys) (replicate 32 8) (excess xs ys) (replicate 32 8) l refl l refl i lt
    ∙ ap₂ (λ a b. cond (nat_lt a b) a b) (excess_at xs ys hx hy fx fy i lt) (get_or-replicate 32 i 8 0 lt) ∙ lesser (get_or xs i 0 - get_or ys i 0) 8
