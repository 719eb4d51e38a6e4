-- Lines, one after the other: what a text begins with tells its first lines.
use Rattle.std.proofs.Common.{◌≡◌, ℕ, zero, suc, ◌+◌, ◌-◌, ◌*◌, ◌<◌, ◌≤◌, List, [], ◌∷◌, ◌++◌, length, drop, get_or, arith, refl, sym, ap, ◌∙◌, subst, append_assoc, inl, inr}
use Rattle.std.specs.List.{AllByRecursion, flat_map, range_with_len}
use Rattle.std.proofs.lemmas.Bool.{cases_lt}
use Rattle.std.proofs.lemmas.Grind.{flat_map-append}
use Rattle.std.proofs.lemmas.List.{append-nil, length-append}
use Rattle.cull_report.proofs.LiveTexts.{each_more}
use Rattle.live_check.specs.Logs.{AreLines, IsBare}

-- ---- bytes that begin with others

pub head_same : (a b : ℕ) (x y : List ℕ) → a ∷ x ≡ b ∷ y → a ≡ b
head_same a b x y e = ap (λ (bytes : List ℕ). get_or bytes 0 0) e

pub tail_same : (a b : ℕ) (x y : List ℕ) → a ∷ x ≡ b ∷ y → x ≡ y
tail_same a b x y e = ap (λ (bytes : List ℕ). drop 1 bytes) e

pub cons_same : {A : Type 0} (a b : A) (x y : List A) → a ≡ b → x ≡ y → a ∷ x ≡ b ∷ y
cons_same a b x y p q = λ i. p i ∷ q i

-- ---- one line

pub bare_append : (x y : List ℕ) → IsBare x → IsBare y → IsBare (x ++ y)
bare_append [] y p q = q
bare_append (b ∷ x) y p q = (p.0, bare_append x y p.1 q)

-- a line that both begin with
pub line_same : (x y r q : List ℕ) → IsBare x → IsBare y → x ++ (10 ∷ r) ≡ y ++ (10 ∷ q) → (x ≡ y) × (r ≡ q)
line_same [] [] r q p s e = (refl, tail_same 10 10 r q e)
line_same [] (b ∷ y) r q p s e = absurd (s.0 (sym (head_same 10 b r (y ++ (10 ∷ q)) e)))
line_same (a ∷ x) [] r q p s e = absurd (p.0 (head_same a 10 (x ++ (10 ∷ r)) q e))
line_same (a ∷ x) (b ∷ y) r q p s e =
    let rest = line_same x y r q p.1 s.1 (tail_same a b (x ++ (10 ∷ r)) (y ++ (10 ∷ q)) e) in
    (cons_same a b x y (head_same a b (x ++ (10 ∷ r)) (y ++ (10 ∷ q)) e) rest.0, rest.1)

-- ---- some lines

abbrev pub ended : List ℕ → List ℕ
ended l = l ++ 10 ∷ []

abbrev pub joined : List (List ℕ) → List ℕ
joined lines = flat_map (λ (l : List ℕ). l ++ 10 ∷ []) lines

-- a line in front
opened : (a t r : List ℕ) → (ended a ++ t) ++ r ≡ a ++ (10 ∷ (t ++ r))
opened a t r = ap (λ (x : List ℕ). x ++ r) (append_assoc a (10 ∷ []) t) ∙ append_assoc a (10 ∷ t) r

-- the first lines of the longer ones are the others, and what follows these begins with the rest of them
lists_same : (xs ys : List (List ℕ)) (r q : List ℕ) → AllByRecursion IsBare xs → AllByRecursion IsBare ys → length xs ≤ length ys → joined xs ++ r ≡ joined ys ++ q
    → (zs : List (List ℕ)) × (ys ≡ xs ++ zs) × AllByRecursion IsBare zs × (r ≡ joined zs ++ q)
lists_same [] ys r q p s le e = (ys, refl, s, e)
lists_same (a ∷ xs) [] r q p s le e = absurd (omega (arith, le))
lists_same (a ∷ xs) (b ∷ ys) r q p s le e =
    let one = line_same a b (joined xs ++ r) (joined ys ++ q) p.0 s.0 (sym (opened a (joined xs) r) ∙ e ∙ opened b (joined ys) q) in
    let (zs, is, bare, left) = lists_same xs ys r q p.1 s.1 (omega (arith, le)) one.1 in
    (zs, cons_same b a ys (xs ++ zs) (sym one.0) is, bare, left)

bare_lists : (xs ys : List (List ℕ)) → AllByRecursion IsBare xs → AllByRecursion IsBare ys → AllByRecursion IsBare (xs ++ ys)
bare_lists [] ys p q = q
bare_lists (a ∷ xs) ys p q = (p.0, bare_lists xs ys p.1 q)

-- of two fronts of a text the one with more lines begins with the other
pub fronts : (n m : ℕ) (a b r q : List ℕ) → AreLines n a → AreLines m b → n ≤ m → a ++ r ≡ b ++ q → (mid : List ℕ) × AreLines (m - n) mid × (b ≡ a ++ mid) × (r ≡ mid ++ q)
fronts n m a b r q la lb le e =
    let same : joined la.lines ++ r ≡ joined lb.lines ++ q = ap (λ (t : List ℕ). t ++ r) (sym la.spelled) ∙ e ∙ ap (λ (t : List ℕ). t ++ q) lb.spelled in
    let (zs, is, bare, left) = lists_same la.lines lb.lines r q la.bare lb.bare (omega (arith, la.count, lb.count, le)) same in
    let count : length zs ≡ m - n = omega (arith, ap length is, length-append la.lines zs, la.count, lb.count) in (
      joined zs,
      record { lines = zs; count = count; bare = bare; spelled = refl },
      lb.spelled ∙ ap joined is ∙ flat_map-append (λ (l : List ℕ). l ++ 10 ∷ []) la.lines zs ∙ ap (λ (t : List ℕ). t ++ joined zs) (sym la.spelled),
      left,
    )

-- no lines are no bytes
none_joined : (lines : List (List ℕ)) → length lines ≡ 0 → joined lines ≡ []
none_joined [] none = refl
none_joined (a ∷ xs) none = absurd (omega (arith, none))

-- two fronts of so many lines are one
pub equal_fronts : (n : ℕ) (a b r q : List ℕ) → AreLines n a → AreLines n b → a ++ r ≡ b ++ q → (a ≡ b) × (r ≡ q)
equal_fronts n a b r q la lb e =
    let (mid, lines, is, left) = fronts n n a b r q la lb (omega arith) e in
    let none : mid ≡ [] = lines.spelled ∙ none_joined lines.lines (omega (arith, lines.count)) in
    (sym (is ∙ ap (λ (t : List ℕ). a ++ t) none ∙ append-nil a), left ∙ ap (λ (t : List ℕ). t ++ q) none)

pub no_lines : AreLines 0 []
no_lines = record { lines = []; count = refl; bare = tt; spelled = refl }

pub one_line : (x : List ℕ) → IsBare x → AreLines 1 (x ++ 10 ∷ [])
one_line x bare = record { lines = x ∷ []; count = refl; bare = (bare, tt); spelled = sym (append-nil (x ++ 10 ∷ [])) }

pub more_lines : (n m : ℕ) (a b : List ℕ) → AreLines n a → AreLines m b → AreLines (n + m) (a ++ b)
more_lines n m a b la lb = record {
  lines = la.lines ++ lb.lines;
  count = omega (arith, length-append la.lines lb.lines, la.count, lb.count);
  bare = bare_lists la.lines lb.lines la.bare lb.bare;
  spelled = ap (λ (t : List ℕ). t ++ b) la.spelled ∙ ap (λ (t : List ℕ). joined la.lines ++ t) lb.spelled ∙ sym (flat_map-append (λ (l : List ℕ). l ++ 10 ∷ []) la.lines lb.lines);
}

pub same_lines : (n m : ℕ) (a : List ℕ) → n ≡ m → AreLines n a → AreLines m a
same_lines n m a is l = subst (λ (k : ℕ). AreLines k a) is l

-- so many times so many lines
pub each_lines : (f : ℕ → List ℕ) (k n : ℕ) → ((i : ℕ) → i < n → AreLines k (f i)) → AreLines (k * n) (flat_map f (range_with_len 0 n))
each_lines f k zero each = same_lines 0 (k * zero) [] (omega arith) no_lines
each_lines f k (suc n) each =
    let before = each_lines f k n (λ i lt. each i (omega (arith, lt))) in
    let last = each n (omega arith) in
    let count : k * n + k ≡ k * suc n = omega arith in
    let is : suc n ≡ n + 1 = omega arith in
    let all : AreLines (k * n + k) (flat_map f (range_with_len 0 (n + 1))) = subst (AreLines (k * n + k)) (sym (each_more f n)) (more_lines (k * n) k (flat_map f (range_with_len 0 n)) (f n) before last) in
    same_lines (k * n + k) (k * suc n) (flat_map f (range_with_len 0 (suc n))) count (subst (λ (m : ℕ). AreLines (k * n + k) (flat_map f (range_with_len 0 m))) (sym is) all)

-- some lines have a byte
some_bytes : (k : ℕ) (x : List ℕ) (lines : List (List ℕ)) → length lines ≡ k → x ≡ joined lines → 0 < k → length x ≡ 0 → ⊥
some_bytes k x [] count is some none = absurd (omega (arith, count, some))
some_bytes k x (a ∷ xs) count is some none = absurd (omega (arith, none, ap length is, length-append (a ++ 10 ∷ []) (joined xs), length-append a (10 ∷ [])))

-- a text has no more lines than one that begins with it
pub count_same : (n m : ℕ) (a r : List ℕ) → AreLines n a → AreLines m (a ++ r) → n ≤ m
count_same n m a r la lb = elim (cases_lt m n) [
  | inl more ↦
      let (mid, lines, is, left) = fronts m n (a ++ r) a [] r lb la (omega (arith, more)) (append-nil (a ++ r)) in
      absurd (some_bytes (n - m) mid lines.lines lines.count lines.spelled (omega (arith, more)) (omega (arith, ap length left, length-append mid r)))
  | inr le ↦ le
]
