-- Tests of lists and their members.
use Rattle.std.proofs.Common.{◌≡◌, ℕ, zero, suc, ◌+◌, ◌<◌, ◌⊎◌, List, [], ◌∷◌, ◌++◌, length, take, get_or, Bool, true, false, Option, Some, None, arith, refl, sym, ap, ◌∙◌, inl, inr}
use Rattle.std.specs.Prelude.{IfSome}
use Rattle.std.specs.List.{All, Contains, list_all, list_any, flat_map}
use Rattle.std.proofs.lemmas.Bool.{and_parts, and_from, or_parts, or_cases}
use Rattle.std.proofs.lemmas.List.{take_more, append-nil}
use Rattle.std.proofs.lemmas.List.Concat.{flat_map-append}
use Rattle.std.proofs.lemmas.List.Elements.{All-nil, All-cons, Contains-append_left, Contains-append_right, Contains-append_cases}
use Rattle.std.proofs.lemmas.List.Folds.{list_any_at}

-- the first of some
pub first_of_list : {X : Type 0} (x : X) (xs : List X) → Contains (x ∷ xs) x
first_of_list x xs = (0, omega arith, refl)

pub later_of_list : {X : Type 0} (x y : X) (xs : List X) → Contains xs y → Contains (x ∷ xs) y
later_of_list x y xs (k, lt, is) = (suc k, omega (arith, lt), is)

pub cases_of_list : {X : Type 0} (x y : X) (xs : List X) → Contains (x ∷ xs) y → (x ≡ y) ⊎ Contains xs y
cases_of_list x y xs (zero, lt, is) = inl is
cases_of_list x y xs (suc k, lt, is) = inr (k, omega (arith, lt), is)

none_in : {X : Type 0} (y : X) → Contains [] y → ⊥
none_in y (k, lt, is) = omega (arith, lt)

-- a test that holds at one
pub one_holds : {X : Type 0} (p : X → Bool) (xs : List X) (x : X) → Contains xs x → p x ≡ true → list_any p xs ≡ true
one_holds p xs x (k, lt, is) e = list_any_at p xs k x lt (ap p is ∙ e)

pub one_that_holds : {X : Type 0} (p : X → Bool) (xs : List X) → list_any p xs ≡ true → (x : X) × Contains xs x × (p x ≡ true)
one_that_holds p [] e = absurd cc
one_that_holds p (x ∷ xs) e = elim (or_cases (p x) (list_any p xs) e) [
  | inl here ↦ (x, first_of_list x xs, here)
  | inr later ↦ let (y, m, h) = one_that_holds p xs later in (y, later_of_list x y xs m, h)
]

-- a test that holds at each
pub each_holds : {X : Type 0} (p : X → Bool) (xs : List X) (x : X) → list_all p xs ≡ true → Contains xs x → p x ≡ true
each_holds p [] x e m = absurd (none_in x m)
each_holds p (y ∷ ys) x e m =
    let both = and_parts (p y) (list_all p ys) e in
    elim (cases_of_list y x ys m) [ inl is ↦ ap p (sym is) ∙ both.0 | inr later ↦ each_holds p ys x both.1 later ]

pub each_from : {X : Type 0} (p : X → Bool) (xs : List X) → ((x : X) → Contains xs x → p x ≡ true) → list_all p xs ≡ true
each_from p [] h = refl
each_from p (x ∷ xs) h = and_from (p x) (list_all p xs) (h x (first_of_list x xs)) (each_from p xs (λ y m. h y (later_of_list x y xs m)))

-- a test that holds at none
pub none_holds : {X : Type 0} (p : X → Bool) (xs : List X) → list_any p xs ≡ false → All (λ x. p x ≡ false) xs
none_holds p [] e = All-nil (λ x. p x ≡ false)
none_holds p (x ∷ xs) e = let both = or_parts (p x) (list_any p xs) e in All-cons (λ y. p y ≡ false) x xs both.0 (none_holds p xs both.1)

pub none_there : {X : Type 0} (p : X → Bool) (xs : List X) (i : ℕ) (d : X) → list_any p xs ≡ false → i < length xs → p (get_or xs i d) ≡ false
none_there p xs i d e lt = none_holds p xs e i d lt

-- members of joined lists
pub part_of_joined : {X Y : Type 0} (f : X → List Y) (xs : List X) (x : X) (y : Y) → Contains xs x → Contains (f x) y → Contains (flat_map f xs) y
part_of_joined f [] x y m n = absurd (none_in x m)
part_of_joined f (z ∷ zs) x y m n = elim (cases_of_list z x zs m) [
  | inl is ↦ Contains-append_left (f z) (flat_map f zs) y (rw is n)
  | inr later ↦ Contains-append_right (f z) (flat_map f zs) y (part_of_joined f zs x y later n)
]

pub from_joined : {X Y : Type 0} (f : X → List Y) (xs : List X) (y : Y) → Contains (flat_map f xs) y → (x : X) × Contains xs x × Contains (f x) y
from_joined f [] y m = absurd (none_in y m)
from_joined f (x ∷ xs) y m = elim (Contains-append_cases (f x) (flat_map f xs) y m) [
  | inl here ↦ (x, first_of_list x xs, here)
  | inr later ↦ let (z, n, h) = from_joined f xs y later in (z, later_of_list x z xs n, h)
]

pub joined_more : {X Y : Type 0} (f : X → List Y) (xs : List X) (i : ℕ) (d : X) → i < length xs → flat_map f (take (i + 1) xs) ≡ flat_map f (take i xs) ++ f (get_or xs i d)
joined_more f xs i d lt =
    ap (flat_map f) (take_more xs i d lt) ∙ flat_map-append f (take i xs) (get_or xs i d ∷ []) ∙ ap (λ (ys : List _). flat_map f (take i xs) ++ ys) (append-nil (f (get_or xs i d)))

-- a fact of each value that there may be
pub if_some : {Y : Type 0} (P : Y → Type 0) (o : Option Y) → ((y : Y) → o ≡ Some y → P y) → IfSome o P
if_some P None k = tt
if_some P (Some y) k = k y refl

pub all_some : {X Y : Type 0} (f : X → Option Y) (P : Y → Type 0) (xs : List X) → ((x : X) (y : Y) → Contains xs x → f x ≡ Some y → P y) → All (λ x. IfSome (f x) P) xs
all_some f P [] h = All-nil (λ x. IfSome (f x) P)
all_some f P (x ∷ xs) h = All-cons (λ z. IfSome (f z) P) x xs (if_some P (f x) (λ y e. h x y (first_of_list x xs) e)) (all_some f P xs (λ z y m e. h z y (later_of_list x z xs m) e))

-- the member of a list of one
pub one_member : {X : Type 0} (xs : List X) → length xs ≡ 1 → (x : X) × (xs ≡ x ∷ [])
one_member [] e = absurd (omega arith)
one_member (x ∷ []) e = (x, refl)
one_member (x ∷ y ∷ xs) e = absurd (omega arith)
