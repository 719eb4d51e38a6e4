-- The first fault among the members of a list.
use Rattle.std.proofs.Common.{◌≡◌, ℕ, zero, suc, ℤ, arith, All, ◌+◌, ◌<◌, List, [], ◌∷◌, length, drop, get_or, refl, sym, ap, ◌∙◌, Bool, true, false, Option, Some, None}
use Rattle.std.specs.Prelude.{IsNone}
use Rattle.std.specs.Option.{option_or, option_map}
use Rattle.std.proofs.lemmas.List.{drop_more}
use Rattle.scene_reader.specs.declared.error.SceneError.{SceneError}
use Rattle.scene_reader.specs.Fault.{first_among, fault_if, is_bad_row, first_bad_row}
use Rattle.scene_reader.proofs.Headers.{or_second, or_parts_none, fault_none}
use Rattle.scene_reader.proofs.Valid.{row_within}
use Rattle.scene_reader.specs.Layout.{IsRow}
use Rattle.std.proofs.lemmas.List.Elements.{All-from_get_or}

-- a member without a fault is passed
pub first_step : {X F : Type 0} (fault : ℕ → X → Option F) (xs : List X) (i : ℕ) (d : X) → i < length xs → fault i (get_or xs i d) ≡ None
    → first_among fault (i + 1) (drop (i + 1) xs) ≡ first_among fault i (drop i xs)
first_step fault xs i d lt e = sym (ap (first_among fault i) (drop_more xs i d lt) ∙ or_second (fault i (get_or xs i d)) (first_among fault (i + 1) (drop (i + 1) xs)) e)

-- the fault of the first bad row, by its number
pub first_of_rows : (f : ℕ → SceneError) (i : ℕ) (rows : List (List ℤ)) → option_map f (first_among (λ k row. fault_if (is_bad_row row) k) i rows) ≡ first_among (λ k row. fault_if (is_bad_row row) (f k)) i rows
first_of_rows f i [] = refl
first_of_rows f i (row ∷ rows) = here (is_bad_row row) _ _ (first_of_rows f (i + 1) rows)
  where
    here : (bad : Bool) (o : Option ℕ) (p : Option SceneError) → option_map f o ≡ p → option_map f (option_or (fault_if bad i) o) ≡ option_or (fault_if bad (f i)) p
    here true o p e = refl
    here false o p e = e

clear_at : (i : ℕ) (rows : List (List ℤ)) → first_among (λ k row. fault_if (is_bad_row row) k) i rows ≡ None → (k : ℕ) → k < length rows → is_bad_row (get_or rows k []) ≡ false
clear_at i [] e k lt = absurd (omega (arith, lt))
clear_at i (row ∷ rows) e zero lt = fault_none _ i (or_parts_none _ _ e).0
clear_at i (row ∷ rows) e (suc k) lt = clear_at (i + 1) rows (or_parts_none (fault_if (is_bad_row row) i) _ e).1 k (omega (arith, lt))

-- rows of n numbers of which none is bad
pub rows_within : (n : ℕ) (rows : List (List ℤ)) → ((k : ℕ) → k < length rows → length (get_or rows k []) ≡ n) → first_bad_row rows ≡ None → All (IsRow n) rows
rows_within n rows long e = All-from_get_or (IsRow n) rows [] (λ k lt. (long k lt, row_within (get_or rows k []) (clear_at 0 rows e k lt)))

pub same_none : {F : Type 0} (o : Option F) → IsNone o → o ≡ None
same_none None h = refl
same_none (Some x) h = absurd cc
