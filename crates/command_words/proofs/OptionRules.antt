-- The options as `clap` has them once the command is built, and how it finds them.
use Rattle.std.proofs.Common.{◌≡◌, ◌∙◌, ◌<◌, ◌&&◌, ◌||◌, ◌⊎◌, inl, inr, ℕ, Bool, true, false, cond, not, refl, sym, ap, arith, List, [], ◌∷◌, ◌++◌, map, length, Some, zero, suc, true≢false}
use Rattle.std.specs.Prelude.{Contains}
use Rattle.std.specs.List.{find, list_all, slice_index_or}
use Rattle.std.specs.Str.{bytes_eq}
use Rattle.std.proofs.lemmas.Slice.Eq.{bytes_eq-Decides}
use Rattle.clap.specs.Walk.{Rule, Text, arg_by_id, arg_by_long}
use Rattle.clap.specs.Simple.{filled, help_rule, with_index}
use Rattle.clap.proofs.WalkLemmas.{both}
use Rattle.command_words.specs.App.{rule_by}
use Rattle.command_words.specs.Table.{AnOption, Taken}

abbrev pub ready_by : Text → Taken → Rule
ready_by name takes = with_index 1 (filled (rule_by name takes))

abbrev pub ready : AnOption → Rule
ready o = ready_by o.name o.takes

abbrev pub ready_help : Rule
ready_help = with_index 1 (filled help_rule)

abbrev pub rules_for : List AnOption → List Rule
rules_for options = map ready options ++ ready_help ∷ []

-- what is behind the first
abbrev pub tail_of : {Y : Type 0} → List Y → List Y
tail_of [] = []
tail_of (y ∷ ys) = ys

-- no two options have one name
abbrev pub are_apart : List AnOption → Bool
are_apart [] = true
are_apart (o ∷ rest) = list_all (λ x. not (bytes_eq o.name x.name)) rest && are_apart rest

-- the option is one of these
abbrev pub IsOf : AnOption → List AnOption → Type 0
IsOf o [] = ⊥
IsOf o (x ∷ rest) = (x ≡ o) ⊎ IsOf o rest

of_at : (options : List AnOption) (o : AnOption) (k : ℕ) → k < length options → slice_index_or options k o ≡ o → IsOf o options
of_at [] o k lt at = absurd (omega arith)
of_at (x ∷ rest) o zero lt at = inl at
of_at (x ∷ rest) o (suc k) lt at = inr (of_at rest o k (omega arith) at)

pub of_contained : (options : List AnOption) (o : AnOption) → Contains options o → IsOf o options
of_contained options o c = of_at options o c.0 c.1 c.2

pub same_text : (text : Text) → bytes_eq text text ≡ true
same_text text = (bytes_eq-Decides text text).1 refl

pub is_no : (b : Bool) → not b ≡ true → b ≡ false
is_no true e = sym e
is_no false e = refl

pub apart_from : (x : AnOption) (rest : List AnOption) (o : AnOption) → list_all (λ y. not (bytes_eq x.name y.name)) rest ≡ true → IsOf o rest → bytes_eq x.name o.name ≡ false
apart_from x [] o apart of = absurd of
apart_from x (y ∷ rest) o apart of =
    let parts = both (not (bytes_eq x.name y.name)) _ apart in
    elim of [
      | inl e ↦ ap (λ (z : AnOption). bytes_eq x.name z.name) (sym e) ∙ is_no _ parts.0
      | inr later ↦ apart_from x rest o parts.1 later
    ]

-- a search that asks for a name finds its option
pub found_by : (p : Rule → Bool) (options : List AnOption) (o : AnOption) → ((x : AnOption) → p (ready x) ≡ bytes_eq x.name o.name) → are_apart options ≡ true → IsOf o options
    → find p (rules_for options) ≡ Some (ready o)
found_by p [] o asks apart of = absurd of
found_by p (x ∷ rest) o asks apart of =
    let parts = both (list_all (λ (y : AnOption). not (bytes_eq x.name y.name)) rest) _ apart in
    elim of [
      | inl e ↦
          let hit : p (ready x) ≡ true = asks x ∙ ap (λ (z : AnOption). bytes_eq z.name o.name) e ∙ same_text o.name in
          ap (λ b. cond b (Some (ready x)) (find p (rules_for rest))) hit ∙ ap (λ (z : AnOption). Some (ready z)) e
      | inr later ↦
          let miss : p (ready x) ≡ false = asks x ∙ apart_from x rest o parts.0 later in
          ap (λ b. cond b (Some (ready x)) (find p (rules_for rest))) miss ∙ found_by p rest o asks parts.1 later
    ]

pub or_none : (b : Bool) → (b || false) ≡ b
or_none true = refl
or_none false = refl

pub found_long : (options : List AnOption) (o : AnOption) → are_apart options ≡ true → IsOf o options → arg_by_long (rules_for options) o.name ≡ Some (ready o)
found_long options o apart of = found_by _ options o (λ x. or_none (bytes_eq x.name o.name)) apart of

pub found_id : (options : List AnOption) (o : AnOption) → are_apart options ≡ true → IsOf o options → arg_by_id (rules_for options) o.name ≡ Some (ready o)
found_id options o apart of = found_by _ options o (λ x. refl) apart of

pub differs_back : (a b : Text) → bytes_eq a b ≡ false → bytes_eq b a ≡ false
differs_back a b differs = go (bytes_eq b a) refl
  where
    go : (c : Bool) → bytes_eq b a ≡ c → bytes_eq b a ≡ false
    go false e = e
    go true e = absurd (true≢false (sym (same_text a) ∙ ap (bytes_eq a) (sym ((bytes_eq-Decides b a).0 e)) ∙ differs))

-- options of one name are one
pub same_option : (options : List AnOption) (a b : AnOption) → are_apart options ≡ true → IsOf a options → IsOf b options → a.name ≡ b.name → a ≡ b
same_option [] a b apart of_a of_b same = absurd of_a
same_option (x ∷ rest) a b apart of_a of_b same =
    let parts = both (list_all (λ (y : AnOption). not (bytes_eq x.name y.name)) rest) _ apart in
    elim of_a [
      | inl ea ↦ elim of_b [
        | inl eb ↦ sym ea ∙ eb
        | inr later ↦ absurd (true≢false (sym (same_text x.name) ∙ ap (bytes_eq x.name) (ap (λ (z : AnOption). z.name) ea ∙ same) ∙ apart_from x rest b parts.0 later))
      ]
      | inr early ↦ elim of_b [
        | inl eb ↦ absurd (true≢false (sym (same_text x.name) ∙ ap (bytes_eq x.name) (ap (λ (z : AnOption). z.name) eb ∙ sym same) ∙ apart_from x rest a parts.0 early))
        | inr later ↦ same_option rest a b parts.1 early later same
      ]
    ]
