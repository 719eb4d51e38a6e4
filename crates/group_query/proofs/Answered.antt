-- Verdicts that are appended, stretch by stretch.
use Rattle.std.proofs.Common.{◌≡◌, ℕ, ◌+◌, ◌-◌, ◌<◌, ◌≤◌, ◌++◌, List, [], ◌∷◌, length, map, take, drop, get_or, append_assoc, arith, refl, sym, ap, ◌∙◌}
use Rattle.std.proofs.Math.Seq.{take-add}
use Rattle.std.proofs.lemmas.List.{append-nil, drop-drop, length-append, length-drop, length-take}
use Rattle.cull_base.specs.declared.scene_types.Object.{Object}
use Rattle.cull_base.specs.declared.scene_types.Verdict.{Verdict}
use Rattle.cull_report.proofs.MadeRuns.{next_verdict}

pub answered_none : (all old : List Verdict) (first n : ℕ) → n ≡ 0 → old ≡ old ++ take n (drop first all)
answered_none all old first n e = sym (append-nil old) ∙ ap (λ (m : ℕ). old ++ take m (drop first all)) (sym e)

-- no verdict from a place to itself
pub answered_same : (all old : List Verdict) (place : ℕ) → old ≡ old ++ take (place - place) (drop place all)
answered_same all old place = answered_none all old place (place - place) (omega arith)

-- the next verdict
pub answered_next : (f : Object → Verdict) (objects : List Object) (old so_far more : List Verdict) (first k : ℕ) (d : Object) (v : Verdict) → first + k < length objects
    → so_far ≡ old ++ take k (drop first (map f objects)) → v ≡ f (get_or objects (first + k) d) → more ≡ so_far ++ v ∷ [] → more ≡ old ++ take (k + 1) (drop first (map f objects))
answered_next f objects old so_far more first k d v lt e is pushed =
    let rest = drop first (map f objects) in
    pushed ∙ ap (λ (xs : List Verdict). xs ++ v ∷ []) e ∙ append_assoc old (take k rest) (v ∷ []) ∙ ap (λ (x : Verdict). old ++ (take k rest ++ x ∷ [])) is
    ∙ sym (ap (λ (xs : List Verdict). old ++ xs) (next_verdict f objects first k d lt))

-- one stretch and then the next
pub answered_more : (all old so_far more : List Verdict) (first a b : ℕ) → so_far ≡ old ++ take a (drop first all) → more ≡ so_far ++ take b (drop (first + a) all) → more ≡ old ++ take (a + b) (drop first all)
answered_more all old so_far more first a b e f =
    let rest = drop first all in
    let next = take b (drop (first + a) all) in
    f ∙ ap (λ (xs : List Verdict). xs ++ next) e ∙ append_assoc old (take a rest) next
    ∙ ap (λ (xs : List Verdict). old ++ xs) (ap (λ (ys : List Verdict). take a rest ++ take b ys) (sym (drop-drop a first all)) ∙ sym (take-add a b rest))

pub answered_length : (all old more : List Verdict) (first n : ℕ) → more ≡ old ++ take n (drop first all) → first + n ≤ length all → length more ≡ length old + n
answered_length all old more first n e le =
    let whole = ap length e in
    omega (arith, whole, length-append old (take n (drop first all)), length-take n (drop first all), length-drop first all, le)

-- the same, by other numbers
pub answered_as : (all old more : List Verdict) (first n from m : ℕ) → first ≡ from → n ≡ m → more ≡ old ++ take n (drop first all) → more ≡ old ++ take m (drop from all)
answered_as all old more first n from m a b e = e ∙ ap (λ (k : ℕ). old ++ take n (drop k all)) a ∙ ap (λ (k : ℕ). old ++ take k (drop from all)) b

-- ---- with how many there are

-- so many verdicts from a place on follow on those that there were
pub record HasAnswered (all old : List Verdict) (first count : ℕ) (now : List Verdict) : Type 0 where
  pub answered : now ≡ old ++ take count (drop first all)
  pub so_many : length now ≡ length old + count

pub has_answered : (all old now : List Verdict) (first count : ℕ) → now ≡ old ++ take count (drop first all) → first + count ≤ length all → HasAnswered all old first count now
has_answered all old now first count e le = record { answered = e; so_many = answered_length all old now first count e le }

pub has_none : (all old : List Verdict) (first : ℕ) → HasAnswered all old first 0 old
has_none all old first = record { answered = answered_none all old first 0 refl; so_many = omega arith }

pub has_next : (f : Object → Verdict) (objects : List Object) (old so_far more : List Verdict) (first k : ℕ) (d : Object) (v : Verdict) → first + k < length objects
    → HasAnswered (map f objects) old first k so_far → v ≡ f (get_or objects (first + k) d) → more ≡ so_far ++ v ∷ [] → HasAnswered (map f objects) old first (k + 1) more
has_next f objects old so_far more first k d v lt has is pushed = record {
  answered = answered_next f objects old so_far more first k d v lt has.answered is pushed;
  so_many = (let n = ap length pushed in omega (arith, n, length-append so_far (v ∷ []), has.so_many));
}

-- all of so many
pub has_all : (all old now : List Verdict) (first k count : ℕ) → HasAnswered all old first k now → k ≡ count → now ≡ old ++ take count (drop first all)
has_all all old now first k count has whole = has.answered ∙ ap (λ (n : ℕ). old ++ take n (drop first all)) whole
