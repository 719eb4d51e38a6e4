-- The lines of verdicts, one after the other.
use Rattle.std.proofs.Common.{◌≡◌, ℕ, ◌+◌, ◌-◌, ◌<◌, ◌≤◌, min, List, [], ◌∷◌, ◌++◌, length, take, drop, arith, refl, sym, ap, ◌∙◌, append_assoc, get_or, inl, inr}
use Rattle.std.proofs.Math.Seq.{take-add}
use Rattle.std.proofs.lemmas.Bool.{cases_lt}
use Rattle.std.proofs.lemmas.List.{take_all, drop_all, take_min, append-nil, take_more, length-take, take-append-drop}
use Rattle.cull_base.specs.declared.scene_types.Verdict.{Verdict}
use Rattle.cull_report.specs.Text.{verdict_line, verdict_lines}

pub verdict_lines-append : (object : ℕ) (xs ys : List Verdict) → verdict_lines object (xs ++ ys) ≡ verdict_lines object xs ++ verdict_lines (object + length xs) ys
verdict_lines-append object [] ys = ap (λ k. verdict_lines k ys) (omega arith)
verdict_lines-append object (x ∷ xs) ys =
    let e = verdict_lines-append (object + 1) xs ys in
    let k : (object + 1) + length xs ≡ object + length (x ∷ xs) = omega arith in
    ap (λ t. verdict_line object x ++ t) (e ∙ ap (λ n. verdict_lines (object + 1) xs ++ verdict_lines n ys) k) ∙ sym (append_assoc (verdict_line object x) (verdict_lines (object + 1) xs) (verdict_lines (object + length (x ∷ xs)) ys))

-- the lines so far and the next one, numbered from a first
pub verdict_lines-push : (first : ℕ) (xs : List Verdict) (k : ℕ) (d : Verdict) → k < length xs → verdict_lines first (take (k + 1) xs) ≡ verdict_lines first (take k xs) ++ verdict_line (first + k) (get_or xs k d)
verdict_lines-push first xs k d lt =
    let x = get_or xs k d in
    let n : first + length (take k xs) ≡ first + k = omega (arith, length-take k xs) in
    ap (verdict_lines first) (take_more xs k d lt) ∙ verdict_lines-append first (take k xs) (x ∷ [])
    ∙ ap (λ (m : ℕ). verdict_lines first (take k xs) ++ verdict_lines m (x ∷ [])) n ∙ ap (λ (t : List ℕ). verdict_lines first (take k xs) ++ t) (append-nil (verdict_line (first + k) x))

-- the lines so far and those of the next verdicts
pub verdict_lines-batch : (xs : List Verdict) (k n : ℕ) → verdict_lines 0 (take (k + n) xs) ≡ verdict_lines 0 (take k xs) ++ verdict_lines k (take n (drop k xs))
verdict_lines-batch xs k n = ap (verdict_lines 0) (take-add k n xs) ∙ verdict_lines-append 0 (take k xs) (take n (drop k xs)) ∙ elim (cases_lt k (length xs)) [
  | inl lt ↦ (let m : 0 + length (take k xs) ≡ k = omega (arith, lt, length-take k xs) in ap (λ (i : ℕ). verdict_lines 0 (take k xs) ++ verdict_lines i (take n (drop k xs))) m)
  | inr past ↦ (let none : take n (drop k xs) ≡ [] = ap (take n) (drop_all k xs (omega (arith, past))) ∙ take_all n [] (omega arith) in rw none refl)
]

-- all lines: those so far, those of the next verdicts and the others
pub verdict_lines-batches : (xs : List Verdict) (k n : ℕ) → (others : List ℕ) × (verdict_lines 0 xs ≡ verdict_lines 0 (take k xs) ++ (verdict_lines k (take n (drop k xs)) ++ others))
verdict_lines-batches xs k n =
    let rest = drop (k + n) xs in
    let i = 0 + length (take (k + n) xs) in (
      verdict_lines i rest,
      ap (verdict_lines 0) (sym (take-append-drop (k + n) xs)) ∙ verdict_lines-append 0 (take (k + n) xs) rest ∙ ap (λ (t : List ℕ). t ++ verdict_lines i rest) (verdict_lines-batch xs k n)
          ∙ append_assoc (verdict_lines 0 (take k xs)) (verdict_lines k (take n (drop k xs))) (verdict_lines i rest),
    )

-- a whole batch, or what is left
pub taken_batch : (xs : List Verdict) (k m : ℕ) → k ≤ length xs → m ≡ min 128 (length xs - k) → take (k + 128) xs ≡ take (k + m) xs
taken_batch xs k m le is =
    let one : min (k + 128) (length xs) ≡ min (k + m) (length xs) = omega (arith, is, le) in
    sym (take_min (k + 128) xs) ∙ ap (λ n. take n xs) one ∙ take_min (k + m) xs
