-- How many members a bin has drawn, one place more at a time.
use Rattle.std.proofs.Common.{◌≡◌, ℕ, zero, suc, ◌+◌, ◌≤◌, List, [], ◌∷◌, ◌++◌, length, Bool, true, false, cond, arith, get_or, replicate, refl, ap, ◌∙◌, sym, subst}
use Rattle.std.proofs.lemmas.List.{append-nil, get_or-replicate, length-append}
use Rattle.std.proofs.Math.ListN.{length-replicate}
use Rattle.cull_base.specs.Tiles.{PieceList}
use Rattle.binning.specs.Cut.{CutOf, bin_count_of}
use Rattle.binning.specs.Bins.{bin_rect_of}
use Rattle.binning.specs.Places.{NoneMeets, meets_at, places_in}
use Rattle.binning.proofs.Places.{places_in-append, places_in-next, places_in-nil, places_in-none}
use Rattle.bin_tiles.specs.Bins.{HaveTaken, drawn_of}

module _ (list : PieceList) (cut : CutOf) (bin : ℕ) where
  pub drawn_none : drawn_of list cut 0 bin ≡ 0
  drawn_none = ap length (places_in-nil (bin_rect_of list.size cut bin) list.members 0)

  -- members that miss the bin add nothing
  pub drawn_same : (a b : ℕ) → a ≤ b → NoneMeets (bin_rect_of list.size cut bin) list.members a b → drawn_of list cut b bin ≡ drawn_of list cut a bin
  drawn_same a b le none =
      let rect = bin_rect_of list.size cut bin in
      let first = places_in rect list.members 0 a in
      ap length (places_in-append rect list.members 0 a b (omega arith) le ∙ ap (λ ks. first ++ ks) (places_in-none rect list.members a b le none) ∙ append-nil first)

  one_of : (b : Bool) (n : ℕ) → length (cond b (n ∷ []) []) ≡ cond b 1 0
  one_of true n = refl
  one_of false n = refl

  drawn_next : (n : ℕ) → drawn_of list cut (n + 1) bin ≡ drawn_of list cut n bin + cond (meets_at (bin_rect_of list.size cut bin) list.members n) 1 0
  drawn_next n =
      let rect = bin_rect_of list.size cut bin in
      let first = places_in rect list.members 0 n in
      let met = meets_at rect list.members n in
      ap length (places_in-next rect list.members 0 n (omega arith)) ∙ length-append first (cond met (n ∷ []) []) ∙ ap (λ k. length first + k) (one_of met n)

  -- one that meets it adds one
  pub drawn_more : (n : ℕ) → meets_at (bin_rect_of list.size cut bin) list.members n ≡ true → drawn_of list cut (n + 1) bin ≡ drawn_of list cut n bin + 1
  drawn_more n met = drawn_next n ∙ ap (λ b. drawn_of list cut n bin + cond b 1 0) met

  pub drawn_missed : (n : ℕ) → meets_at (bin_rect_of list.size cut bin) list.members n ≡ false → drawn_of list cut (n + 1) bin ≡ drawn_of list cut n bin
  drawn_missed n off = drawn_next n ∙ ap (λ b. drawn_of list cut n bin + cond b 1 0) off ∙ (let e : drawn_of list cut n bin + 0 ≡ drawn_of list cut n bin = omega arith in e)

  at_most_one : (b : Bool) → cond b 1 0 ≤ 1
  at_most_one true = omega arith
  at_most_one false = omega arith

  -- a bin has drawn no more than there are
  pub drawn_within : (n : ℕ) → drawn_of list cut n bin ≤ n
  drawn_within zero = let e = drawn_none in omega (arith, e)
  drawn_within (suc n) =
      let e : suc n ≡ n + 1 = omega arith in
      let next = drawn_next n in
      let rest = drawn_within n in
      let one = at_most_one (meets_at (bin_rect_of list.size cut bin) list.members n) in
      subst (λ k. drawn_of list cut k bin ≤ k) (sym e) (omega (arith, next, rest, one))

-- no bin has drawn any
pub none_taken : (list : PieceList) (cut : CutOf) (n : ℕ) (taken : List ℕ) → taken ≡ replicate n 0 → n ≡ bin_count_of cut → HaveTaken list cut 0 taken
none_taken list cut n taken is count =
    let long : length taken ≡ n = ap length is ∙ length-replicate n 0 in
    record {
      count = long ∙ count;
      each = λ b lt. ap (λ (ks : List ℕ). get_or ks b 0) is ∙ get_or-replicate n b 0 0 (omega (arith, lt, long)) ∙ sym (drawn_none list cut b);
    }
