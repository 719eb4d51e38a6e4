-- The places of a list whose member meets a rectangle, one place more at a time.
use Rattle.std.proofs.Common.{◌≡◌, ℕ, zero, suc, ◌+◌, ◌-◌, ◌<◌, ◌≤◌, List, [], ◌∷◌, ◌++◌, length, take, get_or, Bool, true, false, cond, arith, refl, ap, ◌∙◌, sym, subst}
use Rattle.std.specs.List.{filter, range_with_len}
use Rattle.std.proofs.lemmas.List.{append-nil, append_assoc, map-append, map-id, get_or_default}
use Rattle.std.proofs.lemmas.List.Elements.{filter-append, filter_more}
use Rattle.std.proofs.lemmas.List.FromFn.{map-range_with_len_more}
use Rattle.cull_base.specs.declared.rect.Rect.{Rect}
use Rattle.cull_base.specs.Piece.{Piece, piece, box_of}
use Rattle.cull_base.specs.Rectangle.{meets}
use Rattle.binning.specs.Places.{member_at, meets_at, places_in, members_at, NoneMeets}

-- a range with one number more
pub range_more : (a n : ℕ) → range_with_len a (n + 1) ≡ range_with_len a n ++ (a + n) ∷ []
range_more a n = sym (map-id (range_with_len a (n + 1))) ∙ map-range_with_len_more (λ k. k) a n (a + n) refl ∙ ap (λ ks. ks ++ (a + n) ∷ []) (map-id (range_with_len a n))

one_kept : (p : ℕ → Bool) (n : ℕ) → filter p (n ∷ []) ≡ cond (p n) (n ∷ []) []
one_kept p n = by (p n) refl
  where
    by : (b : Bool) → p n ≡ b → filter p (n ∷ []) ≡ cond b (n ∷ []) []
    by true e = rw e refl
    by false e = rw e refl

-- whether the member at a place meets the rectangle
pub meets_at-is : (rect : Rect) (members : List Piece) (n : ℕ) (x : Piece) → n < length members → get_or members n x ≡ x → meets_at rect members n ≡ meets (box_of x) rect
unfolding meets_at
meets_at-is rect members n x lt is = ap (λ t. meets (box_of t) rect) (get_or_default members n (piece [] [] []) x lt ∙ is)

module _ (rect : Rect) (members : List Piece) where
  pub places_in-nil : (n : ℕ) → places_in rect members n n ≡ []
  unfolding places_in
  places_in-nil n = ap (λ k. filter (meets_at rect members) (range_with_len n k)) (let e : n - n ≡ 0 = omega arith in e)

  pub places_in-next : (from n : ℕ) → from ≤ n → places_in rect members from (n + 1) ≡ places_in rect members from n ++ cond (meets_at rect members n) (n ∷ []) []
  unfolding places_in
  places_in-next from n le =
      let p = meets_at rect members in
      let len : n + 1 - from ≡ (n - from) + 1 = omega arith in
      let last : from + (n - from) ≡ n = omega arith in
      ap (λ k. filter p (range_with_len from k)) len ∙ ap (filter p) (range_more from (n - from) ∙ ap (λ k. range_with_len from (n - from) ++ k ∷ []) last)
      ∙ filter-append p (range_with_len from (n - from)) (n ∷ []) ∙ ap (λ ks. filter p (range_with_len from (n - from)) ++ ks) (one_kept p n)

  pub places_in-append : (from mid to : ℕ) → from ≤ mid → mid ≤ to → places_in rect members from to ≡ places_in rect members from mid ++ places_in rect members mid to
  places_in-append from mid to le more =
      let e : mid + (to - mid) ≡ to = omega arith in
      subst (λ n. places_in rect members from n ≡ places_in rect members from mid ++ places_in rect members mid n) e (by (to - mid))
    where
      by : (k : ℕ) → places_in rect members from (mid + k) ≡ places_in rect members from mid ++ places_in rect members mid (mid + k)
      by zero =
          let e : mid + zero ≡ mid = omega arith in
          rw e (sym (append-nil (places_in rect members from mid)) ∙ ap (λ ks. places_in rect members from mid ++ ks) (sym (places_in-nil mid)))
      by (suc k) =
          let e : mid + suc k ≡ (mid + k) + 1 = omega arith in
          let last = cond (meets_at rect members (mid + k)) ((mid + k) ∷ []) [] in
          rw e (places_in-next from (mid + k) (omega arith) ∙ ap (λ ks. ks ++ last) (by k) ∙ append_assoc (places_in rect members from mid) (places_in rect members mid (mid + k)) last
          ∙ ap (λ ks. places_in rect members from mid ++ ks) (sym (places_in-next mid (mid + k) (omega arith))))

  -- where none meets there is no place
  pub places_in-none : (from to : ℕ) → from ≤ to → NoneMeets rect members from to → places_in rect members from to ≡ []
  places_in-none from to le none =
      let e : from + (to - from) ≡ to = omega arith in
      let all = subst (λ n. NoneMeets rect members from n) (sym e) none in
      ap (λ n. places_in rect members from n) (sym e) ∙ by (to - from) all
    where
      by : (k : ℕ) → NoneMeets rect members from (from + k) → places_in rect members from (from + k) ≡ []
      by zero off = let e : from + zero ≡ from = omega arith in rw e (places_in-nil from)
      by (suc k) off =
          let e : from + suc k ≡ (from + k) + 1 = omega arith in
          let last : meets_at rect members (from + k) ≡ false = off (from + k) (omega arith) (omega arith) in
          rw e (places_in-next from (from + k) (omega arith) ∙ ap (λ ks. ks ++ cond (meets_at rect members (from + k)) ((from + k) ∷ []) []) (by k (λ n p q. off n p (omega arith)))
          ∙ ap (λ d. [] ++ cond d ((from + k) ∷ []) []) last)

  one_member : (n : ℕ) → members_at members (cond (meets_at rect members n) (n ∷ []) []) ≡ cond (meets (box_of (member_at members n)) rect) (member_at members n ∷ []) []
  unfolding meets_at
  one_member n = by (meets (box_of (member_at members n)) rect)
    where
      by : (b : Bool) → members_at members (cond b (n ∷ []) []) ≡ cond b (member_at members n ∷ []) []
      by true = refl
      by false = refl

  -- the members at the places before one are those of the first members whose box meets the rectangle
  pub members_at-places_in : (n : ℕ) → n ≤ length members → members_at members (places_in rect members 0 n) ≡ filter (λ t. meets (box_of t) rect) (take n members)
  members_at-places_in zero le = ap (members_at members) (places_in-nil zero)
  members_at-places_in (suc n) le =
      let e : suc n ≡ n + 1 = omega arith in
      let lt : n < length members = omega arith in
      let p : Piece → Bool = λ t. meets (box_of t) rect in
      rw e (ap (members_at members) (places_in-next 0 n (omega arith)) ∙ map-append (member_at members) (places_in rect members 0 n) (cond (meets_at rect members n) (n ∷ []) [])
      ∙ ap (λ ts. ts ++ members_at members (cond (meets_at rect members n) (n ∷ []) [])) (members_at-places_in n (omega arith))
      ∙ ap (λ ts. filter p (take n members) ++ ts) (one_member n)
      ∙ sym (filter_more p members n (piece [] [] []) lt))
