-- A part's places one after another: what lies between two of them meets no tile of the bin.
use Rattle.std.proofs.Common.{◌≡◌, inl, inr, ℕ, zero, suc, ◌+◌, ◌-◌, ◌<◌, ◌≤◌, List, [], ◌∷◌, ◌++◌, length, take, drop, get_or, Bool, true, false, cond, arith, refl, ap, ◌∙◌, sym, subst}
use Rattle.std.specs.List.{filter, range_with_len}
use Rattle.std.proofs.lemmas.Bool.{cases_order}
use Rattle.std.proofs.lemmas.List.{append-nil, drop_more, drop_all, get_or_default}
use Rattle.std.proofs.lemmas.List.Elements.{filter_more}
use Rattle.cull_base.specs.declared.rect.Rect.{Rect}
use Rattle.cull_base.specs.Piece.{Piece, piece, box_of}
use Rattle.cull_base.specs.Rectangle.{meets}
use Rattle.cull_base.specs.Screen.{IsSize, tile_count_of, tile_rect_of}
use Rattle.cull_base.specs.Tiles.{PieceList}
use Rattle.binning.specs.Cut.{CutOf, IsCut}
use Rattle.binning.specs.Bins.{bin_of, bin_rect_of}
use Rattle.binning.specs.Places.{member_at, meets_at, places_in, NoneMeets}
use Rattle.binning.specs.Parts.{meeting_tile}
use Rattle.binning.proofs.BinSpans.{none_meets_bin}
use Rattle.binning.proofs.Places.{meets_at-is}

module _ (rect : Rect) (members : List Piece) where
  -- the first place of a range is among them or not
  pub places_in-cons : (from to : ℕ) → from < to → places_in rect members from to ≡ cond (meets_at rect members from) (from ∷ places_in rect members (from + 1) to) (places_in rect members (from + 1) to)
  unfolding places_in
  places_in-cons from to lt =
      let e : to - from ≡ suc (to - (from + 1)) = omega arith in
      ap (λ n. filter (meets_at rect members) (range_with_len from n)) e

  -- one place more that doesn't meet
  none_more : (from to : ℕ) → meets_at rect members from ≡ false → NoneMeets rect members (from + 1) to → NoneMeets rect members from to
  none_more from to off none n le lt = elim (cases_order n from) [
    | inl here ↦ ap (meets_at rect members) here ∙ off
    | inr other ↦ elim other [
      | inl before ↦ absurd (omega (arith, before, le))
      | inr after ↦ none n (omega (arith, after)) lt
    ]
  ]

  -- a place is the next from one on: it meets, none before it does, and the others come after it
  pub record IsNext (from to n : ℕ) (rest : List ℕ) : Type 0 where
    pub from_on : from ≤ n
    pub before : n < to
    pub met : meets_at rect members n ≡ true
    pub none : NoneMeets rect members from n
    pub others : rest ≡ places_in rect members (n + 1) to

  none_left : (from to : ℕ) → to - from ≡ 0 → places_in rect members from to ≡ []
  unfolding places_in
  none_left from to e = ap (λ n. filter (meets_at rect members) (range_with_len from n)) e

  next_by : (k from to n : ℕ) (rest : List ℕ) → to - from ≡ k → places_in rect members from to ≡ n ∷ rest → IsNext from to n rest
  next_by zero from to n rest e h = let no : [] ≡ n ∷ rest = sym (none_left from to e) ∙ h in absurd cc
  next_by (suc k) from to n rest e h = at (meets_at rect members from) refl (λ g. next_by k (from + 1) to n rest (omega (arith, e)) g) (sym (places_in-cons from to (omega (arith, e))) ∙ h)
    where
      at : (b : Bool) → meets_at rect members from ≡ b → (places_in rect members (from + 1) to ≡ n ∷ rest → IsNext (from + 1) to n rest)
          → cond b (from ∷ places_in rect members (from + 1) to) (places_in rect members (from + 1) to) ≡ n ∷ rest → IsNext from to n rest
      at true m next g =
          let here : from ≡ n = cc in
          let others : places_in rect members (from + 1) to ≡ rest = cc in
          record {
            from_on = omega (arith, here);
            before = omega (arith, here, e);
            met = ap (meets_at rect members) (sym here) ∙ m;
            none = λ j le lt. absurd (omega (arith, here, le, lt));
            others = sym others ∙ ap (λ j. places_in rect members (j + 1) to) here;
          }
      at false m next g =
          let i = next g in
          record { from_on = omega (arith, i.from_on); before = i.before; met = i.met; none = none_more from n m i.none; others = i.others }

  -- the first of some places is the next
  pub places_in-first : (from to n : ℕ) (rest : List ℕ) → places_in rect members from to ≡ n ∷ rest → IsNext from to n rest
  places_in-first from to n rest h = next_by (to - from) from to n rest refl h

  end_by : (k from to : ℕ) → to - from ≡ k → places_in rect members from to ≡ [] → NoneMeets rect members from to
  end_by zero from to e h = λ n le lt. absurd (omega (arith, e, le, lt))
  end_by (suc k) from to e h = at (meets_at rect members from) refl (λ g. end_by k (from + 1) to (omega (arith, e)) g) (sym (places_in-cons from to (omega (arith, e))) ∙ h)
    where
      at : (b : Bool) → meets_at rect members from ≡ b → (places_in rect members (from + 1) to ≡ [] → NoneMeets rect members (from + 1) to)
          → cond b (from ∷ places_in rect members (from + 1) to) (places_in rect members (from + 1) to) ≡ [] → NoneMeets rect members from to
      at true m next g = absurd cc
      at false m next g = none_more from to m (next g)

  -- where no place is left none meets
  pub places_in-end : (from to : ℕ) → places_in rect members from to ≡ [] → NoneMeets rect members from to
  places_in-end from to h = end_by (to - from) from to refl h

-- how many of a part's indices are taken, and the place from which the others come
pub record IsWalked (rect : Rect) (members : List Piece) (to : ℕ) (indices : List ℕ) (taken next : ℕ) : Type 0 where
  pub before : next ≤ to
  pub left : drop taken indices ≡ places_in rect members next to

-- a walk begins where the part begins
pub walk_begins : (rect : Rect) (members : List Piece) (from to : ℕ) (indices : List ℕ) → from ≤ to → indices ≡ places_in rect members from to → IsWalked rect members to indices 0 from
walk_begins rect members from to indices le e = record { before = le; left = e }

-- the next index is the next place that meets, and the walk goes on after it
pub walk_next : (rect : Rect) (members : List Piece) (to : ℕ) (indices : List ℕ) (taken next : ℕ) → IsWalked rect members to indices taken next → taken < length indices
    → let n = get_or indices taken 0 in IsNext rect members next to n (drop (taken + 1) indices) × IsWalked rect members to indices (taken + 1) (n + 1)
walk_next rect members to indices taken next w lt =
    let i = places_in-first rect members next to (get_or indices taken 0) (drop (taken + 1) indices) (sym w.left ∙ drop_more indices taken 0 lt) in
    (i, record { before = omega (arith, i.before); left = i.others })

-- after the last index none meets
pub walk_ends : (rect : Rect) (members : List Piece) (to : ℕ) (indices : List ℕ) (taken next : ℕ) → IsWalked rect members to indices taken next → length indices ≤ taken → NoneMeets rect members next to
walk_ends rect members to indices taken next w le = places_in-end rect members next to (sym w.left ∙ drop_all taken indices le)

-- members that don't meet a bin's rectangle are in no list of a tile of the bin
pub unmet_in_no_list : (list : PieceList) (cut : CutOf) (tile from to : ℕ) → IsSize list.size.width list.size.height → IsCut cut.columns cut.rows → tile < tile_count_of list.size → from ≤ to → to ≤ length list.members
    → NoneMeets (bin_rect_of list.size cut (bin_of list.size cut tile)) list.members from to → meeting_tile list tile (take to list.members) ≡ meeting_tile list tile (take from list.members)
unmet_in_no_list list cut tile from to valid is lt le within none =
    let e : from + (to - from) ≡ to = omega arith in
    subst (λ n. meeting_tile list tile (take n list.members) ≡ meeting_tile list tile (take from list.members)) e (by (to - from) (omega (arith, e, within)) (λ n p q. none n p (omega (arith, e, q))))
  where
    by : (k : ℕ) → from + k ≤ length list.members → NoneMeets (bin_rect_of list.size cut (bin_of list.size cut tile)) list.members from (from + k)
        → meeting_tile list tile (take (from + k) list.members) ≡ meeting_tile list tile (take from list.members)
    by zero in_list off = ap (λ n. meeting_tile list tile (take n list.members)) (let z : from + zero ≡ from = omega arith in z)
    by (suc k) in_list off =
        let n = from + k in
        let e : from + suc k ≡ n + 1 = omega arith in
        let x = member_at list.members n in
        let inside : n < length list.members = omega (arith, in_list) in
        let out : meets (box_of x) (tile_rect_of list.size tile) ≡ false = none_meets_bin list.size cut (box_of x) (bin_of list.size cut tile) tile valid is lt refl
        (sym (meets_at-is (bin_rect_of list.size cut (bin_of list.size cut tile)) list.members n x inside (get_or_default list.members n x (piece [] [] []) inside)) ∙ off n (omega arith) (omega (arith, e))) in
        ap (λ j. meeting_tile list tile (take j list.members)) e
        ∙ filter_more (λ t. meets (box_of t) (tile_rect_of list.size tile)) list.members n (piece [] [] []) inside
        ∙ ap (λ d. meeting_tile list tile (take n list.members) ++ cond d (x ∷ []) []) out
        ∙ append-nil (meeting_tile list tile (take n list.members))
        ∙ by k (omega (arith, in_list)) (λ j p q. off j p (omega (arith, q)))
