-- Parts that get an index, bin by bin and row by row.
use Rattle.std.proofs.Common.{◌≡◌, ◌⊎◌, inl, inr, ℕ, ◌+◌, ◌*◌, ◌/◌, ◌%◌, ◌<◌, ◌≤◌, List, [], ◌∷◌, ◌++◌, length, set, map, Bool, true, false, ◌&&◌, cond, slice_index_or, nat_eq, arith, refl, ap, ◌∙◌, sym}
use Rattle.std.specs.List.{range_with_len}
use Rattle.std.specs.Cmp.{both_ways}
use Rattle.std.proofs.lemmas.Bool.Decides.{nat_tests, eqb_tells}
use Rattle.std.proofs.lemmas.Nat.{div-mul-add, mod-mul-add, div-add-mod'}
use Rattle.std.proofs.lemmas.List.{append-nil, append_assoc, get_or-set_same, get_or-set_other}
use Rattle.std.proofs.lemmas.List.FromFn.{get_or-map-range_with_len, length-map-range_with_len, fill_by_all}
use Rattle.cull_base.specs.Piece.{Piece, box_of}
use Rattle.cull_base.specs.Rectangle.{meets}
use Rattle.cull_base.specs.Span.{is_between}
use Rattle.cull_base.specs.Tiles.{PieceList}
use Rattle.binning.specs.Cut.{CutOf, bin_count_of}
use Rattle.binning.specs.Bins.{bin_rect_of, bin_span_of, has_tiles}
use Rattle.binning.specs.Grid.{CutScreen}
use Rattle.binning.specs.Places.{meets_at}
use Rattle.binning.specs.Parts.{PartOf, part, indices_in, parts_in}
use Rattle.binning.specs.Pushed.{PushedWhere, GotIndices, with_index, with_indices, part_at, is_met, is_bin_in_row, is_bin_in_rows}
use Rattle.binning.proofs.Places.{places_in-nil, places_in-next, meets_at-is}

-- of a test that grows by one number
grows_elsewhere : (first n k : ℕ) → (k ≡ n → ⊥) → is_between first (n + 1) k ≡ is_between first n k
grows_elsewhere first n k ne = both_ways _ _ (λ h. grind (arith, nat_tests)) (λ h. grind (arith, nat_tests))

pub none_between : (first k : ℕ) → is_between first first k ≡ false
none_between first k = grind (arith, nat_tests)

before : (first n : ℕ) → is_between first n n ≡ false
before first n = grind (arith, nat_tests)

last : (first n : ℕ) → first ≤ n → is_between first (n + 1) n ≡ true
last first n le = grind (arith, nat_tests)

-- the same where the tests agree
pub same_pushed : (p q : ℕ → Bool) (index : ℕ) (old new : List PartOf) → ((b : ℕ) → b < length old → p b ≡ q b) → PushedWhere p index old new → PushedWhere q index old new
same_pushed p q index old new same h b lt = h b lt ∙ ap (λ d. cond d (with_index index (part_at old b)) (part_at old b)) (same b lt)

-- none yet
pub none_pushed : (p : ℕ → Bool) (index : ℕ) (parts : List PartOf) → ((b : ℕ) → b < length parts → p b ≡ false) → PushedWhere p index parts parts
none_pushed p index parts off b lt = sym (ap (λ d. cond d (with_index index (part_at parts b)) (part_at parts b)) (off b lt))

-- one more
pub one_pushed : (p q : ℕ → Bool) (index at : ℕ) (old now : List PartOf) → at < length now → p at ≡ false → q at ≡ true → ((b : ℕ) → (b ≡ at → ⊥) → p b ≡ q b)
    → PushedWhere p index old now → PushedWhere q index old (set now at (with_index index (part_at now at)))
one_pushed p q index at old now within off on same h b lt =
    elim (eqb_tells b at) [
      | inl here ↦
          let was : part_at now at ≡ part_at old at = ap (part_at now) (sym here.1) ∙ h b lt ∙ ap (λ d. cond d (with_index index (part_at old b)) (part_at old b)) (ap p here.1 ∙ off) ∙ ap (part_at old) here.1 in
          ap (part_at (set now at (with_index index (part_at now at)))) here.1 ∙ get_or-set_same now at (with_index index (part_at now at)) (part 0 0 []) within
          ∙ ap (with_index index) was ∙ sym (ap (λ d. cond d (with_index index (part_at old at)) (part_at old at)) on)
          ∙ ap (λ k. cond (q k) (with_index index (part_at old k)) (part_at old k)) (sym here.1)
      | inr away ↦ get_or-set_other now at b (with_index index (part_at now at)) (part 0 0 []) away.1 ∙ h b lt
          ∙ ap (λ d. cond d (with_index index (part_at old b)) (part_at old b)) (same b away.1)
    ]

-- one after the other, where no bin is in both
pub both_pushed : (p q r : ℕ → Bool) (index : ℕ) (old now new : List PartOf) → length now ≡ length old → ((b : ℕ) → (p b ≡ false) × (q b ≡ r b) ⊎ (q b ≡ false) × (p b ≡ r b))
    → PushedWhere p index old now → PushedWhere q index now new → PushedWhere r index old new
both_pushed p q r index old now new len apart h k b lt =
    let lt' : b < length now = omega arith in
    elim (apart b) [
      | inl (off, is) ↦
          let was : part_at now b ≡ part_at old b = h b lt ∙ ap (λ d. cond d (with_index index (part_at old b)) (part_at old b)) off in
          k b lt' ∙ ap (λ (s : PartOf). cond (q b) (with_index index s) s) was ∙ ap (λ d. cond d (with_index index (part_at old b)) (part_at old b)) is
      | inr (off, is) ↦ k b lt' ∙ ap (λ d. cond d (with_index index (part_at now b)) (part_at now b)) off ∙ h b lt ∙ ap (λ d. cond d (with_index index (part_at old b)) (part_at old b)) is
    ]

and_off : (a d : Bool) → d ≡ false → (a && d) ≡ false
and_off true d e = e
and_off false d e = refl

module _ (screen : CutScreen) where
  -- a row's next column
  pub row_next : (row first column b : ℕ) → column < screen.cut.columns → (b ≡ row * screen.cut.columns + column → ⊥) → is_bin_in_row screen row first column b ≡ is_bin_in_row screen row first (column + 1) b
  row_next row first column b lt ne = elim (eqb_tells (b / screen.cut.columns) row) [
    | inr off ↦
        ap (λ d. d && (is_between first column (b % screen.cut.columns) && has_tiles (bin_span_of screen.size screen.cut b))) off.0
        ∙ sym (ap (λ d. d && (is_between first (column + 1) (b % screen.cut.columns) && has_tiles (bin_span_of screen.size screen.cut b))) off.0)
    | inl on ↦
        let away : b % screen.cut.columns ≡ column → ⊥ = λ e. ne (sym (div-add-mod' b screen.cut.columns) ∙ ap (λ n. n * screen.cut.columns + b % screen.cut.columns) on.1 ∙ ap (λ n. row * screen.cut.columns + n) e) in
        ap (λ d. nat_eq (b / screen.cut.columns) row && (d && has_tiles (bin_span_of screen.size screen.cut b))) (sym (grows_elsewhere first column (b % screen.cut.columns) away))
  ]

  pub row_before : (row first column : ℕ) → column < screen.cut.columns → is_bin_in_row screen row first column (row * screen.cut.columns + column) ≡ false
  row_before row first column lt =
      let n = row * screen.cut.columns + column in
      let m = mod-mul-add row screen.cut.columns column lt in
      and_off (nat_eq (n / screen.cut.columns) row) _ (ap (λ d. d && has_tiles (bin_span_of screen.size screen.cut n)) (ap (is_between first column) m ∙ before first column))

  pub row_last : (row first column : ℕ) → column < screen.cut.columns → first ≤ column → is_bin_in_row screen row first (column + 1) (row * screen.cut.columns + column) ≡ has_tiles (bin_span_of screen.size screen.cut (row * screen.cut.columns + column))
  row_last row first column lt le =
      let n = row * screen.cut.columns + column in
      let m = mod-mul-add row screen.cut.columns column lt in
      let d = div-mul-add row screen.cut.columns column lt in
      ap (λ k. nat_eq k row && (is_between first (column + 1) (n % screen.cut.columns) && has_tiles (bin_span_of screen.size screen.cut n))) d
      ∙ ap (λ k. nat_eq row row && (is_between first (column + 1) k && has_tiles (bin_span_of screen.size screen.cut n))) m
      ∙ ap (λ k. k && (is_between first (column + 1) column && has_tiles (bin_span_of screen.size screen.cut n))) (equal row)
      ∙ ap (λ k. true && (k && has_tiles (bin_span_of screen.size screen.cut n))) (last first column le)
    where
      equal : (k : ℕ) → nat_eq k k ≡ true
      equal k = grind (arith, nat_tests)

  -- a bin without tiles in the next column changes nothing
  pub row_skipped : (row first column b : ℕ) → column < screen.cut.columns → has_tiles (bin_span_of screen.size screen.cut (row * screen.cut.columns + column)) ≡ false → first ≤ column → is_bin_in_row screen row first column b ≡ is_bin_in_row screen row first (column + 1) b
  row_skipped row first column b lt none le = elim (eqb_tells b (row * screen.cut.columns + column)) [
    | inr away ↦ row_next row first column b lt away.1
    | inl here ↦ ap (is_bin_in_row screen row first column) here.1 ∙ row_before row first column lt ∙ sym none ∙ sym (row_last row first column lt le) ∙ ap (is_bin_in_row screen row first (column + 1)) (sym here.1)
  ]

  -- no column, and no row
  pub row_none : (row first b : ℕ) → is_bin_in_row screen row first first b ≡ false
  row_none row first b = and_off (nat_eq (b / screen.cut.columns) row) _ (ap (λ d. d && has_tiles (bin_span_of screen.size screen.cut b)) (none_between first (b % screen.cut.columns)))

  pub rows_none : (row first end b : ℕ) → is_bin_in_rows screen row row first end b ≡ false
  rows_none row first end b = ap (λ d. d && (is_between first end (b % screen.cut.columns) && has_tiles (bin_span_of screen.size screen.cut b))) (none_between row (b / screen.cut.columns))

  -- one row more
  pub row_more : (first_row row first end b : ℕ) → first_row ≤ row
      → ((is_bin_in_rows screen first_row row first end b ≡ false) × (is_bin_in_row screen row first end b ≡ is_bin_in_rows screen first_row (row + 1) first end b))
      ⊎ ((is_bin_in_row screen row first end b ≡ false) × (is_bin_in_rows screen first_row row first end b ≡ is_bin_in_rows screen first_row (row + 1) first end b))
  row_more first_row row first end b le =
      let r = b / screen.cut.columns in
      let inside = is_between first end (b % screen.cut.columns) && has_tiles (bin_span_of screen.size screen.cut b) in
      elim (eqb_tells r row) [
        | inl on ↦ inl (
          ap (λ d. d && inside) (ap (is_between first_row row) on.1 ∙ before first_row row),
          ap (λ d. d && inside) (on.0 ∙ sym (last first_row row le) ∙ ap (is_between first_row (row + 1)) (sym on.1)),
        )
        | inr off ↦ inr (
          ap (λ d. d && inside) off.0,
          ap (λ d. d && inside) (sym (grows_elsewhere first_row row r off.1)),
        )
      ]

  -- one row alone, and of it one column
  one_row : (row first end b : ℕ) → is_bin_in_row screen row first end b ≡ is_bin_in_rows screen row (row + 1) first end b
  one_row row first end b = elim (row_more row row first end b (omega arith)) [
    | inl (off, is) ↦ is
    | inr (off, is) ↦ off ∙ sym (rows_none row first end b) ∙ is
  ]

  pub pushed_in_one : (row column index : ℕ) (parts : List PartOf) → column < screen.cut.columns → row * screen.cut.columns + column < length parts → has_tiles (bin_span_of screen.size screen.cut (row * screen.cut.columns + column)) ≡ true
      → let at = row * screen.cut.columns + column in PushedWhere (is_bin_in_rows screen row (row + 1) column (column + 1)) index parts (set parts at (with_index index (part_at parts at)))
  pushed_in_one row column index parts lt within on =
      let none : ℕ → Bool = λ b. false in
      let at = row * screen.cut.columns + column in
      one_pushed none (is_bin_in_rows screen row (row + 1) column (column + 1)) index at parts parts within refl
      (sym (one_row row column (column + 1) at) ∙ row_last row column column lt (omega arith) ∙ on)
      (λ b ne. sym (row_none row column b) ∙ row_next row column column b lt ne ∙ one_row row column (column + 1) b)
      (none_pushed none index parts (λ b h. refl))

-- no place, and one place more
pub none_got : (list : PieceList) (cut : CutOf) (from : ℕ) (parts : List PartOf) → GotIndices list cut from from parts parts
none_got list cut from parts b lt = sym (ap (λ is. with_indices is (part_at parts b)) (places_in-nil (bin_rect_of list.size cut b) list.members from) ∙ ap (part (part_at parts b).bin (part_at parts b).batch) (append-nil (part_at parts b).indices))

pub one_got : (list : PieceList) (cut : CutOf) (from index : ℕ) (x : Piece) (old now new : List PartOf) → length now ≡ length old → from ≤ index → index < length list.members → slice_index_or list.members index x ≡ x
    → GotIndices list cut from index old now → PushedWhere (is_met (record { size = list.size; cut = cut }) (box_of x)) index now new → GotIndices list cut from (index + 1) old new
one_got list cut from index x old now new len le lt is got pushed b below =
    let rect = bin_rect_of list.size cut b in
    let indices = indices_in list cut from index b in
    let s = part_at old b in
    let was : part_at now b ≡ with_indices indices s = got b below in
    let test : meets (box_of x) rect ≡ meets_at rect list.members index = sym (meets_at-is rect list.members index x lt is) in
    pushed b (let inside : b < length now = omega (arith, len, below) in inside)
    ∙ ap (λ (p : PartOf). cond (meets (box_of x) rect) (with_index index p) p) was
    ∙ ap (λ d. cond d (with_index index (with_indices indices s)) (with_indices indices s)) test
    ∙ joined (meets_at rect list.members index) indices s
    ∙ ap (λ is. with_indices is s) (sym (places_in-next rect list.members from index le))
  where
    joined : (d : Bool) (indices : List ℕ) (s : PartOf) → cond d (with_index index (with_indices indices s)) (with_indices indices s) ≡ with_indices (indices ++ cond d (index ∷ []) []) s
    joined true indices s = ap (part s.bin s.batch) (append_assoc s.indices indices (index ∷ []))
    joined false indices s = ap (λ is. with_indices is s) (sym (append-nil indices))

-- empty parts that got the indices of a batch are its parts
pub got_all : (list : PieceList) (cut : CutOf) (batch from to : ℕ) (old new : List PartOf) → old ≡ map (λ bin. part bin batch []) (range_with_len 0 (bin_count_of cut)) → length new ≡ length old
    → GotIndices list cut from to old new → new ≡ parts_in list cut batch from to
got_all list cut batch from to old new e len got =
    let n = bin_count_of cut in
    let f : ℕ → PartOf = λ bin. part bin batch [] in
    let g : ℕ → PartOf = λ bin. part bin batch (indices_in list cut from to bin) in
    let count : length old ≡ n = ap length e ∙ length-map-range_with_len f 0 n in
    fill_by_all g new n (part 0 0 []) (len ∙ count) (λ k kn.
    let was : part_at old k ≡ f k = ap (λ ps. part_at ps k) e ∙ get_or-map-range_with_len f 0 n k k (part 0 0 []) kn (let z : 0 + k ≡ k = omega arith in z) in
    got k (let b : k < length old = omega (arith, count, kn) in b) ∙ ap (with_indices (indices_in list cut from to k)) was)
