-- Tiles of a row that are marked by bits, and change one after the other.
use Rattle.std.proofs.Common.{◌≡◌, ◌≢◌, inl, inr, ℕ, ◌+◌, ◌-◌, ◌<◌, ◌≤◌, ◌^◌, ◌&&◌, Bool, true, false, not, nat_eq, nat_le, cond, min, arith, refl, ap, ◌∙◌, sym, subst, length, bit_and, w32}
use Rattle.std.specs.Int.{bit_at, trailing_zeros}
use Rattle.std.proofs.lemmas.Bool.{and_parts, and_from, and_left, and_right, cases_eq, cases_lt, cond-false, cond-true, eq-eqb, eqb-true, le-leb}
use Rattle.std.proofs.lemmas.Bool.Decides.{nat_tests}
use Rattle.std.proofs.lemmas.Nat.Bits.{bit_at_and, bit_at-lt, bit_at-zero, bit_at_above, bit_at_lowest, bit_at-trailing_zeros}
use Rattle.cull_base.specs.Piece.{Piece, IsPiece}
use Rattle.cull_base.specs.Depth.{greatest_nearness}
use Rattle.cull_base.specs.Screen.{Dimensions}
use Rattle.cull_base.specs.Span.{has_tile, is_between, number_in}
use Rattle.cull_base.specs.declared.place.Tile.{Tile}
use Rattle.cull_base.specs.declared.tile_span.TileSpan.{TileSpan}
use Rattle.cull_base.proofs.EightLanes.{ones_at}
use Rattle.masked_update.specs.TileOf.{tile_at}
use Rattle.masked_update.specs.Taken.{merged_tile}
use Rattle.masked_update.specs.Least.{NoneBelow}
use Rattle.masked_update.specs.Merged.{CoversNone}
use Rattle.masked_update.specs.Canvas.{CanvasOf, IsCanvas, with_tile, tile_on}
use Rattle.masked_update.specs.Walk.{ChangedWhere, MergedWhere, NoneBelowWhere, is_in_row, is_marked}
use Rattle.masked_update.proofs.LowestBit.{IsWithout}
use Rattle.masked_update.proofs.Merging.{merged_behind, merged_uncovered}
use Rattle.masked_update.proofs.Tiles.{same_place, tile_with}
use Rattle.masked_update.proofs.Walks.{columns_before, none_changed, one_more, row_begins}

-- the lowest bit of some of eight
pub lowest_within : (left : ℕ) → left ≢ 0 → left < 2 ^ 8 → (trailing_zeros w32 left < 8) × (bit_at left (trailing_zeros w32 left) ≡ 1)
lowest_within left some byte =
    let is = bit_at-trailing_zeros w32 left (omega arith) (omega arith) in
    let j = trailing_zeros w32 left in
    elim (cases_lt j 8) [
      | inl lt ↦ (lt, is.1)
      | inr ge ↦ let none = bit_at_above left 8 j byte ge in let one = is.1 in absurd (omega (arith, none, one))
    ]

-- the place whose bit is set
pub marked : (row column bits j : ℕ) → bit_at bits j ≡ 1 → is_marked row column bits (tile_with (column + j) row) ≡ true
marked row column bits j one =
    let e : column + j - column ≡ j = omega arith in
    and_from (nat_eq row row) _ (eq-eqb row row refl) (and_from (nat_le column (column + j)) _ (le-leb column (column + j) (omega arith)) (eq-eqb (bit_at bits (column + j - column)) 1 (ap (bit_at bits) e ∙ one)))

unmarked : (row column bits : ℕ) (p : Tile) → bit_at bits (p.column - column) ≡ 0 → is_marked row column bits p ≡ false
unmarked row column bits p none = and_right (nat_eq p.row row) _ (and_right (nat_le column p.column) _ (ap (λ n. nat_eq n 1) none))

-- another place keeps its mark where one bit is cleared
kept : (row column left j rest : ℕ) (p : Tile) → IsWithout left j rest → (p ≡ tile_with (column + j) row → ⊥) → is_marked row column left p ≡ is_marked row column rest p
kept row column left j rest p is ne = elim (cases_eq p.row row) [
  | inr off ↦ and_left _ _ (not_equal p.row row off) ∙ sym (and_left _ _ (not_equal p.row row off))
  | inl on ↦ elim (cases_lt p.column column) [
    | inl before ↦ and_right (nat_eq p.row row) _ (and_left _ _ (not_from column p.column before)) ∙ sym (and_right (nat_eq p.row row) _ (and_left _ _ (not_from column p.column before)))
    | inr from ↦ ap (λ n. nat_eq p.row row && (nat_le column p.column && nat_eq n 1)) (same on from)
  ]
]
  where
    not_equal : (a b : ℕ) → a ≢ b → nat_eq a b ≡ false
    not_equal a b h = grind (arith, nat_tests)

    not_from : (a b : ℕ) → b < a → nat_le a b ≡ false
    not_from a b h = grind (arith, nat_tests)

    same : p.row ≡ row → column ≤ p.column → bit_at left (p.column - column) ≡ bit_at rest (p.column - column)
    same on from = sym (is.others (p.column - column) (λ e. ne (same_place p (tile_with (column + j) row) (omega (arith, e, from)) on)))

-- the marked places but those that are left
abbrev pub is_done : ℕ → ℕ → ℕ → ℕ → Tile → Bool
is_done row column bits left p = is_marked row column bits p && not (is_marked row column left p)

pub record AreDone (size : Dimensions) (x : Piece) (row column bits left : ℕ) (old now : CanvasOf) : Type 0 where
  pub changed : ChangedWhere (is_done row column bits left) (λ p t. merged_tile size p x t) old now
  pub byte : left < 2 ^ 8
  pub among : (i : ℕ) → i < 8 → bit_at left i ≡ 1 → bit_at bits i ≡ 1

not_both : (a : Bool) → (a && not a) ≡ false
not_both true = refl
not_both false = refl

pub none_done : (row column bits : ℕ) (p : Tile) → is_done row column bits bits p ≡ false
none_done row column bits p = not_both (is_marked row column bits p)

-- one place more
pub one_done : (size : Dimensions) (x : Piece) (row column bits left j rest : ℕ) (old now new : CanvasOf) (n : ℕ) → j < 8 → bit_at left j ≡ 1 → IsWithout left j rest → AreDone size x row column bits left old now
    → has_tile old.window (tile_with (column + j) row) ≡ true → n ≡ number_in old.window (tile_with (column + j) row) → new ≡ with_tile now n (merged_tile size (tile_with (column + j) row) x (tile_at now.tiles n))
    → AreDone size x row column bits rest old new
one_done size x row column bits left j rest old now new n lt one without done here is step = record {
  changed = one_more (is_done row column bits left) (is_done row column bits rest) (λ p t. merged_tile size p x t) old now new q n done.changed here is
      (and_right (is_marked row column bits q) _ (ap not (marked row column left j one)))
      (and_from (is_marked row column bits q) _ (marked row column bits j (done.among j lt one)) (ap not (unmarked row column rest q (ap (bit_at rest) at ∙ without.clear))))
      (λ p ne. ap (λ b. is_marked row column bits p && not b) (kept row column left j rest p without ne))
      step;
  byte = omega (arith, without.less, done.byte);
  among = λ i below set. elim (cases_eq i j) [
    | inl e ↦ subst (λ n. bit_at bits n ≡ 1) (sym e) (done.among j lt one)
    | inr ne ↦ done.among i below (sym (without.others i ne) ∙ set)
  ];
}
  where
    q : Tile
    q = tile_with (column + j) row

    at : column + j - column ≡ j
    at = omega arith

-- in the end all marked places have changed
pub all_done : (size : Dimensions) (x : Piece) (row column bits left : ℕ) (old now : CanvasOf) → left ≡ 0 → AreDone size x row column bits left old now → MergedWhere (is_marked row column bits) size x old now
all_done size x row column bits left old now none done = record {
  window = done.changed.window;
  whole = done.changed.whole;
  tiles = λ p h. done.changed.tiles p h ∙ ap (λ b. cond b (merged_tile size p x (tile_on old p)) (tile_on old p)) (whole p);
}
  where
    and-true : (b : Bool) → (b && true) ≡ b
    and-true true = refl
    and-true false = refl

    whole : (p : Tile) → is_done row column bits left p ≡ is_marked row column bits p
    whole p =
        let off = unmarked row column left p (ap (λ n. bit_at n (p.column - column)) none ∙ bit_at-zero (p.column - column)) in
        ap (λ b. is_marked row column bits p && not b) off ∙ and-true (is_marked row column bits p)

-- where none is marked nothing changes
pub none_marked : (size : Dimensions) (x : Piece) (row column bits : ℕ) (c : CanvasOf) → IsCanvas c → bits ≡ 0 → MergedWhere (is_marked row column bits) size x c c
none_marked size x row column bits c whole none =
    none_changed (is_marked row column bits) (λ p t. merged_tile size p x t) c whole (λ p. unmarked row column bits p (ap (λ n. bit_at n (p.column - column)) none ∙ bit_at-zero (p.column - column)))

-- the columns of a row before some, and of as many more
in_columns : (span : TileSpan) (row column : ℕ) (p : Tile) → p.row ≡ row → is_between span.first_column column p.column ≡ true → is_in_row (columns_before span column) row p ≡ true
in_columns span row column p on at = and_from (nat_eq p.row row) _ (eq-eqb p.row row on) at

within : (first end n : ℕ) → is_between first end n ≡ true → (first ≤ n) × (n < end)
within first end n h = (grind (arith, nat_tests), grind (arith, nat_tests))

between : (first end n : ℕ) → first ≤ n → n < end → is_between first end n ≡ true
between first end n le lt = grind (arith, nat_tests)

past_end : (first end n : ℕ) → end ≤ n → is_between first end n ≡ false
past_end first end n le = grind (arith, nat_tests)

longer : (first column count n : ℕ) → n < column → is_between first column n ≡ is_between first (column + count) n
longer first column count n lt = grind (arith, nat_tests)

-- a piece stands behind so many columns more
pub behind_more : (span : TileSpan) (nearest row column count : ℕ) (c : CanvasOf) → ((i : ℕ) → i < count → NoneBelow nearest (tile_on c (tile_with (column + i) row)))
    → NoneBelowWhere nearest (is_in_row (columns_before span column) row) c → NoneBelowWhere nearest (is_in_row (columns_before span (column + count)) row) c
behind_more span nearest row column count c here all p h on =
    let (rows, columns) = and_parts (nat_eq p.row row) (is_between span.first_column (column + count) p.column) on in
    let e = eqb-true p.row row rows in
    let at = within span.first_column (column + count) p.column columns in
    elim (cases_lt p.column column) [
      | inl before ↦ all p h (in_columns span row column p e (between span.first_column column p.column at.0 before))
      | inr from ↦
          let same : p ≡ tile_with (column + (p.column - column)) row = same_place p (tile_with (column + (p.column - column)) row) (omega (arith, from)) e in
          let below = at.1 in
          subst (λ (q : Tile). NoneBelow nearest (tile_on c q)) (sym same) (here (p.column - column) (omega (arith, below, from)))
    ]

-- the tile at a place stays as it is where a piece is merged into it
abbrev pub Stays : Dimensions → Piece → CanvasOf → Tile → Type 0
Stays size x c p = merged_tile size p x (tile_on c p) ≡ tile_on c p

-- of so many columns the marked ones that are left out are those where the piece covers nothing
pub stay_where_clear : (size : Dimensions) (x : Piece) (row column count all bits : ℕ) (c : CanvasOf) → IsPiece x → count ≤ 8
    → ((i : ℕ) → i < count → bit_at all i ≡ 0 → NoneBelow (greatest_nearness x) (tile_on c (tile_with (column + i) row)))
    → ((i : ℕ) → i < count → length (tile_on c (tile_with (column + i) row)).subs ≡ 8)
    → ((i : ℕ) → i < 8 → bit_at all i ≡ 1 → bit_at bits i ≡ 0 → CoversNone x (tile_with (column + i) row))
    → (i : ℕ) → i < count → bit_at bits i ≡ 0 → Stays size x c (tile_with (column + i) row)
stay_where_clear size x row column count all bits c piece few behind eight empty i lt clear =
    let p = tile_with (column + i) row in
    elim (cases_eq (bit_at all i) 0) [
      | inl none ↦ merged_behind size p x (tile_on c p) piece (behind i lt none)
      | inr some ↦
          let two = bit_at-lt all i in
          merged_uncovered size p x (tile_on c p) (eight i lt) (empty i (omega (arith, lt, few)) (omega (arith, some, two)) clear)
    ]

-- a piece is merged into so many columns more, where those that aren't marked stay
module _ (span : TileSpan) (size : Dimensions) (x : Piece) (row column count bits : ℕ) (old now new : CanvasOf) (byte : bits < 2 ^ 8)
    (among : (i : ℕ) → i < 8 → bit_at bits i ≡ 1 → i < count)
    (stays : (i : ℕ) → i < count → bit_at bits i ≡ 0 → Stays size x now (tile_with (column + i) row))
    (from_first : span.first_column ≤ column)
    (inv : MergedWhere (is_in_row (columns_before span column) row) size x old now) (step : MergedWhere (is_marked row column bits) size x now new) where
  abbrev Goal : Tile → Type 0
  Goal p = tile_on new p ≡ cond (is_in_row (columns_before span (column + count)) row p) (merged_tile size p x (tile_on old p)) (tile_on old p)

  stepped : (p : Tile) → has_tile old.window p ≡ true → tile_on new p ≡ cond (is_marked row column bits p) (merged_tile size p x (tile_on now p)) (tile_on now p)
  stepped p h = step.tiles p (ap (λ (w : TileSpan). has_tile w p) inv.window ∙ h)

  apart : (p : Tile) → has_tile old.window p ≡ true → is_marked row column bits p ≡ false → is_in_row (columns_before span column) row p ≡ is_in_row (columns_before span (column + count)) row p → Goal p
  apart p h off tests = stepped p h ∙ cond-false _ _ _ off ∙ inv.tiles p h ∙ ap (λ b. cond b (merged_tile size p x (tile_on old p)) (tile_on old p)) tests

  clear_past : (i : ℕ) → count ≤ i → bit_at bits i ≡ 0
  clear_past i le = elim (cases_lt i 8) [
    | inr past ↦ bit_at_above bits 8 i byte past
    | inl below ↦ elim (cases_eq (bit_at bits i) 0) [
      | inl none ↦ none
      | inr some ↦ let two = bit_at-lt bits i in let lt = among i below (omega (arith, some, two)) in absurd (omega (arith, lt, le))
    ]
  ]

  inside : (p : Tile) → has_tile old.window p ≡ true → p.row ≡ row → column ≤ p.column → p.column < column + count → Goal p
  inside p h on from lt =
      let i = p.column - column in
      let same : p ≡ tile_with (column + i) row = same_place p (tile_with (column + i) row) (omega (arith, from)) on in
      let was : tile_on now p ≡ tile_on old p = inv.tiles p h ∙ cond-false _ _ _ (and_right (nat_eq p.row row) _ (past_end span.first_column column p.column from)) in
      let there = in_columns span row (column + count) p on (between span.first_column (column + count) p.column (omega (arith, from, from_first)) lt) in
      elim (cases_eq (bit_at bits i) 0) [
        | inl none ↦
            let still = subst (Stays size x now) (sym same) (stays i (omega (arith, from, lt)) none) in
            stepped p h ∙ cond-false _ _ _ (unmarked row column bits p none) ∙ sym still ∙ ap (merged_tile size p x) was ∙ sym (cond-true _ _ _ there)
        | inr some ↦
            let two = bit_at-lt bits i in
            let one : bit_at bits i ≡ 1 = omega (arith, some, two) in
            stepped p h ∙ cond-true _ _ _ (ap (is_marked row column bits) same ∙ marked row column bits i one) ∙ ap (merged_tile size p x) was ∙ sym (cond-true _ _ _ there)
      ]

  by : (p : Tile) → has_tile old.window p ≡ true → Goal p
  by p h = elim (cases_eq p.row row) [
    | inr off ↦ (let e : nat_eq p.row row ≡ false = grind (arith, nat_tests) in apart p h (and_left _ _ e) (and_left _ _ e ∙ sym (and_left _ _ e)))
    | inl on ↦ elim (cases_lt p.column column) [
      | inl before ↦ (let e : nat_le column p.column ≡ false = grind (arith, nat_tests) in
          apart p h (and_right (nat_eq p.row row) _ (and_left _ _ e)) (ap (λ b. nat_eq p.row row && b) (longer span.first_column column count p.column before)))
      | inr from ↦ elim (cases_lt p.column (column + count)) [
        | inl lt ↦ inside p h on from lt
        | inr past ↦ apart p h (unmarked row column bits p (clear_past (p.column - column) (omega (arith, past))))
            (ap (λ b. nat_eq p.row row && b) (past_end span.first_column column p.column from ∙ sym (past_end span.first_column (column + count) p.column past)))
      ]
    ]
  ]

  pub columns_more : MergedWhere (is_in_row (columns_before span (column + count)) row) size x old new
  columns_more = record { window = step.window ∙ inv.window; whole = step.whole; tiles = by }

-- a piece is merged into the row of a span of so many columns, where those that aren't marked stay
pub row_merged : (span : TileSpan) (size : Dimensions) (x : Piece) (row count bits : ℕ) (old new : CanvasOf) → bits < 2 ^ 8 → ((i : ℕ) → i < 8 → bit_at bits i ≡ 1 → i < count)
    → ((i : ℕ) → i < count → bit_at bits i ≡ 0 → Stays size x old (tile_with (span.first_column + i) row))
    → span.first_column + count ≡ span.end_column → IsCanvas old → MergedWhere (is_marked row span.first_column bits) size x old new → MergedWhere (is_in_row span row) size x old new
row_merged span size x row count bits old new byte among stays end whole step =
    subst (λ n. MergedWhere (is_in_row (columns_before span n) row) size x old new) end
    (columns_more span size x row span.first_column count bits old old new byte among stays (omega arith)
    (none_changed (is_in_row (columns_before span span.first_column) row) (λ p t. merged_tile size p x t) old whole (row_begins span row)) step)

-- the lowest bit that is left is of a place before an end
pub lowest_inside : (column end bits left : ℕ) → left ≢ 0 → left < 2 ^ 8 → ((i : ℕ) → i < 8 → bit_at left i ≡ 1 → bit_at bits i ≡ 1) → ((i : ℕ) → i < 8 → bit_at bits i ≡ 1 → column + i < end)
    → column + trailing_zeros w32 left < end
lowest_inside column end bits left some byte among inside = let l = lowest_within left some byte in inside (trailing_zeros w32 left) l.0 (among (trailing_zeros w32 left) l.0 l.1)

-- the first bits of a number
module _ (a ones count i : ℕ) (is : ones ≡ 2 ^ count - 2 ^ 0) where
  kept_where : (b : Bool) → min (bit_at a i) (cond b 1 0) ≡ cond b (bit_at a i) 0
  kept_where true = let two = bit_at-lt a i in omega (arith, two)
  kept_where false = omega arith

  first_bits : bit_at (bit_and a ones) i ≡ cond (is_between 0 count i) (bit_at a i) 0
  first_bits = bit_at_and a ones i ∙ ap (min (bit_at a i)) (ap (λ n. bit_at n i) is ∙ ones_at 0 count i) ∙ kept_where (is_between 0 count i)

  pub among_first : bit_at (bit_and a ones) i ≡ 1 → i < count
  among_first one = elim (cases_lt i count) [
    | inl lt ↦ lt
    | inr past ↦ (let none = first_bits ∙ ap (λ b. cond b (bit_at a i) 0) (past_end 0 count i past) in absurd (omega (arith, none, one)))
  ]

  pub clear_first : i < count → bit_at (bit_and a ones) i ≡ 0 → bit_at a i ≡ 0
  clear_first lt clear = sym (first_bits ∙ ap (λ b. cond b (bit_at a i) 0) (between 0 count i (omega arith) lt)) ∙ clear

-- a number of one bit
pub one_first : (m i : ℕ) → m < 2 → bit_at m i ≡ 1 → i < 1
one_first m i small one = elim (cases_lt i 1) [
  | inl lt ↦ lt
  | inr past ↦ (let none = bit_at_above m 1 i small past in absurd (omega (arith, none, one)))
]

pub zero_first : (m : ℕ) → m < 2 → bit_at m 0 ≡ 0 → m ≡ 0
zero_first m small clear = let low = bit_at_lowest m in omega (arith, low, small, clear)
