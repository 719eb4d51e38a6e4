-- A piece that the short tiles of a span take, tile after tile.
use Rattle.std.proofs.Common.{◌≡◌, ℕ, ◌+◌, ◌*◌, ◌<◌, ◌≤◌, Bool, true, false, ◌&&◌, cond, nat_eq, nat_le, nat_lt, List, set, get_or-set_other, get_or-set_same, arith, refl, sym, ap, ◌∙◌, subst, inl, inr}
use Rattle.std.specs.Prelude.{slice_index}
use Rattle.std.proofs.lemmas.Bool.{cases_lt, eqb-true, le-ltb, lt-ltb}
use Rattle.std.proofs.lemmas.Bool.Decides.{nat_tests}
use Rattle.cull_base.specs.declared.tile_span.TileSpan.{TileSpan}
use Rattle.cull_base.specs.Piece.{Piece}
use Rattle.cull_base.specs.Screen.{Dimensions, tile_columns_of, tile_count_of, tile_place}
use Rattle.cull_base.specs.Span.{IsSpan, has_tile}
use Rattle.cull_base.proofs.Places.{row_below}
use Rattle.masked_update.specs.Taken.{taken_by}
use Rattle.masked_update.specs.TileOf.{TileOf, no_tile, tile_at}
use Rattle.live_check.specs.Moving.{TookIf, TookWhere, is_short_at}
use Rattle.live_check.specs.Standing.{AreWhole, TilesOf, count_at}
use Rattle.live_check.proofs.Stating.{no_column, no_row, past_rows, row_from}

-- ---- tests

pub took_alike : (p q : ℕ → Bool) (x : Piece) (place : ℕ) (old new : TilesOf) → ((t : ℕ) → t < tile_count_of old.size → p t ≡ q t) → TookWhere p x place old new → TookWhere q x place old new
took_alike p q x place old new same took = record {
  size = took.size;
  stated = took.stated;
  each = λ t lt. subst (λ (b : Bool). TookIf (b && is_short_at old t place) t x place old new) (same t lt) (took.each t lt);
}

-- no tile takes it
pub took_none : (p : ℕ → Bool) (x : Piece) (place : ℕ) (tiles : TilesOf) → ((t : ℕ) → t < tile_count_of tiles.size → (p t && is_short_at tiles t place) ≡ false) → TookWhere p x place tiles tiles
took_none p x place tiles off = record {
  size = refl;
  stated = refl;
  each = λ t lt. subst (λ (b : Bool). TookIf b t x place tiles tiles) (sym (off t lt)) (record { state = refl; behind = refl });
}

-- what is known of a tile says whether it is short
short_same : (old new : TilesOf) (t place : ℕ) → new.stated ≡ old.stated → tile_at new.states t ≡ tile_at old.states t → slice_index new.behind t ≡ slice_index old.behind t → is_short_at new t place ≡ is_short_at old t place
short_same old new t place stated state behind =
    ap (λ (x : TileOf). nat_lt x.count (slice_index new.stated t) && nat_le (slice_index new.behind t) place) state
    ∙ ap (λ (xs : List ℕ). nat_lt (count_at old t) (slice_index xs t) && nat_le (slice_index new.behind t) place) stated
    ∙ ap (λ (n : ℕ). nat_lt (count_at old t) (slice_index old.stated t) && nat_le n place) behind

-- one tile after others
pub took_then : (p q : ℕ → Bool) (n : ℕ) (x : Piece) (place : ℕ) (old new now : TilesOf) → p n ≡ false → q n ≡ true → ((t : ℕ) → (t ≡ n → ⊥) → q t ≡ p t)
    → TookWhere p x place old new → TookWhere (λ t. nat_eq t n) x place new now → TookWhere q x place old now
took_then p q n x place old new now off on others first one = record {
  size = one.size ∙ first.size;
  stated = one.stated ∙ first.stated;
  each = λ t lt. by t lt (nat_eq t n) refl;
}
  where
    by : (t : ℕ) → t < tile_count_of old.size → (b : Bool) → nat_eq t n ≡ b → TookIf (q t && is_short_at old t place) t x place old now
    by t lt false other =
        let ne : t ≡ n → ⊥ = λ e. grind (arith, nat_tests) in
        let last = subst (λ (b : Bool). TookIf (b && is_short_at new t place) t x place new now) other (one.each t (subst (λ (d : Dimensions). t < tile_count_of d) (sym first.size) lt)) in
        let before = subst (λ (b : Bool). TookIf (b && is_short_at old t place) t x place old new) (sym (others t ne)) (first.each t lt) in
        record { state = last.state ∙ before.state; behind = last.behind ∙ before.behind }
    by t lt true same =
        let e : t ≡ n = eqb-true t n same in
        let quiet = subst (λ (b : Bool). TookIf (b && is_short_at old t place) t x place old new) (ap p e ∙ off) (first.each t lt) in
        let short = short_same old new t place first.stated quiet.state quiet.behind in
        let last = subst (λ (b : Bool). TookIf (b && is_short_at new t place) t x place new now) same (one.each t (subst (λ (d : Dimensions). t < tile_count_of d) (sym first.size) lt)) in
        let there = subst (λ (b : Bool). TookIf b t x place new now) short last in
        subst (λ (b : Bool). TookIf (b && is_short_at old t place) t x place old now) (sym (ap q e ∙ on))
        (record {
          state = there.state ∙ ap (λ (d : Dimensions). cond (is_short_at old t place) (taken_by d t x (tile_at new.states t)) (tile_at new.states t)) first.size
              ∙ ap (λ (s : TileOf). cond (is_short_at old t place) (taken_by old.size t x s) s) quiet.state;
          behind = there.behind ∙ ap (λ (k : ℕ). cond (is_short_at old t place) (place + 1) k) quiet.behind;
        })

-- ---- one tile

pub took_not : (n : ℕ) (x : Piece) (place : ℕ) (tiles : TilesOf) → is_short_at tiles n place ≡ false → TookWhere (λ t. nat_eq t n) x place tiles tiles
took_not n x place tiles off = took_none (λ t. nat_eq t n) x place tiles (λ t lt. by t (nat_eq t n) refl)
  where
    by : (t : ℕ) (b : Bool) → nat_eq t n ≡ b → (nat_eq t n && is_short_at tiles t place) ≡ false
    by t true same = ap (λ (b : Bool). b && is_short_at tiles t place) same ∙ ap (λ (m : ℕ). is_short_at tiles m place) (eqb-true t n same) ∙ off
    by t false other = ap (λ (b : Bool). b && is_short_at tiles t place) other

pub took_one : (n : ℕ) (x : Piece) (place : ℕ) (old new : TilesOf) → n < tile_count_of old.size → AreWhole old → is_short_at old n place ≡ true → new.size ≡ old.size → new.stated ≡ old.stated
    → new.states ≡ set old.states n (taken_by old.size n x (tile_at old.states n)) → new.behind ≡ set old.behind n (place + 1) → TookWhere (λ t. nat_eq t n) x place old new
took_one n x place old new lt whole on size stated states behind = record { size = size; stated = stated; each = λ t below. by t (nat_eq t n) refl }
  where
    by : (t : ℕ) (b : Bool) → nat_eq t n ≡ b → TookIf (nat_eq t n && is_short_at old t place) t x place old new
    by t true same =
        let e : n ≡ t = sym (eqb-true t n same) in
        let all : (nat_eq t n && is_short_at old t place) ≡ true = ap (λ (b : Bool). b && is_short_at old t place) same ∙ ap (λ (m : ℕ). is_short_at old m place) (sym e) ∙ on in
        subst (λ (b : Bool). TookIf b t x place old new) (sym all)
        (subst (λ (m : ℕ). TookIf true m x place old new) e (record {
          state = ap (λ (xs : List TileOf). tile_at xs n) states ∙ get_or-set_same old.states n (taken_by old.size n x (tile_at old.states n)) no_tile (omega (arith, lt, whole.states));
          behind = ap (λ (xs : List ℕ). slice_index xs n) behind ∙ get_or-set_same old.behind n (place + 1) 0 (omega (arith, lt, whole.behind));
        }))
    by t false other =
        let ne : t ≡ n → ⊥ = λ e. grind (arith, nat_tests) in
        subst (λ (b : Bool). TookIf (b && is_short_at old t place) t x place old new) (sym other)
        (record {
          state = ap (λ (xs : List TileOf). tile_at xs t) states ∙ get_or-set_other old.states n t (taken_by old.size n x (tile_at old.states n)) no_tile ne;
          behind = ap (λ (xs : List ℕ). slice_index xs t) behind ∙ get_or-set_other old.behind n t (place + 1) 0 ne;
        })

-- ---- the first n tiles, as far as they stand in a span

abbrev pub is_before : Dimensions → TileSpan → ℕ → ℕ → Bool
is_before size span n t = nat_lt t n && has_tile span (tile_place size t)

abbrev pub TookBefore : TileSpan → ℕ → Piece → ℕ → TilesOf → TilesOf → Type 0
TookBefore span n x place old new = TookWhere (is_before old.size span n) x place old new

and_off : (b : Bool) → (b && false) ≡ false
and_off true = refl
and_off false = refl

-- none of the tiles between is of the span
before_same : (size : Dimensions) (span : TileSpan) (m n : ℕ) → m ≤ n → ((t : ℕ) → m ≤ t → t < n → has_tile span (tile_place size t) ≡ false) → (t : ℕ) → is_before size span m t ≡ is_before size span n t
before_same size span m n le off t =
    let has = has_tile span (tile_place size t) in
    elim (cases_lt t m) [
      | inl lt ↦ ap (λ (b : Bool). b && has) (lt-ltb t m lt ∙ sym (lt-ltb t n (omega (arith, lt, le))))
      | inr from ↦ elim (cases_lt t n) [
        | inl lt ↦ let none = off t from lt in ap (λ (b : Bool). nat_lt t m && b) none ∙ and_off (nat_lt t m) ∙ sym (ap (λ (b : Bool). nat_lt t n && b) none ∙ and_off (nat_lt t n))
        | inr past ↦ let same : nat_lt t m ≡ nat_lt t n = grind (arith, nat_tests) in ap (λ (b : Bool). b && has) same
      ]
    ]

module _ (span : TileSpan) (x : Piece) (place : ℕ) (old : TilesOf) where
  pub took_rows_begun : 0 < tile_columns_of old.size → TookBefore span (span.first_row * tile_columns_of old.size) x place old old
  took_rows_begun some = took_none (is_before old.size span (span.first_row * tile_columns_of old.size)) x place old (λ t lt.
      let n = span.first_row * tile_columns_of old.size in
      let off : is_before old.size span n t ≡ false = sym (before_same old.size span 0 n (omega arith) (λ u from below. no_row span (tile_place old.size u) (row_below u (tile_columns_of old.size) span.first_row some (omega (arith, below)))) t) ∙ ap (λ (b : Bool). b && has_tile span (tile_place old.size t)) (le-ltb t 0 (omega arith)) in
      ap (λ (b : Bool). b && is_short_at old t place) off)

  pub took_row_begun : (row : ℕ) (new : TilesOf) → IsSpan old.size span → TookBefore span (row * tile_columns_of old.size) x place old new → TookBefore span (row * tile_columns_of old.size + span.first_column) x place old new
  took_row_begun row new is took =
      let n = row * tile_columns_of old.size in
      let some = is.columns in let within = is.columns_within in
      took_alike (is_before old.size span n) (is_before old.size span (n + span.first_column)) x place old new
      (λ t lt. before_same old.size span n (n + span.first_column) (omega arith) (λ u from below. no_column old.size span row u from (omega (arith, below, some, within)) (inl below)) t) took

  pub took_row_ended : (row column : ℕ) (new : TilesOf) → span.end_column ≤ column → column ≤ tile_columns_of old.size → TookBefore span (row * tile_columns_of old.size + column) x place old new → TookBefore span ((row + 1) * tile_columns_of old.size) x place old new
  took_row_ended row column new end within took =
      let n = row * tile_columns_of old.size + column in
      took_alike (is_before old.size span n) (is_before old.size span ((row + 1) * tile_columns_of old.size)) x place old new
      (λ t lt. before_same old.size span n ((row + 1) * tile_columns_of old.size) (omega (arith, within)) (λ u from below. no_column old.size span row u (omega (arith, from)) below (inr (omega (arith, from, end)))) t) took

  pub took_more : (n m : ℕ) (new now : TilesOf) → m ≡ n + 1 → has_tile span (tile_place old.size n) ≡ true → TookBefore span n x place old new → TookWhere (λ t. nat_eq t n) x place new now → TookBefore span m x place old now
  took_more n m new now next has took one =
      took_then (is_before old.size span n) (is_before old.size span m) n x place old new now
      (let no : nat_lt n n ≡ false = grind (arith, nat_tests) in ap (λ (b : Bool). b && has_tile span (tile_place old.size n)) no)
      (ap (λ (b : Bool). b && has_tile span (tile_place old.size n)) (lt-ltb n m (omega (arith, next))) ∙ has)
      (λ t ne. let same : nat_lt t m ≡ nat_lt t n = grind (arith, nat_tests) in ap (λ (b : Bool). b && has_tile span (tile_place old.size t)) same) took one

  pub took_all : (row : ℕ) (new : TilesOf) → 0 < tile_columns_of old.size → span.end_row ≤ row → TookBefore span (row * tile_columns_of old.size) x place old new → TookWhere (λ t. has_tile span (tile_place old.size t)) x place old new
  took_all row new some end took = took_alike (is_before old.size span (row * tile_columns_of old.size)) (λ t. has_tile span (tile_place old.size t)) x place old new (λ t lt.
      elim (cases_lt t (row * tile_columns_of old.size)) [
        | inl below ↦ ap (λ (b : Bool). b && has_tile span (tile_place old.size t)) (lt-ltb t (row * tile_columns_of old.size) below)
        | inr from ↦
            let off = past_rows span (tile_place old.size t) (omega (arith, end, row_from old.size row t some from)) in
            ap (λ (b : Bool). nat_lt t (row * tile_columns_of old.size) && b) off ∙ and_off (nat_lt t (row * tile_columns_of old.size)) ∙ sym off
      ]) took

  -- a tile that hasn't had its turn stands as it stood
  pub took_yet : (n : ℕ) (new : TilesOf) → n < tile_count_of old.size → TookBefore span n x place old new → is_short_at new n place ≡ true → (is_short_at old n place ≡ true) × (count_at new n ≡ count_at old n)
  took_yet n new lt took short =
      let no : nat_lt n n ≡ false = grind (arith, nat_tests) in
      let quiet = subst (λ (b : Bool). TookIf ((b && has_tile span (tile_place old.size n)) && is_short_at old n place) n x place old new) no (took.each n lt) in
      (sym (short_same old new n place took.stated quiet.state quiet.behind) ∙ short, ap (λ (s : TileOf). s.count) quiet.state)
