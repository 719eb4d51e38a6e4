-- Tiles of a span that move forward along a frame's list, member after member.
use Rattle.std.proofs.Common.{◌≡◌, ◌⊎◌, ℕ, ◌+◌, ◌<◌, ◌≤◌, nat_le, nat_lt, Bool, true, false, ◌&&◌, cond, List, [], ◌∷◌, ◌++◌, length, take, drop, filter, get_or, append_assoc, arith, refl, sym, ap, ◌∙◌, subst, inl, inr}
use Rattle.std.specs.Prelude.{slice_index}
use Rattle.std.proofs.lemmas.Bool.{and_parts, cases_lt}
use Rattle.std.proofs.lemmas.Bool.Decides.{nat_tests}
use Rattle.std.proofs.lemmas.List.{get_or_at, length-take, take-append-drop, take_more}
use Rattle.std.proofs.lemmas.List.Elements.{filter-append}
use Rattle.cull_base.specs.declared.tile_span.TileSpan.{TileSpan}
use Rattle.cull_base.specs.Piece.{Piece, box_of}
use Rattle.cull_base.specs.Rectangle.{meets}
use Rattle.cull_base.specs.Screen.{Dimensions, tile_count_of, tile_place, tile_rect_of}
use Rattle.cull_base.specs.Span.{has_tile}
use Rattle.cull_base.specs.Tiles.{PieceList, tile_list}
use Rattle.masked_update.specs.Taken.{IsMember, standing_at, taken_by}
use Rattle.masked_update.specs.TileOf.{TileOf, tile_at}
use Rattle.masked_update.proofs.TileLists.{next_taken}
use Rattle.live_check.specs.Moving.{TookIf, TookWhere, is_met_in, is_short_at}
use Rattle.live_check.specs.Standing.{AreStanding, HaveMoved, IsIn, StandsBehind, TilesOf, count_at, met_before}
use Rattle.live_check.proofs.LineParts.{met_within}
use Rattle.live_check.proofs.Moves.{met_all, met_more, own_within}

-- ---- counts

-- a tile's count is that of the members before it
count_is : (list : PieceList) (tiles : TilesOf) (t : ℕ) → StandsBehind list t (slice_index tiles.behind t) (tile_at tiles.states t) → count_at tiles t ≡ met_before list t (slice_index tiles.behind t)
count_is list tiles t stands = ap (λ (x : TileOf). x.count) stands.state

met_few : (list : PieceList) (t place : ℕ) → met_before list t place ≤ place
met_few list t place = omega (arith, own_within t (record { size = list.size; members = take place list.members }), length-take place list.members)

short_parts : (tiles : TilesOf) (t place : ℕ) → is_short_at tiles t place ≡ true → (count_at tiles t < slice_index tiles.stated t) × (slice_index tiles.behind t ≤ place)
short_parts tiles t place short = let parts = and_parts (nat_lt (count_at tiles t) (slice_index tiles.stated t)) (nat_le (slice_index tiles.behind t) place) short in (grind (arith, nat_tests), grind (arith, nat_tests))

is_short : (tiles : TilesOf) (t place : ℕ) → count_at tiles t < slice_index tiles.stated t → slice_index tiles.behind t ≤ place → is_short_at tiles t place ≡ true
is_short tiles t place lt le = grind (arith, nat_tests)

-- a short tile has room to count one more
pub short_few : (list : PieceList) (tiles : TilesOf) (t place : ℕ) → AreStanding list tiles → t < tile_count_of tiles.size → place < length list.members → length list.members ≤ 131072 → is_short_at tiles t place ≡ true → count_at tiles t < 131072
short_few list tiles t place standing lt within few short =
    let on : t < tile_count_of list.size = subst (λ (d : Dimensions). t < tile_count_of d) standing.size lt in
    omega (arith, count_is list tiles t (standing.each t on), met_few list t (slice_index tiles.behind t), (short_parts tiles t place short).1, within, few)

-- a member that meets a tile is the next one of its list
next_member_of : (list : PieceList) (t place : ℕ) (x : Piece) → place < length list.members → get_or list.members place x ≡ x → meets (box_of x) (tile_rect_of list.size t) ≡ true → IsMember t (met_before list t place) list x
unfolding tile_list
next_member_of list t place x lt is met = record { within = omega (arith, met_within list t (place + 1), met_more list t place x lt is, ap {B = ℕ} (λ (b : Bool). cond b 1 0) met); is = at }
  where
    p : Piece → Bool
    p y = meets (box_of y) (tile_rect_of list.size t)

    one : (b : Bool) → p x ≡ b → b ≡ true → filter p (x ∷ []) ≡ x ∷ []
    one b e on = let all : p x ≡ true = e ∙ on in rw all refl

    whole : list.members ≡ (take place list.members ++ x ∷ []) ++ drop (place + 1) list.members
    whole = sym (take-append-drop (place + 1) list.members) ∙ ap (λ (ys : List Piece). ys ++ drop (place + 1) list.members) (take_more list.members place x lt ∙ ap (λ (y : Piece). take place list.members ++ y ∷ []) is)

    own : filter p list.members ≡ filter p (take place list.members) ++ (x ∷ filter p (drop (place + 1) list.members))
    own =
        ap (filter p) whole ∙ filter-append p (take place list.members ++ x ∷ []) (drop (place + 1) list.members)
        ∙ ap (λ (ys : List Piece). ys ++ filter p (drop (place + 1) list.members)) (filter-append p (take place list.members) (x ∷ []) ∙ ap (λ (ys : List Piece). filter p (take place list.members) ++ ys) (one (p x) refl met))
        ∙ append_assoc (filter p (take place list.members)) (x ∷ []) (filter p (drop (place + 1) list.members))

    at : get_or (filter p list.members) (length (filter p (take place list.members))) x ≡ x
    at = ap (λ (ys : List Piece). get_or ys (length (filter p (take place list.members))) x) own
        ∙ get_or_at (filter p (take place list.members)) x (filter p (drop (place + 1) list.members)) x (length (filter p (take place list.members))) refl

-- ---- so far

-- A tile stands no earlier than a place, or none of the members between them meets it.
abbrev IsAbreast : PieceList → ℕ → ℕ → ℕ → Type 0
IsAbreast list t behind place = (place ≤ behind) ⊎ ((behind ≤ place) × (met_before list t behind ≡ met_before list t place))

-- the members before a place were offered to the span's tiles
pub record MovedTo (list : PieceList) (span : TileSpan) (place : ℕ) (old new : TilesOf) : Type 0 where
  pub standing : AreStanding list new
  pub size : new.size ≡ old.size
  pub stated : new.stated ≡ old.stated
  pub rise : (t : ℕ) → IsIn old span t → count_at new t ≤ slice_index old.stated t
  pub others : (t : ℕ) → t < tile_count_of old.size → (IsIn old span t → ⊥) → count_at new t ≡ count_at old t
  pub abreast : (t : ℕ) → IsIn old span t → count_at new t < slice_index old.stated t → IsAbreast list t (slice_index new.behind t) place

pub moved_none : (list : PieceList) (span : TileSpan) (place : ℕ) (tiles : TilesOf) → AreStanding list tiles → ((t : ℕ) → IsIn tiles span t → count_at tiles t ≤ slice_index tiles.stated t)
    → place ≤ length list.members → ((t : ℕ) → IsIn tiles span t → count_at tiles t < slice_index tiles.stated t → slice_index tiles.behind t < length list.members → place ≤ slice_index tiles.behind t) → MovedTo list span place tiles tiles
moved_none list span place tiles standing rise within least = record {
  standing = standing;
  size = refl;
  stated = refl;
  rise = rise;
  others = λ t lt not. refl;
  abreast = λ t inside short. elim (cases_lt (slice_index tiles.behind t) (length list.members)) [
    | inl lt ↦ inl (least t inside short lt)
    | inr le ↦ inl (omega (arith, le, within))
  ];
}

-- ---- one member more

module _ (list : PieceList) (span : TileSpan) (place : ℕ) (old new now : TilesOf) (x : Piece) (m : MovedTo list span place old new) (lt : place < length list.members) (is : get_or list.members place x ≡ x)
    (took : TookWhere (is_met_in new.size span x) x place new now) where
  -- what a tile of the screen did
  did : (t : ℕ) → t < tile_count_of old.size → (b : Bool) → (is_met_in new.size span x t && is_short_at new t place) ≡ b → TookIf b t x place new now
  did t on b e = subst (λ (c : Bool). TookIf c t x place new now) e (took.each t (subst (λ (d : Dimensions). t < tile_count_of d) (sym m.size) on))

  on_list : (t : ℕ) → t < tile_count_of old.size → t < tile_count_of list.size
  on_list t on = subst (λ (d : Dimensions). t < tile_count_of d) (sym m.size ∙ m.standing.size) on

  -- a short tile of the span at the place
  short_here : (t : ℕ) → IsIn old span t → is_short_at new t place ≡ true → met_before list t (slice_index new.behind t) ≡ met_before list t place
  short_here t inside short =
      let parts = short_parts new t place short in
      elim (m.abreast t inside (omega (arith, parts.0, ap (λ (xs : List ℕ). slice_index xs t) m.stated))) [
        | inl later ↦ let same : slice_index new.behind t ≡ place = omega (arith, later, parts.1) in ap (met_before list t) same
        | inr both ↦ both.1
      ]

  -- a tile that takes the member
  took_it : (t : ℕ) → IsIn old span t → (is_met_in new.size span x t && is_short_at new t place) ≡ true → StandsBehind list t (slice_index now.behind t) (tile_at now.states t) × (count_at now t ≡ count_at new t + 1) × (slice_index now.behind t ≡ place + 1)
  took_it t inside e =
      let on = on_list t inside.0 in
      let d = did t inside.0 true e in
      let parts = and_parts (is_met_in new.size span x t) (is_short_at new t place) e in
      let met : meets (box_of x) (tile_rect_of list.size t) ≡ true = ap (λ (s : Dimensions). meets (box_of x) (tile_rect_of s t)) (sym m.standing.size) ∙ (and_parts (has_tile span (tile_place new.size t)) (meets (box_of x) (tile_rect_of new.size t)) parts.0).1 in
      let was = (m.standing.each t on).state in
      let k = met_before list t place in
      let here = short_here t inside parts.1 in
      let next : met_before list t (place + 1) ≡ k + 1 = met_more list t place x lt is ∙ ap (λ (b : Bool). k + cond b 1 0) met in
      let state : tile_at now.states t ≡ standing_at t (met_before list t (place + 1)) list =
      d.state ∙ ap (λ (s : Dimensions). taken_by s t x (tile_at new.states t)) m.standing.size ∙ ap (taken_by list.size t x) (was ∙ ap (λ (n : ℕ). standing_at t n list) here)
      ∙ next_taken t k list x (next_member_of list t place x lt is met) ∙ ap (λ (n : ℕ). standing_at t n list) (sym next) in (
        record { within = omega (arith, d.behind, lt); state = state ∙ ap (λ (n : ℕ). standing_at t (met_before list t n) list) (sym d.behind) },
        ap (λ (s : TileOf). s.count) d.state,
        d.behind,
      )

  -- a tile that isn't of the span takes none
  outside_off : (t : ℕ) → (h : Bool) → has_tile span (tile_place new.size t) ≡ h → (h ≡ true → ⊥) → (is_met_in new.size span x t && is_short_at new t place) ≡ false
  outside_off t true e never = absurd (never refl)
  outside_off t false e never = rw e refl

  -- what each tile of the screen does is told by whether it is short and met
  each_stands : (t : ℕ) → t < tile_count_of old.size → (b : Bool) → (is_met_in new.size span x t && is_short_at new t place) ≡ b → StandsBehind list t (slice_index now.behind t) (tile_at now.states t)
  each_stands t on true e =
      let has = (and_parts (has_tile span (tile_place new.size t)) (meets (box_of x) (tile_rect_of new.size t)) (and_parts (is_met_in new.size span x t) (is_short_at new t place) e).0).0 in
      (took_it t (on, ap (λ (d : Dimensions). has_tile span (tile_place d t)) (sym m.size) ∙ has) e).0
  each_stands t on false e =
      let d = did t on false e in
      let was = m.standing.each t (on_list t on) in
      record { within = omega (arith, d.behind, was.within); state = d.state ∙ was.state ∙ ap (λ (n : ℕ). standing_at t (met_before list t n) list) (sym d.behind) }

  rises_on : (t : ℕ) → IsIn old span t → (b : Bool) → (is_met_in new.size span x t && is_short_at new t place) ≡ b → count_at now t ≤ slice_index old.stated t
  rises_on t inside true e =
      let more = (took_it t inside e).1 in
      let short = (short_parts new t place (and_parts (is_met_in new.size span x t) (is_short_at new t place) e).1).0 in
      omega (arith, more, short, ap (λ (xs : List ℕ). slice_index xs t) m.stated)
  rises_on t inside false e = let d = did t inside.0 false e in omega (arith, ap (λ (s : TileOf). s.count) d.state, m.rise t inside)

  -- a short tile of the span that doesn't take the member isn't met by it
  quiet : (t : ℕ) → IsIn old span t → is_short_at new t place ≡ true → (is_met_in new.size span x t && is_short_at new t place) ≡ false → met_before list t (place + 1) ≡ met_before list t place
  quiet t inside short e =
      let has : has_tile span (tile_place new.size t) ≡ true = ap (λ (d : Dimensions). has_tile span (tile_place d t)) m.size ∙ inside.1 in
      let off : meets (box_of x) (tile_rect_of list.size t) ≡ false =
      ap (λ (d : Dimensions). meets (box_of x) (tile_rect_of d t)) (sym m.standing.size) ∙ three (has_tile span (tile_place new.size t)) (meets (box_of x) (tile_rect_of new.size t)) (is_short_at new t place) has short e in
      met_more list t place x lt is ∙ ap (λ (b : Bool). met_before list t place + cond b 1 0) off ∙ (let none : met_before list t place + 0 ≡ met_before list t place = omega arith in none)
    where
      three : (a b c : Bool) → a ≡ true → c ≡ true → ((a && b) && c) ≡ false → b ≡ false
      three true false true pa pc e = refl
      three true true true pa pc e = e
      three false b c pa pc e = absurd cc
      three true b false pa pc e = absurd cc

  abreast_on : (t : ℕ) → IsIn old span t → (b : Bool) → (is_met_in new.size span x t && is_short_at new t place) ≡ b → count_at now t < slice_index old.stated t → IsAbreast list t (slice_index now.behind t) (place + 1)
  abreast_on t inside true e short = inl (omega (arith, (took_it t inside e).2))
  abreast_on t inside false e short =
      let d = did t inside.0 false e in
      let lower : count_at new t < slice_index old.stated t = omega (arith, short, ap (λ (s : TileOf). s.count) d.state) in
      subst (λ (n : ℕ). IsAbreast list t n (place + 1)) (sym d.behind) (elim (cases_lt place (slice_index new.behind t)) [
        | inl past ↦ inl (omega (arith, past))
        | inr le ↦
            let here = is_short new t place (omega (arith, lower, ap (λ (xs : List ℕ). slice_index xs t) m.stated)) le in
            inr (omega (arith, le), short_here t inside here ∙ sym (quiet t inside here e))
      ])

  pub moved_more : MovedTo list span (place + 1) old now
  moved_more = record {
    standing = record {
      size = took.size ∙ m.standing.size;
      each = λ t on. each_stands t (subst (λ (d : Dimensions). t < tile_count_of d) (sym m.standing.size ∙ m.size) on) (is_met_in new.size span x t && is_short_at new t place) refl;
    };
    size = took.size ∙ m.size;
    stated = took.stated ∙ m.stated;
    rise = λ t inside. rises_on t inside (is_met_in new.size span x t && is_short_at new t place) refl;
    others = λ t on not.
        let off = outside_off t (has_tile span (tile_place new.size t)) refl (λ has. not (on, ap (λ (d : Dimensions). has_tile span (tile_place d t)) (sym m.size) ∙ has)) in
        ap (λ (s : TileOf). s.count) (did t on false off).state ∙ m.others t on not;
    abreast = λ t inside. abreast_on t inside (is_met_in new.size span x t && is_short_at new t place) refl;
  }

-- ---- where none is short

pub moved_there : (list : PieceList) (span : TileSpan) (place len : ℕ) (old new : TilesOf) → len ≡ length list.members → MovedTo list span place old new → ((t : ℕ) → IsIn new span t → is_short_at new t len ≡ false) → HaveMoved span old new
moved_there list span place len old new whole m none = record {
  size = m.size;
  stated = λ t inside.
      let within : IsIn new span t = subst (λ (d : Dimensions). (t < tile_count_of d) × (has_tile span (tile_place d t) ≡ true)) (sym m.size) inside in
      let on : t < tile_count_of list.size = subst (λ (d : Dimensions). t < tile_count_of d) m.standing.size within.0 in
      elim (cases_lt (count_at new t) (slice_index old.stated t)) [
        | inl short ↦
            let here = is_short new t len (omega (arith, short, ap (λ (xs : List ℕ). slice_index xs t) m.stated)) (omega (arith, whole, (m.standing.each t on).within)) in
            let no : true ≡ false = sym here ∙ none t within in absurd cc
        | inr le ↦ omega (arith, le, m.rise t inside)
      ];
  others = m.others;
}

-- at the list's end a short tile is stated past its list
pub moved_past : (list : PieceList) (span : TileSpan) (place len t : ℕ) (old new : TilesOf) → len ≡ length list.members → place ≡ len → MovedTo list span place old new → IsIn new span t → is_short_at new t len ≡ true
    → IsIn old span t × (length (tile_list t list) < slice_index old.stated t)
moved_past list span place len t old new whole end m within short =
    let inside : IsIn old span t = subst (λ (d : Dimensions). (t < tile_count_of d) × (has_tile span (tile_place d t) ≡ true)) m.size within in
    let on : t < tile_count_of list.size = subst (λ (d : Dimensions). t < tile_count_of d) m.standing.size within.0 in
    let parts = short_parts new t len short in
    let stands = m.standing.each t on in
    let lower : count_at new t < slice_index old.stated t = omega (arith, parts.0, ap (λ (xs : List ℕ). slice_index xs t) m.stated) in
    let all : met_before list t (slice_index new.behind t) ≡ length (tile_list t list) = elim (m.abreast t inside lower) [
      | inl later ↦ (let same : slice_index new.behind t ≡ length list.members = omega (arith, later, end, whole, stands.within) in ap (met_before list t) same ∙ met_all list t)
      | inr both ↦ both.1 ∙ ap (met_before list t) (end ∙ whole) ∙ met_all list t
    ] in
    (inside, omega (arith, all, count_is list new t stands, lower))
