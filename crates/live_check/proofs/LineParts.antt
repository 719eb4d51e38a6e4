-- A line that is read part by part: its head, its verdict, its fields and its newline.
use Rattle.std.proofs.Common.{◌≡◌, ℕ, ◌<◌, ◌≤◌, Bool, List, [], ◌∷◌, ◌++◌, length, take, drop, Option, Some, None, append_assoc, arith, refl, sym, ap, ◌∙◌, subst}
use Rattle.std.specs.Prelude.{IfSome, slice_index}
use Rattle.std.specs.List.{filter}
use Rattle.std.proofs.lemmas.List.{append_cancel_left, take-append-drop, length-append}
use Rattle.std.proofs.lemmas.List.Elements.{filter-append}
use Rattle.std.proofs.lemmas.Option.{same_Some}
use Rattle.cull_base.specs.declared.scene_types.Verdict.{Verdict}
use Rattle.cull_base.specs.declared.tile_span.TileSpan.{TileSpan}
use Rattle.cull_base.specs.Piece.{Piece, box_of}
use Rattle.cull_base.specs.Rectangle.{meets}
use Rattle.cull_base.specs.Screen.{Dimensions, tile_count_of, tile_place, tile_rect_of}
use Rattle.cull_base.specs.Span.{HasTilesOf, has_tile}
use Rattle.cull_base.specs.Tiles.{PieceList, tile_list}
use Rattle.masked_update.specs.Taken.{standing_at}
use Rattle.masked_update.specs.TileOf.{TileOf, tile_at}
use Rattle.scene_reader.specs.Layout.{IsScene, Parts}
use Rattle.cull_report.specs.Live.{IsStated, object_at, object_line, prefixed_tiles, prefixed_verdict, tile_count}
use Rattle.cull_report.specs.LivePieces.{counts_text}
use Rattle.cull_report.specs.Scene.{frame_list, object_area, size_of, verdict_in}
use Rattle.cull_report.specs.Text.{verdict_word}
use Rattle.cull_report.proofs.LiveSnapshots.{kept_alike, verdict_of_area}
use Rattle.live_check.specs.Fitting.{FitsAt, LineComes}
use Rattle.live_check.specs.Moving.{AreNotStated, AreOnly, AreStated, MayState, fields_by, fields_of}
use Rattle.live_check.specs.Standing.{AreStanding, HaveMoved, IsIn, TilesOf, count_at, met_before}
use Rattle.live_check.specs.Waiting.{Came, IsBehindNumber, NeverComes}
use Rattle.live_check.proofs.Frames.{came_as, came_then}
use Rattle.live_check.proofs.Small.{few_own}
use Rattle.live_check.proofs.Texts.{front_of_line, line_parts, met_of, word_same}

-- ---- what never comes

pub never_longer : (a : Option (List ℕ)) (x y : List ℕ) → NeverComes a x → NeverComes a (x ++ y)
never_longer None x y h = tt
never_longer (Some log) x y h = λ more e. h (y ++ more) (e ∙ append_assoc x y more)

pub never_behind : (a b : Option (List ℕ)) (x y : List ℕ) → Came a b x → NeverComes b y → NeverComes a (x ++ y)
never_behind None b x y c h = tt
never_behind (Some log) None x y c h = let no : ◌≡◌ {A = Option (List ℕ)} (Some log) None = c in absurd cc
never_behind (Some log) (Some r) x y c h = λ more e.
    h more (append_cancel_left x r (y ++ more) (sym (same_Some log (x ++ r) c) ∙ e ∙ append_assoc x y more))

-- behind a verdict's word
pub never_word : (a b : Option (List ℕ)) (v w : Verdict) (y : List ℕ) → Came a b (verdict_word v) → (v ≡ w → NeverComes b y) → NeverComes a (verdict_word w ++ y)
never_word None b v w y c h = tt
never_word (Some log) None v w y c h = let no : ◌≡◌ {A = Option (List ℕ)} (Some log) None = c in absurd cc
never_word (Some log) (Some r) v w y c h = λ more e.
    let same = word_same v w r (y ++ more) (sym (same_Some log (verdict_word v ++ r) c) ∙ e ∙ append_assoc (verdict_word w) y more) in
    h same.0 more same.1

-- no verdict came
pub never_verdict : (a : Option (List ℕ)) (w : Verdict) (y : List ℕ) → IfSome a (λ bytes. (v : Verdict) (more : List ℕ) → bytes ≡ verdict_word v ++ more → ◌≡◌ {A = Option Verdict} None (Some v)) → NeverComes a (verdict_word w ++ y)
never_verdict None w y h = tt
never_verdict (Some log) w y h = λ more e. let no = h w (y ++ more) (e ∙ append_assoc (verdict_word w) y more) in absurd cc

-- ---- the tiles of a span are those of an area

module _ (s : Parts) (frame object : ℕ) (span : TileSpan) (tiles : TilesOf) (size : tiles.size ≡ size_of s) (has : HasTilesOf span (size_of s) (object_area s frame (object_at s object))) where
  pub in_span : (t : ℕ) → IsStated s frame object t → IsIn tiles span t
  in_span t stated =
      let on : t < tile_count_of tiles.size = subst (λ (d : Dimensions). t < tile_count_of d) (sym size) stated.on_screen in
      (on, ap (λ (d : Dimensions). has_tile span (tile_place d t)) size ∙ has t stated.on_screen ∙ stated.met)

  pub is_stated : (t : ℕ) → IsIn tiles span t → IsStated s frame object t
  is_stated t within =
      let on : t < tile_count_of (size_of s) = subst (λ (d : Dimensions). t < tile_count_of d) size within.0 in
      record { on_screen = on; met = sym (has t on) ∙ ap (λ (d : Dimensions). has_tile span (tile_place d t)) (sym size) ∙ within.1 }

  -- their fields are the line's, of counts that agree on them
  pub fields_are : (k m : ℕ → ℕ) → ((t : ℕ) → IsStated s frame object t → k t ≡ m t) → fields_of tiles.size span k ≡ fields_by (met_of s frame object) m
  fields_are k m same =
      ap (λ (d : Dimensions). fields_of d span k) size
      ∙ ap counts_text
      (kept_alike (λ t. has_tile span (tile_place (size_of s) t)) (λ t. meets (object_area s frame (object_at s object)) (tile_rect_of (size_of s) t)) (λ t. tile_count t (k t)) (λ t. tile_count t (m t)) 0
      (tile_count_of (size_of s)) (tile_count_of (size_of s)) (omega arith) (λ t lt. has t lt) (λ t lt met. ap (tile_count t) (same t (record { on_screen = lt; met = met }))))

  -- counts that fit may be stated
  pub may_state : (k : ℕ → ℕ) → IsScene s → FitsAt s frame object (count_at tiles) k → MayState tiles span k
  may_state k scene fits t within =
      let stated = is_stated t within in
      let few = few_own s frame t scene in
      (fits.rises t stated, omega (arith, fits.within t stated, few))

  module _ (k : ℕ → ℕ) (scene : IsScene s) (fits : FitsAt s frame object (count_at tiles) k) where
    behind_newline : (more : List ℕ) → IsBehindNumber (10 ∷ more)
    behind_newline more = λ digit. omega (arith, digit.0)

    -- the fields and the newline in front of more
    spelled : (bytes more : List ℕ) → bytes ≡ (fields_by (met_of s frame object) k ++ 10 ∷ []) ++ more → bytes ≡ fields_of tiles.size span k ++ (10 ∷ more)
    spelled bytes more e = e ∙ append_assoc (fields_by (met_of s frame object) k) (10 ∷ []) more ∙ ap (λ (t : List ℕ). t ++ (10 ∷ more)) (sym (fields_are k k (λ t stated. refl)))

    -- no fields came
    pub never_stated : (a : Option (List ℕ)) → AreNotStated span tiles a → NeverComes a (fields_by (met_of s frame object) k ++ 10 ∷ [])
    never_stated None h = tt
    never_stated (Some log) h = λ more e. h k (10 ∷ more) (may_state k scene fits) (behind_newline more) (spelled log more e)

    -- other fields came, so these agree with them where they come
    agree : (log : List ℕ) (m : ℕ → ℕ) (more : List ℕ) → AreOnly span tiles (Some log) m → log ≡ (fields_by (met_of s frame object) k ++ 10 ∷ []) ++ more → (t : ℕ) → IsStated s frame object t → k t ≡ m t
    agree log m more only e t stated = only k (10 ∷ more) (may_state k scene fits) (behind_newline more) (spelled log more e) t (in_span t stated)

    -- the newline didn't come behind them
    pub never_newline : (a b : Option (List ℕ)) (m : ℕ → ℕ) → Came a b (fields_of tiles.size span m) → AreOnly span tiles a m → NeverComes b (10 ∷ []) → NeverComes a (fields_by (met_of s frame object) k ++ 10 ∷ [])
    never_newline None b m c only h = tt
    never_newline (Some log) None m c only h = let no : ◌≡◌ {A = Option (List ℕ)} (Some log) None = c in absurd cc
    never_newline (Some log) (Some r) m c only h = λ more e.
        let same = fields_are m k (λ t stated. sym (agree log m more only e t stated)) in
        h more (append_cancel_left (fields_of tiles.size span m) r (10 ∷ more)
        (sym (same_Some log (fields_of tiles.size span m ++ r) c) ∙ e ∙ append_assoc (fields_by (met_of s frame object) k) (10 ∷ []) more ∙ ap (λ (t : List ℕ). t ++ (10 ∷ more)) (sym same)))

    -- a count is past its list
    pub never_past : (a : Option (List ℕ)) (m : ℕ → ℕ) (t : ℕ) → AreOnly span tiles a m → IsIn tiles span t → length (tile_list t (frame_list s frame)) < m t → NeverComes a (fields_by (met_of s frame object) k ++ 10 ∷ [])
    never_past None m t only within past = tt
    never_past (Some log) m t only within past = λ more e. let stated = is_stated t within in omega (arith, agree log m more only e t stated, fits.within t stated, past)

    -- the verdict after them is another
    pub never_other : (a : Option (List ℕ)) (m : ℕ → ℕ) → AreOnly span tiles a m → (((t : ℕ) → IsStated s frame object t → k t ≡ m t) → ⊥) → NeverComes a (fields_by (met_of s frame object) k ++ 10 ∷ [])
    never_other None m only h = tt
    never_other (Some log) m only h = λ more e. h (agree log m more only e)

-- ---- the verdict over tiles that stand at some members

-- a tile's count is that of the members
stands_at : (list : PieceList) (tiles : TilesOf) (t : ℕ) → AreStanding list tiles → t < tile_count_of list.size → tile_at tiles.states t ≡ standing_at t (count_at tiles t) list
stands_at list tiles t standing lt =
    let state = (standing.each t lt).state in state ∙ ap (λ (n : ℕ). standing_at t n list) (sym (ap (λ (x : TileOf). x.count) state))

pub verdict_there : (s : Parts) (frame object : ℕ) (list : PieceList) (tiles : TilesOf) (k : ℕ → ℕ) (seen : Verdict) → IsScene s → list ≡ frame_list s frame → list.size ≡ size_of s → AreStanding list tiles
    → ((t : ℕ) → IsStated s frame object t → k t ≡ count_at tiles t) → seen ≡ verdict_in s frame (λ t. tile_at tiles.states t) (object_at s object) → seen ≡ prefixed_verdict s frame k object
verdict_there s frame object list tiles k seen scene is size standing same answered =
    answered
    ∙ verdict_of_area s frame (object_at s object) (λ t. tile_at tiles.states t) (prefixed_tiles s frame k) scene (λ t lt met.
    let on : t < tile_count_of list.size = subst (λ (d : Dimensions). t < tile_count_of d) (sym size) lt in
    stands_at list tiles t standing on ∙ ap (λ (n : ℕ). standing_at t n list) (sym (same t (record { on_screen = lt; met = met }))) ∙ ap (standing_at t (k t)) is)

-- a tile's count is at most the length of its list
pub met_within : (list : PieceList) (t place : ℕ) → met_before list t place ≤ length (tile_list t list)
unfolding tile_list
met_within list t place =
    let p : Piece → Bool = λ (x : Piece). meets (box_of x) (tile_rect_of list.size t) in
    let all = ap (λ (xs : List Piece). length (filter p xs)) (sym (take-append-drop place list.members)) in
    omega (arith, all, ap length (filter-append p (take place list.members) (drop place list.members)), length-append (filter p (take place list.members)) (filter p (drop place list.members)))

pub count_within : (list : PieceList) (tiles : TilesOf) (t : ℕ) → AreStanding list tiles → t < tile_count_of list.size → count_at tiles t ≤ length (tile_list t list)
count_within list tiles t standing lt =
    let state = ap (λ (x : TileOf). x.count) (standing.each t lt).state in
    omega (arith, state, met_within list t (slice_index tiles.behind t))

-- ---- a line that came

pub line_comes : (s : Parts) (frame round object : ℕ) (span : TileSpan) (list : PieceList) (old told new : TilesOf) (v : Verdict) (a b c d e : Option (List ℕ)) → IsScene s → old.size ≡ size_of s
    → HasTilesOf span (size_of s) (object_area s frame (object_at s object)) → list ≡ frame_list s frame → list.size ≡ size_of s → AreStanding list new
    → Came a b (front_of_line frame round object) → Came b c (verdict_word v) → AreStated span old told c d → count_at told ≡ count_at old → told.size ≡ old.size → Came d e (10 ∷ []) → HaveMoved span told new
    → v ≡ prefixed_verdict s frame (count_at new) object → LineComes s frame round object (count_at old) (count_at new) a e
line_comes s frame round object span list old told new v a b c d e scene size has is list_size standing head word fields kept told_size newline moved verdict =
    let now = count_at new in
    let agrees : (t : ℕ) → IsStated s frame object t → slice_index told.stated t ≡ now t = λ t stated. sym (moved.stated t (in_span s frame object span told (told_size ∙ size) has t stated)) in
    let text = fields_are s frame object span old size has (λ t. slice_index told.stated t) now agrees in
    let whole : front_of_line frame round object ++ (verdict_word v ++ (fields_of old.size span (λ t. slice_index told.stated t) ++ 10 ∷ [])) ≡ object_line s frame round object now =
    ap (λ (t : List ℕ). front_of_line frame round object ++ (verdict_word v ++ (t ++ 10 ∷ []))) text
    ∙ ap (λ (w : Verdict). front_of_line frame round object ++ (verdict_word w ++ (fields_by (met_of s frame object) now ++ 10 ∷ []))) verdict ∙ sym (line_parts s frame round object now) in
    record {
      fits = record {
        within = λ t stated.
            let on : t < tile_count_of list.size = subst (λ (x : Dimensions). t < tile_count_of x) (sym list_size) stated.on_screen in
            subst (λ (l : PieceList). now t ≤ length (tile_list t l)) is (count_within list new t standing on);
        rises = λ t stated. omega (arith, agrees t stated, (fields.may t (in_span s frame object span old size has t stated)).0);
      };
      others = λ t lt not.
          let on : t < tile_count_of told.size = subst (λ (x : Dimensions). t < tile_count_of x) (sym (told_size ∙ size)) lt in
          moved.others t on (λ within. not (is_stated s frame object span told (told_size ∙ size) has t within)) ∙ ap (λ (f : ℕ → ℕ). f t) kept;
      came = came_as a e _ _ whole
          (came_then a b e (front_of_line frame round object) _ head (came_then b c e (verdict_word v) _ word (came_then c d e (fields_of old.size span (λ t. slice_index told.stated t)) (10 ∷ []) fields.came newline)));
    }
