-- Looks at a frame's objects, one after the other.
use Rattle.std.proofs.Common.{◌≡◌, ℕ, ◌+◌, ◌/◌, ◌%◌, ◌<◌, ◌≤◌, List, length, cond, true, false, Bool, arith, refl, sym, ap, ◌∙◌, subst, set, get_or-set_other, get_or-set_same, inl, inr, eq-eqb, length-set}
use Rattle.std.specs.Prelude.{nat_eq, slice_index, slice_index_or}
use Rattle.std.proofs.lemmas.Bool.{cases_lt}
use Rattle.std.proofs.lemmas.Bool.Decides.{eqb_tells, nat_tests}
use Rattle.cull_base.specs.declared.rect.Rect.{Rect}
use Rattle.cull_base.specs.declared.scene_types.Verdict.{Verdict}
use Rattle.cull_base.specs.Rectangle.{meets}
use Rattle.cull_base.specs.declared.tile_span.TileSpan.{TileSpan}
use Rattle.cull_base.specs.Screen.{Dimensions, IsSize, tile_count_of, tile_rect_of}
use Rattle.cull_base.specs.Span.{HasTilesOf, IsSpan, tiles_in}
use Rattle.cull_base.specs.Tiles.{PieceList, tile_list}
use Rattle.masked_update.specs.Taken.{standing_at}
use Rattle.masked_update.specs.TileOf.{tile_at}
use Rattle.scene_reader.specs.Layout.{Parts, IsScene}
use Rattle.tile_cells.specs.Cells.{Reading}
use Rattle.tile_cells.specs.Snapshots.{HoldsExactly, ReadIf, ReadMet, ReadOnce, SnapshotOf}
use Rattle.cull_report.specs.Live.{LiveLineOf, counts_held, live_line, object_at, text_of_line}
use Rattle.cull_report.specs.Scene.{frame_list, object_area, size_of, verdict_in}
use Rattle.cull_report.proofs.LineRoom.{few_held}
use Rattle.cull_report.proofs.LiveSnapshots.{IsPrefixed, line_of_snapshot}
use Rattle.frame_reports.specs.LiveFrames.{AreLooks, HaveRoom, RoomFor, Tells}

-- the values of a function, and another one at k
pub with_at : {A : Type 0} → (ℕ → A) → ℕ → A → ℕ → A
with_at f k a i = cond (nat_eq i k) a (f i)

pub at_same : {A : Type 0} (f : ℕ → A) (k : ℕ) (a : A) (i : ℕ) → i ≡ k → with_at f k a i ≡ a
unfolding with_at
at_same f k a i e = ap (λ (b : Bool). cond b a (f i)) (eq-eqb i k e)

differs : (i k : ℕ) → (i ≡ k → ⊥) → nat_eq i k ≡ false
differs i k ne = grind (arith, nat_tests)

pub at_other : {A : Type 0} (f : ℕ → A) (k : ℕ) (a : A) (i : ℕ) → (i ≡ k → ⊥) → with_at f k a i ≡ f i
unfolding with_at
at_other f k a i ne = ap (λ (b : Bool). cond b a (f i)) (differs i k ne)

look_before : (seen : ℕ → ℕ → ℕ) (k : ℕ) (now : ℕ → ℕ) (i : ℕ) → i < k → with_at seen k now i ≡ seen i
look_before seen k now i lt = at_other seen k now i (λ e. omega arith)

-- the first k looks, of which none saw more than a reader has seen since
pub record SoFar (s : Parts) (frame objects : ℕ) (seen : ℕ → ℕ → ℕ) (k : ℕ) (lines : List LiveLineOf) (r : Reading) : Type 0 where
  pub looks : AreLooks s frame objects seen k lines
  pub below : (i t : ℕ) → i < k → t < tile_count_of (size_of s) → seen i t ≤ slice_index r.seen t

pub none_so_far : (s : Parts) (frame objects : ℕ) (lines : List LiveLineOf) (r : Reading) → SoFar s frame objects (λ i t. 0) 0 lines r
none_so_far s frame objects lines r = record {
  looks = record { tell = λ i d lt. absurd (omega arith); rises = λ i j t lt below on. absurd (omega arith) };
  below = λ i t lt on. absurd (omega arith);
}

-- one look more
pub so_far_next : (s : Parts) (frame objects : ℕ) (seen : ℕ → ℕ → ℕ) (k : ℕ) (lines : List LiveLineOf) (r r' : Reading) (l : LiveLineOf)
    → SoFar s frame objects seen k lines r → k < length lines
    → Tells s frame (k / objects) (k % objects) (λ t. slice_index r'.seen t) l
    → ((t : ℕ) → t < tile_count_of (size_of s) → slice_index r.seen t ≤ slice_index r'.seen t)
    → SoFar s frame objects (with_at seen k (λ t. slice_index r'.seen t)) (k + 1) (set lines k l) r'
so_far_next s frame objects seen k lines r r' l so in_lines told rises = record {
  looks = record { tell = tells; rises = rising };
  below = under;
}
  where
    now : ℕ → ℕ
    now t = slice_index r'.seen t

    tells : (i : ℕ) (d : LiveLineOf) → i < k + 1 → Tells s frame (i / objects) (i % objects) (with_at seen k (λ t. slice_index r'.seen t) i) (slice_index_or (set lines k l) i d)
    tells i d lt = elim (cases_lt i k) [
      | inl less ↦
          let ne : i ≡ k → ⊥ = λ e. omega arith in
          let e = look_before seen k (λ t. slice_index r'.seen t) i less in let p = get_or-set_other lines k i l d ne in
          rw (e, p) (so.looks.tell i d less)
      | inr not_less ↦
          let is : i ≡ k = omega arith in
          let e = at_same seen k (λ t. slice_index r'.seen t) i is in
          let p = get_or-set_same lines k l d in_lines in
          rw (e, is, p) told
    ]

    rising : (i j t : ℕ) → i < j → j < k + 1 → t < tile_count_of (size_of s) → with_at seen k (λ t. slice_index r'.seen t) i t ≤ with_at seen k (λ t. slice_index r'.seen t) j t
    rising i j t lt below on =
        let before = look_before seen k (λ t. slice_index r'.seen t) i (omega arith) in
        elim (cases_lt j k) [
          | inl less ↦ let e = look_before seen k (λ t. slice_index r'.seen t) j less in rw (before, e) (so.looks.rises i j t lt less on)
          | inr not_less ↦
              let e = at_same seen k (λ t. slice_index r'.seen t) j (omega arith) in
              let a = so.below i t (omega arith) on in let b = rises t on in
              rw (before, e) (omega (arith, a, b))
        ]

    under : (i t : ℕ) → i < k + 1 → t < tile_count_of (size_of s) → with_at seen k (λ t. slice_index r'.seen t) i t ≤ slice_index r'.seen t
    under i t lt on = elim (cases_lt i k) [
      | inl less ↦ let e = look_before seen k (λ t. slice_index r'.seen t) i less in let a = so.below i t less on in let b = rises t on in rw e (omega (arith, a, b))
      | inr not_less ↦ let e = at_same seen k (λ t. slice_index r'.seen t) i (omega arith) in rw e (omega arith)
    ]

read_once : (s : Parts) (frame : ℕ) (area : Rect) (old new : Reading) (was view : SnapshotOf) → was.size ≡ size_of s → ReadMet area old new was view
    → (t : ℕ) → t < tile_count_of (size_of s) → meets area (tile_rect_of (size_of s) t) ≡ true → ReadOnce t old new view
read_once s frame area old new was view size read t lt met =
    let on : t < tile_count_of was.size = subst (λ (d : Dimensions). t < tile_count_of d) (sym size) lt in
    let there : meets area (tile_rect_of was.size t) ≡ true = ap (λ (d : Dimensions). meets area (tile_rect_of d t)) size ∙ met in
    subst (λ (b : Bool). ReadIf b t old new was view) there (read.each t on)

-- a snapshot of an object's area by a reader of the frame's list has the tiles after what is seen of their lists
pub seen_is_prefixed : (s : Parts) (frame : ℕ) (area : Rect) (old new : Reading) (was view : SnapshotOf) → old.list ≡ frame_list s frame → was.size ≡ size_of s
    → HoldsExactly view area → ReadMet area old new was view → IsPrefixed s frame area (λ t. slice_index new.seen t) view
seen_is_prefixed s frame area old new was view list size held read = record {
  size = read.size ∙ size;
  held = held;
  stands = λ t lt met. (read_once s frame area old new was view size read t lt met).state ∙ ap (standing_at t (slice_index new.seen t)) list;
}

-- no tile's number falls in a snapshot
pub seen_rises : (s : Parts) (area : Rect) (old new : Reading) (was view : SnapshotOf) → was.size ≡ size_of s → ReadMet area old new was view
    → (t : ℕ) → t < tile_count_of (size_of s) → slice_index old.seen t ≤ slice_index new.seen t
seen_rises s area old new was view size read t lt =
    let on : t < tile_count_of was.size = subst (λ (d : Dimensions). t < tile_count_of d) (sym size) lt in
    by (meets area (tile_rect_of was.size t)) (read.each t on)
  where
    by : (b : Bool) → ReadIf b t old new was view → slice_index old.seen t ≤ slice_index new.seen t
    by true once = once.rises
    by false un = omega (arith, un.seen)

-- the line that is filled from it
pub look_tells : (s : Parts) (frame round o : ℕ) (area : Rect) (old new : Reading) (was view : SnapshotOf) (verdict : Verdict) (line : LiveLineOf) → IsScene s
    → old.list ≡ frame_list s frame → was.size ≡ size_of s → area ≡ object_area s frame (object_at s o) → HoldsExactly view area → ReadMet area old new was view
    → verdict ≡ verdict_in s frame (λ t. tile_at view.tiles t) (object_at s o)
    → text_of_line line ≡ live_line frame round o verdict (counts_held view) → Tells s frame round o (λ t. slice_index new.seen t) line
look_tells s frame round o area old new was view verdict line scene list size is held read answered filled =
    let held' = subst (HoldsExactly view) is held in
    let read' = subst (λ (a : Rect). ReadMet a old new was view) is read in
    let mine = object_area s frame (object_at s o) in
    record {
      text = filled ∙ line_of_snapshot s frame round o (λ t. slice_index new.seen t) view verdict scene (seen_is_prefixed s frame mine old new was view list size held' read') answered;
      within = λ t stated.
          let once = read_once s frame mine old new was view size read' t stated.on_screen stated.met in
          subst (λ (l : PieceList). slice_index new.seen t ≤ length (tile_list t l)) list once.within;
    }

pub list_size : (s : Parts) (frame : ℕ) → (frame_list s frame).size ≡ size_of s
unfolding frame_list
list_size s frame = refl

-- a line with as much room in the place of another
pub room_kept : (s : Parts) (frame objects : ℕ) (lines : List LiveLineOf) (k : ℕ) (l d : LiveLineOf) → HaveRoom s frame objects lines → k < length lines → l.room ≡ (slice_index_or lines k d).room
    → HaveRoom s frame objects (set lines k l)
room_kept s frame objects lines k l d room lt same i e below =
    let in_lines : i < length lines = omega (arith, below, length-set lines k l) in
    elim (eqb_tells i k) [
      | inl is ↦
          let i_is : i ≡ k = is.1 in
          let p : slice_index_or (set lines k l) i e ≡ l = ap (λ n. slice_index_or (set lines k l) n e) i_is ∙ get_or-set_same lines k l e lt in
          let there = subst (λ n. RoomFor s frame (n % objects) l.room) (sym i_is) (subst (RoomFor s frame (k % objects)) (sym same) (room k d lt)) in
          subst (λ (x : LiveLineOf). RoomFor s frame (i % objects) x.room) (sym p) there
      | inr other ↦
          let p = get_or-set_other lines k i l e other.1 in
          subst (λ (x : LiveLineOf). RoomFor s frame (i % objects) x.room) (sym p) (room i e in_lines)
    ]

-- a line with a place for each tile of a span of those that an object's area meets
pub line_has_room : (s : Parts) (frame o : ℕ) (area : Rect) (span : TileSpan) (room : ℕ) → area ≡ object_area s frame (object_at s o) → HasTilesOf span (size_of s) area → IsSpan (size_of s) span
    → IsSize s.width s.height → room ≡ tiles_in span → RoomFor s frame o room
line_has_room s frame o area span room is tiles spans sized places view size held =
    let held' = subst (HoldsExactly view) (sym is) held in
    let tiles' = subst (λ (d : Dimensions). HasTilesOf span d area) (sym size) tiles in
    let spans' = subst (λ (d : Dimensions). IsSpan d span) (sym size) spans in
    let sized' = subst (λ (d : Dimensions). IsSize d.width d.height) (sym size) sized in
    subst (λ n. length (counts_held view) ≤ n) (sym places) (few_held view area span held' tiles' spans' sized')
