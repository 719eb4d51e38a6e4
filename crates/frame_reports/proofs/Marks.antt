-- Marks of a frame's objects that are settled.
use Rattle.std.proofs.Common.{◌≡◌, ℕ, pos, ◌+◌, ◌/◌, ◌<◌, ◌≤◌, Bool, true, false, ◌&&◌, ◌||◌, not, nat_lt, List, length, replicate, set, arith, refl, ap, sym, ◌∙◌, subst, inl, inr, get_or-set_other, get_or-set_same}
use Rattle.std.specs.Prelude.{slice_index, slice_index_or}
use Rattle.std.specs.Cmp.{both_ways}
use Rattle.std.proofs.lemmas.Bool.{cases_lt}
use Rattle.std.proofs.lemmas.List.{get_or-replicate}
use Rattle.cull_base.specs.declared.rect.Rect.{Rect}
use Rattle.cull_base.specs.declared.scene_types.Object.{Object}
use Rattle.cull_base.specs.Rectangle.{meets}
use Rattle.cull_base.specs.Pixels.{at_each_pixel, at_some_pixel, has_pixel, sub_of_pixel, tile_of_pixel}
use Rattle.cull_base.specs.Screen.{Dimensions, tile_columns_of, tile_count_of, tile_rect_of}
use Rattle.cull_base.specs.Shape.{Shape, AlwaysOutside, AlwaysVisible, Flat, Pieces, area_of}
use Rattle.cull_base.specs.State.{State}
use Rattle.cull_base.specs.Fold.{after}
use Rattle.cull_base.specs.declared.place.Sub.{Sub}
use Rattle.cull_base.specs.Tiles.{ArePieces}
use Rattle.cull_base.proofs.HiddenObjects.{each_from, each_to, implied, implies}
use Rattle.cull_base.proofs.Pixels.{place_in_tile, tile_is, tile_of_pixel-is}
use Rattle.cull_base.proofs.Rectangles.{meets_pixel}
use Rattle.masked_update.specs.TileOf.{TileOf, sub_at, tile_at}
use Rattle.masked_update.specs.Views.{state_in}
use Rattle.scene_reader.specs.Layout.{Parts}
use Rattle.tile_cells.specs.Cells.{Reading}
use Rattle.tile_cells.specs.Snapshots.{HoldsExactly, ReadMet, SnapshotOf}
use Rattle.cull_report.specs.Scene.{IsMarkedRight, frame_list, frame_pieces, frame_verdicts, object_area, object_shape, size_of, verdict_in, verdicts_in}
use Rattle.cull_report.specs.Live.{object_at, prefixed_tiles}
use Rattle.cull_report.specs.Settled.{SettlesObject, is_settled_shape, settled_in}
use Rattle.rect_query.specs.Settled.{is_settled, is_settled_at}
use Rattle.cull_report.proofs.Agreement.{objects_alike, shape_alike}
use Rattle.cull_report.proofs.Occluders.{sample_in_area}
use Rattle.cull_report.proofs.TileStates.{drawn_agrees}
use Rattle.frame_reports.specs.DrawnFrames.{AreSettled, TookFrame}
use Rattle.frame_reports.specs.LiveFrames.{AreMarks, HaveMarks, HaveSettled, IsSettledWhere, prefixed_settled}
use Rattle.frame_reports.proofs.LiveLooks.{at_other, at_same, list_size, seen_is_prefixed, with_at}

-- ---- an object

-- an object that is settled over a snapshot of its area is occluded in the end
pub snapshot_settles : (s : Parts) (frame o : ℕ) (area : Rect) (old new : Reading) (was view : SnapshotOf) (settled : Bool) → old.list ≡ frame_list s frame → was.size ≡ size_of s
    → ((d : Object) → area ≡ object_area s frame (slice_index_or s.objects o d)) → HoldsExactly view area → ReadMet area old new was view
    → ((d : Object) → SettlesObject s frame (λ t. tile_at view.tiles t) (slice_index_or s.objects o d) settled) → IsSettledWhere s frame o settled
snapshot_settles s frame o area old new was view settled list size is held read settles d pieces e =
    let stands = (seen_is_prefixed s frame area old new was view list size held read).stands in
    settles d (λ t. slice_index new.seen t) pieces (λ t lt met.
    let on : t < tile_count_of (size_of s) = subst (λ (n : Dimensions). t < tile_count_of n) (list_size s frame) lt in
    let there : meets area (tile_rect_of (size_of s) t) ≡ true =
    ap (λ (r : Rect). meets r (tile_rect_of (size_of s) t)) (is d) ∙ ap (λ (n : Dimensions). meets (object_area s frame (slice_index_or s.objects o d)) (tile_rect_of n t)) (sym (list_size s frame)) ∙ met in
    ap (λ (tile : TileOf). tile.subs) (stands t on there)) e

-- ---- an object is settled by the tiles that its area meets alone

settled_there : (size : Dimensions) (f g : Sub → State) (r : Rect) (q : ℕ)
    → ((px py : ℕ) → px < size.width → py < size.height → has_pixel r px py ≡ true → f (sub_of_pixel px py) ≡ g (sub_of_pixel px py))
    → at_each_pixel size (λ i j. not (has_pixel r i j) || is_settled_at f q i j) ≡ true → at_each_pixel size (λ i j. not (has_pixel r i j) || is_settled_at g q i j) ≡ true
settled_there size f g r q same e = each_from size (λ i j. not (has_pixel r i j) || is_settled_at g q i j) (λ px py x y.
    let one = each_to size (λ i j. not (has_pixel r i j) || is_settled_at f q i j) e px py x y in
    implies (has_pixel r px py) (is_settled_at g q px py) (λ has.
    sym (ap (λ (s : State). nat_lt q s.reference) (same px py x y has)) ∙ implied (has_pixel r px py) (is_settled_at f q px py) one has))

settled_same : (size : Dimensions) (f g : Sub → State) (r : Rect) (q : ℕ)
    → ((px py : ℕ) → px < size.width → py < size.height → has_pixel r px py ≡ true → f (sub_of_pixel px py) ≡ g (sub_of_pixel px py))
    → is_settled size f r q ≡ is_settled size g r q
unfolding is_settled
settled_same size f g r q same = ap (λ (b : Bool). at_some_pixel size (has_pixel r) && b)
    (both_ways (at_each_pixel size (λ i j. not (has_pixel r i j) || is_settled_at f q i j)) (at_each_pixel size (λ i j. not (has_pixel r i j) || is_settled_at g q i j))
    (settled_there size f g r q same) (settled_there size g f r q (λ px py x y has. sym (same px py x y has))))

same_state : (size : Dimensions) (f g : ℕ → TileOf) (px py : ℕ) → f (tile_of_pixel size px py) ≡ g (tile_of_pixel size px py) → state_in size f (sub_of_pixel px py) ≡ state_in size g (sub_of_pixel px py)
same_state size f g px py same =
    let number = tile_is px py (py / 8) (px / 32) (tile_columns_of size) (tile_columns_of size) refl refl refl in
    ap (λ (n : ℕ). sub_at (f n) (place_in_tile px py)) number ∙ ap (λ (t : TileOf). sub_at t (place_in_tile px py)) same ∙ sym (ap (λ (n : ℕ). sub_at (g n) (place_in_tile px py)) number)

settled_of_area : (size : Dimensions) (f g : ℕ → TileOf) (shape : Shape) → ((t : ℕ) → t < tile_count_of size → meets (area_of size shape) (tile_rect_of size t) ≡ true → f t ≡ g t)
    → is_settled_shape size (state_in size f) shape ≡ is_settled_shape size (state_in size g) shape
settled_of_area size f g AlwaysOutside same = refl
settled_of_area size f g AlwaysVisible same = refl
settled_of_area size f g (Pieces pieces hull) same = refl
settled_of_area size f g (Flat r q) same = settled_same size (state_in size f) (state_in size g) r q (λ px py x y has.
    let n = tile_of_pixel size px py in
    let tile = tile_of_pixel-is size px py x y in
    let pixel = sample_in_area size (Flat r q) px py tt x y has in
    let met = (meets_pixel (area_of size (Flat r q)) (tile_rect_of size n)).1 (pos px, pos py, pixel, tile.pixel) in
    same_state size f g px py (same n tile.within met))

-- it is settled over a snapshot of its area as over the tiles after what is seen of their lists
pub seen_settles : (s : Parts) (frame o : ℕ) (area : Rect) (old new : Reading) (was view : SnapshotOf) (settled : Bool) → old.list ≡ frame_list s frame → was.size ≡ size_of s
    → area ≡ object_area s frame (object_at s o) → HoldsExactly view area → ReadMet area old new was view → settled ≡ settled_in s frame (λ t. tile_at view.tiles t) (object_at s o)
    → settled ≡ prefixed_settled s frame (λ t. slice_index new.seen t) o
seen_settles s frame o area old new was view settled list size is held read answered =
    let mine = object_area s frame (object_at s o) in
    let prefixed = seen_is_prefixed s frame mine old new was view list size (subst (HoldsExactly view) is held) (subst (λ (a : Rect). ReadMet a old new was view) is read) in
    answered ∙ settled_of_area (size_of s) (λ t. tile_at view.tiles t) (prefixed_tiles s frame (λ t. slice_index new.seen t)) (object_shape s frame (object_at s o)) prefixed.stands

-- ---- the objects in turn

pub no_marks : (s : Parts) (frame : ℕ) (r : Reading) (marks : List Bool) → AreMarks s frame (λ o t. 0) r r 0 marks
no_marks s frame r marks = record {
  tell = λ o lt. absurd (omega arith);
  rises = λ i j t lt below on. absurd (omega arith);
  from = λ o t lt on. absurd (omega arith);
  to = λ o t lt on. absurd (omega arith);
}

-- one mark more
pub marks_next : (s : Parts) (frame : ℕ) (seen : ℕ → ℕ → ℕ) (old r r' : Reading) (k : ℕ) (marks : List Bool) (mark : Bool) → AreMarks s frame seen old r k marks → k < length marks
    → mark ≡ prefixed_settled s frame (λ t. slice_index r'.seen t) k
    → ((t : ℕ) → t < tile_count_of (size_of s) → slice_index old.seen t ≤ slice_index r.seen t)
    → ((t : ℕ) → t < tile_count_of (size_of s) → slice_index r.seen t ≤ slice_index r'.seen t)
    → AreMarks s frame (with_at seen k (λ t. slice_index r'.seen t)) old r' (k + 1) (set marks k mark)
marks_next s frame seen old r r' k marks mark so in_marks is grown rises = record { tell = tells; rises = rising; from = above; to = below }
  where
    tells : (o : ℕ) → o < k + 1 → slice_index_or (set marks k mark) o false ≡ prefixed_settled s frame (with_at seen k (λ t. slice_index r'.seen t) o) o
    tells o lt = elim (cases_lt o k) [
      | inl less ↦
          let e = at_other seen k (λ t. slice_index r'.seen t) o (λ e. omega arith) in let p = get_or-set_other marks k o mark false (λ e. omega arith) in
          rw (e, p) (so.tell o less)
      | inr not_less ↦
          let at : o ≡ k = omega arith in
          let e = at_same seen k (λ t. slice_index r'.seen t) o at in let p = get_or-set_same marks k mark false in_marks in
          rw (e, at, p) is
    ]

    rising : (i j t : ℕ) → i < j → j < k + 1 → t < tile_count_of (size_of s) → with_at seen k (λ t. slice_index r'.seen t) i t ≤ with_at seen k (λ t. slice_index r'.seen t) j t
    rising i j t lt last on =
        let before = at_other seen k (λ t. slice_index r'.seen t) i (λ e. omega arith) in
        elim (cases_lt j k) [
          | inl less ↦ let e = at_other seen k (λ t. slice_index r'.seen t) j (λ e. omega arith) in rw (before, e) (so.rises i j t lt less on)
          | inr not_less ↦
              let e = at_same seen k (λ t. slice_index r'.seen t) j (omega arith) in
              let a = so.to i t (omega arith) on in let b = rises t on in
              rw (before, e) (omega (arith, a, b))
        ]

    above : (o t : ℕ) → o < k + 1 → t < tile_count_of (size_of s) → slice_index old.seen t ≤ with_at seen k (λ t. slice_index r'.seen t) o t
    above o t lt on = elim (cases_lt o k) [
      | inl less ↦ let e = at_other seen k (λ t. slice_index r'.seen t) o (λ e. omega arith) in rw e (so.from o t less on)
      | inr not_less ↦ let e = at_same seen k (λ t. slice_index r'.seen t) o (omega arith) in let a = grown t on in let b = rises t on in rw e (omega (arith, a, b))
    ]

    below : (o t : ℕ) → o < k + 1 → t < tile_count_of (size_of s) → with_at seen k (λ t. slice_index r'.seen t) o t ≤ slice_index r'.seen t
    below o t lt on = elim (cases_lt o k) [
      | inl less ↦ let e = at_other seen k (λ t. slice_index r'.seen t) o (λ e. omega arith) in let a = so.to o t less on in let b = rises t on in rw e (omega (arith, a, b))
      | inr not_less ↦ let e = at_same seen k (λ t. slice_index r'.seen t) o (omega arith) in rw e (omega arith)
    ]

-- the first so many objects are all
pub marks_whole : (s : Parts) (frame : ℕ) (seen : ℕ → ℕ → ℕ) (old new : Reading) (k : ℕ) (marks : List Bool) → AreMarks s frame seen old new k marks → length s.objects ≤ k → HaveMarks s frame old new marks
marks_whole s frame seen old new k marks so whole = (
  seen,
  record {
    tell = λ o lt. so.tell o (omega (arith, lt, whole));
    rises = λ i j t lt below on. so.rises i j t lt (omega (arith, below, whole)) on;
    from = λ o t lt on. so.from o t (omega (arith, lt, whole)) on;
    to = λ o t lt on. so.to o t (omega (arith, lt, whole)) on;
  },
)

-- the marks of the first k objects
abbrev pub MarkedTo : Parts → ℕ → ℕ → List Bool → Type 0
MarkedTo s frame k marks = (o : ℕ) → o < k → IsSettledWhere s frame o (slice_index_or marks o false)

-- and of one more
pub marked_next : (s : Parts) (frame k : ℕ) (marks : List Bool) (mark : Bool) → MarkedTo s frame k marks → k < length marks → IsSettledWhere s frame k mark → MarkedTo s frame (k + 1) (set marks k mark)
marked_next s frame k marks mark so_far lt is o below = elim (cases_lt o k) [
  | inl less ↦ let p = get_or-set_other marks k o mark false (λ e. omega arith) in subst (IsSettledWhere s frame o) (sym p) (so_far o less)
  | inr not_less ↦
      let e : o ≡ k = omega arith in
      subst (λ n. IsSettledWhere s frame n (slice_index_or (set marks k mark) n false)) (sym e) (subst (IsSettledWhere s frame k) (sym (get_or-set_same marks k mark false lt)) is)
]

-- and of all
pub marked_all : (s : Parts) (frame k : ℕ) (marks : List Bool) → MarkedTo s frame k marks → length s.objects ≤ k → HaveSettled s frame marks
marked_all s frame k marks so_far whole pieces o d lt mark = so_far o (omega (arith, lt, whole)) d pieces mark

-- the same where the scene and the frame are known by equations
pub settled_in_end : (s : Parts) (frame : ℕ) (other : Parts) (f : ℕ) (marks : List Bool) → other ≡ s → f ≡ frame → HaveSettled other f marks → ArePieces (frame_pieces s frame) → AreSettled s frame marks
settled_in_end s frame other f marks same at settled pieces =
    subst (λ (t : Parts). HaveSettled t frame marks) same (subst (λ k. HaveSettled other k marks) at settled) pieces

-- no mark is set
pub none_settled : (s : Parts) (frame : ℕ) (marks : List Bool) → marks ≡ replicate (length s.objects) false → AreSettled s frame marks
none_settled s frame marks is o d lt mark =
    let e = ap (λ (ms : List Bool). slice_index_or ms o false) is in
    let p = get_or-replicate (length s.objects) o false false lt in
    absurd cc

-- ---- over the tiles of the frame

-- what is occluded after the whole list is so over tiles that took it
pub settled_over : (s : Parts) (frame : ℕ) (tile_of : ℕ → TileOf) (marks : List Bool) → TookFrame s frame tile_of → AreSettled s frame marks
    → IsMarkedRight (verdict_in s frame tile_of) s.objects marks
settled_over s frame tile_of marks drawn right o d lt mark =
    let f : Sub → State = state_in (size_of s) tile_of in
    let whole : Sub → State = λ u. after u (frame_pieces s frame) in
    shape_alike (size_of s) f whole (object_shape s frame (slice_index_or s.objects o d)) (drawn_agrees (size_of s) (frame_pieces s frame) tile_of drawn) ∙ right o d lt mark

-- the verdicts over tiles that took the whole list are those of the frame
pub verdicts_over_frame : (s : Parts) (frame : ℕ) (tile_of : ℕ → TileOf) → TookFrame s frame tile_of → verdicts_in s frame tile_of ≡ frame_verdicts s frame
unfolding frame_verdicts
verdicts_over_frame s frame tile_of drawn =
    let f : Sub → State = state_in (size_of s) tile_of in
    let whole : Sub → State = λ u. after u (frame_pieces s frame) in
    objects_alike s frame f whole (drawn_agrees (size_of s) (frame_pieces s frame) tile_of drawn) s.objects
