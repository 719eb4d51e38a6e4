-- A line that is filled from a snapshot of its object's area.
use Rattle.std.proofs.Common.{◌≡◌, ℕ, zero, suc, ◌+◌, ◌/◌, ◌<◌, Bool, true, false, ◌||◌, not, cond, ◌∷◌, map, arith, refl, ap, ◌∙◌, sym, subst, pos}
use Rattle.std.specs.Cmp.{both_ways}
use Rattle.std.specs.List.{filter, range_with_len}
use Rattle.cull_base.specs.declared.place.Sub.{Sub}
use Rattle.cull_base.specs.declared.rect.Rect.{Rect}
use Rattle.cull_base.specs.declared.scene_types.Object.{Object}
use Rattle.cull_base.specs.declared.scene_types.Verdict.{Verdict}
use Rattle.cull_base.specs.declared.scene_types.Verdict.TheVariants.{Visible, Occluded}
use Rattle.cull_base.specs.Screen.{Dimensions, tile_columns_of, tile_count_of, tile_rect_of}
use Rattle.cull_base.specs.Rectangle.{meets}
use Rattle.cull_base.specs.State.{State}
use Rattle.cull_base.specs.Pixels.{sub_of_pixel, tile_of_pixel, at_each_pixel}
use Rattle.cull_base.specs.Shape.{Shape, AlwaysOutside, AlwaysVisible, Flat, Pieces, has_sample, is_hidden_at, is_hidden, verdict_of}
use Rattle.cull_base.proofs.HiddenObjects.{each_to, each_from, implied, implies}
use Rattle.cull_base.proofs.Pixels.{place_in_tile, tile_is, tile_of_pixel-is}
use Rattle.cull_base.proofs.Rectangles.{meets_pixel}
use Rattle.masked_update.specs.TileOf.{TileOf, sub_at, tile_at}
use Rattle.masked_update.specs.Taken.{standing_at}
use Rattle.masked_update.specs.Views.{state_in}
use Rattle.scene_reader.specs.Layout.{Parts, IsScene}
use Rattle.tile_cells.specs.Cells.{Reading}
use Rattle.tile_cells.specs.Snapshots.{SnapshotOf, is_held, HoldsExactly, ReadIf, ReadMet}
use Rattle.cull_report.specs.declared.live_line.TileCount.{TileCount}
use Rattle.cull_report.specs.Scene.{size_of, frame_list, object_shape, object_area, verdict_in}
use Rattle.cull_report.specs.Live.{tile_count, counts_held, live_line, object_at, tiles_met, prefixed_tiles, prefixed_verdict, object_line}
use Rattle.cull_report.proofs.Agreement.{hidden_at_alike}
use Rattle.cull_report.proofs.Occluders.{object_has_pieces, sample_in_area}

-- ---- a verdict asks only for the states at an object's samples

abbrev AgreesOn : Dimensions → Shape → (Sub → State) → (Sub → State) → Type 0
AgreesOn size shape f g = (px py : ℕ) → px < size.width → py < size.height → has_sample shape px py ≡ true → f (sub_of_pixel px py) ≡ g (sub_of_pixel px py)

agrees_back : (size : Dimensions) (shape : Shape) (f g : Sub → State) → AgreesOn size shape f g → AgreesOn size shape g f
agrees_back size shape f g same px py x y has = sym (same px py x y has)

hidden_there : (size : Dimensions) (f g : Sub → State) (shape : Shape) → AgreesOn size shape f g
    → at_each_pixel size (λ i j. not (has_sample shape i j) || is_hidden_at f shape i j) ≡ true → at_each_pixel size (λ i j. not (has_sample shape i j) || is_hidden_at g shape i j) ≡ true
hidden_there size f g shape same e = each_from size (λ i j. not (has_sample shape i j) || is_hidden_at g shape i j) (λ px py x y.
    let one = each_to size (λ i j. not (has_sample shape i j) || is_hidden_at f shape i j) e px py x y in
    implies (has_sample shape px py) (is_hidden_at g shape px py) (λ has.
    sym (hidden_at_alike f g shape px py (same px py x y has)) ∙ implied (has_sample shape px py) (is_hidden_at f shape px py) one has))

hidden_same : (size : Dimensions) (f g : Sub → State) (shape : Shape) → AgreesOn size shape f g → is_hidden size f shape ≡ is_hidden size g shape
unfolding is_hidden
hidden_same size f g shape same =
    let e = both_ways (at_each_pixel size (λ i j. not (has_sample shape i j) || is_hidden_at f shape i j)) (at_each_pixel size (λ i j. not (has_sample shape i j) || is_hidden_at g shape i j))
    (hidden_there size f g shape same) (hidden_there size g f shape (agrees_back size shape f g same)) in
    rw e refl

verdict_same : (size : Dimensions) (f g : Sub → State) (shape : Shape) → AgreesOn size shape f g → verdict_of size f shape ≡ verdict_of size g shape
verdict_same size f g AlwaysOutside same = refl
verdict_same size f g AlwaysVisible same = refl
verdict_same size f g (Flat r q) same = ap (λ (b : Bool). cond b Occluded Visible) (hidden_same size f g (Flat r q) same)
verdict_same size f g (Pieces ps hull) same = ap (λ (b : Bool). cond b Occluded Visible) (hidden_same size f g (Pieces ps hull) same)

-- ---- and so only for the tiles that its area meets

same_state : (size : Dimensions) (f g : ℕ → TileOf) (px py : ℕ) → f (tile_of_pixel size px py) ≡ g (tile_of_pixel size px py) → state_in size f (sub_of_pixel px py) ≡ state_in size g (sub_of_pixel px py)
same_state size f g px py same =
    let number = tile_is px py (py / 8) (px / 32) (tile_columns_of size) (tile_columns_of size) refl refl refl in
    ap (λ (n : ℕ). sub_at (f n) (place_in_tile px py)) number ∙ ap (λ (t : TileOf). sub_at t (place_in_tile px py)) same ∙ sym (ap (λ (n : ℕ). sub_at (g n) (place_in_tile px py)) number)

pub verdict_of_area : (s : Parts) (frame : ℕ) (x : Object) (f g : ℕ → TileOf) → IsScene s → ((t : ℕ) → t < tile_count_of (size_of s) → meets (object_area s frame x) (tile_rect_of (size_of s) t) ≡ true → f t ≡ g t)
    → verdict_in s frame f x ≡ verdict_in s frame g x
verdict_of_area s frame x f g scene same =
    let size = size_of s in let shape = object_shape s frame x in
    verdict_same size (state_in size f) (state_in size g) shape (λ px py across down has.
    let tile = tile_of_pixel-is size px py across down in
    let n = tile_of_pixel size px py in
    let pixel = sample_in_area size shape px py (object_has_pieces s frame x scene) across down has in
    let met = (meets_pixel (object_area s frame x) (tile_rect_of size n)).1 (pos px, pos py, pixel, tile.pixel) in
    same_state size f g px py (same n tile.within met))

-- ---- a snapshot of an object's area

-- a snapshot has the tiles that an area meets, each after so many members of its list
pub record IsPrefixed (s : Parts) (frame : ℕ) (area : Rect) (count : ℕ → ℕ) (snapshot : SnapshotOf) : Type 0 where
  pub size : snapshot.size ≡ size_of s
  pub held : HoldsExactly snapshot area
  pub stands : (t : ℕ) → t < tile_count_of (size_of s) → meets area (tile_rect_of (size_of s) t) ≡ true → tile_at snapshot.tiles t ≡ standing_at t (count t) (frame_list s frame)

-- so has one that a reader of the frame's list took, after as many as each tile has counted
pub read_is_prefixed : (s : Parts) (frame : ℕ) (area : Rect) (old new : Reading) (was snapshot : SnapshotOf) → old.list ≡ frame_list s frame → was.size ≡ size_of s
    → HoldsExactly snapshot area → ReadMet area old new was snapshot → IsPrefixed s frame area (λ t. (tile_at snapshot.tiles t).count) snapshot
read_is_prefixed s frame area old new was snapshot list size held read = record {
  size = read.size ∙ size;
  held = held;
  stands = λ t lt met.
      let on : t < tile_count_of was.size = subst (λ (d : Dimensions). t < tile_count_of d) (sym size) lt in
      let met_there : meets area (tile_rect_of was.size t) ≡ true = ap (λ (d : Dimensions). meets area (tile_rect_of d t)) size ∙ met in
      let once = subst (λ (b : Bool). ReadIf b t old new was snapshot) met_there (read.each t on) in
      once.state ∙ ap (λ (n : ℕ). standing_at t n old.list) (sym (ap (λ (tile : TileOf). tile.count) once.state)) ∙ ap (standing_at t (tile_at snapshot.tiles t).count) list;
}

-- tests that agree below a number keep the same of the numbers below it
pub kept_alike : (p q : ℕ → Bool) (f g : ℕ → TileCount) (from n end : ℕ) → from + n ≡ end → ((t : ℕ) → t < end → p t ≡ q t) → ((t : ℕ) → t < end → q t ≡ true → f t ≡ g t)
    → map f (filter p (range_with_len from n)) ≡ map g (filter q (range_with_len from n))
kept_alike p q f g from zero end is tests values = refl
kept_alike p q f g from (suc n) end is tests values =
    let rest = kept_alike p q f g (from + 1) n end (omega (arith, is)) tests values in
    let lt : from < end = omega (arith, is) in
    ap (λ b. map f (cond b (from ∷ filter p (range_with_len (from + 1) n)) (filter p (range_with_len (from + 1) n)))) (tests from lt) ∙ by (q from) refl (values from lt) rest
  where
    by : (b : Bool) → q from ≡ b → (q from ≡ true → f from ≡ g from) → map f (filter p (range_with_len (from + 1) n)) ≡ map g (filter q (range_with_len (from + 1) n))
        → map f (cond b (from ∷ filter p (range_with_len (from + 1) n)) (filter p (range_with_len (from + 1) n))) ≡ map g (cond b (from ∷ filter q (range_with_len (from + 1) n)) (filter q (range_with_len (from + 1) n)))
    by true e value rest = let v = value e in rw (v, rest) refl
    by false e value rest = rest

-- the tiles that it holds, with their counts, are those that the area meets, with the numbers of members
pub counts_of_area : (s : Parts) (frame : ℕ) (area : Rect) (count : ℕ → ℕ) (snapshot : SnapshotOf) → IsPrefixed s frame area count snapshot
    → counts_held snapshot ≡ map (λ t. tile_count t (count t)) (tiles_met (size_of s) area)
counts_of_area s frame area count snapshot p =
    let size = size_of s in
    let end = tile_count_of size in
    ap (λ (d : Dimensions). map (λ t. tile_count t (tile_at snapshot.tiles t).count) (filter (λ t. is_held snapshot t) (range_with_len 0 (tile_count_of d)))) p.size
    ∙ kept_alike (λ t. is_held snapshot t) (λ t. meets area (tile_rect_of size t)) (λ t. tile_count t (tile_at snapshot.tiles t).count) (λ t. tile_count t (count t)) 0 end end (omega arith)
    (λ t lt. p.held t (subst (λ (d : Dimensions). t < tile_count_of d) (sym p.size) lt) ∙ ap (λ (d : Dimensions). meets area (tile_rect_of d t)) p.size)
    (λ t lt met. ap (λ (tile : TileOf). tile_count t tile.count) (p.stands t lt met))

-- the verdict over it is that over the tiles after so many members
pub verdict_of_snapshot : (s : Parts) (frame o : ℕ) (count : ℕ → ℕ) (snapshot : SnapshotOf) → IsScene s → IsPrefixed s frame (object_area s frame (object_at s o)) count snapshot
    → verdict_in s frame (λ t. tile_at snapshot.tiles t) (object_at s o) ≡ prefixed_verdict s frame count o
verdict_of_snapshot s frame o count snapshot scene p = verdict_of_area s frame (object_at s o) (λ t. tile_at snapshot.tiles t) (prefixed_tiles s frame count) scene p.stands

-- a line with that verdict and these counts is the object's
pub line_of_snapshot : (s : Parts) (frame round o : ℕ) (count : ℕ → ℕ) (snapshot : SnapshotOf) (verdict : Verdict) → IsScene s → IsPrefixed s frame (object_area s frame (object_at s o)) count snapshot
    → verdict ≡ verdict_in s frame (λ t. tile_at snapshot.tiles t) (object_at s o) → live_line frame round o verdict (counts_held snapshot) ≡ object_line s frame round o count
unfolding object_line
line_of_snapshot s frame round o count snapshot verdict scene p is =
    ap (λ (v : Verdict). live_line frame round o v (counts_held snapshot)) (is ∙ verdict_of_snapshot s frame o count snapshot scene p)
    ∙ ap (live_line frame round o (prefixed_verdict s frame count o)) (counts_of_area s frame (object_area s frame (object_at s o)) count snapshot p)
