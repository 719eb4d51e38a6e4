-- Lists of triangles in batches: where they are parted, and how they grow batch by batch.
use Rattle.std.proofs.Common.{◌≡◌, ℕ, ◌+◌, ◌-◌, ◌*◌, ◌<◌, ◌≤◌, ◌⊎◌, inl, inr, min, List, [], ◌∷◌, ◌++◌, filter, length, take, drop, get_or, append-nil, length-append, refl, sym, ap, subst, ◌∙◌, arith}
use Rattle.std.proofs.Math.Seq.{take-add}
use Rattle.std.proofs.lemmas.List.{append_assoc, take_all, take-take, drop_all, drop-drop, drop-take, drop_more, drop_min, length-take, length-drop}
use Rattle.std.proofs.lemmas.List.Sums.{length-filter, count_by-le-length}
use Rattle.cull_base.specs.declared.clip.ClipVertex.{ClipVertex}
use Rattle.cull_base.specs.declared.scene_types.Batch.{Batch}
use Rattle.cull_base.specs.declared.scene_types.Tri.{Tri}
use Rattle.cull_base.specs.declared.triangle.Winding.{Winding}
use Rattle.cull_base.specs.Grade.{top_of}
use Rattle.cull_base.specs.Piece.{Piece}
use Rattle.cull_base.specs.Screen.{Dimensions}
use Rattle.cull_base.specs.Tiles.{FrameListOf}
use Rattle.snap_setup.specs.declared.keeping.Keeping.{Keeping}
use Rattle.snap_setup.specs.declared.occluders.Occluders.{Occluders}
use Rattle.snap_setup.specs.Batches.{list_of_batches, without}
use Rattle.snap_setup.specs.Keeping.{is_kept, Took}
use Rattle.snap_setup.specs.Occluders.{list_of_part}
use Rattle.snap_setup.specs.Pieces.{list_of_clips}
use Rattle.snap_setup.proofs.FrameLists.{list_both, list_most}
use Rattle.snap_setup.proofs.Takes.{took_none, took_more}

-- before no triangle all batches are whole
pub without_none : (batches : List Batch) → without 0 batches ≡ batches
without_none [] = refl
without_none (b ∷ batches) =
    let count : b.count - 0 ≡ b.count = omega arith in
    let behind : 0 - b.count ≡ 0 = omega arith in
    ap (λ (n : ℕ). record { count = n; winding = b.winding } ∷ without (0 - b.count) batches) count
    ∙ ap (λ (n : ℕ). b ∷ without n batches) behind ∙ ap (λ (bs : List Batch). b ∷ bs) (without_none batches)

module _ (clips : List ClipVertex) (top near : ℕ) (size : Dimensions) where
  abbrev one : List Tri → Winding → List Piece
  one tris winding = list_of_clips clips tris top near size winding

  abbrev all : List Tri → List Batch → List Piece
  all tris batches = list_of_batches clips tris top near size batches

  pub no_tris : (batches : List Batch) → all [] batches ≡ []
  unfolding list_of_batches list_of_clips
  no_tris [] = refl
  no_tris (b ∷ batches) =
      ap (λ (tris : List Tri). one tris b.winding ++ all (drop b.count []) batches) (take_all b.count [] (omega arith))
      ∙ ap (λ (tris : List Tri). all tris batches) (drop_all b.count [] (omega arith)) ∙ no_tris batches

  -- all triangles are the first so many, and those behind them
  pub parted : (batches : List Batch) (n : ℕ) (tris : List Tri) → all tris batches ≡ all (take n tris) batches ++ all (drop n tris) (without n batches)
  unfolding list_of_batches list_of_clips
  parted [] n tris = refl
  parted (b ∷ batches) n tris = by (parted batches (n - b.count) (drop b.count tris)) (either b.count n)
    where
      either : (x y : ℕ) → (x < y) ⊎ (y ≤ x)
      either x y = grind arith

      Parted : List Batch → ℕ → List Tri → Type 0
      Parted bs m ts = all ts bs ≡ all (take m ts) bs ++ all (drop m ts) (without m bs)

      -- the first batch ends before these
      ends : Parted batches (n - b.count) (drop b.count tris) → b.count ≤ n → Parted (b ∷ batches) n tris
      ends others_parted le =
          let more : n ≡ b.count + (n - b.count) = omega (arith, le) in
          let none : b.count - n ≡ 0 = omega (arith, le) in
          let first = take-take b.count n tris le in
          let others = ap (λ (k : ℕ). drop b.count (take k tris)) more ∙ drop-take b.count (n - b.count) tris in
          let behind = ap (λ (k : ℕ). drop k (drop n tris)) none ∙ ap (λ (k : ℕ). drop k tris) more ∙ sym (drop-drop (n - b.count) b.count tris) in
          let parts = ap (λ (ts : List Tri). one ts b.winding) first in
          let rest = ap (λ (ts : List Tri). all ts batches) others in
          let nothing = ap (λ (k : ℕ). one (take k (drop n tris)) b.winding) none in
          let last = ap (λ (ts : List Tri). all ts (without (n - b.count) batches)) behind in
          ap (λ (ps : List Piece). one (take b.count tris) b.winding ++ ps) others_parted
          ∙ sym (append_assoc (one (take b.count tris) b.winding) (all (take (n - b.count) (drop b.count tris)) batches) (all (drop (n - b.count) (drop b.count tris)) (without (n - b.count) batches)))
          ∙ sym (λ i. (parts i ++ rest i) ++ (nothing i ++ last i))

      -- it goes on behind them
      goes_on : n ≤ b.count → Parted (b ∷ batches) n tris
      goes_on le =
          let m = b.count - n in
          let more : b.count ≡ n + m = omega (arith, le) in
          let back : n + m ≡ b.count = omega (arith, le) in
          let none : n - b.count ≡ 0 = omega (arith, le) in
          let few : length (take n tris) ≤ b.count = omega (arith, le, length-take n tris) in
          let first = ap (λ (ts : List Tri). one ts b.winding) (take_all b.count (take n tris) few) in
          let nothing = ap (λ (ts : List Tri). all ts batches) (drop_all b.count (take n tris) few) ∙ no_tris batches in
          let behind = drop-drop m n tris ∙ ap (λ (k : ℕ). drop k tris) back in
          let whole = ap (λ (k : ℕ). without k batches) none ∙ without_none batches in
          let last : all (drop m (drop n tris)) (without (n - b.count) batches) ≡ all (drop b.count tris) batches = λ i. all (behind i) (whole i) in
          let both = ap (λ (k : ℕ). one (take k tris) b.winding) more ∙ ap (λ (ts : List Tri). one ts b.winding) (take-add n m tris) ∙ list_both clips (take n tris) (take m (drop n tris)) top near size b.winding in
          ap (λ (ps : List Piece). ps ++ all (drop b.count tris) batches) both
          ∙ append_assoc (one (take n tris) b.winding) (one (take m (drop n tris)) b.winding) (all (drop b.count tris) batches)
          ∙ sym ((λ i. (first i ++ nothing i) ++ (one (take m (drop n tris)) b.winding ++ last i))
          ∙ ap (λ (ps : List Piece). ps ++ (one (take m (drop n tris)) b.winding ++ all (drop b.count tris) batches)) (append-nil (one (take n tris) b.winding)))

      by : Parted batches (n - b.count) (drop b.count tris) → (b.count < n) ⊎ (n ≤ b.count) → Parted (b ∷ batches) n tris
      by others_parted (inl lt) = ends others_parted (omega (arith, lt))
      by others_parted (inr le) = goes_on le

  -- there are at most two pieces for each triangle
  pub batches_most : (batches : List Batch) (tris : List Tri) → length (all tris batches) ≤ 2 * length tris
  unfolding list_of_batches
  batches_most [] tris = omega arith
  batches_most (b ∷ batches) tris =
      let others = batches_most batches (drop b.count tris) in
      let these = list_most clips (take b.count tris) top near size b.winding in
      omega (
        arith,
        others,
        these,
        length-append (one (take b.count tris) b.winding) (all (drop b.count tris) batches),
        length-take b.count tris,
        length-drop b.count tris,
      )

  -- one batch of all triangles
  pub in_one_batch : (tris : List Tri) (winding : Winding) → all tris (record { count = length tris; winding = winding } ∷ []) ≡ one tris winding
  unfolding list_of_batches
  in_one_batch tris winding = append-nil (one (take (length tris) tris) winding) ∙ ap (λ (ts : List Tri). one ts winding) (take_all (length tris) tris (omega arith))

  -- the next batch's triangles, and those behind it
  next_batch : (tris : List Tri) (before : ℕ) (batches : List Batch) (i : ℕ) (d : Batch) → i < length batches → let b = get_or batches i d in
      all tris (without before (drop i batches)) ≡ one (take (b.count - before) tris) b.winding ++ all (drop (b.count - before) tris) (without (before - b.count) (drop (i + 1) batches))
  unfolding list_of_batches
  next_batch tris before batches i d lt = ap (λ (bs : List Batch). all tris (without before bs)) (drop_more batches i d lt)

  no_batch : (tris : List Tri) (before : ℕ) (batches : List Batch) (i : ℕ) → length batches ≤ i → all tris (without before (drop i batches)) ≡ []
  unfolding list_of_batches
  no_batch tris before batches i le = ap (λ (bs : List Batch). all tris (without before bs)) (drop_all i batches le)

-- What a list took of some pieces, of which there are at most two for each of `most` triangles: the first of them. The
-- others are those of the triangles and batches that are left.
pub record HasTaken (o : Occluders) (keeping : Keeping) (f g : FrameListOf) (n : ℕ) (whole : List Piece) (most : ℕ) (rest : List Tri) (batches : List Batch) : Type 0 where
  pub pieces : List Piece
  pub took : Took keeping f g n pieces
  pub left : pieces ++ list_of_batches o.clips.now rest (top_of o.grade) o.near.distance o.size batches ≡ whole
  pub few : length pieces + 2 * length rest ≤ 2 * most

pub taken_none : (o : Occluders) (keeping : Keeping) (f : FrameListOf) (tris : List Tri) (batches : List Batch) →
    HasTaken o keeping f f 0 (list_of_batches o.clips.now tris (top_of o.grade) o.near.distance o.size batches) (length tris) tris batches
taken_none o keeping f tris batches = record { pieces = []; took = took_none keeping f [] refl; left = refl; few = omega arith }

-- the triangles behind a part of those that are left
pub behind_part : (tris part : List Tri) (done most : ℕ) → part ≡ take most (drop done tris) → drop most (drop done tris) ≡ drop (done + length part) tris
behind_part tris part done most is =
    let long : length part ≡ min_of = ap length is ∙ length-take most (drop done tris) in
    sym (drop_min most (drop done tris)) ∙ ap (λ (k : ℕ). drop k (drop done tris)) (sym long) ∙ drop-drop (length part) done tris
  where
    min_of : ℕ
    min_of = min most (length (drop done tris))

pub part_within : (tris part : List Tri) (done most : ℕ) → done ≤ length tris → part ≡ take most (drop done tris) → done + length part ≤ length tris
part_within tris part done most le is = omega (arith, le, ap length is, length-take most (drop done tris), length-drop done tris)

module _ (o : Occluders) (keeping : Keeping) (f : FrameListOf) (whole : List Piece) (tris : List Tri) (batches : List Batch) where
  abbrev Has : FrameListOf → ℕ → ℕ → ℕ → ℕ → Type 0
  Has g n done before i = HasTaken o keeping f g n whole (length tris) (drop done tris) (without before (drop i batches))

  -- where there was room for two pieces a triangle, there is room for those of the next part
  pub room_for_part : (g : FrameListOf) (n done before i most : ℕ) (part : List Tri) → Has g n done before i → part ≡ take most (drop done tris)
      → length f.list.members + 2 * length tris ≤ f.room → length g.list.members + 2 * length part ≤ g.room
  room_for_part g n done before i most part has is room =
      let members = ap (λ (x : FrameListOf). length x.list.members) has.took.members in
      let rooms = ap (λ (x : FrameListOf). x.room) has.took.members in
      let fewer = count_by-le-length (is_kept keeping f.list.size) has.pieces in
      omega (
        arith,
        has.few,
        members,
        rooms,
        room,
        fewer,
        ap length is,
        length-take most (drop done tris),
        length-filter (is_kept keeping f.list.size) has.pieces,
        length-append f.list.members (filter (is_kept keeping f.list.size) has.pieces),
      )

  -- one batch more
  pub taken_more : (g h : FrameListOf) (n m done before i there behind : ℕ) (d : Batch) (part : List Tri) → i < length batches → Has g n done before i
      → there ≡ (get_or batches i d).count - before → behind ≡ before - (get_or batches i d).count → part ≡ take there (drop done tris)
      → Took keeping g h m (list_of_part o (get_or batches i d).winding part) → Has h (n + m) (done + length part) behind (i + 1)
  taken_more g h n m done before i there behind d part lt has et eb is took =
      let b = get_or batches i d in
      let clips = o.clips.now in let top = top_of o.grade in let near = o.near.distance in
      let rest = drop done tris in
      let these = list_of_part o b.winding part in
      let next = next_batch clips top near o.size rest before batches i d lt in
      let back = sym eb in
      let behind_these : ℕ → List Piece = λ k. list_of_batches clips (drop k rest) top near o.size (without (before - b.count) (drop (i + 1) batches)) in
      let here : list_of_clips clips (take (b.count - before) rest) top near o.size b.winding ≡ these =
      ap (λ (k : ℕ). list_of_clips clips (take k rest) top near o.size b.winding) (sym et) ∙ ap (λ (ts : List Tri). list_of_clips clips ts top near o.size b.winding) (sym is) in
      let others : behind_these (b.count - before) ≡ list_of_batches clips (drop (done + length part) tris) top near o.size (without behind (drop (i + 1) batches)) =
      ap behind_these (sym et) ∙ (λ j. list_of_batches clips (behind_part tris part done there is j) top near o.size (without (back j) (drop (i + 1) batches))) in
      record {
        pieces = has.pieces ++ these;
        took = took_more keeping f g h n m has.pieces these (has.pieces ++ these) has.took took refl;
        left =
            append_assoc has.pieces these _ ∙ ap (λ (ps : List Piece). has.pieces ++ ps) (sym (next ∙ (λ j. here j ++ others j))) ∙ has.left;
        few = omega (
          arith,
          has.few,
          length-append has.pieces these,
          list_most clips part top near o.size b.winding,
          ap length is,
          length-take there rest,
          ap length (behind_part tris part done there is),
          length-drop there rest,
        );
      }

  -- no batch is left
  pub taken_all : (g : FrameListOf) (n done before i : ℕ) → length batches ≤ i → Has g n done before i → Took keeping f g n whole
  taken_all g n done before i le has =
      let none = no_batch o.clips.now (top_of o.grade) o.near.distance o.size (drop done tris) before batches i le in
      subst (Took keeping f g n) (sym (append-nil has.pieces) ∙ ap (λ (ps : List Piece). has.pieces ++ ps) (sym none) ∙ has.left) has.took
