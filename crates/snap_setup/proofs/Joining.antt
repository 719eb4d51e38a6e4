-- The pieces of runs of triangles, one run after another, are those of all triangles.
use Rattle.std.proofs.Common.{◌≡◌, ℕ, zero, suc, ◌+◌, ◌*◌, ◌<◌, ◌≤◌, List, [], ◌∷◌, ◌++◌, length, take, drop, get_or, append-nil, refl, sym, ap, ◌∙◌, arith}
use Rattle.std.proofs.Math.Nat.{suc-mul, mul_comm}
use Rattle.std.proofs.lemmas.List.{take_all, take_more, take-take, drop-take}
use Rattle.std.proofs.lemmas.Grind.{flat_map-append, div_ceil_times}
use Rattle.std.specs.Int.{div_ceil}
use Rattle.cull_base.specs.declared.scene_types.Tri.{Tri}
use Rattle.cull_base.specs.Grade.{top_of}
use Rattle.cull_base.specs.Piece.{Piece}
use Rattle.cull_base.specs.Tiles.{FrameListOf}
use Rattle.snap_setup.specs.declared.occluders.Occluders.{Occluders}
use Rattle.snap_setup.specs.Batches.{list_of_batches, without}
use Rattle.snap_setup.specs.Occluders.{list_of}
use Rattle.snap_setup.specs.Runs.{run_pieces, AreMade, members_of}
use Rattle.snap_setup.proofs.Batches.{no_tris, parted}

module _ (o : Occluders) (share : ℕ) where
  abbrev tris : List Tri
  tris = o.tris.now

  abbrev pieces : List Tri → List Piece
  pieces some = list_of_batches o.clips.now some (top_of o.grade) o.near.distance o.size o.batches.now

  none : [] ≡ pieces (take 0 tris)
  none = sym (no_tris o.clips.now (top_of o.grade) o.near.distance o.size o.batches.now)

  -- the first runs of triangles, and the next one
  next_run : (n : ℕ) → pieces (take n tris) ++ list_of_batches o.clips.now (take share (drop n tris)) (top_of o.grade) o.near.distance o.size (without n o.batches.now) ≡ pieces (take (n + share) tris)
  next_run n =
      let these = ap pieces (take-take n (n + share) tris (omega arith)) in
      let behind = ap (λ (ts : List Tri). list_of_batches o.clips.now ts (top_of o.grade) o.near.distance o.size (without n o.batches.now)) (drop-take n share tris) in
      sym (parted o.clips.now (top_of o.grade) o.near.distance o.size o.batches.now n (take (n + share) tris) ∙ (λ i. these i ++ behind i))

  -- the runs before the k-th hold the pieces of the first k shares
  first_runs : (rooms : List FrameListOf) → AreMade o share rooms → (k : ℕ) → k ≤ length rooms
      → members_of (take k rooms) ≡ pieces (take (k * share) tris)
  first_runs rooms made zero h = none ∙ ap (λ (n : ℕ). pieces (take n tris)) (let e : zero ≡ zero * share = omega arith in e)
  first_runs rooms made (suc k) h =
      let d : FrameListOf = record { list = record { size = o.size; members = [] }; room = 0 } in
      let lt : k < length rooms = omega (arith, h) in
      let more = take_more rooms k d lt in
      let old = first_runs rooms made k (omega (arith, h)) in
      let here : (get_or rooms k d).list.members ≡ run_pieces o share k = made k d lt in
      ap (λ (n : ℕ). members_of (take n rooms)) (let e : suc k ≡ k + 1 = omega arith in e) ∙ ap members_of more ∙ flat_map-append (λ (f : FrameListOf). f.list.members) (take k rooms) (get_or rooms k d ∷ [])
      ∙ (λ i. old i ++ (append-nil (get_or rooms k d).list.members ∙ here) i)
      ∙ next_run (k * share) ∙ ap (λ (n : ℕ). pieces (take n tris)) (sym (suc-mul k share))

  all_runs : (rooms : List FrameListOf) → AreMade o share rooms → length tris ≤ length rooms * share → members_of rooms ≡ list_of o
  all_runs rooms made whole = ap members_of (sym (take_all (length rooms) rooms (omega arith))) ∙ first_runs rooms made (length rooms) (omega arith) ∙ ap pieces (take_all (length rooms * share) tris whole)

  -- where the share is the triangles by the number of runs, rounded up
  shared_out : (rooms : List FrameListOf) → AreMade o share rooms → 0 < length rooms → share ≡ div_ceil (length tris) (length rooms)
      → members_of rooms ≡ list_of o
  shared_out rooms made some is = all_runs rooms made (rw (mul_comm (length rooms) share) (rw is (div_ceil_times (length tris) (length rooms) some).0))

-- the first of some lists, and the others behind it
first_and_others : (rooms : List FrameListOf) (d : FrameListOf) → 0 < length rooms → members_of rooms ≡ (get_or rooms 0 d).list.members ++ members_of (drop 1 rooms)
first_and_others [] d some = absurd (omega arith)
first_and_others (r ∷ rooms) d some = refl

module _ (o : Occluders) (share : ℕ) where
  -- so the first list with the members of the others behind its own has all pieces
  pub joined : (rooms others : List FrameListOf) (first : FrameListOf) → AreMade o share rooms → 0 < length rooms → share ≡ div_ceil (length o.tris.now) (length rooms)
      → first ≡ get_or rooms 0 first → others ≡ drop 1 rooms → first.list.members ++ members_of others ≡ list_of o
  joined rooms others first made some is e f =
      (λ i. (e i).list.members ++ members_of (f i)) ∙ sym (first_and_others rooms first some) ∙ shared_out o share rooms made some is
