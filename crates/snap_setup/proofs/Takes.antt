-- Lists that take the pieces of triangles, and keep some of them.
use Rattle.std.proofs.Common.{◌≡◌, ℕ, ◌+◌, ◌*◌, ◌<◌, ◌≤◌, List, [], ◌∷◌, ◌++◌, filter, length, get_or, take, length-append, length-take-le, refl, sym, ap, subst, ◌∙◌, arith}
use Rattle.std.proofs.lemmas.List.Elements.{filter-append}
use Rattle.std.proofs.lemmas.List.Sums.{length-filter, count_by-le-length}
use Rattle.cull_base.specs.Grade.{top_of}
use Rattle.cull_base.specs.declared.scene_types.Tri.{Tri}
use Rattle.cull_base.specs.declared.triangle.Winding.{Winding}
use Rattle.cull_base.specs.Screen.{Dimensions}
use Rattle.cull_base.specs.Piece.{Piece}
use Rattle.cull_base.specs.Tiles.{FrameListOf, with_members}
use Rattle.snap_setup.specs.declared.keeping.Keeping.{Keeping}
use Rattle.snap_setup.specs.declared.keeping.Keeping.TheVariants.{Each}
use Rattle.snap_setup.specs.declared.occluders.Occluders.{Occluders}
use Rattle.snap_setup.specs.declared.triangle.Corners.{Corners}
use Rattle.snap_setup.specs.Corners.{pieces_of_corners}
use Rattle.snap_setup.specs.Keeping.{is_kept, Took}
use Rattle.snap_setup.specs.Occluders.{list_of_part}
use Rattle.snap_setup.specs.Pieces.{clip_at}
use Rattle.snap_setup.proofs.FrameLists.{by_corners, list_more, list_most, with_none, with_more}

pub took_none : (keeping : Keeping) (f : FrameListOf) (ps : List Piece) → [] ≡ ps → Took keeping f f 0 ps
took_none keeping f ps e = subst (Took keeping f f 0) e (record { members = with_none f [] refl; counted = refl })

pub took_as : (keeping : Keeping) (f g : FrameListOf) (n : ℕ) (r ps : List Piece) → Took keeping f g n r → r ≡ ps → Took keeping f g n ps
took_as keeping f g n r ps took e = subst (Took keeping f g n) e took

-- some pieces, and then others
pub took_more : (keeping : Keeping) (f g h : FrameListOf) (m n : ℕ) (a b c : List Piece) → Took keeping f g m a → Took keeping g h n b → a ++ b ≡ c → Took keeping f h (m + n) c
took_more keeping f g h m n a b c first next e =
    let size : g.list.size ≡ f.list.size = ap (λ (x : FrameListOf). x.list.size) first.members in
    let same = ap (λ (s : Dimensions). with_members g (filter (is_kept keeping s) b)) size in
    subst (Took keeping f h (m + n)) e (record {
      members = with_more f g h (filter (is_kept keeping f.list.size) a) (filter (is_kept keeping f.list.size) b) (filter (is_kept keeping f.list.size) (a ++ b))
          first.members (next.members ∙ same) (sym (filter-append (is_kept keeping f.list.size) a b));
      counted = omega (arith, first.counted, next.counted, length-append a b);
    })

-- where each piece is kept, the list has all
each_kept : (size : Dimensions) (ps : List Piece) → filter (is_kept Each size) ps ≡ ps
each_kept size [] = refl
each_kept size (p ∷ ps) = ap (λ (xs : List Piece). p ∷ xs) (each_kept size ps)

pub took_each : (f g : FrameListOf) (n : ℕ) (ps : List Piece) → Took Each f g n ps → g ≡ with_members f ps
took_each f g n ps took = took.members ∙ ap (with_members f) (each_kept f.list.size ps)

-- where there was room for two pieces a triangle, there is room for those of the next
pub room_for_two : (o : Occluders) (winding : Winding) (tris : List Tri) (i n : ℕ) (keeping : Keeping) (f g : FrameListOf) → i < length tris → Took keeping f g n (list_of_part o winding (take i tris))
    → length f.list.members + 2 * length tris ≤ f.room → length g.list.members + 2 ≤ g.room
room_for_two o winding tris i n keeping f g lt took room =
    let pieces = list_of_part o winding (take i tris) in
    let most = list_most o.clips.now (take i tris) (top_of o.grade) o.near.distance o.size winding in
    let members = ap (λ (x : FrameListOf). length x.list.members) took.members in
    let rooms = ap (λ (x : FrameListOf). x.room) took.members in
    let fewer = count_by-le-length (is_kept keeping f.list.size) pieces in
    omega (
      arith,
      most,
      members,
      rooms,
      room,
      lt,
      fewer,
      length-filter (is_kept keeping f.list.size) pieces,
      length-take-le i tris (omega (arith, lt)),
      length-append f.list.members (filter (is_kept keeping f.list.size) pieces),
    )

-- and few were counted
pub few_counted : (o : Occluders) (winding : Winding) (tris : List Tri) (i n : ℕ) (keeping : Keeping) (f g : FrameListOf) → i < length tris → Took keeping f g n (list_of_part o winding (take i tris)) → n ≤ 2 * length tris
few_counted o winding tris i n keeping f g lt took =
    let most = list_most o.clips.now (take i tris) (top_of o.grade) o.near.distance o.size winding in
    omega (arith, most, took.counted, lt, length-take-le i tris (omega (arith, lt)))

-- the next triangle's pieces behind those of the ones before it
pub one_more : (o : Occluders) (winding : Winding) (tris : List Tri) (i m n : ℕ) (d : Tri) (keeping : Keeping) (f g h : FrameListOf) (r : Corners) → i < length tris → Took keeping f g m (list_of_part o winding (take i tris))
    → r.v0.now ≡ clip_at o.clips.now (get_or tris i d) 0 → r.v1.now ≡ clip_at o.clips.now (get_or tris i d) 1 → r.v2.now ≡ clip_at o.clips.now (get_or tris i d) 2
    → Took keeping g h n (pieces_of_corners r (top_of o.grade) o.near.distance o.size winding) → Took keeping f h (m + n) (list_of_part o winding (take (i + 1) tris))
one_more o winding tris i m n d keeping f g h r lt took e0 e1 e2 grown =
    let before = list_of_part o winding (take i tris) in
    let ps = by_corners o.clips.now r.v0.now r.v1.now r.v2.now (top_of o.grade) o.near.distance o.size winding (get_or tris i d) e0 e1 e2 in
    took_more keeping f g h m n before _ _ took grown (list_more o.clips.now tris (top_of o.grade) o.near.distance o.size winding i d before _ lt refl ps)
