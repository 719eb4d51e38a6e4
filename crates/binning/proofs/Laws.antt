-- The law of parts: all parts of a bin together, filtered to a tile of the bin.
use Rattle.std.proofs.Common.{◌≡◌, inl, inr, ℕ, zero, suc, ◌+◌, ◌*◌, ◌<◌, ◌≤◌, min, List, [], ◌∷◌, ◌++◌, length, Bool, true, false, arith, refl, ap, ◌∙◌, sym, subst}
use Rattle.std.specs.List.{filter, flat_map, range_with_len}
use Rattle.std.specs.Int.{div_ceil}
use Rattle.std.proofs.lemmas.Bool.{cases_lt}
use Rattle.std.proofs.lemmas.Grind.{div_ceil_times, flat_map-append}
use Rattle.std.proofs.lemmas.List.{append-nil, map-append, take_all}
use Rattle.std.proofs.Math.Nat.{mul-le-mul_right}
use Rattle.cull_base.specs.Piece.{Piece, box_of}
use Rattle.cull_base.specs.Rectangle.{meets}
use Rattle.cull_base.specs.Screen.{IsSize, tile_count_of, tile_rect_of}
use Rattle.cull_base.specs.Tiles.{PieceList, tile_list}
use Rattle.binning.specs.Cut.{CutOf, IsCut}
use Rattle.binning.specs.Bins.{bin_of, bin_rect_of}
use Rattle.binning.specs.Places.{member_at, places_in, members_at}
use Rattle.binning.specs.Parts.{batch_count_of, indices_in, part_of, members_in, PartsMakeTileList}
use Rattle.binning.proofs.BinSpans.{none_meets_bin}
use Rattle.binning.proofs.Places.{places_in-nil, places_in-append, members_at-places_in, range_more}

-- every batch before the count begins within the list, and the last ends it
pub batch_begins : (len size i : ℕ) → 0 < size → i < batch_count_of len size → i * size < len
batch_begins len size i some lt = elim (cases_lt (i * size) len) [
  | inl done ↦ done
  | inr past ↦
      let t = div_ceil_times len size some in
      let m : suc i * size ≤ div_ceil len size * size = mul-le-mul_right size lt in
      absurd (omega (arith, t.1, m, past))
]

pub batches_end : (len size : ℕ) → 0 < size → min (batch_count_of len size * size) len ≡ len
batches_end len size some = let t = div_ceil_times len size some in omega (arith, t.0)

-- a walk over all batches has passed all places
pub all_batches : (len size count end batch from : ℕ) → 0 < size → end ≡ batch_count_of count size → count ≡ len → batch ≡ end → from ≡ min (batch * size) len → from ≡ len
all_batches len size count end batch from some e c last f = f ∙ ap (λ n. min (n * size) len) (last ∙ e ∙ ap (λ n. batch_count_of n size) c) ∙ batches_end len size some

-- the members of a bin's first parts are those of the batches' places
pub members_in-is : (list : PieceList) (cut : CutOf) (size bin n : ℕ) → 0 < size → n ≤ batch_count_of (length list.members) size
    → members_in list cut size bin n ≡ members_at list.members (indices_in list cut 0 (min (n * size) (length list.members)) bin)
members_in-is list cut size bin zero some le =
    let e : min (zero * size) (length list.members) ≡ 0 = omega arith in
    rw e (ap (members_at list.members) (sym (places_in-nil (bin_rect_of list.size cut bin) list.members 0)))
members_in-is list cut size bin (suc n) some le =
    let len = length list.members in
    let rect = bin_rect_of list.size cut bin in
    let from : n * size < len = batch_begins len size n some (omega arith) in
    let to = min ((n + 1) * size) len in
    let before : min (n * size) len ≡ n * size = omega (arith, from) in
    let rest = members_in-is list cut size bin n some (omega arith) ∙ ap (λ k. members_at list.members (indices_in list cut 0 k bin)) before in
    let f : ℕ → List Piece = λ i. members_at list.members (part_of list cut size i bin) in
    let e : suc n ≡ n + 1 = omega arith in
    let more : members_in list cut size bin (n + 1) ≡ members_at list.members (indices_in list cut 0 to bin) =
    ap (flat_map f) (range_more 0 n) ∙ flat_map-append f (range_with_len 0 n) ((0 + n) ∷ []) ∙ ap (λ ts. ts ++ flat_map f ((0 + n) ∷ [])) rest
    ∙ ap (λ k. members_at list.members (indices_in list cut 0 (n * size) bin) ++ flat_map f (k ∷ [])) (let z : 0 + n ≡ n = omega arith in z)
    ∙ ap (λ ts. members_at list.members (indices_in list cut 0 (n * size) bin) ++ ts) (append-nil (f n))
    ∙ sym (map-append (member_at list.members) (places_in rect list.members 0 (n * size)) (places_in rect list.members (n * size) to))
    ∙ ap (members_at list.members) (sym (places_in-append rect list.members 0 (n * size) to (omega arith) (omega (arith, from)))) in
    subst (λ k. members_in list cut size bin k ≡ members_at list.members (indices_in list cut 0 (min (k * size) len) bin)) (sym e) more

-- a filter after a weaker one
filter-filter : (p q : Piece → Bool) → ((t : Piece) → q t ≡ false → p t ≡ false) → (xs : List Piece) → filter p (filter q xs) ≡ filter p xs
filter-filter p q weaker [] = refl
filter-filter p q weaker (x ∷ xs) = by (q x) (p x) refl refl (filter-filter p q weaker xs)
  where
    by : (b d : Bool) → q x ≡ b → p x ≡ d → filter p (filter q xs) ≡ filter p xs → filter p (filter q (x ∷ xs)) ≡ filter p (x ∷ xs)
    by true true e f rest = rw (e, f) (ap (λ ts. x ∷ ts) rest)
    by true false e f rest = rw (e, f) rest
    by false true e f rest = let no : true ≡ false = sym f ∙ weaker x e in absurd cc
    by false false e f rest = rw (e, f) rest

-- all parts of a tile's bin, filtered to the tile, make the tile's list
pub parts_make_tile_list : (list : PieceList) (cut : CutOf) (size tile : ℕ) → IsSize list.size.width list.size.height → IsCut cut.columns cut.rows → 0 < size → tile < tile_count_of list.size → PartsMakeTileList list cut size tile
unfolding tile_list
parts_make_tile_list list cut size tile valid is some lt =
    let len = length list.members in
    let bin = bin_of list.size cut tile in
    let rect = bin_rect_of list.size cut bin in
    let tile_has : Piece → Bool = λ t. meets (box_of t) (tile_rect_of list.size tile) in
    let bin_has : Piece → Bool = λ t. meets (box_of t) rect in
    ap (filter tile_has) (
    members_in-is list cut size bin (batch_count_of len size) some (omega arith)
    ∙ ap (λ k. members_at list.members (indices_in list cut 0 k bin)) (batches_end len size some)
    ∙ members_at-places_in rect list.members len (omega arith)
    ∙ ap (filter bin_has) (take_all len list.members (omega arith)))
    ∙ filter-filter tile_has bin_has (λ t off. none_meets_bin list.size cut (box_of t) bin tile valid is lt refl off) list.members
