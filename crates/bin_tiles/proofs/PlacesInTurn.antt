-- A bin's tiles take the places of a part one after another, and what stands between them misses the bin.
use Rattle.std.proofs.Common.{◌≡◌, ℕ, ◌+◌, ◌<◌, ◌≤◌, List, length, get_or, ap, sym, ◌∙◌}
use Rattle.cull_base.specs.Piece.{box_of}
use Rattle.cull_base.specs.Screen.{IsSize}
use Rattle.cull_base.specs.Tiles.{PieceList}
use Rattle.cull_base.specs.declared.tile_span.TileSpan.{TileSpan}
use Rattle.masked_update.specs.Canvas.{MissBetween}
use Rattle.binning.specs.Cut.{CutOf, IsCut}
use Rattle.binning.specs.Bins.{bin_rect_of, bin_span_of}
use Rattle.binning.specs.Parts.{indices_in}
use Rattle.binning.specs.Places.{NoneMeets}
use Rattle.binning.proofs.Places.{meets_at-is}
use Rattle.binning.proofs.BinSpans.{in_bin, none_meets_bin}
use Rattle.binning.proofs.Walks.{IsWalked, walk_begins, walk_next, walk_ends}
use Rattle.bin_tiles.specs.Bins.{IsBinAt, drawn_of}
use Rattle.bin_tiles.proofs.Counting.{drawn_more, drawn_same}

-- The bin's tiles stand at the place to which a walk over a part's indices came, and it has drawn so many.
abbrev pub StandsWalked : {X B : Type 0} → (X → B → PieceList → TileSpan → ℕ → Type 0) → B → PieceList → CutOf → ℕ → ℕ → List ℕ → ℕ → ℕ → X → Type 0
StandsWalked {X} {B} stands beside list cut bin to indices taken drawn c =
    (n : ℕ) × IsWalked (bin_rect_of list.size cut bin) list.members to indices taken n × IsBinAt stands beside list cut n bin c × (drawn ≡ drawn_of list cut n bin)

-- The bin's tiles stand at the next place, it has drawn so many before it, and the walk goes on after it.
pub record IsNextPlace {X B : Type 0} (stands : X → B → PieceList → TileSpan → ℕ → Type 0) (beside : B) (list : PieceList) (cut : CutOf) (bin to i taken drawn : ℕ) (indices : List ℕ) (c : X) : Type 0 where
  pub below : i < to
  pub at : IsBinAt stands beside list cut i bin c
  pub drawn_is : drawn ≡ drawn_of list cut i bin
  pub more : drawn + 1 ≡ drawn_of list cut (i + 1) bin
  pub walked : IsWalked (bin_rect_of list.size cut bin) list.members to indices taken (i + 1)

module _ {X B : Type 0} (stands : X → B → PieceList → TileSpan → ℕ → Type 0)
    (passes : (k : X) (beside : B) (list : PieceList) (window : TileSpan) (m n : ℕ) → MissBetween list window m n → stands k beside list window m → stands k beside list window n)
    (beside : B) (list : PieceList) (cut : CutOf) (bin : ℕ) (sized : IsSize list.size.width list.size.height) (valid : IsCut cut.columns cut.rows) where
  missed : (a b : ℕ) → a ≤ b → NoneMeets (bin_rect_of list.size cut bin) list.members a b → MissBetween list (bin_span_of list.size cut bin) a b
  missed a b le none = record {
    ordered = le;
    members = λ i x ge lt below is t within.
        none_meets_bin list.size cut (box_of x) bin t sized valid within.on_screen (in_bin list.size cut bin t sized valid within.on_screen within.within)
        (sym (meets_at-is (bin_rect_of list.size cut bin) list.members i x below is) ∙ none i ge lt);
  }

  pub moved : (a b : ℕ) (c : X) → a ≤ b → NoneMeets (bin_rect_of list.size cut bin) list.members a b → IsBinAt stands beside list cut a bin c → IsBinAt stands beside list cut b bin c
  moved a b c le none at = passes c beside list (bin_span_of list.size cut bin) a b (missed a b le none) at

  pub first_turn : (from to drawn : ℕ) (indices : List ℕ) (c : X) → from ≤ to → indices ≡ indices_in list cut from to bin → drawn ≡ drawn_of list cut from bin → IsBinAt stands beside list cut from bin c
      → StandsWalked stands beside list cut bin to indices 0 drawn c
  first_turn from to drawn indices c le is count at = (from, walk_begins (bin_rect_of list.size cut bin) list.members from to indices le is, at, count)

  pub next_turn : (to taken drawn : ℕ) (indices : List ℕ) (c : X) → taken < length indices → StandsWalked stands beside list cut bin to indices taken drawn c
      → IsNextPlace stands beside list cut bin to (get_or indices taken 0) (taken + 1) drawn indices c
  next_turn to taken drawn indices c lt (n, w, at, count) =
      let i = get_or indices taken 0 in
      let (next, walked) = walk_next (bin_rect_of list.size cut bin) list.members to indices taken n w lt in
      let here : drawn ≡ drawn_of list cut i bin = count ∙ sym (drawn_same list cut bin n i next.from_on next.none) in
      record {
        below = next.before;
        at = moved n i c next.from_on next.none at;
        drawn_is = here;
        more = ap (λ k. k + 1) here ∙ sym (drawn_more list cut bin i next.met);
        walked = walked;
      }

  pub last_turn : (to taken drawn : ℕ) (indices : List ℕ) (c : X) → length indices ≤ taken → StandsWalked stands beside list cut bin to indices taken drawn c
      → (drawn ≡ drawn_of list cut to bin) × IsBinAt stands beside list cut to bin c
  last_turn to taken drawn indices c le (n, w, at, count) =
      let none = walk_ends (bin_rect_of list.size cut bin) list.members to indices taken n w le in
      (count ∙ sym (drawn_same list cut bin n to w.before none), moved n to c w.before none at)
