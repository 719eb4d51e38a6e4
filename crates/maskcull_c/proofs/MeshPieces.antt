-- Pieces of triangles and quads of a mesh, written one after another.
use Rattle.std.proofs.Common.{◌≡◌, ℕ, ◌+◌, ◌<◌, ◌≤◌, ◌⊎◌, inl, inr, List, [], ◌++◌, length, get_or, Option, Some, IfSome, arith, refl, ap, ap₂, sym, ◌∙◌, subst}
use Rattle.std.specs.List.{All, Contains}
use Rattle.std.proofs.lemmas.List.{get_or_default, length-append}
use Rattle.std.proofs.lemmas.List.Elements.{All-contains, Contains-append_cases}
use Rattle.cull_base.specs.Piece.{Piece}
use Rattle.float_bits.specs.Floats.{IsNumber}
use Rattle.exact_clip.specs.Clip.{clip_of}
use Rattle.exact_clip.specs.declared.held.Held.{Held}
use Rattle.pixel_forms.specs.Rays.{Face}
use Rattle.pixel_forms.specs.Within.{Sight, IsWithinFaces}
use Rattle.pixel_forms.specs.Certified.{face}
use Rattle.inward_pieces.specs.Pieces.{IsWithinQuad, IsWithinTriangle}
use Rattle.maskcull_c.specs.Floats.{AreSetUp, AreWithin, IsOfMesh, point_at, position_at, sight_of}
use Rattle.maskcull_c.specs.Lenses.{AreAdded, AreHeld, IsPoint, held_in, no_scratch, unit_of}
use Rattle.maskcull_c.specs.Pieces.{AreListed}
use Rattle.maskcull_c.specs.declared.given.Setup.{Setup}
use Rattle.maskcull_c.specs.declared.given.Triangle.{Triangle}
use Rattle.maskcull_c.specs.declared.lens.Lens.{Lens}
use Rattle.maskcull_c.specs.declared.pieces.PieceRoom.{PieceRoom}
use Rattle.maskcull_c.specs.declared.scratch.Scratch.{Scratch}
use Rattle.maskcull_c.specs.declared.view.View.{View}
use Rattle.maskcull_c.proofs.Listed.{listed_none, listed_then}

-- a piece that lies within some triangles lies within more
within_more : (sight : Sight) (faces more : Face → Type 0) (t : Piece) → ((f : Face) → faces f → more f) → IsWithinFaces sight faces t → IsWithinFaces sight more t
within_more sight faces more t h within px py x y covering z near = let (f, here, backs) = within px py x y covering z near in (f, h f here, backs)

module _ (lens : Lens) (floats : List ℕ) (triangles : List Triangle) where
  -- the pieces of one of the triangles
  pub triangle_within : (t : Triangle) (a b c : Held) (pieces : List Piece) → Contains triangles t → IsPoint lens floats t.a a → IsPoint lens floats t.b b → IsPoint lens floats t.c c
      → All (IsWithinTriangle lens.eye a b c) pieces → AreWithin lens.setup lens.view floats triangles pieces
  triangle_within t a b c pieces member pa pb pc all x among =
      let p = point_at lens.view floats t.a in let q = point_at lens.view floats t.b in let r = point_at lens.view floats t.c in
      let here = All-contains (IsWithinTriangle lens.eye a b c) pieces x all among (unit_of lens) p q r pa.holds pb.holds pc.holds in
      within_more (sight_of lens.setup lens.view) (λ f. f ≡ face p q r) (IsOfMesh lens.view floats triangles) x
      (λ f e. record { triangle = t; member = member; numbers = record { a = pa.numbers; b = pb.numbers; c = pc.numbers }; is = e })
      (subst (λ (sight : Sight). IsWithinFaces sight (λ f. f ≡ face p q r) x) lens.sight_is here)

  -- the pieces of two of them, a b c and a c d, as a quad
  pub quad_within : (t u : Triangle) (a b c d : Held) (pieces : List Piece) → Contains triangles t → Contains triangles u
      → position_at lens.view.stride floats t.a ≡ position_at lens.view.stride floats u.a → position_at lens.view.stride floats t.c ≡ position_at lens.view.stride floats u.b
      → IsPoint lens floats t.a a → IsPoint lens floats t.b b → IsPoint lens floats t.c c → IsPoint lens floats u.c d
      → All (IsWithinQuad lens.eye a b c d) pieces → AreWithin lens.setup lens.view floats triangles pieces
  quad_within t u a b c d pieces first second same_a same_c pa pb pc pd all x among =
      let p = point_at lens.view floats t.a in let q = point_at lens.view floats t.b in let r = point_at lens.view floats t.c in let s = point_at lens.view floats u.c in
      let here = All-contains (IsWithinQuad lens.eye a b c d) pieces x all among (unit_of lens) p q r s pa.holds pb.holds pc.holds pd.holds in
      within_more (sight_of lens.setup lens.view) (λ f. (f ≡ face p q r) ⊎ (f ≡ face p r s)) (IsOfMesh lens.view floats triangles) x
      (λ f e. elim e [
        | inl e ↦ record { triangle = t; member = first; numbers = record { a = pa.numbers; b = pb.numbers; c = pc.numbers }; is = e }
        | inr e ↦ record {
          triangle = u;
          member = second;
          numbers = record { a = subst (All IsNumber) same_a pa.numbers; b = subst (All IsNumber) same_c pc.numbers; c = pd.numbers };
          is = e ∙ ap₂ (λ m n. face (clip_of lens.view.rows m) (clip_of lens.view.rows n) s) same_a same_c;
        }
      ])
      (subst (λ (sight : Sight). IsWithinFaces sight (λ f. (f ≡ face p q r) ⊎ (f ≡ face p r s)) x) lens.sight_is here)

  -- none is written
  pub added_none : (most at : ℕ) (rooms : List PieceRoom) → at ≤ length rooms → AreAdded lens floats triangles most at at rooms rooms
  added_none most at rooms le = record {
    pieces = [];
    listed = listed_none at rooms le;
    after = omega arith;
    within = λ x m. absurd (let lt = m.1 in omega (arith, lt));
    few = omega arith;
  }

  -- some are, and then others behind them
  pub added_then : (most more at mid next : ℕ) (old now new : List PieceRoom) → AreAdded lens floats triangles most at mid old now → AreAdded lens floats triangles more mid next now new
      → AreAdded lens floats triangles (most + more) at next old new
  added_then most more at mid next old now new a b =
      let both = length-append a.pieces b.pieces in
      let first = a.after in let second = b.after in let few = a.few in let fewer = b.few in
      record {
        pieces = a.pieces ++ b.pieces;
        listed = listed_then at a.pieces b.pieces old now new a.listed (subst (λ n. AreListed n b.pieces now new) a.after b.listed);
        after = omega (arith, both, first, second);
        within = λ x m. elim (Contains-append_cases a.pieces b.pieces x m) [ inl n ↦ a.within x n | inr n ↦ b.within x n ];
        few = omega (arith, both, few, fewer);
      }

  pub added_most : (most more at next : ℕ) (old new : List PieceRoom) → most ≤ more → AreAdded lens floats triangles most at next old new → AreAdded lens floats triangles more at next old new
  added_most most more at next old new le a = let few = a.few in record { pieces = a.pieces; listed = a.listed; after = a.after; within = a.within; few = omega (arith, few, le) }

  -- from the first place on
  pub all_added : (most next : ℕ) (old new : List PieceRoom) → AreAdded lens floats triangles most 0 next old new → AreSetUp lens.setup lens.view floats triangles old new next
  all_added most next old new a = let after = a.after in record { pieces = a.pieces; listed = a.listed; counted = omega (arith, after); within = a.within }

-- a mesh without a piece
pub none_set_up : (s : Setup) (v : View) (floats : List ℕ) (triangles : List Triangle) (rooms : List PieceRoom) → AreSetUp s v floats triangles rooms rooms 0
none_set_up s v floats triangles rooms = record {
  pieces = [];
  listed = listed_none 0 rooms (omega arith);
  counted = refl;
  within = λ x m. absurd (let lt = m.1 in omega (arith, lt));
}

-- what is held in a scratch that was asked
pub held_point : (lens : Lens) (floats : List ℕ) (held : List Scratch) (k : ℕ) (d : Scratch) (a : Held) → AreHeld lens floats held → k < length held → Some a ≡ held_in (get_or held k d) → IsPoint lens floats k a
held_point lens floats held k d a all lt is =
    let same : get_or held k d ≡ get_or held k no_scratch = get_or_default held k d no_scratch lt in
    subst (λ (o : Option Held). IfSome o (IsPoint lens floats k)) (sym (is ∙ ap held_in same)) (all.each k lt)
