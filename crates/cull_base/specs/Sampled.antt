-- Pieces of which a sample of the screen may be covered.
use Rattle.std.specs.Prelude.{ℤ, pos, ◌+ℤ◌, List, filter, Bool}
use Rattle.cull_base.specs.declared.rect.Rect.{Rect}
use Rattle.cull_base.specs.Piece.{Piece, first_pixel, least_of, greatest_of}
use Rattle.cull_base.specs.Rectangle.{meets}
use Rattle.cull_base.specs.Screen.{Dimensions, screen_of}
use Rattle.cull_base.specs.Tiles.{PieceList}

-- the pixels whose middle stands between the least and the greatest of coordinates, or at one of them; not cut to the screen
abbrev pub samples_between : List ℤ → List ℤ → Rect
samples_between xs ys =
    record {
      x0 = first_pixel (least_of xs +ℤ pos 7);
      y0 = first_pixel (least_of ys +ℤ pos 7);
      x1 = first_pixel (greatest_of xs +ℤ pos 8);
      y1 = first_pixel (greatest_of ys +ℤ pos 8);
    }

-- such a pixel of a piece is on the screen
abbrev pub is_sampled : Dimensions → Piece → Bool
is_sampled size t = meets (samples_between t.xs t.ys) (screen_of size)

abbrev pub sampled_among : Dimensions → List Piece → List Piece
sampled_among size pieces = filter (is_sampled size) pieces

-- the members of a list that have one, in order
abbrev pub sampled_list : PieceList → PieceList
sampled_list list = record { size = list.size; members = sampled_among list.size list.members }
