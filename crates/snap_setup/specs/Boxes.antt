-- Boxes by how far points reach along each axis.
use Rattle.cull_base.specs.declared.extent.Extent.{Extent}
use Rattle.cull_base.specs.declared.rect.Rect.{Rect}
use Rattle.cull_base.specs.Piece.{first_pixel, end_pixel}

-- the pixels between two extents, from the first to before the end of each
abbrev pub rect_between : Extent → Extent → Rect
rect_between across down =
    record {
      x0 = first_pixel across.least;
      y0 = first_pixel down.least;
      x1 = end_pixel across.greatest;
      y1 = end_pixel down.greatest;
    }
