-- Worked values of the definitions, each by computing. Places and samples are those of a screen with y downwards.
use Rattle.std.proofs.Common.{◌≡◌, ℕ, pos, negsuc, neg_ℤ, refl, List, [], ◌∷◌, Bool, true, false, map}
use Rattle.std.specs.List.{range_with_len}
use Rattle.std.specs.Simd.Lanes.{mask_l}
use Rattle.cull_base.specs.Piece.{Piece, Point, covers, touches, covered, each_sample, box_of}
use Rattle.cull_base.specs.Depth.{low_of, high_of}
use Rattle.cull_base.specs.State.{State, step_with, samples_of, no_samples, empty_state, hides}
use Rattle.cull_base.specs.Fold.{after}
use Rattle.cull_base.specs.Guard.{is_past_guard}
use Rattle.cull_base.specs.Screen.{Dimensions, tile_columns_of, tile_rows_of, tile_count_of, tile_rect_of, tile_sub, is_on_screen}
use Rattle.cull_base.specs.Tiles.{PieceList, tile_list, prefixed}
use Rattle.cull_base.specs.declared.rect.Rect.{Rect}
use Rattle.cull_base.specs.declared.place.Sub.{Sub}

abbrev at : ℕ → ℕ → Point
at x y = record { x = pos x; y = pos y }

abbrev sub_at : ℕ → ℕ → Sub
sub_at column row = record { column = column; row = row }

-- a piece by its corners, each with the nearness q
abbrev flat : (ax ay bx by cx cy q : ℕ) → Piece
flat ax ay bx by cx cy q = record { xs = pos ax ∷ pos bx ∷ pos cx ∷ []; ys = pos ay ∷ pos by ∷ pos cy ∷ []; qs = q ∷ q ∷ q ∷ [] }

abbrev rect : (x0 y0 x1 y1 : ℕ) → Rect
rect x0 y0 x1 y1 = record { x0 = pos x0; y0 = pos y0; x1 = pos x1; y1 = pos y1 }

-- a working layer of depth 100 at the samples with column and row below four, over nothing known
abbrev layered : State
layered = record { reference = 0; working = 100; samples = samples_of 0x0F0F0F0F }

-- A bound of 201 lies 101 above the working depth, and the working depth 100 above the reference: the layer is dropped.
layer_dropped : step_with layered 201 (samples_of 0x10) ≡ record { reference = 0; working = 201; samples = samples_of 0x10 }
unfolding step_with samples_of
layer_dropped = refl

-- A bound of 200 lies no further above the working depth than that above the reference: the layer stays, and its depth too.
layer_kept : step_with layered 200 (samples_of 0x10) ≡ record { reference = 0; working = 100; samples = samples_of 0x0F0F0F1F }
unfolding step_with samples_of
layer_kept = refl

-- a reference of 100 and no working layer
abbrev plain : State
plain = record { reference = 100; working = 0; samples = no_samples }

-- A bound that equals the reference changes nothing, even at all samples.
equal_bound_skipped : step_with plain 100 (samples_of 0xFFFFFFFF) ≡ plain
unfolding step_with samples_of
equal_bound_skipped = refl

-- A bound of 101 at all samples becomes the reference at once.
reference_filled : step_with plain 101 (samples_of 0xFFFFFFFF) ≡ record { reference = 101; working = 0; samples = no_samples }
unfolding step_with samples_of
reference_filled = refl

-- A bound with no samples changes nothing, however near.
no_samples_skipped : step_with layered 65535 no_samples ≡ layered
unfolding step_with samples_of
no_samples_skipped = refl

-- the 16 pixels from (0, 0) to before (4, 4)
abbrev corner : List ℕ
corner = 0 ∷ 1 ∷ 2 ∷ 3 ∷ 8 ∷ 9 ∷ 10 ∷ 11 ∷ 16 ∷ 17 ∷ 18 ∷ 19 ∷ 24 ∷ 25 ∷ 26 ∷ 27 ∷ []

-- The working layer hides a nearness of 50 at each of the 16 samples.
corner_hidden : map (λ k. hides layered k 50) corner ≡ map (λ _. true) corner
unfolding samples_of
corner_hidden = refl

-- Once the layer is dropped, none of the 16 samples hides it: the bound has fallen.
corner_seen : map (λ k. hides (step_with layered 201 (samples_of 0x10)) k 50) corner ≡ map (λ _. false) corner
unfolding step_with samples_of
corner_seen = refl

-- Equal nearness isn't hidden; what lies one behind is.
equal_not_hidden : hides (record { reference = 21845; working = 0; samples = no_samples }) 0 21845 ≡ false
unfolding samples_of
equal_not_hidden = refl

behind_hidden : hides (record { reference = 21845; working = 0; samples = no_samples }) 0 21844 ≡ true
unfolding samples_of
behind_hidden = refl

-- two pieces that share the diagonal from (0, 0) to (32, 32), one above it and one below
abbrev above : Piece
above = flat 0 0 32 0 32 32 0

abbrev below : Piece
below = flat 0 0 32 32 0 32 0

-- The one above covers both samples on the diagonal and the sample (24, 8), the one below the sample (8, 24) alone.
diagonal_covers : (mask_l (covered above (sub_at 0 0)) ≡ 0x203) × (mask_l (covered below (sub_at 0 0)) ≡ 0x100)
unfolding covered each_sample covers
diagonal_covers = (refl, refl)

-- The samples on the shared diagonal belong to the one above alone, whose left edge it is, and are touched by both.
diagonal_first : map (covers above) (at 8 8 ∷ at 24 24 ∷ []) ≡ true ∷ true ∷ []
unfolding covers
diagonal_first = refl

diagonal_not_second : map (covers below) (at 8 8 ∷ at 24 24 ∷ []) ≡ false ∷ false ∷ []
unfolding covers
diagonal_not_second = refl

diagonal_touched : map (touches below) (at 8 8 ∷ at 24 24 ∷ []) ≡ true ∷ true ∷ []
unfolding touches
diagonal_touched = refl

-- a piece whose nearness falls from 1000 at its left edge to 200 at its right corner
abbrev falling : Piece
falling = record { xs = pos 0 ∷ pos 512 ∷ pos 0 ∷ []; ys = pos 0 ∷ pos 0 ∷ pos 512 ∷ []; qs = 1000 ∷ 200 ∷ 1000 ∷ [] }

-- Over the first subtile, x from 8 to 120, the depth falls from 987.5 to 812.5. In the fourth subtile the least depth is 212.5.
-- Past the right corner the plane falls below the least nearness, which holds the bound up.
falling_low : map (λ c. low_of falling (sub_at c 0)) (0 ∷ 3 ∷ 4 ∷ []) ≡ 812 ∷ 212 ∷ 200 ∷ []
unfolding low_of each_sample
falling_low = refl

falling_high : high_of falling (sub_at 0 0) ≡ 988
unfolding high_of each_sample
falling_high = refl

-- The box of a piece has the pixels of its least and its greatest coordinates.
box_of_piece : box_of (flat 0 0 159 0 159 127 0) ≡ rect 0 0 10 8
box_of_piece = refl

-- A coordinate before the screen falls into the pixel to its left, and 16 into the pixel 1.
box_before_screen : box_of (record { xs = negsuc 0 ∷ pos 16 ∷ pos 0 ∷ []; ys = neg_ℤ (pos 16) ∷ pos 0 ∷ neg_ℤ (pos 17) ∷ []; qs = 0 ∷ 0 ∷ 0 ∷ [] })
    ≡ record { x0 = negsuc 0; y0 = neg_ℤ (pos 2); x1 = pos 2; y1 = pos 1 }
box_before_screen = refl

-- The guard of near distance 1 lies at 16384, that of 1024 at 16777216; at the guard isn't past it.
at_guard : is_past_guard (record { x = pos 16384; y = neg_ℤ (pos 16384); w = pos 16384 }) 1 ≡ false
at_guard = refl

past_guard_in_x : is_past_guard (record { x = pos 16385; y = pos 2; w = pos 2 }) 1 ≡ true
past_guard_in_x = refl

past_guard_below_in_y : is_past_guard (record { x = pos 2; y = neg_ℤ (pos 16385); w = pos 2 }) 1 ≡ true
past_guard_below_in_y = refl

past_guard_in_w : is_past_guard (record { x = pos 2; y = pos 2; w = pos 16385 }) 1 ≡ true
past_guard_in_w = refl

at_widest_guard : is_past_guard (record { x = pos 16777216; y = neg_ℤ (pos 16777216); w = neg_ℤ (pos 16777216) }) 1024 ≡ false
at_widest_guard = refl

past_widest_guard : is_past_guard (record { x = pos 0; y = pos 0; w = neg_ℤ (pos 16777217) }) 1024 ≡ true
past_widest_guard = refl

-- a screen whose last tiles are cut on the right and below
abbrev cut : Dimensions
cut = record { width = 40; height = 12 }

-- It has two columns and two rows of tiles.
cut_tiles : tile_columns_of cut ∷ tile_rows_of cut ∷ tile_count_of cut ∷ [] ≡ 2 ∷ 2 ∷ 4 ∷ []
cut_tiles = refl

-- The tiles' rectangles end at the screen's edges.
cut_tile_rects : map (tile_rect_of cut) (0 ∷ 1 ∷ 2 ∷ 3 ∷ []) ≡ rect 0 0 32 8 ∷ rect 32 0 40 8 ∷ rect 0 8 32 12 ∷ rect 32 8 40 12 ∷ []
cut_tile_rects = refl

-- Subtile 5 of the last tile stands in its second column and second row, off the screen.
cut_tile_sub : tile_sub cut 3 5 ≡ sub_at 5 3
cut_tile_sub = refl

-- which of a tile's eight subtiles are on that screen
abbrev shown : ℕ → List Bool
shown tile = map (λ j. is_on_screen cut (tile_sub cut tile j)) (range_with_len 0 8)

-- The first tile has all its subtiles there, the second its first column, the third its first row, the last its first one.
cut_tile_subs : map shown (0 ∷ 1 ∷ 2 ∷ 3 ∷ [])
    ≡ (true ∷ true ∷ true ∷ true ∷ true ∷ true ∷ true ∷ true ∷ [])
    ∷ (true ∷ false ∷ false ∷ false ∷ true ∷ false ∷ false ∷ false ∷ [])
    ∷ (true ∷ true ∷ true ∷ true ∷ false ∷ false ∷ false ∷ false ∷ [])
    ∷ (true ∷ false ∷ false ∷ false ∷ false ∷ false ∷ false ∷ false ∷ [])
    ∷ []
cut_tile_subs = refl

-- three pieces on a screen of two tiles, whose boxes run in x from 0 to 10, from 20 to 40 and from 33 to 50
abbrev in_first : Piece
in_first = flat 0 0 159 0 159 127 0

abbrev in_both : Piece
in_both = flat 320 0 639 0 639 127 0

abbrev in_second : Piece
in_second = flat 528 0 799 0 799 127 0

abbrev three : List Piece
three = in_first ∷ in_both ∷ in_second ∷ []

abbrev over : Dimensions → List Piece → PieceList
over size members = record { size = size; members = members }

abbrev in_tile : ℕ → List Piece
in_tile n = tile_list n (over (record { width = 64; height = 8 }) three)

-- The middle piece is in the lists of both tiles.
tile_lists : (in_tile 0 ≡ in_first ∷ in_both ∷ []) × (in_tile 1 ≡ in_both ∷ in_second ∷ [])
unfolding tile_list
tile_lists = (refl, refl)

-- a quad over a screen of 32 by 8 pixels, at a nearness of 32767: the piece above its diagonal and the one below
abbrev quad_above : Piece
quad_above = flat 0 0 512 0 512 128 32767

abbrev quad_below : Piece
quad_below = flat 0 0 512 128 0 128 32767

-- After the first piece the subtile has a working layer right of the diagonal: six samples of its first row, two of its second.
quad_half : after (sub_at 0 0) (quad_above ∷ []) ≡ record { reference = 0; working = 32767; samples = samples_of 0xC0FC }
unfolding after low_of covered covers each_sample step_with samples_of
quad_half = refl

-- After both pieces it is full: the working depth has become the reference.
quad_whole : after (sub_at 0 0) (quad_above ∷ quad_below ∷ []) ≡ record { reference = 32767; working = 0; samples = no_samples }
unfolding after low_of covered covers each_sample step_with samples_of
quad_whole = refl

abbrev small : Dimensions
small = record { width = 32; height = 8 }

-- Before any member of its list was taken a tile is empty; after both pieces of the quad each of its subtiles is full.
tile_opening : prefixed 0 0 (over small (quad_above ∷ quad_below ∷ [])) ≡ map (λ _. empty_state) (range_with_len 0 8)
unfolding tile_list after
tile_opening = refl

tile_whole : prefixed 0 2 (over small (quad_above ∷ quad_below ∷ [])) ≡ map (λ _. record { reference = 32767; working = 0; samples = no_samples }) (range_with_len 0 8)
unfolding tile_list after low_of covered covers each_sample step_with samples_of
tile_whole = refl

-- Of the tile at the screen's corner a piece over all its pixels fills the one subtile on the screen; the others stay empty.
corner_tile : prefixed 3 1 (over cut (flat 0 0 2000 0 0 2000 5 ∷ []))
    ≡ record { reference = 5; working = 0; samples = no_samples } ∷ map (λ _. empty_state) (range_with_len 0 7)
unfolding tile_list after low_of covered covers each_sample step_with samples_of
corner_tile = refl
