-- Worked clip coordinates, each by computing.
use Rattle.std.proofs.Common.{◌≡◌, ℤ, pos, negsuc, refl, List, [], ◌∷◌, map}
use Rattle.camera_path.specs.Clip.{clip_of}

-- x is halved, and then moved by 5; y and w are left alone
abbrev half_and_five : List ℤ
half_and_five =
    pos 32768 ∷ pos 0 ∷ pos 0 ∷ pos 5
    ∷ pos 0 ∷ pos 65536 ∷ pos 0 ∷ pos 0
    ∷ pos 0 ∷ pos 0 ∷ pos 65536 ∷ pos 0
    ∷ []

-- A half is rounded down, below 0 too: 3 halves and 5 give 6, -3 halves and 5 give 3.
halves : map (λ x. (clip_of half_and_five (x ∷ pos 7 ∷ pos 9 ∷ [])).x) (pos 3 ∷ negsuc 2 ∷ []) ≡ pos 6 ∷ pos 3 ∷ []
unfolding clip_of
halves = refl

-- each row adds up all three numbers of the vertex
abbrev all_rows : List ℤ
all_rows =
    pos 65536 ∷ pos 131072 ∷ pos 196608 ∷ pos 1
    ∷ pos 0 ∷ pos 65536 ∷ pos 65536 ∷ pos 2
    ∷ pos 65536 ∷ pos 0 ∷ pos 65536 ∷ pos 3
    ∷ []

sums : clip_of all_rows (pos 1 ∷ pos 10 ∷ pos 100 ∷ []) ≡ record { x = pos 322; y = pos 112; w = pos 104 }
unfolding clip_of
sums = refl
