-- The live text, line by line, round by round and frame by frame.
use Rattle.std.proofs.Common.{◌≡◌, ℕ, zero, suc, ◌+◌, ◌<◌, List, [], ◌∷◌, ◌++◌, arith, refl, ap, ◌∙◌, sym, subst}
use Rattle.std.specs.List.{flat_map, range_with_len}
use Rattle.std.proofs.lemmas.Grind.{flat_map-append}
use Rattle.std.proofs.lemmas.List.{append-nil, map-id}
use Rattle.std.proofs.lemmas.List.FromFn.{map-range_with_len_more}
use Rattle.scene_reader.specs.Layout.{Parts}
use Rattle.cull_report.specs.Live.{Counts, object_line, watched, round_lines, frame_live, frames_live}

-- a range with one number more
pub range_more : (n : ℕ) → range_with_len 0 (n + 1) ≡ range_with_len 0 n ++ n ∷ []
range_more n = sym (map-id (range_with_len 0 (n + 1))) ∙ map-range_with_len_more (λ k. k) 0 n n (omega arith) ∙ ap (λ ks. ks ++ n ∷ []) (map-id (range_with_len 0 n))

-- what so many numbers give, and what one more gives
pub each_more : (f : ℕ → List ℕ) (n : ℕ) → flat_map f (range_with_len 0 (n + 1)) ≡ flat_map f (range_with_len 0 n) ++ f n
each_more f n = ap (flat_map f) (range_more n) ∙ flat_map-append f (range_with_len 0 n) (n ∷ []) ∙ ap (λ text. flat_map f (range_with_len 0 n) ++ text) (append-nil (f n))

-- functions that agree below a number give the same of the numbers below it
pub each_alike : (f g : ℕ → List ℕ) (n : ℕ) → ((k : ℕ) → k < n → f k ≡ g k) → flat_map f (range_with_len 0 n) ≡ flat_map g (range_with_len 0 n)
each_alike f g zero same = refl
each_alike f g (suc n) same =
    let one_more : suc n ≡ n + 1 = omega arith in
    let front = each_alike f g n (λ k lt. same k (omega (arith, lt))) in
    let last = same n (omega arith) in
    let more = each_more f n ∙ ap (λ text. text ++ f n) front ∙ ap (λ text. flat_map g (range_with_len 0 n) ++ text) last ∙ sym (each_more g n) in
    subst (λ m. flat_map f (range_with_len 0 m) ≡ flat_map g (range_with_len 0 m)) (sym one_more) more

-- ---- frames

pub frames_live-none : (s : Parts) (rounds watch : ℕ) (counts : Counts) → frames_live s rounds watch counts 0 ≡ []
unfolding frames_live
frames_live-none s rounds watch counts = refl

pub frames_live-more : (s : Parts) (rounds watch : ℕ) (counts : Counts) (n : ℕ) → frames_live s rounds watch counts (n + 1) ≡ frames_live s rounds watch counts n ++ frame_live s rounds watch (counts n) n
unfolding frames_live
frames_live-more s rounds watch counts n = each_more (λ frame. frame_live s rounds watch (counts frame) frame) n

-- the lines of the first frames are told by the counts of these
pub frames_live-alike : (s : Parts) (rounds watch : ℕ) (counts others : Counts) (n : ℕ) → ((frame round o t : ℕ) → frame < n → counts frame round o t ≡ others frame round o t)
    → frames_live s rounds watch counts n ≡ frames_live s rounds watch others n
unfolding frames_live
frames_live-alike s rounds watch counts others n same =
    each_alike (λ frame. frame_live s rounds watch (counts frame) frame) (λ frame. frame_live s rounds watch (others frame) frame) n
    (λ frame lt. ap (λ (c : ℕ → ℕ → ℕ → ℕ). frame_live s rounds watch c frame) (λ i round o t. same frame round o t lt i))

-- ---- rounds of a frame

pub frame_live-none : (s : Parts) (watch : ℕ) (counts : ℕ → ℕ → ℕ → ℕ) (frame : ℕ) → frame_live s 0 watch counts frame ≡ []
unfolding frame_live
frame_live-none s watch counts frame = refl

pub frame_live-more : (s : Parts) (rounds watch : ℕ) (counts : ℕ → ℕ → ℕ → ℕ) (frame : ℕ)
    → frame_live s (rounds + 1) watch counts frame ≡ frame_live s rounds watch counts frame ++ round_lines s frame watch (counts rounds) rounds
unfolding frame_live
frame_live-more s rounds watch counts frame = each_more (λ round. round_lines s frame watch (counts round) round) rounds

-- the lines of the first rounds are told by the counts of these
pub frame_live-alike : (s : Parts) (rounds watch : ℕ) (counts others : ℕ → ℕ → ℕ → ℕ) (frame : ℕ) → ((round o t : ℕ) → round < rounds → counts round o t ≡ others round o t)
    → frame_live s rounds watch counts frame ≡ frame_live s rounds watch others frame
unfolding frame_live
frame_live-alike s rounds watch counts others frame same =
    each_alike (λ round. round_lines s frame watch (counts round) round) (λ round. round_lines s frame watch (others round) round) rounds
    (λ round lt. ap (λ (c : ℕ → ℕ → ℕ). round_lines s frame watch c round) (λ i o t. same round o t lt i))

-- ---- lines of a round

-- the lines of the first so many objects
abbrev pub lines_before : Parts → ℕ → (ℕ → ℕ → ℕ) → ℕ → ℕ → List ℕ
lines_before s frame counts round n = flat_map (λ o. object_line s frame round o (counts o)) (range_with_len 0 n)

pub lines_before-all : (s : Parts) (frame watch : ℕ) (counts : ℕ → ℕ → ℕ) (round : ℕ) → lines_before s frame counts round (watched s watch) ≡ round_lines s frame watch counts round
lines_before-all s frame watch counts round = refl

pub lines_before-more : (s : Parts) (frame : ℕ) (counts : ℕ → ℕ → ℕ) (round n : ℕ) → lines_before s frame counts round (n + 1) ≡ lines_before s frame counts round n ++ object_line s frame round n (counts n)
lines_before-more s frame counts round n = each_more (λ o. object_line s frame round o (counts o)) n

-- the lines of the first objects are told by the counts of these
pub lines_before-alike : (s : Parts) (frame : ℕ) (counts others : ℕ → ℕ → ℕ) (round n : ℕ) → ((o t : ℕ) → o < n → counts o t ≡ others o t) → lines_before s frame counts round n ≡ lines_before s frame others round n
lines_before-alike s frame counts others round n same =
    each_alike (λ o. object_line s frame round o (counts o)) (λ o. object_line s frame round o (others o)) n
    (λ o lt. ap (object_line s frame round o) (λ i t. same o t lt i))
