-- A place in a live text: the line of an object in a round of a frame. What stands before it, and what it and the rest are.
use Rattle.std.proofs.Common.{◌≡◌, ℕ, zero, suc, ◌+◌, ◌*◌, ◌<◌, ◌≤◌, List, [], ◌++◌, length, arith, refl, sym, ap, ◌∙◌, subst, append_assoc, inl, inr}
use Rattle.std.specs.List.{flat_map, range_with_len}
use Rattle.std.proofs.lemmas.Bool.{cases_lt}
use Rattle.std.proofs.lemmas.List.{append-nil}
use Rattle.cull_base.specs.Tiles.{tile_list}
use Rattle.scene_reader.specs.Layout.{IsScene, Parts}
use Rattle.cull_report.specs.Live.{Counts, IsBefore, IsRisingIn, IsStated, frame_live, frames_live, live_text, object_line, round_lines, watched}
use Rattle.cull_report.specs.Scene.{frame_list}
use Rattle.cull_report.proofs.LiveTexts.{each_more, frame_live-more}
use Rattle.live_check.specs.Fitting.{IsRisingTo, lines_to}
use Rattle.live_check.specs.Logs.{AreLines}
use Rattle.live_check.proofs.Lines.{each_lines, equal_fronts, more_lines, same_lines}
use Rattle.live_check.proofs.Texts.{line_of_object, line_tells, small_line, stated_at}

-- ---- one of some texts, those before it and those behind it

pub each_split : (f : ℕ → List ℕ) (k n : ℕ) → k < n → (more : List ℕ) × (flat_map f (range_with_len 0 n) ≡ flat_map f (range_with_len 0 k) ++ (f k ++ more))
each_split f k zero lt = absurd (omega (arith, lt))
each_split f k (suc n) lt =
    let next : suc n ≡ n + 1 = omega arith in
    let last : flat_map f (range_with_len 0 (suc n)) ≡ flat_map f (range_with_len 0 n) ++ f n = ap (λ (m : ℕ). flat_map f (range_with_len 0 m)) next ∙ each_more f n in
    elim (cases_lt k n) [
      | inl before ↦
          let (more, is) = each_split f k n before in (
            more ++ f n,
            last ∙ ap (λ (t : List ℕ). t ++ f n) is ∙ append_assoc (flat_map f (range_with_len 0 k)) (f k ++ more) (f n)
                ∙ ap (λ (t : List ℕ). flat_map f (range_with_len 0 k) ++ t) (append_assoc (f k) more (f n)),
          )
      | inr from ↦
          let here : n ≡ k = omega (arith, from, lt) in
          ([], last ∙ ap (λ (m : ℕ). flat_map f (range_with_len 0 m) ++ f m) here ∙ ap (λ (t : List ℕ). flat_map f (range_with_len 0 k) ++ t) (sym (append-nil (f k))))
    ]

-- ---- the text before a place

abbrev pub text_to : Parts → ℕ → ℕ → Counts → ℕ → ℕ → ℕ → List ℕ
text_to s rounds watch counts frame round object = frames_live s rounds watch counts frame ++ lines_to s watch frame (counts frame) round object

-- the line there, and what follows it
pub frame_split : (s : Parts) (rounds watch frame : ℕ) (counts : ℕ → ℕ → ℕ → ℕ) (round object : ℕ) → round < rounds → object < watched s watch
    → (more : List ℕ) × (frame_live s rounds watch counts frame ≡ lines_to s watch frame counts round object ++ (object_line s frame round object (counts round object) ++ more))
unfolding frame_live
frame_split s rounds watch frame counts round object lr lo =
    let (later, rounds_are) = each_split (λ r. round_lines s frame watch (counts r) r) round rounds lr in
    let (rest, objects_are) = each_split (λ o. object_line s frame round o (counts round o)) object (watched s watch) lo in
    let before = flat_map (λ r. round_lines s frame watch (counts r) r) (range_with_len 0 round) in
    let front = flat_map (λ o. object_line s frame round o (counts round o)) (range_with_len 0 object) in
    let here = object_line s frame round object (counts round object) in (
      rest ++ later,
      rounds_are ∙ ap (λ (t : List ℕ). before ++ (t ++ later)) objects_are
          ∙ ap (λ (t : List ℕ). before ++ t) (append_assoc front (here ++ rest) later ∙ ap (λ (t : List ℕ). front ++ t) (append_assoc here rest later))
          ∙ sym (append_assoc before front (here ++ (rest ++ later))),
    )

pub text_split : (s : Parts) (rounds watch : ℕ) (counts : Counts) (frame round object : ℕ) → frame < length s.cameras → round < rounds → object < watched s watch
    → (more : List ℕ) × (live_text s rounds watch counts ≡ text_to s rounds watch counts frame round object ++ (object_line s frame round object (counts frame round object) ++ more))
unfolding frames_live
text_split s rounds watch counts frame round object lf lr lo =
    let (later, frames_are) = each_split (λ f. frame_live s rounds watch (counts f) f) frame (length s.cameras) lf in
    let (rest, lines_are) = frame_split s rounds watch frame (counts frame) round object lr lo in
    let before = flat_map (λ f. frame_live s rounds watch (counts f) f) (range_with_len 0 frame) in
    let front = lines_to s watch frame (counts frame) round object in
    let here = object_line s frame round object (counts frame round object) in (
      rest ++ later,
      frames_are ∙ ap (λ (t : List ℕ). before ++ (t ++ later)) lines_are
          ∙ ap (λ (t : List ℕ). before ++ t) (append_assoc front (here ++ rest) later ∙ ap (λ (t : List ℕ). front ++ t) (append_assoc here rest later))
          ∙ sym (append_assoc before front (here ++ (rest ++ later))),
    )

-- ---- how many lines there are

-- the numbers of rounds and of watched objects are small
pub record AreFew (rounds watch : ℕ) : Type 0 where
  pub rounds_few : rounds ≤ 8
  pub watch_few : watch ≤ 8

watched_few : (s : Parts) (rounds watch : ℕ) → AreFew rounds watch → watched s watch ≤ 8
watched_few s rounds watch few = omega (arith, few.watch_few)

-- counts within the lists
abbrev pub AreWithin : Parts → ℕ → (ℕ → ℕ → ℕ → ℕ) → ℕ → ℕ → ℕ → Type 0
AreWithin s watch counts frame r o = (t : ℕ) → IsStated s frame o t → counts r o t ≤ length (tile_list t (frame_list s frame))

pub one_of : (s : Parts) (watch frame : ℕ) (counts : ℕ → ℕ → ℕ → ℕ) (r o : ℕ) → IsScene s → frame < 256 → r < 8 → o < 8 → AreWithin s watch counts frame r o → AreLines 1 (object_line s frame r o (counts r o))
one_of s watch frame counts r o scene lf lr lo within = line_of_object s frame r o (counts r o) (small_line s frame r o (counts r o) scene (omega (arith, lf)) (omega (arith, lr)) (omega (arith, lo)) within)

objects_lines : (s : Parts) (watch frame : ℕ) (counts : ℕ → ℕ → ℕ → ℕ) (r n : ℕ) → IsScene s → frame < 256 → r < 8 → n ≤ 8 → ((o : ℕ) → o < n → AreWithin s watch counts frame r o)
    → AreLines n (flat_map (λ o. object_line s frame r o (counts r o)) (range_with_len 0 n))
objects_lines s watch frame counts r n scene lf lr le within =
    same_lines (1 * n) n _ (omega arith) (each_lines (λ o. object_line s frame r o (counts r o)) 1 n (λ o lt. one_of s watch frame counts r o scene lf lr (omega (arith, lt, le)) (within o lt)))

rounds_lines : (s : Parts) (watch frame : ℕ) (counts : ℕ → ℕ → ℕ → ℕ) (n : ℕ) → IsScene s → frame < 256 → n ≤ 8 → watched s watch ≤ 8
    → ((r o : ℕ) → r < n → o < watched s watch → AreWithin s watch counts frame r o) → AreLines (watched s watch * n) (frame_live s n watch counts frame)
unfolding frame_live
rounds_lines s watch frame counts n scene lf le few within =
    each_lines (λ r. round_lines s frame watch (counts r) r) (watched s watch) n
    (λ r lt. objects_lines s watch frame counts r (watched s watch) scene lf (omega (arith, lt, le)) few (λ o lo. within r o lt lo))

pub frames_lines : (s : Parts) (rounds watch : ℕ) (counts : Counts) (n : ℕ) → IsScene s → AreFew rounds watch → n ≤ 256 → ((f : ℕ) → f < n → IsRisingIn s rounds watch f (counts f))
    → AreLines ((watched s watch * rounds) * n) (frames_live s rounds watch counts n)
unfolding frames_live
frames_lines s rounds watch counts n scene few le rising =
    each_lines (λ f. frame_live s rounds watch (counts f) f) (watched s watch * rounds) n
    (λ f lt. rounds_lines s watch f (counts f) rounds scene (omega (arith, lt, le)) few.rounds_few (watched_few s rounds watch few) (λ r o lr lo t stated. (rising f lt).within r o t (lr, lo) stated))

-- those of a frame before a place
pub place_lines : (s : Parts) (rounds watch frame : ℕ) (counts : ℕ → ℕ → ℕ → ℕ) (round object : ℕ) → IsScene s → AreFew rounds watch → frame < 256 → round < rounds → object < watched s watch
    → IsRisingTo s watch frame counts round object → AreLines (watched s watch * round + object) (lines_to s watch frame counts round object)
place_lines s rounds watch frame counts round object scene few lf lr lo rising =
    let w = watched s watch in
    let eight = watched_few s rounds watch few in
    more_lines (w * round) object (frame_live s round watch counts frame) (flat_map (λ o. object_line s frame round o (counts round o)) (range_with_len 0 object))
    (rounds_lines s watch frame counts round scene lf (omega (arith, lr, few.rounds_few)) eight (λ r o less in_round t stated. rising.within r o t in_round (inl less) stated))
    (objects_lines s watch frame counts round object scene lf (omega (arith, lr, few.rounds_few)) (omega (arith, lo, eight)) (λ o less t stated. rising.within round o t (omega (arith, less, lo)) (inr (refl, less)) stated))

-- a rising frame rises before each of its places
pub rising_to : (s : Parts) (rounds watch frame : ℕ) (counts : ℕ → ℕ → ℕ → ℕ) (round object : ℕ) → round < rounds → object < watched s watch → IsRisingIn s rounds watch frame counts → IsRisingTo s watch frame counts round object
rising_to s rounds watch frame counts round object lr lo rising = record {
  within = λ r o t in_round before stated. rising.within r o t (is_line r o before, in_round) stated;
  rises = λ r o p q t in_first in_second before between stated other. rising.rises r o p q t (is_first r o p q before between, in_first) (is_line p q before, in_second) between stated other;
}
  where
    is_line : (r o : ℕ) → IsBefore r o round object → r < rounds
    is_line r o before = elim before [ inl less ↦ omega (arith, less, lr) | inr same ↦ omega (arith, same.0, lr) ]

    is_first : (r o p q : ℕ) → IsBefore p q round object → IsBefore r o p q → r < rounds
    is_first r o p q before between = let below = is_line p q before in elim between [ inl less ↦ omega (arith, less, below) | inr same ↦ omega (arith, same.0, below) ]

-- ---- two texts before a place that are one tell the same counts

objects_agree : (s : Parts) (watch frame : ℕ) (c d : ℕ → ℕ → ℕ → ℕ) (r n : ℕ) → IsScene s → frame < 256 → r < 8 → n ≤ 8
    → ((o : ℕ) → o < n → AreWithin s watch c frame r o) → ((o : ℕ) → o < n → AreWithin s watch d frame r o)
    → flat_map (λ o. object_line s frame r o (c r o)) (range_with_len 0 n) ≡ flat_map (λ o. object_line s frame r o (d r o)) (range_with_len 0 n)
    → (o t : ℕ) → o < n → IsStated s frame o t → c r o t ≡ d r o t
objects_agree s watch frame c d r zero scene lf lr le wc wd e o t lt stated = absurd (omega (arith, lt))
objects_agree s watch frame c d r (suc n) scene lf lr le wc wd e o t lt stated =
    let f : ℕ → List ℕ = λ o. object_line s frame r o (c r o) in let g : ℕ → List ℕ = λ o. object_line s frame r o (d r o) in
    let next : suc n ≡ n + 1 = omega arith in
    let both : flat_map f (range_with_len 0 n) ++ f n ≡ flat_map g (range_with_len 0 n) ++ g n =
    sym (each_more f n) ∙ ap (λ (m : ℕ). flat_map f (range_with_len 0 m)) (sym next) ∙ e ∙ ap (λ (m : ℕ). flat_map g (range_with_len 0 m)) next ∙ each_more g n in
    let lc = objects_lines s watch frame c r n scene lf lr (omega (arith, le)) (λ p less. wc p (omega (arith, less))) in
    let ld = objects_lines s watch frame d r n scene lf lr (omega (arith, le)) (λ p less. wd p (omega (arith, less))) in
    let parts = equal_fronts n (flat_map f (range_with_len 0 n)) (flat_map g (range_with_len 0 n)) (f n) (g n) lc ld both in
    elim (cases_lt o n) [
      | inl before ↦ objects_agree s watch frame c d r n scene lf lr (omega (arith, le)) (λ p less. wc p (omega (arith, less))) (λ p less. wd p (omega (arith, less))) parts.0 o t before stated
      | inr from ↦
          let here : n ≡ o = omega (arith, from, lt) in
          let small_c = small_line s frame r n (c r n) scene (omega (arith, lf)) (omega (arith, lr)) (omega (arith, le)) (wc n (omega arith)) in
          let small_d = small_line s frame r n (d r n) scene (omega (arith, lf)) (omega (arith, lr)) (omega (arith, le)) (wd n (omega arith)) in
          let told = line_tells s frame r n (c r n) (d r n) small_c small_d parts.1 in
          subst (λ (p : ℕ). (IsStated s frame p t → c r p t ≡ d r p t)) here (λ x. stated_at s frame n (λ u. c r n u ≡ d r n u) told t x) stated
    ]

rounds_agree : (s : Parts) (watch frame : ℕ) (c d : ℕ → ℕ → ℕ → ℕ) (n : ℕ) → IsScene s → frame < 256 → n ≤ 8 → watched s watch ≤ 8
    → ((r o : ℕ) → r < n → o < watched s watch → AreWithin s watch c frame r o) → ((r o : ℕ) → r < n → o < watched s watch → AreWithin s watch d frame r o)
    → frame_live s n watch c frame ≡ frame_live s n watch d frame → (r o t : ℕ) → r < n → o < watched s watch → IsStated s frame o t → c r o t ≡ d r o t
rounds_agree s watch frame c d zero scene lf le few wc wd e r o t lr lo stated = absurd (omega (arith, lr))
rounds_agree s watch frame c d (suc n) scene lf le few wc wd e r o t lr lo stated =
    let next : suc n ≡ n + 1 = omega arith in
    let both = sym (frame_live-more s n watch c frame) ∙ ap (λ (m : ℕ). frame_live s m watch c frame) (sym next) ∙ e ∙ ap (λ (m : ℕ). frame_live s m watch d frame) next ∙ frame_live-more s n watch d frame in
    let lines_c = rounds_lines s watch frame c n scene lf (omega (arith, le)) few (λ p q less in_round. wc p q (omega (arith, less)) in_round) in
    let lines_d = rounds_lines s watch frame d n scene lf (omega (arith, le)) few (λ p q less in_round. wd p q (omega (arith, less)) in_round) in
    let parts = equal_fronts (watched s watch * n) (frame_live s n watch c frame) (frame_live s n watch d frame) (round_lines s frame watch (c n) n) (round_lines s frame watch (d n) n) lines_c lines_d both in
    elim (cases_lt r n) [
      | inl before ↦
          rounds_agree s watch frame c d n scene lf (omega (arith, le)) few (λ p q less in_round. wc p q (omega (arith, less)) in_round) (λ p q less in_round. wd p q (omega (arith, less)) in_round) parts.0 r o t before lo stated
      | inr from ↦
          let here : n ≡ r = omega (arith, from, lr) in
          let last = objects_agree s watch frame c d n (watched s watch) scene lf (omega (arith, le)) few (λ p in_round. wc n p (omega arith) in_round) (λ p in_round. wd n p (omega arith) in_round) parts.1 o t lo stated in
          subst (λ (p : ℕ). c p o t ≡ d p o t) here last
    ]

pub places_agree : (s : Parts) (rounds watch frame : ℕ) (c d : ℕ → ℕ → ℕ → ℕ) (round object : ℕ) → IsScene s → AreFew rounds watch → frame < 256 → round < rounds → object < watched s watch
    → IsRisingTo s watch frame c round object → IsRisingTo s watch frame d round object → lines_to s watch frame c round object ≡ lines_to s watch frame d round object
    → (r o t : ℕ) → o < watched s watch → IsBefore r o round object → IsStated s frame o t → c r o t ≡ d r o t
places_agree s rounds watch frame c d round object scene few lf lr lo rc rd e r o t in_round before stated =
    let eight = watched_few s rounds watch few in
    let w = watched s watch in
    let line_c : (p q : ℕ) → p < round → q < w → AreWithin s watch c frame p q = λ p q less q_in u st. rc.within p q u q_in (inl less) st in
    let line_d : (p q : ℕ) → p < round → q < w → AreWithin s watch d frame p q = λ p q less q_in u st. rd.within p q u q_in (inl less) st in
    let lines_c = rounds_lines s watch frame c round scene lf (omega (arith, lr, few.rounds_few)) eight line_c in
    let lines_d = rounds_lines s watch frame d round scene lf (omega (arith, lr, few.rounds_few)) eight line_d in
    let parts = equal_fronts (w * round) (frame_live s round watch c frame) (frame_live s round watch d frame) _ _ lines_c lines_d e in
    elim before [
      | inl less ↦ rounds_agree s watch frame c d round scene lf (omega (arith, lr, few.rounds_few)) eight line_c line_d parts.0 r o t less in_round stated
      | inr same ↦
          let last = objects_agree s watch frame c d round object scene lf (omega (arith, lr, few.rounds_few)) (omega (arith, lo, eight))
          (λ p less u st. rc.within round p u (omega (arith, less, lo)) (inr (refl, less)) st) (λ p less u st. rd.within round p u (omega (arith, less, lo)) (inr (refl, less)) st) parts.1 o t same.1 stated in
          subst (λ (p : ℕ). c p o t ≡ d p o t) (sym same.0) last
    ]
