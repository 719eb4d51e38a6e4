-- The lines of a round, and of a frame, one after the other: their counts go on rising.
use Rattle.std.proofs.Common.{◌≡◌, ℕ, ◌+◌, ◌*◌, ◌<◌, ◌≤◌, ◌⊎◌, Bool, true, false, cond, ◌&&◌, nat_eq, List, [], ◌++◌, Option, arith, refl, sym, ap, ◌∙◌, subst, inl, inr}
use Rattle.std.specs.List.{flat_map, range_with_len}
use Rattle.std.proofs.lemmas.Bool.{cases_lt, eq-eqb, ne_eqb}
use Rattle.cull_base.specs.Rectangle.{meets}
use Rattle.cull_base.specs.Screen.{tile_count_of, tile_rect_of}
use Rattle.scene_reader.specs.Layout.{Parts}
use Rattle.cull_report.specs.Live.{IsBefore, IsStated, frame_live, object_at, object_line, round_lines, watched}
use Rattle.cull_report.specs.Scene.{object_area, size_of}
use Rattle.cull_report.proofs.LiveTexts.{frame_live-alike, frame_live-more, frame_live-none, lines_before-alike, lines_before-more}
use Rattle.live_check.specs.Fitting.{AreBefore, AreLast, FitsAt, FrameComes, FrameStops, IsRisingTo, LineComes, RoundComes, RoundStops}
use Rattle.live_check.specs.Waiting.{Came, NeverComes}
use Rattle.live_check.proofs.Frames.{came_as, came_none, came_then}

-- ---- counts with those of one line more

abbrev pub with_line : (ℕ → ℕ → ℕ → ℕ) → ℕ → ℕ → (ℕ → ℕ) → ℕ → ℕ → ℕ → ℕ
with_line counts round n k r o t = cond (nat_eq r round && nat_eq o n) (k t) (counts r o t)

line_here : (counts : ℕ → ℕ → ℕ → ℕ) (round n : ℕ) (k : ℕ → ℕ) (r o t : ℕ) → r ≡ round → o ≡ n → with_line counts round n k r o t ≡ k t
line_here counts round n k r o t re oe =
    ap (λ (b : Bool). cond (b && nat_eq o n) (k t) (counts r o t)) (eq-eqb r round re) ∙ ap (λ (b : Bool). cond b (k t) (counts r o t)) (eq-eqb o n oe)

line_other : (counts : ℕ → ℕ → ℕ → ℕ) (round n : ℕ) (k : ℕ → ℕ) (r o t : ℕ) → IsBefore r o round n → with_line counts round n k r o t ≡ counts r o t
line_other counts round n k r o t before = elim before [
  | inl less ↦ ap (λ (b : Bool). cond (b && nat_eq o n) (k t) (counts r o t)) (ne_eqb r round (λ e. omega (arith, e, less)))
  | inr same ↦
      ap (λ (b : Bool). cond (b && nat_eq o n) (k t) (counts r o t)) (eq-eqb r round same.0)
      ∙ ap (λ (b : Bool). cond b (k t) (counts r o t)) (ne_eqb o n (λ e. omega (arith, e, same.1)))
]

-- a line before the next place stands before this one, or at it
before_next : (r o round n : ℕ) → IsBefore r o round (n + 1) → IsBefore r o round n ⊎ ((r ≡ round) × (o ≡ n))
before_next r o round n before = elim before [
  | inl less ↦ inl (inl less)
  | inr same ↦ elim (cases_lt o n) [ inl lo ↦ inl (inr (same.0, lo)) | inr le ↦ inr (same.0, omega (arith, le, same.1)) ]
]

-- whether a line states a tile
stated_or : (s : Parts) (frame o t : ℕ) → t < tile_count_of (size_of s) → IsStated s frame o t ⊎ (IsStated s frame o t → ⊥)
stated_or s frame o t lt = by (meets (object_area s frame (object_at s o)) (tile_rect_of (size_of s) t)) refl
  where
    by : (b : Bool) → meets (object_area s frame (object_at s o)) (tile_rect_of (size_of s) t) ≡ b → IsStated s frame o t ⊎ (IsStated s frame o t → ⊥)
    by true e = inl (record { on_screen = lt; met = e })
    by false e = inr (λ stated. let no : true ≡ false = sym stated.met ∙ e in absurd cc)

-- ---- the first lines of a round

-- the lines of the first n objects came, of counts that go on rising; the tiles stand at the last ones
pub record RoundSoFar (s : Parts) (watch frame : ℕ) (counts : ℕ → ℕ → ℕ → ℕ) (round n : ℕ) (at : ℕ → ℕ) (a b : Option (List ℕ)) : Type 0 where
  pub more : ℕ → ℕ → ℕ → ℕ
  pub same : AreBefore counts more round
  pub rising : IsRisingTo s watch frame more round n
  pub last : AreLast s watch frame more round n at
  pub came : Came a b (flat_map (λ o. object_line s frame round o (more round o)) (range_with_len 0 n))

pub round_begin : (s : Parts) (watch frame : ℕ) (counts : ℕ → ℕ → ℕ → ℕ) (round : ℕ) (at : ℕ → ℕ) (o : Option (List ℕ)) → IsRisingTo s watch frame counts round 0 → AreLast s watch frame counts round 0 at
    → RoundSoFar s watch frame counts round 0 at o o
round_begin s watch frame counts round at o rising last = record { more = counts; same = λ r p t lt. refl; rising = rising; last = last; came = came_none o }

pub round_next : (s : Parts) (watch frame : ℕ) (counts : ℕ → ℕ → ℕ → ℕ) (round n : ℕ) (at now : ℕ → ℕ) (a b c : Option (List ℕ)) → n < watched s watch → RoundSoFar s watch frame counts round n at a b
    → LineComes s frame round n at now b c → RoundSoFar s watch frame counts round (n + 1) now a c
round_next s watch frame counts round n at now a b c in_round so line = record {
  more = with_line so.more round n now;
  same = λ r o t lt. line_other so.more round n now r o t (inl lt) ∙ so.same r o t lt;
  rising = record {
    within = λ r o t lo before stated. elim (before_next r o round n before) [
      | inl early ↦ omega (arith, so.rising.within r o t lo early stated, line_other so.more round n now r o t early)
      | inr here ↦ omega (arith, line.fits.within t (subst (λ (p : ℕ). IsStated s frame p t) here.1 stated), line_here so.more round n now r o t here.0 here.1)
    ];
    rises = λ r o p q t lo lq second before stated then. elim (before_next p q round n second) [
      | inl early ↦
          let first = earlier r o p q early before in
          omega (arith, so.rising.rises r o p q t lo lq early before stated then, line_other so.more round n now r o t first, line_other so.more round n now p q t early)
      | inr here ↦
          let first : IsBefore r o round n = subst (λ (x : ℕ). IsBefore r o round x) here.1 (subst (λ (x : ℕ). IsBefore r o x q) here.0 before) in
          omega (arith, so.last.below r o t lo first stated, line.fits.rises t (subst (λ (x : ℕ). IsStated s frame x t) here.1 then), line_other so.more round n now r o t first, line_here so.more round n now p q t here.0 here.1)
    ];
  };
  last = record {
    below = λ r o t lo before stated. elim (before_next r o round n before) [
      | inl early ↦ omega (arith, so.last.below r o t lo early stated, line_other so.more round n now r o t early, at_most t stated.on_screen)
      | inr here ↦ omega (arith, line_here so.more round n now r o t here.0 here.1)
    ];
    from = λ t lt. elim (stated_or s frame n t lt) [
      | inl stated ↦ inr (round, n, in_round, inr (refl, omega arith), stated, line_here so.more round n now round n t refl refl)
      | inr not ↦ elim (so.last.from t lt) [
        | inl none ↦ inl (omega (arith, none, line.others t lt not))
        | inr some ↦
            let (r, o, lo, before, stated, is) = some in
            inr (r, o, lo, later r o before, stated, line_other so.more round n now r o t before ∙ is ∙ sym (line.others t lt not))
      ]
    ];
  };
  came = came_as a c _ _ text (came_then a b c (flat_map (λ o. object_line s frame round o (so.more round o)) (range_with_len 0 n)) (object_line s frame round n now) so.came line.came);
}
  where
    earlier : (r o p q : ℕ) → IsBefore p q round n → IsBefore r o p q → IsBefore r o round n
    earlier r o p q second first = elim first [
      | inl less ↦ elim second [ inl x ↦ inl (omega (arith, less, x)) | inr y ↦ inl (omega (arith, less, y.0)) ]
      | inr same ↦ elim second [ inl x ↦ inl (omega (arith, same.0, x)) | inr y ↦ inr (omega (arith, same.0, y.0), omega (arith, same.1, y.1)) ]
    ]

    later : (r o : ℕ) → IsBefore r o round n → IsBefore r o round (n + 1)
    later r o before = elim before [ inl less ↦ inl less | inr same ↦ inr (same.0, omega (arith, same.1)) ]

    at_most : (t : ℕ) → t < tile_count_of (size_of s) → at t ≤ now t
    at_most t lt = elim (stated_or s frame n t lt) [ inl stated ↦ line.fits.rises t stated | inr not ↦ omega (arith, line.others t lt not) ]

    text : flat_map (λ o. object_line s frame round o (so.more round o)) (range_with_len 0 n) ++ object_line s frame round n now
        ≡ flat_map (λ o. object_line s frame round o (with_line so.more round n now round o)) (range_with_len 0 (n + 1))
    text =
        let before = lines_before-alike s frame (so.more round) (with_line so.more round n now round) round n (λ o t lt. sym (line_other so.more round n now round o t (inr (refl, lt)))) in
        let here : object_line s frame round n now ≡ object_line s frame round n (with_line so.more round n now round n) = ap (object_line s frame round n) (λ i t. sym (line_here so.more round n now round n t refl refl) i) in
        ap (λ (t : List ℕ). t ++ object_line s frame round n now) before
        ∙ ap (λ (t : List ℕ). flat_map (λ o. object_line s frame round o (with_line so.more round n now round o)) (range_with_len 0 n) ++ t) here
        ∙ sym (lines_before-more s frame (with_line so.more round n now round) round n)

-- a line before the next round stands before the end of this one
before_round : (s : Parts) (watch r o round : ℕ) → o < watched s watch → IsBefore r o (round + 1) 0 → IsBefore r o round (watched s watch)
before_round s watch r o round lo before = elim before [
  | inl less ↦ elim (cases_lt r round) [ inl early ↦ inl early | inr from ↦ inr (omega (arith, from, less), lo) ]
  | inr same ↦ absurd (omega (arith, same.1))
]

pub round_end : (s : Parts) (watch frame : ℕ) (counts : ℕ → ℕ → ℕ → ℕ) (round n : ℕ) (at : ℕ → ℕ) (a b : Option (List ℕ)) → n ≡ watched s watch → RoundSoFar s watch frame counts round n at a b → RoundComes s watch frame counts round at a b
round_end s watch frame counts round n at a b all so = record {
  more = so.more;
  same = so.same;
  rising = record {
    within = λ r o t lo before stated. so.rising.within r o t lo (in_round r o lo before) stated;
    rises = λ r o p q t lo lq second before stated then. so.rising.rises r o p q t lo lq (in_round p q lq second) before stated then;
  };
  last = record {
    below = λ r o t lo before stated. so.last.below r o t lo (in_round r o lo before) stated;
    from = λ t lt. elim (so.last.from t lt) [
      | inl none ↦ inl none
      | inr some ↦ let (r, o, lo, before, stated, is) = some in inr (r, o, lo, inl (below r o before), stated, is)
    ];
  };
  came = subst (λ (k : ℕ). Came a b (flat_map (λ o. object_line s frame round o (so.more round o)) (range_with_len 0 k))) all so.came;
}
  where
    in_round : (r o : ℕ) → o < watched s watch → IsBefore r o (round + 1) 0 → IsBefore r o round n
    in_round r o lo before = subst (λ (k : ℕ). IsBefore r o round k) (sym all) (before_round s watch r o round lo before)

    below : (r o : ℕ) → IsBefore r o round n → r < round + 1
    below r o before = elim before [ inl less ↦ omega (arith, less) | inr same ↦ omega (arith, same.0) ]

-- a line that doesn't come, whatever counts it states that fit where the tiles stand
pub round_stop : (s : Parts) (watch frame : ℕ) (counts : ℕ → ℕ → ℕ → ℕ) (round n : ℕ) (at : ℕ → ℕ) (a b : Option (List ℕ)) → n < watched s watch → RoundSoFar s watch frame counts round n at a b
    → ((k : ℕ → ℕ) → FitsAt s frame n at k → NeverComes b (object_line s frame round n k)) → RoundStops s watch frame counts round a n
round_stop s watch frame counts round n at a b in_round so never = record {
  more = so.more;
  same = so.same;
  rising = so.rising;
  is_object = in_round;
  left = b;
  came = so.came;
  stops = λ k next. never k (record {
    within = next.within;
    rises = λ t stated. elim (so.last.from t stated.on_screen) [
      | inl none ↦ omega (arith, none)
      | inr some ↦ let (r, o, lo, before, first, is) = some in omega (arith, is, next.rises r o t lo before first stated)
    ];
  });
}

-- ---- the first rounds of a frame

pub record FrameSoFar (s : Parts) (watch frame round : ℕ) (at : ℕ → ℕ) (a b : Option (List ℕ)) : Type 0 where
  pub counts : ℕ → ℕ → ℕ → ℕ
  pub rising : IsRisingTo s watch frame counts round 0
  pub last : AreLast s watch frame counts round 0 at
  pub came : Came a b (frame_live s round watch counts frame)

pub frame_begin : (s : Parts) (watch frame : ℕ) (at : ℕ → ℕ) (o : Option (List ℕ)) → ((t : ℕ) → t < tile_count_of (size_of s) → at t ≡ 0) → FrameSoFar s watch frame 0 at o o
frame_begin s watch frame at o none = record {
  counts = λ r p t. 0;
  rising = record { within = λ r p t lp before stated. omega arith; rises = λ r p x y t lp ly second before stated then. omega arith };
  last = record { below = λ r p t lp before stated. omega arith; from = λ t lt. inl (none t lt) };
  came = came_as o o [] _ (sym (frame_live-none s watch (λ r p t. 0) frame)) (came_none o);
}

pub frame_next : (s : Parts) (watch frame round : ℕ) (at now : ℕ → ℕ) (a b c : Option (List ℕ)) (so : FrameSoFar s watch frame round at a b) → RoundComes s watch frame so.counts round now b c → FrameSoFar s watch frame (round + 1) now a c
frame_next s watch frame round at now a b c so r =
    let before = frame_live-alike s round watch so.counts r.more frame (λ x o t lt. sym (r.same x o t lt)) in
    let text = ap (λ (t : List ℕ). t ++ round_lines s frame watch (r.more round) round) before ∙ sym (frame_live-more s round watch r.more frame) in
    record {
      counts = r.more;
      rising = r.rising;
      last = r.last;
      came = came_as a c _ _ text (came_then a b c (frame_live s round watch so.counts frame) (round_lines s frame watch (r.more round) round) so.came r.came);
    }

pub frame_end : (s : Parts) (rounds watch frame n : ℕ) (at : ℕ → ℕ) (a b : Option (List ℕ)) → n ≡ rounds → FrameSoFar s watch frame n at a b → FrameComes s rounds watch frame a b
frame_end s rounds watch frame n at a b all so = record {
  counts = so.counts;
  rising = record {
    within = λ r o t line stated. so.rising.within r o t line.1 (inl (omega (arith, line.0, all))) stated;
    rises = λ r o p q t line other before stated then. so.rising.rises r o p q t line.1 other.1 (inl (omega (arith, other.0, all))) before stated then;
  };
  came = subst (λ (k : ℕ). Came a b (frame_live s k watch so.counts frame)) all so.came;
}

pub frame_stop : (s : Parts) (rounds watch frame round objects n : ℕ) (at : ℕ → ℕ) (a b : Option (List ℕ)) → round < rounds → objects ≡ watched s watch → (so : FrameSoFar s watch frame round at a b)
    → RoundStops s watch frame so.counts round b n → FrameStops s rounds watch frame a (round * objects + n)
frame_stop s rounds watch frame round objects n at a b lt is so r =
    let before = frame_live-alike s round watch so.counts r.more frame (λ x o t less. sym (r.same x o t less)) in
    record {
      counts = r.more;
      round = round;
      object = n;
      is_line = (lt, r.is_object);
      place = ap (λ (w : ℕ). round * w + n) is;
      rising = r.rising;
      left = r.left;
      came = came_as a r.left _ _ (ap (λ (t : List ℕ). t ++ flat_map (λ o. object_line s frame round o (r.more round o)) (range_with_len 0 n)) before)
          (came_then a b r.left (frame_live s round watch so.counts frame) (flat_map (λ o. object_line s frame round o (r.more round o)) (range_with_len 0 n)) so.came r.came);
      stops = r.stops;
    }
