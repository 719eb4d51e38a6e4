-- Counts that fit so far go on: with whole lists behind them.
use Rattle.std.proofs.Common.{◌≡◌, ℕ, ◌<◌, ◌≤◌, ◌⊎◌, Bool, true, false, cond, ◌&&◌, ◌||◌, nat_lt, nat_eq, List, ◌++◌, length, arith, refl, sym, ap, ◌∙◌, subst, inl, inr}
use Rattle.std.specs.List.{flat_map, range_with_len}
use Rattle.std.proofs.lemmas.Bool.{cases_eq, cases_lt, eq-eqb, le-ltb, lt-ltb, ne_eqb}
use Rattle.cull_base.specs.Tiles.{tile_list}
use Rattle.scene_reader.specs.Layout.{Parts}
use Rattle.cull_report.specs.Live.{Counts, IsBefore, IsRising, IsRisingIn, IsStated, frame_live, frames_live, object_line, watched}
use Rattle.cull_report.specs.Scene.{frame_list}
use Rattle.cull_report.proofs.LiveTexts.{frame_live-alike, frames_live-alike, lines_before-alike}
use Rattle.live_check.specs.Fitting.{IsNext, IsRisingTo, lines_to}
use Rattle.live_check.proofs.Places.{text_to}

-- ---- counts up to a place, and others behind it

-- whether line (r, o) stands before (p, q)
abbrev pub is_before : ℕ → ℕ → ℕ → ℕ → Bool
is_before r o p q = nat_lt r p || (nat_eq r p && nat_lt o q)

before_true : (r o p q : ℕ) → IsBefore r o p q → is_before r o p q ≡ true
before_true r o p q before = elim before [
  | inl less ↦ ap (λ (b : Bool). b || (nat_eq r p && nat_lt o q)) (lt-ltb r p less)
  | inr same ↦
      let no : nat_lt r p ≡ false = le-ltb r p (omega (arith, same.0)) in
      ap (λ (b : Bool). b || (nat_eq r p && nat_lt o q)) no ∙ ap (λ (b : Bool). b && nat_lt o q) (eq-eqb r p same.0) ∙ lt-ltb o q same.1
]

before_false : (r o p q : ℕ) → (IsBefore r o p q → ⊥) → is_before r o p q ≡ false
before_false r o p q never = elim (cases_lt r p) [
  | inl less ↦ absurd (never (inl less))
  | inr from ↦ elim (cases_eq r p) [
    | inl same ↦
        let late : q ≤ o = elim (cases_lt o q) [ inl lo ↦ absurd (never (inr (same, lo))) | inr le ↦ le ] in
        ap (λ (b : Bool). b || (nat_eq r p && nat_lt o q)) (le-ltb r p from) ∙ ap (λ (b : Bool). b && nat_lt o q) (eq-eqb r p same) ∙ le-ltb o q late
    | inr other ↦ ap (λ (b : Bool). b || (nat_eq r p && nat_lt o q)) (le-ltb r p from) ∙ ap (λ (b : Bool). b && nat_lt o q) (ne_eqb r p other)
  ]
]

-- line (r, o) stands before a place or not
pub before_or : (r o p q : ℕ) → IsBefore r o p q ⊎ (IsBefore r o p q → ⊥)
before_or r o p q = elim (cases_lt r p) [
  | inl less ↦ inl (inl less)
  | inr from ↦ elim (cases_eq r p) [
    | inl same ↦ elim (cases_lt o q) [
      | inl lo ↦ inl (inr (same, lo))
      | inr le ↦ inr (λ before. elim before [ inl less ↦ omega (arith, less, from) | inr both ↦ omega (arith, both.1, le) ])
    ]
    | inr other ↦ inr (λ before. elim before [ inl less ↦ omega (arith, less, from) | inr both ↦ other both.0 ])
  ]
]

-- these counts before a place of a frame, and whole lists from there on
abbrev pub gone_on : Parts → ℕ → (ℕ → ℕ → ℕ → ℕ) → ℕ → ℕ → ℕ → ℕ → ℕ → ℕ
gone_on s frame counts round object r o t = cond (is_before r o round object) (counts r o t) (length (tile_list t (frame_list s frame)))

gone_before : (s : Parts) (frame : ℕ) (counts : ℕ → ℕ → ℕ → ℕ) (round object r o t : ℕ) → IsBefore r o round object → gone_on s frame counts round object r o t ≡ counts r o t
gone_before s frame counts round object r o t before = ap (λ (b : Bool). cond b (counts r o t) (length (tile_list t (frame_list s frame)))) (before_true r o round object before)

gone_behind : (s : Parts) (frame : ℕ) (counts : ℕ → ℕ → ℕ → ℕ) (round object r o t : ℕ) → (IsBefore r o round object → ⊥) → gone_on s frame counts round object r o t ≡ length (tile_list t (frame_list s frame))
gone_behind s frame counts round object r o t never = ap (λ (b : Bool). cond b (counts r o t) (length (tile_list t (frame_list s frame)))) (before_false r o round object never)

-- a line before one that is before a place is before it too
before_then : (r o p q round object : ℕ) → IsBefore r o p q → IsBefore p q round object → IsBefore r o round object
before_then r o p q round object first second = elim first [
  | inl less ↦ elim second [ inl more ↦ inl (omega (arith, less, more)) | inr same ↦ inl (omega (arith, less, same.0)) ]
  | inr same ↦ elim second [ inl more ↦ inl (omega (arith, same.0, more)) | inr both ↦ inr (omega (arith, same.0, both.0), omega (arith, same.1, both.1)) ]
]

-- they rise in the frame
pub gone_rises : (s : Parts) (rounds watch frame : ℕ) (counts : ℕ → ℕ → ℕ → ℕ) (round object : ℕ) → IsRisingTo s watch frame counts round object
    → IsRisingIn s rounds watch frame (gone_on s frame counts round object)
gone_rises s rounds watch frame counts round object rising = record {
  within = λ r o t line stated. within r o t line.1 stated;
  rises = λ r o p q t line other before stated then. elim (before_or p q round object) [
    | inl early ↦
        let first = before_then r o p q round object before early in
        omega (arith, rising.rises r o p q t line.1 other.1 early before stated then, gone_before s frame counts round object r o t first, gone_before s frame counts round object p q t early)
    | inr late ↦ omega (arith, within r o t line.1 stated, gone_behind s frame counts round object p q t late)
  ];
}
  where
    within : (r o t : ℕ) → o < watched s watch → IsStated s frame o t → gone_on s frame counts round object r o t ≤ length (tile_list t (frame_list s frame))
    within r o t lo stated = elim (before_or r o round object) [
      | inl early ↦ omega (arith, rising.within r o t lo early stated, gone_before s frame counts round object r o t early)
      | inr late ↦ omega (arith, gone_behind s frame counts round object r o t late)
    ]

-- and the lines before the place are the same
pub gone_lines : (s : Parts) (watch frame : ℕ) (counts : ℕ → ℕ → ℕ → ℕ) (round object : ℕ) → lines_to s watch frame (gone_on s frame counts round object) round object ≡ lines_to s watch frame counts round object
gone_lines s watch frame counts round object =
    let rounds = frame_live-alike s round watch (gone_on s frame counts round object) counts frame (λ r o t less. gone_before s frame counts round object r o t (inl less)) in
    let objects = lines_before-alike s frame (gone_on s frame counts round object round) (counts round) round object (λ o t less. gone_before s frame counts round object round o t (inr (refl, less))) in
    ap (λ (t : List ℕ). t ++ flat_map (λ o. object_line s frame round o (gone_on s frame counts round object round o)) (range_with_len 0 object)) rounds
    ∙ ap (λ (t : List ℕ). frame_live s round watch counts frame ++ t) objects

-- ---- the same of a whole text

-- these counts before a frame, those of the frame so far, and whole lists from there on
abbrev pub all_gone_on : Parts → Counts → ℕ → (ℕ → ℕ → ℕ → ℕ) → ℕ → ℕ → Counts
all_gone_on s before frame counts round object f =
    cond (nat_lt f frame) (before f) (cond (nat_eq f frame) (gone_on s frame counts round object) (gone_on s f (before f) 0 0))

earlier_frame : (s : Parts) (before : Counts) (frame : ℕ) (counts : ℕ → ℕ → ℕ → ℕ) (round object f : ℕ) → f < frame → all_gone_on s before frame counts round object f ≡ before f
earlier_frame s before frame counts round object f lt =
    ap (λ (b : Bool). cond b (before f) (cond (nat_eq f frame) (gone_on s frame counts round object) (gone_on s f (before f) 0 0))) (lt-ltb f frame lt)

this_frame : (s : Parts) (before : Counts) (frame : ℕ) (counts : ℕ → ℕ → ℕ → ℕ) (round object : ℕ) → all_gone_on s before frame counts round object frame ≡ gone_on s frame counts round object
this_frame s before frame counts round object =
    ap (λ (b : Bool). cond b (before frame) (cond (nat_eq frame frame) (gone_on s frame counts round object) (gone_on s frame (before frame) 0 0))) (le-ltb frame frame (omega arith))
    ∙ ap (λ (b : Bool). cond b (gone_on s frame counts round object) (gone_on s frame (before frame) 0 0)) (eq-eqb frame frame refl)

later_frame : (s : Parts) (before : Counts) (frame : ℕ) (counts : ℕ → ℕ → ℕ → ℕ) (round object f : ℕ) → frame < f → all_gone_on s before frame counts round object f ≡ gone_on s f (before f) 0 0
later_frame s before frame counts round object f lt =
    ap (λ (b : Bool). cond b (before f) (cond (nat_eq f frame) (gone_on s frame counts round object) (gone_on s f (before f) 0 0))) (le-ltb f frame (omega (arith, lt)))
    ∙ ap (λ (b : Bool). cond b (gone_on s frame counts round object) (gone_on s f (before f) 0 0)) (ne_eqb f frame (λ e. omega (arith, e, lt)))

-- nothing stands before the first place
none_before : (s : Parts) (watch frame : ℕ) (counts : ℕ → ℕ → ℕ → ℕ) → IsRisingTo s watch frame counts 0 0
none_before s watch frame counts = record {
  within = λ r o t lo before stated. absurd (never r o before);
  rises = λ r o p q t lo lq before between stated then. absurd (never p q before);
}
  where
    never : (r o : ℕ) → IsBefore r o 0 0 → ⊥
    never r o before = elim before [ inl less ↦ omega (arith, less) | inr same ↦ omega (arith, same.1) ]

-- they rise
pub all_gone_rises : (s : Parts) (rounds watch : ℕ) (before : Counts) (frame : ℕ) (counts : ℕ → ℕ → ℕ → ℕ) (round object : ℕ) → ((f : ℕ) → f < frame → IsRisingIn s rounds watch f (before f))
    → IsRisingTo s watch frame counts round object → IsRising s rounds watch (all_gone_on s before frame counts round object)
all_gone_rises s rounds watch before frame counts round object earlier rising f lt = elim (cases_lt f frame) [
  | inl less ↦ subst (IsRisingIn s rounds watch f) (sym (earlier_frame s before frame counts round object f less)) (earlier f less)
  | inr from ↦ elim (cases_eq f frame) [
    | inl same ↦
        subst (λ (g : ℕ). IsRisingIn s rounds watch g (all_gone_on s before frame counts round object g)) (sym same)
        (subst (IsRisingIn s rounds watch frame) (sym (this_frame s before frame counts round object)) (gone_rises s rounds watch frame counts round object rising))
    | inr other ↦
        let more : frame < f = omega (arith, from, other) in
        subst (IsRisingIn s rounds watch f) (sym (later_frame s before frame counts round object f more)) (gone_rises s rounds watch f (before f) 0 0 (none_before s watch f (before f)))
  ]
]

-- and the text before the place is the same
pub all_gone_text : (s : Parts) (rounds watch : ℕ) (before : Counts) (frame : ℕ) (counts : ℕ → ℕ → ℕ → ℕ) (round object : ℕ)
    → text_to s rounds watch (all_gone_on s before frame counts round object) frame round object ≡ frames_live s rounds watch before frame ++ lines_to s watch frame counts round object
all_gone_text s rounds watch before frame counts round object =
    let gone = all_gone_on s before frame counts round object in
    let frames = frames_live-alike s rounds watch gone before frame (λ f r o t less. ap (λ (c : ℕ → ℕ → ℕ → ℕ). c r o t) (earlier_frame s before frame counts round object f less)) in
    let lines = ap (λ (c : ℕ → ℕ → ℕ → ℕ). lines_to s watch frame c round object) (this_frame s before frame counts round object) ∙ gone_lines s watch frame counts round object in
    ap (λ (t : List ℕ). t ++ lines_to s watch frame (gone frame) round object) frames ∙ ap (λ (t : List ℕ). frames_live s rounds watch before frame ++ t) lines

-- counts that rise before a place and are the same there as others let these fit
pub next_of : (s : Parts) (rounds watch frame : ℕ) (c d : ℕ → ℕ → ℕ → ℕ) (round object : ℕ) → round < rounds → object < watched s watch → IsRisingIn s rounds watch frame d
    → ((r o t : ℕ) → o < watched s watch → IsBefore r o round object → IsStated s frame o t → c r o t ≡ d r o t) → IsNext s watch frame c round object (d round object)
next_of s rounds watch frame c d round object lr lo rising same = record {
  within = λ t stated. rising.within round object t (lr, lo) stated;
  rises = λ r o t in_round before stated then.
      omega (arith, same r o t in_round before stated, rising.rises r o round object t (is_line r o before, in_round) (lr, lo) before stated then);
}
  where
    is_line : (r o : ℕ) → IsBefore r o round object → r < rounds
    is_line r o before = elim before [ inl less ↦ omega (arith, less, lr) | inr both ↦ omega (arith, both.0, lr) ]
