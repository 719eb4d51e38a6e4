-- The answer on a log: from what came of it.
use Rattle.std.proofs.Common.{◌≡◌, ℕ, zero, suc, ◌+◌, ◌-◌, ◌*◌, ◌<◌, ◌≤◌, List, [], ◌∷◌, ◌++◌, length, arith, refl, sym, ap, ◌∙◌, subst, append_assoc, inl, inr, Option, Some, None}
use Rattle.std.specs.Prelude.{IfSome}
use Rattle.std.specs.List.{flat_map, range_with_len}
use Rattle.std.specs.Option.{option_map}
use Rattle.std.proofs.lemmas.Bool.{cases_lt}
use Rattle.std.proofs.lemmas.List.{append-nil}
use Rattle.std.proofs.Math.Nat.{mul_comm}
use Rattle.std.proofs.lemmas.Nat.{mul-le}
use Rattle.std.proofs.lemmas.Option.{same_Some}
use Rattle.cull_base.specs.Stream.{IsAtEnd}
use Rattle.scene_reader.specs.Layout.{IsScene, Parts}
use Rattle.cull_report.specs.Live.{Counts, IsRising, IsRisingIn, frame_live, frames_live, live_text, object_line, round_lines, watched}
use Rattle.cull_report.proofs.LiveTexts.{each_more}
use Rattle.live_check.specs.declared.answer.LogAnswer.{LogAnswer}
use Rattle.live_check.specs.declared.answer.LogAnswer.TheVariants.{Accepted, Refused}
use Rattle.live_check.specs.Fitting.{AnswersEnd, FrameStops, LogComes, LogStops, lines_to}
use Rattle.live_check.specs.Logs.{AreLines, HasGoodLines, IsAccepted, IsAnswered, IsJudged}
use Rattle.live_check.specs.Waiting.{waiting}
use Rattle.live_check.proofs.Counts.{all_gone_on, all_gone_rises, all_gone_text, next_of}
use Rattle.live_check.proofs.Lines.{count_same, equal_fronts, fronts, more_lines}
use Rattle.live_check.proofs.Places.{AreFew, frames_lines, one_of, place_lines, places_agree, rising_to, text_split, text_to}

module _ (s : Parts) (rounds watch : ℕ) (scene : IsScene s) (few : AreFew rounds watch) where
  -- the whole text is so many lines
  text_lines : (c : Counts) → IsRising s rounds watch c → AreLines ((watched s watch * rounds) * length s.cameras) (live_text s rounds watch c)
  text_lines c rising = frames_lines s rounds watch c (length s.cameras) scene few scene.few_frames rising

  -- no accepted log has more lines, and so no log more good ones
  no_more : (log : List ℕ) (m : ℕ) → HasGoodLines s rounds watch log m → m ≤ (watched s watch * rounds) * length s.cameras
  no_more log m h =
      let c = h.accepted.counts in
      count_same m ((watched s watch * rounds) * length s.cameras) h.front h.rest h.lines
      (subst (AreLines ((watched s watch * rounds) * length s.cameras)) (sym h.accepted.spelled) (text_lines c h.accepted.rising))

  -- an accepted log has all of them
  accepted_good : (log : List ℕ) → IsAccepted s rounds watch log → HasGoodLines s rounds watch log ((watched s watch * rounds) * length s.cameras)
  accepted_good log a = record {
    front = log;
    lines = subst (AreLines ((watched s watch * rounds) * length s.cameras)) (sym a.spelled) (text_lines a.counts a.rising);
    behind = [];
    begins = sym (append-nil log);
    rest = [];
    accepted = subst (IsAccepted s rounds watch) (sym (append-nil log)) a;
  }

  -- ---- all lines came, and then something

  pub judged_longer : (log left : List ℕ) (c : Counts) → IsRising s rounds watch c → log ≡ live_text s rounds watch c ++ left → 0 < length left
      → IsJudged s rounds watch log (Refused ((watched s watch * rounds) * length s.cameras))
  judged_longer log left c rising is some =
      let n = (watched s watch * rounds) * length s.cameras in
      let text = live_text s rounds watch c in (
        λ a.
            let same = equal_fronts n text (live_text s rounds watch a.counts) left [] (text_lines c rising) (text_lines a.counts a.rising) (sym is ∙ a.spelled ∙ sym (append-nil (live_text s rounds watch a.counts))) in
            omega (arith, some, ap length same.1),
        record {
          good = record {
            front = text;
            lines = text_lines c rising;
            behind = left;
            begins = is;
            rest = [];
            accepted = record { counts = c; rising = rising; spelled = append-nil text };
          };
          greatest = no_more log;
        },
      )

  -- ---- the lines before a place came, and the one there doesn't

  module _ (log left : List ℕ) (c : Counts) (frame : ℕ) (lf : frame < length s.cameras) (earlier : (f : ℕ) → f < frame → IsRisingIn s rounds watch f (c f)) (middle : Option (List ℕ)) (good : ℕ)
      (stop : FrameStops s rounds watch frame middle good) (is : log ≡ (frames_live s rounds watch c frame ++ lines_to s watch frame stop.counts stop.round stop.object) ++ left) (told : stop.left ≡ Some left) where
    few_frames : frame < 256
    few_frames = omega (arith, lf, scene.few_frames)

    -- they are so many lines
    before_lines : AreLines ((watched s watch * rounds) * frame + (watched s watch * stop.round + stop.object)) (frames_live s rounds watch c frame ++ lines_to s watch frame stop.counts stop.round stop.object)
    before_lines =
        more_lines ((watched s watch * rounds) * frame) (watched s watch * stop.round + stop.object) (frames_live s rounds watch c frame) (lines_to s watch frame stop.counts stop.round stop.object)
        (frames_lines s rounds watch c frame scene few (omega (arith, few_frames)) earlier)
        (place_lines s rounds watch frame stop.counts stop.round stop.object scene few few_frames stop.is_line.0 stop.is_line.1 stop.rising)

    -- an accepted log has no line there that this one has
    never : (d : Counts) → IsRising s rounds watch d → (behind : List ℕ)
        → log ≡ text_to s rounds watch d frame stop.round stop.object ++ (object_line s frame stop.round stop.object (d frame stop.round stop.object) ++ behind) → ⊥
    never d rising behind here =
        let r = stop.round in let o = stop.object in
        let to = rising_to s rounds watch frame (d frame) r o stop.is_line.0 stop.is_line.1 (rising frame lf) in
        let lines_d = more_lines ((watched s watch * rounds) * frame) (watched s watch * r + o) (frames_live s rounds watch d frame) (lines_to s watch frame (d frame) r o)
        (frames_lines s rounds watch d frame scene few (omega (arith, few_frames)) (λ f less. rising f (omega (arith, less, lf))))
        (place_lines s rounds watch frame (d frame) r o scene few few_frames stop.is_line.0 stop.is_line.1 to) in
        let parts = equal_fronts ((watched s watch * rounds) * frame + (watched s watch * r + o)) (frames_live s rounds watch c frame ++ lines_to s watch frame stop.counts r o) (text_to s rounds watch d frame r o)
        left (object_line s frame r o (d frame r o) ++ behind) before_lines lines_d (sym is ∙ here) in
        let frames_c = frames_lines s rounds watch c frame scene few (omega (arith, few_frames)) earlier in
        let frames_d = frames_lines s rounds watch d frame scene few (omega (arith, few_frames)) (λ f less. rising f (omega (arith, less, lf))) in
        let frame_parts = equal_fronts ((watched s watch * rounds) * frame) (frames_live s rounds watch c frame) (frames_live s rounds watch d frame)
        (lines_to s watch frame stop.counts r o) (lines_to s watch frame (d frame) r o) frames_c frames_d parts.0 in
        let agree = places_agree s rounds watch frame stop.counts (d frame) r o scene few few_frames stop.is_line.0 stop.is_line.1 stop.rising to frame_parts.1 in
        let fits = next_of s rounds watch frame stop.counts (d frame) r o stop.is_line.0 stop.is_line.1 (rising frame lf) agree in
        (subst (λ (l : Option (List ℕ)). IfSome l (λ bytes. (rest : List ℕ) → bytes ≡ object_line s frame r o (d frame r o) ++ rest → ⊥)) told (stop.stops (d frame r o) fits)) behind parts.1

    -- so no more lines are good than came
    no_further : (m : ℕ) → HasGoodLines s rounds watch log m → m ≤ (watched s watch * rounds) * frame + (watched s watch * stop.round + stop.object)
    no_further m h = elim (cases_lt ((watched s watch * rounds) * frame + (watched s watch * stop.round + stop.object)) m) [
      | inr le ↦ le
      | inl further ↦
          let n = (watched s watch * rounds) * frame + (watched s watch * stop.round + stop.object) in
          let r = stop.round in let o = stop.object in
          let d = h.accepted.counts in
          let rising = h.accepted.rising in
          let to = rising_to s rounds watch frame (d frame) r o stop.is_line.0 stop.is_line.1 (rising frame lf) in
          let lines_d = more_lines ((watched s watch * rounds) * frame) (watched s watch * r + o) (frames_live s rounds watch d frame) (lines_to s watch frame (d frame) r o)
          (frames_lines s rounds watch d frame scene few (omega (arith, few_frames)) (λ f less. rising f (omega (arith, less, lf))))
          (place_lines s rounds watch frame (d frame) r o scene few few_frames stop.is_line.0 stop.is_line.1 to) in
          let split = text_split s rounds watch d frame r o lf stop.is_line.0 stop.is_line.1 in
          let here = object_line s frame r o (d frame r o) in
          -- the front has the text before the place, and then at least one line
          let (mid, mid_lines, front_is, rest_is) = fronts n m (text_to s rounds watch d frame r o) h.front (here ++ split.0) h.rest lines_d h.lines (omega (arith, further)) (sym split.1 ∙ sym h.accepted.spelled) in
          let line = one_of s watch frame (d frame) r o scene few_frames (omega (arith, stop.is_line.0, few.rounds_few)) (omega (arith, stop.is_line.1, few.watch_few)) (λ t stated. (rising frame lf).within r o t stop.is_line stated) in
          let (more, more_lines_are, mid_is, split_is) = fronts 1 (m - n) here mid split.0 h.rest line mid_lines (omega (arith, further)) rest_is in
          absurd (never d rising (more ++ h.behind)
          (h.begins ∙ ap (λ (t : List ℕ). t ++ h.behind) front_is ∙ append_assoc (text_to s rounds watch d frame r o) mid h.behind
          ∙ ap (λ (t : List ℕ). text_to s rounds watch d frame r o ++ t) (ap (λ (t : List ℕ). t ++ h.behind) mid_is ∙ append_assoc here more h.behind)))
    ]

    -- and it isn't the whole text
    before_end : (watched s watch * rounds) * frame + (watched s watch * stop.round + stop.object) < (watched s watch * rounds) * length s.cameras
    before_end =
        let w = watched s watch in
        let in_frame = mul-le w (stop.round + 1) w rounds (omega arith) (omega (arith, stop.is_line.0)) in
        let in_text = mul-le (w * rounds) (frame + 1) (w * rounds) (length s.cameras) (omega arith) (omega (arith, lf)) in
        omega (arith, in_frame, in_text, stop.is_line.1)

    pub judged_stop : IsJudged s rounds watch log (Refused ((watched s watch * rounds) * frame + (watched s watch * stop.round + stop.object)))
    judged_stop =
        let r = stop.round in let o = stop.object in
        let gone = all_gone_on s c frame stop.counts r o in
        let rising = all_gone_rises s rounds watch c frame stop.counts r o earlier stop.rising in
        let split = text_split s rounds watch gone frame r o lf stop.is_line.0 stop.is_line.1 in
        let rest = object_line s frame r o (gone frame r o) ++ split.0 in (
          λ a. omega (arith, before_end, no_further ((watched s watch * rounds) * length s.cameras) (accepted_good log a)),
          record {
            good = record {
              front = frames_live s rounds watch c frame ++ lines_to s watch frame stop.counts r o;
              lines = before_lines;
              behind = left;
              begins = is;
              rest = rest;
              accepted = record {
                counts = gone;
                rising = rising;
                spelled = ap (λ (t : List ℕ). t ++ rest) (sym (all_gone_text s rounds watch c frame stop.counts r o)) ∙ sym split.1;
              };
            };
            greatest = no_further;
          },
        )

  -- ---- what is told of a log's bytes

  pub answer_comes : (before after : Option (List ℕ)) → LogComes s rounds watch before (waiting [] after) → IsAtEnd after → IsAnswered s rounds watch before after Accepted
  answer_comes None after l ended = tt
  answer_comes (Some log) None l ended = let no : ◌≡◌ {A = Option (List ℕ)} (Some log) None = l.came in absurd cc
  answer_comes (Some log) (Some rest) l ended =
      let none : rest ≡ [] = ended in
      let is : log ≡ live_text s rounds watch l.counts = same_Some log (live_text s rounds watch l.counts ++ rest) l.came ∙ ap (λ (t : List ℕ). live_text s rounds watch l.counts ++ t) none ∙ append-nil (live_text s rounds watch l.counts) in
      (record { counts = l.counts; rising = l.rising; spelled = is }, λ _. ap Some none)

  pub answer_longer : (before after : Option (List ℕ)) (b : ℕ) (held : List ℕ) (n : ℕ) → n ≡ (watched s watch * rounds) * length s.cameras → LogComes s rounds watch before (waiting (b ∷ held) after) → IsAnswered s rounds watch before after (Refused n)
  answer_longer None after b held n count l = tt
  answer_longer (Some log) None b held n count l = let no : ◌≡◌ {A = Option (List ℕ)} (Some log) None = l.came in absurd cc
  answer_longer (Some log) (Some rest) b held n count l =
      let left = (b ∷ held) ++ rest in
      let is : log ≡ live_text s rounds watch l.counts ++ left = same_Some log (live_text s rounds watch l.counts ++ left) l.came in
      (subst (λ (m : ℕ). IsJudged s rounds watch log (Refused m)) (sym count) (judged_longer log left l.counts l.rising is (omega arith)), λ no. absurd cc)

  pub answer_stops : (before after : Option (List ℕ)) (n : ℕ) → LogStops s rounds watch before n → IsAnswered s rounds watch before after (Refused n)
  answer_stops None after n l = tt
  answer_stops (Some log) after n l = by l.middle l.came l.stops.left l.stops.came refl
    where
      products : (frame round object n good : ℕ) → n ≡ (rounds * watched s watch) * frame + good → good ≡ round * watched s watch + object
          → (watched s watch * rounds) * frame + (watched s watch * round + object) ≡ n
      products frame round object n good place good_is =
          let w = watched s watch in
          let first : (w * rounds) * frame ≡ (rounds * w) * frame = ap (λ (k : ℕ). k * frame) (mul_comm w rounds) in
          let second : w * round ≡ round * w = mul_comm w round in
          omega (arith, first, second, place, good_is)

      by : (middle : Option (List ℕ)) → Some log ≡ option_map (λ (rest : List ℕ). frames_live s rounds watch l.counts l.frame ++ rest) middle → (left : Option (List ℕ))
          → middle ≡ option_map (λ (rest : List ℕ). lines_to s watch l.frame l.stops.counts l.stops.round l.stops.object ++ rest) left → l.stops.left ≡ left
          → IsJudged s rounds watch log (Refused n) × (Refused n ≡ Accepted → after ≡ Some [])
      by None came left stopped told = let no : ◌≡◌ {A = Option (List ℕ)} (Some log) None = came in absurd cc
      by (Some m) came None stopped told = let no : ◌≡◌ {A = Option (List ℕ)} (Some m) None = stopped in absurd cc
      by (Some m) came (Some left) stopped told =
          let is : log ≡ (frames_live s rounds watch l.counts l.frame ++ lines_to s watch l.frame l.stops.counts l.stops.round l.stops.object) ++ left =
          same_Some log _ came ∙ ap (λ (t : List ℕ). frames_live s rounds watch l.counts l.frame ++ t) (same_Some m _ stopped)
          ∙ sym (append_assoc (frames_live s rounds watch l.counts l.frame) (lines_to s watch l.frame l.stops.counts l.stops.round l.stops.object) left) in
          let count : (watched s watch * rounds) * l.frame + (watched s watch * l.stops.round + l.stops.object) ≡ n = products l.frame l.stops.round l.stops.object n l.good l.place l.stops.place in
          (subst (λ (k : ℕ). IsJudged s rounds watch log (Refused k)) count (judged_stop log left l.counts l.frame l.is_frame l.rising l.middle l.good l.stops is told), λ no. absurd cc)

-- ---- where nothing waits in the buffer

pub waiting_none : (left : Option (List ℕ)) → waiting [] left ≡ left
waiting_none None = refl
waiting_none (Some rest) = refl

-- ---- no object is watched

each_empty : (f : ℕ → List ℕ) (n : ℕ) → ((k : ℕ) → f k ≡ []) → flat_map f (range_with_len 0 n) ≡ []
each_empty f zero none = refl
each_empty f (suc n) none =
    let next : suc n ≡ n + 1 = omega arith in
    ap (λ (m : ℕ). flat_map f (range_with_len 0 m)) next ∙ each_more f n ∙ ap (λ (t : List ℕ). t ++ f n) (each_empty f n none) ∙ none n

none_watched : (s : Parts) (rounds watch : ℕ) (c : Counts) → watched s watch ≡ 0 → live_text s rounds watch c ≡ []
unfolding frames_live frame_live
none_watched s rounds watch c none =
    each_empty (λ f. frame_live s rounds watch (c f) f) (length s.cameras)
    (λ f. each_empty (λ r. round_lines s f watch (c f r) r) rounds
    (λ r. ap (λ (n : ℕ). flat_map (λ o. object_line s f r o (c f r o)) (range_with_len 0 n)) none))

-- so the whole text is there before anything came
pub nothing_watched : (s : Parts) (rounds watch : ℕ) (log : Option (List ℕ)) → watched s watch ≡ 0 → LogComes s rounds watch log log
nothing_watched s rounds watch log none = record {
  counts = λ f r o t. 0;
  rising = λ f lt. record {
    within = λ r o t line stated. omega arith;
    rises = λ r o p q t line other before stated then. omega arith;
  };
  came = sym (ap (λ (t : List ℕ). option_map (λ (rest : List ℕ). t ++ rest) log) (none_watched s rounds watch (λ f r o t. 0) none) ∙ waiting_none log);
}

-- ---- the answer at the end

pub answer_end : (s : Parts) (rounds watch : ℕ) → IsScene s → AreFew rounds watch → (before after : Option (List ℕ)) (held : List ℕ) (lines : ℕ) (a : LogAnswer)
    → lines ≡ (watched s watch * rounds) * length s.cameras → LogComes s rounds watch before (waiting held after) → AnswersEnd lines held after a → IsAnswered s rounds watch before after a
answer_end s rounds watch scene few before after held lines Accepted count l ends =
    answer_comes s rounds watch scene few before after (subst (λ (h : List ℕ). LogComes s rounds watch before (waiting h after)) ends.0 l) ends.1
answer_end s rounds watch scene few before after held lines (Refused n) count l ends =
    let (is, found) = ends in
    let (b, rest, held_is) = found in
    answer_longer s rounds watch scene few before after b rest n (is ∙ count) (subst (λ (h : List ℕ). LogComes s rounds watch before (waiting h after)) held_is l)
