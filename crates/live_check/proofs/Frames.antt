-- Frames whose lines came, one after the other.
use Rattle.std.proofs.Common.{◌≡◌, ℕ, ◌+◌, ◌*◌, ◌<◌, Bool, cond, nat_lt, List, [], ◌++◌, length, Option, Some, None, append_assoc, arith, refl, sym, ap, ◌∙◌, subst, inl, inr}
use Rattle.std.specs.Option.{option_map}
use Rattle.std.proofs.lemmas.Bool.{cases_lt, le-ltb, lt-ltb}
use Rattle.scene_reader.specs.Layout.{Parts}
use Rattle.cull_report.specs.Live.{Counts, IsRisingIn, frame_live, frames_live, watched}
use Rattle.cull_report.proofs.LiveTexts.{frames_live-alike, frames_live-more, frames_live-none}
use Rattle.live_check.specs.Fitting.{FrameComes, FrameStops, LogComes, LogStops}
use Rattle.live_check.specs.Waiting.{Came}

-- ---- bytes that came one after the other

pub came_none : (o : Option (List ℕ)) → Came o o []
came_none None = refl
came_none (Some rest) = refl

pub came_then : (a b c : Option (List ℕ)) (x y : List ℕ) → Came a b x → Came b c y → Came a c (x ++ y)
came_then a b c x y p q = p ∙ ap (option_map (λ (rest : List ℕ). x ++ rest)) q ∙ joined c
  where
    joined : (o : Option (List ℕ)) → option_map (λ (rest : List ℕ). x ++ rest) (option_map (λ (rest : List ℕ). y ++ rest) o) ≡ option_map (λ (rest : List ℕ). (x ++ y) ++ rest) o
    joined None = refl
    joined (Some rest) = ap Some (sym (append_assoc x y rest))

pub came_as : (a b : Option (List ℕ)) (x y : List ℕ) → x ≡ y → Came a b x → Came a b y
came_as a b x y is p = subst (Came a b) is p

-- ---- the first so many frames came, of counts that rise

abbrev pub FramesCame : Parts → ℕ → ℕ → ℕ → Option (List ℕ) → Option (List ℕ) → Type 0
FramesCame s rounds watch n before after =
    (counts : Counts) × ((f : ℕ) → f < n → IsRisingIn s rounds watch f (counts f)) × Came before after (frames_live s rounds watch counts n)

pub first_frames : (s : Parts) (rounds watch : ℕ) (o : Option (List ℕ)) → FramesCame s rounds watch 0 o o
first_frames s rounds watch o = ((λ f r p t. 0), (λ f lt. absurd (omega (arith, lt))), came_as o o [] _ (sym (frames_live-none s rounds watch (λ f r p t. 0))) (came_none o))

-- other counts from a frame on
abbrev with_frame : Counts → ℕ → (ℕ → ℕ → ℕ → ℕ) → Counts
with_frame counts n more f = cond (nat_lt f n) (counts f) more

with_before : (counts : Counts) (n : ℕ) (more : ℕ → ℕ → ℕ → ℕ) (f : ℕ) → f < n → with_frame counts n more f ≡ counts f
with_before counts n more f lt = ap (λ (b : Bool). cond b (counts f) more) (lt-ltb f n lt)

with_here : (counts : Counts) (n : ℕ) (more : ℕ → ℕ → ℕ → ℕ) → with_frame counts n more n ≡ more
with_here counts n more = ap (λ (b : Bool). cond b (counts n) more) (le-ltb n n (omega arith))

pub next_frame : (s : Parts) (rounds watch n : ℕ) (a b c : Option (List ℕ)) → FramesCame s rounds watch n a b → FrameComes s rounds watch n b c → FramesCame s rounds watch (n + 1) a c
next_frame s rounds watch n a b c (counts, rising, came) f =
    let all = with_frame counts n f.counts in
    let before = frames_live-alike s rounds watch all counts n (λ g r o t lt. ap (λ (k : ℕ → ℕ → ℕ → ℕ). k r o t) (with_before counts n f.counts g lt)) in
    let here = ap (λ (k : ℕ → ℕ → ℕ → ℕ). frame_live s rounds watch k n) (with_here counts n f.counts) in
    let text : frames_live s rounds watch counts n ++ frame_live s rounds watch f.counts n ≡ frames_live s rounds watch all (n + 1) =
    ap (λ (t : List ℕ). t ++ frame_live s rounds watch f.counts n) (sym before) ∙ ap (λ (t : List ℕ). frames_live s rounds watch all n ++ t) (sym here) ∙ sym (frames_live-more s rounds watch all n) in (
      all,
      λ g lt. elim (cases_lt g n) [
        | inl less ↦ subst (IsRisingIn s rounds watch g) (sym (with_before counts n f.counts g less)) (rising g less)
        | inr from ↦
            let last : n ≡ g = omega (arith, from, lt) in
            subst (λ (h : ℕ). IsRisingIn s rounds watch h (all h)) last (subst (IsRisingIn s rounds watch n) (sym (with_here counts n f.counts)) f.rising)
      ],
      came_as a c _ _ text (came_then a b c (frames_live s rounds watch counts n) (frame_live s rounds watch f.counts n) came f.came),
    )

pub last_frames : (s : Parts) (rounds watch n : ℕ) (a b : Option (List ℕ)) → n ≡ length s.cameras → FramesCame s rounds watch n a b → LogComes s rounds watch a b
last_frames s rounds watch n a b all (counts, rising, came) = record {
  counts = counts;
  rising = λ f lt. rising f (omega (arith, lt, all));
  came = subst (λ (k : ℕ). Came a b (frames_live s rounds watch counts k)) all came;
}

pub stopped_frame : (s : Parts) (rounds watch n good : ℕ) (a b : Option (List ℕ)) (objects : ℕ) → n < length s.cameras → objects ≡ watched s watch → FramesCame s rounds watch n a b → FrameStops s rounds watch n b good
    → LogStops s rounds watch a ((rounds * objects) * n + good)
stopped_frame s rounds watch n good a b objects lt is (counts, rising, came) stops = record {
  counts = counts;
  frame = n;
  is_frame = lt;
  rising = rising;
  middle = b;
  came = came;
  good = good;
  place = ap (λ (w : ℕ). (rounds * w) * n + good) is;
  stops = stops;
}
