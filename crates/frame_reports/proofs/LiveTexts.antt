-- The live text of a frame, line by line.
use Rattle.std.proofs.Common.{◌≡◌, ℕ, zero, suc, ◌+◌, ◌*◌, ◌%◌, ◌<◌, ◌≤◌, ◌++◌, List, [], ◌∷◌, length, drop, take, get_or, append_assoc, arith, refl, sym, ap, ◌∙◌, subst, inl, inr}
use Rattle.std.specs.Prelude.{slice_index_or}
use Rattle.std.specs.List.{flat_map, range_with_len}
use Rattle.std.proofs.lemmas.List.{append-nil, take-append-drop, take_more}
use Rattle.std.proofs.Math.Seq.{take-length}
use Rattle.std.proofs.lemmas.Grind.{flat_map-append}
use Rattle.std.proofs.lemmas.Nat.{div-mul-add, mod-mul-add, mul-le}
use Rattle.cull_base.specs.declared.scene_types.Verdict.TheVariants.{Visible}
use Rattle.scene_reader.specs.Layout.{Parts}
use Rattle.cull_report.specs.Live.{IsBefore, IsRisingIn, LiveLineOf, frame_live, object_line, round_lines, text_of_line, watched}
use Rattle.frame_reports.specs.LiveFrames.{AreLive, AreLooks, HaveLooked, Tells}
use Rattle.demo_scene.proofs.Ranges.{flat_map-next}

-- functions that agree below n
pub flat_map-alike : {A : Type 0} (f g : ℕ → List A) (n : ℕ) → ((i : ℕ) → i < n → f i ≡ g i) → flat_map f (range_with_len 0 n) ≡ flat_map g (range_with_len 0 n)
flat_map-alike f g zero same = refl
flat_map-alike {A} f g (suc n) same =
    let e : n + 1 ≡ suc n = omega arith in
    let before = flat_map-alike f g n (λ i lt. same i (omega arith)) in
    let here = same n (omega arith) in
    let p = flat_map-next f n in let q = flat_map-next g n in
    let step : flat_map f (range_with_len 0 (n + 1)) ≡ flat_map g (range_with_len 0 (n + 1)) = p ∙ ap (λ (t : List A). t ++ f n) before ∙ ap (λ (t : List A). flat_map g (range_with_len 0 n) ++ t) here ∙ sym q in
    subst (λ m. flat_map f (range_with_len 0 m) ≡ flat_map g (range_with_len 0 m)) e step

-- the first numbers, and those from there on
pub flat_map-split : {A : Type 0} (f : ℕ → List A) (a n : ℕ) → flat_map f (range_with_len 0 (a + n)) ≡ flat_map f (range_with_len 0 a) ++ flat_map (λ o. f (a + o)) (range_with_len 0 n)
flat_map-split {A} f a zero =
    let e : a + zero ≡ a = omega arith in
    ap (λ m. flat_map f (range_with_len 0 m)) e ∙ sym (append-nil (flat_map f (range_with_len 0 a)))
flat_map-split {A} f a (suc n) =
    let e : a + suc n ≡ (a + n) + 1 = omega arith in let k : n + 1 ≡ suc n = omega arith in
    let front = flat_map f (range_with_len 0 a) in
    let rest = flat_map (λ o. f (a + o)) (range_with_len 0 n) in
    ap (λ m. flat_map f (range_with_len 0 m)) e ∙ flat_map-next f (a + n)
    ∙ ap (λ (t : List A). t ++ f (a + n)) (flat_map-split f a n) ∙ append_assoc front rest (f (a + n))
    ∙ ap (λ (t : List A). front ++ t) (sym (flat_map-next (λ o. f (a + o)) n) ∙ ap (λ m. flat_map (λ o. f (a + o)) (range_with_len 0 m)) k)

-- row after row
pub flat_map-rows : {A : Type 0} (f : ℕ → List A) (n rows : ℕ) → flat_map f (range_with_len 0 (rows * n)) ≡ flat_map (λ r. flat_map (λ o. f (r * n + o)) (range_with_len 0 n)) (range_with_len 0 rows)
flat_map-rows {A} f n zero = let e : zero * n ≡ zero = omega arith in ap (λ m. flat_map f (range_with_len 0 m)) e
flat_map-rows {A} f n (suc rows) =
    let e : suc rows * n ≡ rows * n + n = omega arith in let k : rows + 1 ≡ suc rows = omega arith in
    let row : ℕ → List A = λ r. flat_map (λ o. f (r * n + o)) (range_with_len 0 n) in
    ap (λ m. flat_map f (range_with_len 0 m)) e ∙ flat_map-split f (rows * n) n
    ∙ ap (λ (t : List A). t ++ row rows) (flat_map-rows f n rows) ∙ sym (flat_map-next row rows)
    ∙ ap (λ m. flat_map row (range_with_len 0 m)) k

-- over a list by its places
listed_to : {X A : Type 0} (g : X → List A) (xs : List X) (d : X) (k : ℕ) → k ≤ length xs → flat_map g (take k xs) ≡ flat_map (λ i. g (get_or xs i d)) (range_with_len 0 k)
listed_to g xs d zero le = refl
listed_to {X} {A} g xs d (suc k) le =
    let e : k + 1 ≡ suc k = omega arith in
    let lt : k < length xs = omega arith in
    let step : flat_map g (take (k + 1) xs) ≡ flat_map (λ i. g (get_or xs i d)) (range_with_len 0 (k + 1)) =
    ap (flat_map g) (take_more xs k d lt) ∙ flat_map-append g (take k xs) (get_or xs k d ∷ [])
    ∙ ap (λ (t : List A). flat_map g (take k xs) ++ t) (append-nil (g (get_or xs k d)))
    ∙ ap (λ (t : List A). t ++ g (get_or xs k d)) (listed_to g xs d k (omega arith))
    ∙ sym (flat_map-next (λ i. g (get_or xs i d)) k) in
    subst (λ m. flat_map g (take m xs) ≡ flat_map (λ i. g (get_or xs i d)) (range_with_len 0 m)) e step

pub flat_map-places : {X A : Type 0} (g : X → List A) (xs : List X) (d : X) → flat_map g xs ≡ flat_map (λ i. g (get_or xs i d)) (range_with_len 0 (length xs))
flat_map-places g xs d = ap (flat_map g) (sym (take-length xs)) ∙ listed_to g xs d (length xs) (omega arith)

some_line : LiveLineOf
some_line = record { frame = 0; round = 0; object = 0; verdict = Visible; counts = []; room = 0 }

-- the counts of a round's object
abbrev counted : (ℕ → ℕ → ℕ) → ℕ → ℕ → ℕ → ℕ → ℕ
counted seen n r o = seen (r * n + o)

place_below : (n rounds r o : ℕ) → r < rounds → o < n → r * n + o < rounds * n
place_below n rounds r o x y = let m : (r + 1) * n ≤ rounds * n = mul-le (r + 1) n rounds n (omega arith) (omega arith) in omega (arith, m)

place_before : (n r o p q : ℕ) → o < n → IsBefore r o p q → r * n + o < p * n + q
place_before n r o p q y b = elim b [
  | inl less ↦ let m : (r + 1) * n ≤ p * n = mul-le (r + 1) n p n (omega arith) (omega arith) in omega (arith, m)
  | inr same ↦ let e = ap (λ k. k * n) same.0 in omega (arith, e, same.1)
]

tells_at : (s : Parts) (frame n rounds : ℕ) (seen : ℕ → ℕ → ℕ) (lines : List LiveLineOf) (d : LiveLineOf) (r o : ℕ) → AreLooks s frame n seen (length lines) lines → length lines ≡ rounds * n
    → r < rounds → o < n → Tells s frame r o (seen (r * n + o)) (slice_index_or lines (r * n + o) d)
tells_at s frame n rounds seen lines d r o looks whole x y =
    let below = place_below n rounds r o x y in
    let told = looks.tell (r * n + o) d (omega (arith, below, whole)) in
    subst (λ k. Tells s frame r k (seen (r * n + o)) (slice_index_or lines (r * n + o) d)) (mod-mul-add r n o y)
    (subst (λ k. Tells s frame k ((r * n + o) % n) (seen (r * n + o)) (slice_index_or lines (r * n + o) d)) (div-mul-add r n o y) told)

spelled_by : (s : Parts) (rounds watch frame : ℕ) (seen : ℕ → ℕ → ℕ) (lines : List LiveLineOf) → AreLooks s frame (watched s watch) seen (length lines) lines → length lines ≡ rounds * watched s watch
    → flat_map text_of_line lines ≡ frame_live s rounds watch (counted seen (watched s watch)) frame
unfolding frame_live
spelled_by s rounds watch frame seen lines looks whole =
    let n = watched s watch in
    let text : ℕ → List ℕ = λ i. text_of_line (get_or lines i some_line) in
    flat_map-places text_of_line lines some_line
    ∙ ap (λ m. flat_map text (range_with_len 0 m)) whole
    ∙ flat_map-rows text n rounds
    ∙ flat_map-alike (λ r. flat_map (λ o. text (r * n + o)) (range_with_len 0 n)) (λ r. round_lines s frame watch (counted seen n r) r) rounds
    (λ r x. flat_map-alike (λ o. text (r * n + o)) (λ o. object_line s frame r o (counted seen n r o)) n
    (λ o y. (tells_at s frame n rounds seen lines some_line r o looks whole x y).text))

rising_by : (s : Parts) (rounds watch frame : ℕ) (seen : ℕ → ℕ → ℕ) (lines : List LiveLineOf) → AreLooks s frame (watched s watch) seen (length lines) lines → length lines ≡ rounds * watched s watch
    → IsRisingIn s rounds watch frame (counted seen (watched s watch))
rising_by s rounds watch frame seen lines looks whole = record {
  within = λ r o t is stated. (tells_at s frame (watched s watch) rounds seen lines some_line r o looks whole is.0 is.1).within t stated;
  rises = λ r o p q t is then before stated stated_then.
      let n = watched s watch in
      let lt = place_before n r o p q is.1 before in let below = place_below n rounds p q then.0 then.1 in
      looks.rises (r * n + o) (p * n + q) t lt (omega (arith, below, whole)) stated.on_screen;
}

-- the looks of a frame are its live text
pub looked_is_live : (s : Parts) (rounds watch frame n : ℕ) (lines : List LiveLineOf) → HaveLooked s frame n lines → n ≡ watched s watch → length lines ≡ rounds * n → AreLive s rounds watch frame lines
looked_is_live s rounds watch frame n lines (seen, looks) is whole =
    let l = subst (λ m. AreLooks s frame m seen (length lines) lines) is looks in
    let w = whole ∙ ap (λ m. rounds * m) is in
    record { counts = counted seen (watched s watch); rising = rising_by s rounds watch frame seen lines l w; spelled = spelled_by s rounds watch frame seen lines l w }

-- the texts of the first things of a list, and of one more
pub texts_next : {X A : Type 0} (g : X → List A) (xs : List X) (k : ℕ) (x : X) → k < length xs → x ≡ get_or xs k x → flat_map g (take (k + 1) xs) ≡ flat_map g (take k xs) ++ g x
texts_next {X} {A} g xs k x lt is =
    ap (flat_map g) (take_more xs k x lt) ∙ flat_map-append g (take k xs) (get_or xs k x ∷ [])
    ∙ ap (λ (t : List A). flat_map g (take k xs) ++ t) (append-nil (g (get_or xs k x)))
    ∙ ap (λ (y : X). flat_map g (take k xs) ++ g y) (sym is)

-- and of all
pub texts_begin : {X A : Type 0} (g : X → List A) (xs : List X) (k : ℕ) (x : X) → k < length xs → x ≡ get_or xs k x → (rest : List A) × (flat_map g xs ≡ flat_map g (take k xs) ++ (g x ++ rest))
texts_begin {X} {A} g xs k x lt is =
    let rest = flat_map g (drop (k + 1) xs) in (
      rest,
      ap (flat_map g) (sym (take-append-drop (k + 1) xs)) ∙ flat_map-append g (take (k + 1) xs) (drop (k + 1) xs)
          ∙ ap (λ (t : List A). t ++ rest) (texts_next g xs k x lt is) ∙ append_assoc (flat_map g (take k xs)) (g x) rest,
    )

-- the same where the scene, the frame and the number of objects are known by equations
pub kept_is_live : (s : Parts) (rounds watch frame : ℕ) (other : Parts) (f n : ℕ) (lines : List LiveLineOf) → HaveLooked other f n lines → other ≡ s → f ≡ frame → n ≡ watched s watch
    → length lines ≡ rounds * watched s watch → AreLive s rounds watch frame lines
kept_is_live s rounds watch frame other f n lines looked same at objects count =
    looked_is_live s rounds watch frame n lines (subst (λ (t : Parts). HaveLooked t frame n lines) same (subst (λ k. HaveLooked other k n lines) at looked)) objects (count ∙ ap (λ m. rounds * m) (sym objects))
