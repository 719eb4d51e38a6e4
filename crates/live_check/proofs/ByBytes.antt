-- Bytes, words and numbers that come byte by byte.
use Rattle.std.proofs.Common.{◌≡◌, ℕ, suc, ◌+◌, ◌-◌, ◌*◌, ◌/◌, ◌%◌, ◌^◌, ◌<◌, ◌≤◌, ◌⊎◌, List, [], ◌∷◌, ◌++◌, codes, length, take, drop, get_or, Option, Some, None, option_map, append_assoc, arith, refl, sym, ap, ◌∙◌, subst, inl, inr}
use Rattle.std.specs.Prelude.{IfOk, IfSome, Result, Ok, Err}
use Rattle.std.specs.Fmt.{decimal}
use Rattle.std.proofs.lemmas.Bool.{cases_lt}
use Rattle.std.proofs.lemmas.Fmt.{decimal_digit, decimal_step, first_decimal, length-decimal-le}
use Rattle.std.proofs.lemmas.List.{drop-drop, drop-take, drop_more, length-append, length-take, take-append-drop, take_more}
use Rattle.std.proofs.lemmas.Option.{same_Some}
use Rattle.cull_base.specs.declared.scene_types.Verdict.{Verdict}
use Rattle.cull_base.specs.declared.scene_types.Verdict.TheVariants.{Occluded, Outside, Visible}
use Rattle.cull_base.specs.Stream.{IsAtEnd}
use Rattle.cull_report.specs.Text.{verdict_word}
use Rattle.live_check.specs.Waiting.{Came, IsBehindNumber, IsDigit, NeverComes, waiting}
use Rattle.live_check.proofs.Digits.{AreDigits, decimal_digits, decimal_same, decimal_some}
use Rattle.live_check.proofs.Frames.{came_as, came_then}
use Rattle.live_check.proofs.LineParts.{never_behind, never_longer}
use Rattle.live_check.proofs.Lines.{cons_same, head_same, tail_same}

-- ---- the buffer

-- bytes from a place to before an end, where there are some
pub some_wait : (bytes : List ℕ) (next end : ℕ) → next < end → end ≤ length bytes → (rest : List ℕ) × (take (end - next) (drop next bytes) ≡ get_or bytes next 0 ∷ rest)
some_wait bytes next end lt le =
    let more = end - (next + 1) in
    let all : end - next ≡ suc more = omega arith in (
      take more (drop (next + 1) bytes),
      ap (λ (n : ℕ). take n (drop next bytes)) all ∙ ap (λ (l : List ℕ). take (suc more) l) (drop_more bytes next 0 (omega arith)),
    )

pub none_wait : (bytes : List ℕ) (next end : ℕ) → end ≤ next → take (end - next) (drop next bytes) ≡ []
none_wait bytes next end le = let none : end - next ≡ 0 = omega (arith, le) in ap (λ (n : ℕ). take n (drop next bytes)) none

-- one byte fewer
pub skipped : (bytes : List ℕ) (next end : ℕ) → next < end → take (end - (next + 1)) (drop (next + 1) bytes) ≡ drop 1 (take (end - next) (drop next bytes))
skipped bytes next end lt =
    let more = end - (next + 1) in
    let all : end - next ≡ 1 + more = omega arith in
    ap (λ (l : List ℕ). take more l) (sym (drop-drop 1 next bytes)) ∙ sym (drop-take 1 more (drop next bytes)) ∙ ap (λ (n : ℕ). drop 1 (take n (drop next bytes))) (sym all)

-- bytes were taken into the buffer, in which none waited
pub refilled : (held bytes : List ℕ) (n : ℕ) (a b : Option (List ℕ)) → held ≡ [] → a ≡ option_map (λ (rest : List ℕ). take n bytes ++ rest) b → waiting (take (n - 0) (drop 0 bytes)) b ≡ waiting held a
refilled held bytes n a b none front =
    let same : n - 0 ≡ n = omega arith in
    ap (λ (m : ℕ). waiting (take m bytes) b) same ∙ sym front ∙ sym (all a) ∙ ap (λ (h : List ℕ). waiting h a) (sym none)
  where
    all : (o : Option (List ℕ)) → waiting [] o ≡ o
    all None = refl
    all (Some rest) = refl

pub none_taken : (bytes : List ℕ) (n : ℕ) → n ≤ length bytes → take (n - 0) (drop 0 bytes) ≡ [] → n ≡ 0
none_taken bytes n le none = let same : n - 0 ≡ n = omega arith in omega (arith, length-take n bytes, le, ap length (ap (λ (m : ℕ). take m bytes) (sym same) ∙ none))

-- ---- what a last call answers

pub ok_both : {T E : Type 0} (r : Result T E) (P Q R : T → Type 0) → ((x : T) → P x → Q x → R x) → IfOk r P → IfOk r Q → IfOk r R
ok_both (Ok x) P Q R to p q = to x p q
ok_both (Err e) P Q R to p q = tt

-- ---- one byte

pub came_byte : (held now : List ℕ) (b : ℕ) (rest : List ℕ) (left : Option (List ℕ)) → held ≡ b ∷ rest → now ≡ drop 1 held → Came (waiting held left) (waiting now left) (b ∷ [])
came_byte held now b rest None is next = refl
came_byte held now b rest (Some more) is next =
    ap (λ (h : List ℕ). Some (h ++ more)) is ∙ ap (λ (r : List ℕ). Some (b ∷ (r ++ more))) (sym (next ∙ ap (λ (h : List ℕ). drop 1 h) is))

-- behind a look that takes nothing
pub came_from : (a b c : Option (List ℕ)) (x : List ℕ) → b ≡ a → Came b c x → Came a c x
came_from a b c x same came = sym same ∙ came

-- another one waits
pub never_byte : (held : List ℕ) (b c : ℕ) (rest : List ℕ) (left : Option (List ℕ)) → held ≡ b ∷ rest → (b ≡ c → ⊥) → NeverComes (waiting held left) (c ∷ [])
never_byte held b c rest None is other = tt
never_byte held b c rest (Some more) is other = λ tail e. other (head_same b c (rest ++ more) tail (sym (ap (λ (h : List ℕ). h ++ more) is) ∙ e))

-- none waits
pub never_none : (held : List ℕ) (c : ℕ) (left : Option (List ℕ)) → held ≡ [] → IsAtEnd left → NeverComes (waiting held left) (c ∷ [])
never_none held c None none end = tt
never_none held c (Some more) none end = λ tail e.
    let no : ◌≡◌ {A = List ℕ} [] (c ∷ tail) = sym (ap (λ (h : List ℕ). h ++ more) none ∙ end) ∙ e in absurd cc

pub never_from : (a b : Option (List ℕ)) (x : List ℕ) → b ≡ a → NeverComes b x → NeverComes a x
never_from a b x same never = subst (λ (o : Option (List ℕ)). NeverComes o x) same never

-- what waits behind no digit
pub behind_none : (held : List ℕ) (left : Option (List ℕ)) → held ≡ [] → IsAtEnd left → IfSome (waiting held left) IsBehindNumber
behind_none held None none end = tt
behind_none held (Some more) none end = subst IsBehindNumber (sym (ap (λ (h : List ℕ). h ++ more) none ∙ end)) tt

pub behind_byte : (held : List ℕ) (b : ℕ) (rest : List ℕ) (left : Option (List ℕ)) → held ≡ b ∷ rest → (IsDigit b → ⊥) → IfSome (waiting held left) IsBehindNumber
behind_byte held b rest None is other = tt
behind_byte held b rest (Some more) is other = subst IsBehindNumber (sym (ap (λ (h : List ℕ). h ++ more) is)) other

pub behind_from : (a b : Option (List ℕ)) → b ≡ a → IfSome b IsBehindNumber → IfSome a IsBehindNumber
behind_from a b same behind = subst (λ (o : Option (List ℕ)). IfSome o IsBehindNumber) same behind

-- ---- a text

pub text_next : (a b c : Option (List ℕ)) (text : List ℕ) (n : ℕ) → n < length text → Came a b (take n text) → Came b c (get_or text n 0 ∷ []) → Came a c (take (n + 1) text)
text_next a b c text n lt before next = came_as a c _ _ (sym (take_more text n 0 lt)) (came_then a b c (take n text) (get_or text n 0 ∷ []) before next)

pub text_stops : (a b : Option (List ℕ)) (text : List ℕ) (n : ℕ) → n < length text → Came a b (take n text) → NeverComes b (get_or text n 0 ∷ []) → NeverComes a text
text_stops a b text n lt before never =
    let x : List ℕ = get_or text n 0 ∷ [] in
    let parts : take n text ++ (x ++ drop (n + 1) text) ≡ text =
    sym (append_assoc (take n text) x (drop (n + 1) text)) ∙ ap (λ (t : List ℕ). t ++ drop (n + 1) text) (sym (take_more text n 0 lt)) ∙ take-append-drop (n + 1) text in
    subst (NeverComes a) parts (never_behind a b (take n text) (x ++ drop (n + 1) text) before (never_longer b x (drop (n + 1) text) never))

-- ---- a number

-- one digit more
pub digit_more : (n d : ℕ) → 0 < n → d < 10 → n < 2 ^ 32 → decimal (10 * n + d) ≡ decimal n ++ (48 + d) ∷ []
digit_more n d some lt small =
    let whole : (10 * n + d) / 10 ≡ n = omega arith in
    let last : (10 * n + d) % 10 ≡ d = omega arith in
    decimal_step (10 * n + d) (omega arith) (omega arith) ∙ ap (λ (k : ℕ). decimal k ++ ((48 + (10 * n + d) % 10) ∷ [])) whole ∙ ap (λ (k : ℕ). decimal n ++ ((48 + k) ∷ [])) last

pub number_more : (a b c : Option (List ℕ)) (n d : ℕ) → 0 < n → d < 10 → n < 2 ^ 32 → Came a b (decimal n) → Came b c ((48 + d) ∷ []) → Came a c (decimal (10 * n + d))
number_more a b c n d some lt small before next = came_as a c _ _ (sym (digit_more n d some lt small)) (came_then a b c (decimal n) ((48 + d) ∷ []) before next)

pub number_longer : (n d k : ℕ) → 0 < n → d < 10 → n < 2 ^ 32 → length (decimal n) ≡ k → length (decimal (10 * n + d)) ≡ k + 1
number_longer n d k some lt small is = ap length (digit_more n d some lt small) ∙ length-append (decimal n) ((48 + d) ∷ []) ∙ ap (λ (m : ℕ). m + 1) is

pub number_first : (a b : Option (List ℕ)) (d : ℕ) → d < 10 → Came a b ((48 + d) ∷ []) → Came a b (decimal d)
number_first a b d lt came = came_as a b _ _ (sym (decimal_digit d lt)) came

pub length_first : (d : ℕ) → d < 10 → length (decimal d) ≡ 1
length_first d lt = ap length (decimal_digit d lt)

-- digits that are no fewer than others before what is no digit
digits_front : (ds es r q : List ℕ) → AreDigits ds → IsBehindNumber q → length es ≤ length ds → ds ++ r ≡ es ++ q → ds ≡ es
digits_front [] [] r q p bq le e = refl
digits_front [] (x ∷ es) r q p bq le e = absurd (omega (arith, le))
digits_front (d ∷ ds) [] r q p bq le e = absurd ((subst IsBehindNumber (sym e) bq) p.0)
digits_front (d ∷ ds) (x ∷ es) r q p bq le e =
    cons_same d x ds es (head_same d x (ds ++ r) (es ++ q) e) (digits_front ds es r q p.1 bq (omega (arith, le)) (tail_same d x (ds ++ r) (es ++ q) e))

-- the numbers that what waited may begin with
abbrev pub OnlyNumber : Option (List ℕ) → ℕ → Type 0
OnlyNumber a n = IfSome a (λ bytes. (k : ℕ) (more : List ℕ) → k < 10 ^ 6 → IsBehindNumber more → bytes ≡ decimal k ++ more → ◌≡◌ {A = Option ℕ} (Some n) (Some k))

-- no digit follows
pub only_ended : (a b : Option (List ℕ)) (n : ℕ) → n < 10 ^ 6 → Came a b (decimal n) → IfSome b IsBehindNumber → OnlyNumber a n
only_ended None b n small came behind = tt
only_ended (Some log) None n small came behind = let no : ◌≡◌ {A = Option (List ℕ)} (Some log) None = came in absurd cc
only_ended (Some log) (Some rest) n small came behind = λ k more less bk e.
    let same : decimal n ++ rest ≡ decimal k ++ more = sym (same_Some log (decimal n ++ rest) came) ∙ e in
    ap Some (decimal_same n k rest more (omega (arith, small)) (omega (arith, less)) behind bk same).0

-- it has six digits
pub only_long : (a b : Option (List ℕ)) (n : ℕ) → n < 10 ^ 6 → length (decimal n) ≡ 6 → Came a b (decimal n) → OnlyNumber a n
only_long None b n small six came = tt
only_long (Some log) None n small six came = let no : ◌≡◌ {A = Option (List ℕ)} (Some log) None = came in absurd cc
only_long (Some log) (Some rest) n small six came = λ k more less bk e.
    let same : decimal n ++ rest ≡ decimal k ++ more = sym (same_Some log (decimal n ++ rest) came) ∙ e in
    let text = digits_front (decimal n) (decimal k) rest more (decimal_digits n (omega (arith, small))) bk (omega (arith, six, length-decimal-le 6 k (omega arith) less (omega (arith, less)))) same in
    ap Some (decimal_same n k [] [] (omega (arith, small)) (omega (arith, less)) tt tt (ap (λ (t : List ℕ). t ++ []) text)).0

-- a zero: no other number begins with one
first_byte : (t more rest : List ℕ) (b : ℕ) → 0 < length t → b ∷ rest ≡ t ++ more → get_or t 0 0 ≡ b
first_byte [] more rest b some e = absurd (omega (arith, some))
first_byte (x ∷ t) more rest b some e = sym (head_same b x rest (t ++ more) e)

pub only_zero : (a b : Option (List ℕ)) → Came a b (48 ∷ []) → OnlyNumber a 0
only_zero None b came = tt
only_zero (Some log) None came = let no : ◌≡◌ {A = Option (List ℕ)} (Some log) None = came in absurd cc
only_zero (Some log) (Some rest) came = λ k more less bk e.
    let small : k < 2 ^ 64 = omega (arith, less) in
    let begins = first_byte (decimal k) more rest 48 (decimal_some k small) (sym (same_Some log (48 ∷ rest) came) ∙ e) in
    elim (cases_lt 0 k) [
      | inl some ↦ absurd (omega (arith, first_decimal k some small, begins))
      | inr none ↦ let zero : 0 ≡ k = omega (arith, none) in ap Some zero
    ]

-- no number
pub only_none : (a : Option (List ℕ)) → IfSome a IsBehindNumber
    → IfSome a (λ bytes. (k : ℕ) (more : List ℕ) → k < 10 ^ 6 → IsBehindNumber more → bytes ≡ decimal k ++ more → ◌≡◌ {A = Option ℕ} None (Some k))
only_none None behind = tt
only_none (Some log) behind = λ k more less bk e.
    let small : k < 2 ^ 64 = omega (arith, less) in
    absurd (no_digits (decimal k) more (decimal_digits k small) (decimal_some k small) (subst IsBehindNumber e behind))
  where
    no_digits : (ds more : List ℕ) → AreDigits ds → 0 < length ds → IsBehindNumber (ds ++ more) → ⊥
    no_digits [] more all some behind = absurd (omega (arith, some))
    no_digits (d ∷ ds) more all some behind = behind all.0

-- ---- a verdict's word

-- a text of another first byte came
pub never_apart : (a b : Option (List ℕ)) (x y : ℕ) (xs ys : List ℕ) → Came a b (x ∷ xs) → (x ≡ y → ⊥) → NeverComes a (y ∷ ys)
never_apart None b x y xs ys came other = tt
never_apart (Some log) None x y xs ys came other = let no : ◌≡◌ {A = Option (List ℕ)} (Some log) None = came in absurd cc
never_apart (Some log) (Some r) x y xs ys came other = λ more e. other (head_same x y (xs ++ r) (ys ++ more) (sym (same_Some log (x ∷ (xs ++ r)) came) ∙ e))

abbrev pub OnlyBehindO : Option (List ℕ) → Option Verdict → Type 0
OnlyBehindO a o = IfSome a (λ bytes. (v : Verdict) (rest more : List ℕ) → verdict_word v ≡ 111 ∷ rest → bytes ≡ rest ++ more → o ≡ Some v)

abbrev pub OnlyWord : Option (List ℕ) → Option Verdict → Type 0
OnlyWord a o = IfSome a (λ bytes. (v : Verdict) (more : List ℕ) → bytes ≡ verdict_word v ++ more → o ≡ Some v)

-- behind an `o` a word is found, or it never comes
abbrev pub IsFound : Option (List ℕ) → Option Verdict → Verdict → List ℕ → Type 0
IsFound a o v text = (o ≡ Some v) ⊎ NeverComes a text

pub only_behind_o : (a : Option (List ℕ)) (o : Option Verdict) → IsFound a o Occluded (codes "ccluded") → IsFound a o Outside (codes "utside") → OnlyBehindO a o
only_behind_o None o c u = tt
only_behind_o (Some log) o c u = λ v rest more word e. by v rest more c u word e
  where
    by : (v : Verdict) (rest more : List ℕ) → IsFound (Some log) o Occluded (codes "ccluded") → IsFound (Some log) o Outside (codes "utside") → verdict_word v ≡ 111 ∷ rest → log ≡ rest ++ more → o ≡ Some v
    by Occluded rest more (inl is) u word e = is
    by Occluded rest more (inr never) u word e = absurd (never more (e ∙ ap (λ (t : List ℕ). t ++ more) (sym (tail_same 111 111 (codes "ccluded") rest word))))
    by Outside rest more c (inl is) word e = is
    by Outside rest more c (inr never) word e = absurd (never more (e ∙ ap (λ (t : List ℕ). t ++ more) (sym (tail_same 111 111 (codes "utside") rest word))))
    by Visible rest more c u word e = let no : 118 ≡ 111 = head_same 118 111 (codes "isible") rest word in absurd (omega (arith, no))

-- the `o` came first
pub word_behind_o : (a b : Option (List ℕ)) (o : Option Verdict) → Came a b (111 ∷ []) → OnlyBehindO b o → OnlyWord a o
word_behind_o None b o came only = tt
word_behind_o (Some log) None o came only = let no : ◌≡◌ {A = Option (List ℕ)} (Some log) None = came in absurd cc
word_behind_o (Some log) (Some r) o came only = λ v more e. by v more (sym (same_Some log (111 ∷ r) came) ∙ e)
  where
    by : (v : Verdict) (more : List ℕ) → 111 ∷ r ≡ verdict_word v ++ more → o ≡ Some v
    by Occluded more e = only Occluded (codes "ccluded") more refl (tail_same 111 111 r (codes "ccluded" ++ more) e)
    by Outside more e = only Outside (codes "utside") more refl (tail_same 111 111 r (codes "utside" ++ more) e)
    by Visible more e = let no : 111 ≡ 118 = head_same 111 118 r (codes "isible" ++ more) e in absurd (omega (arith, no))

-- no `o` comes
pub word_without_o : (a : Option (List ℕ)) (o : Option Verdict) → NeverComes a (111 ∷ []) → IsFound a o Visible (codes "visible") → OnlyWord a o
word_without_o None o never found = tt
word_without_o (Some log) o never found = λ v more e. by v more found e
  where
    by : (v : Verdict) (more : List ℕ) → IsFound (Some log) o Visible (codes "visible") → log ≡ verdict_word v ++ more → o ≡ Some v
    by Occluded more found e = absurd (never (codes "ccluded" ++ more) e)
    by Outside more found e = absurd (never (codes "utside" ++ more) e)
    by Visible more (inl is) e = is
    by Visible more (inr lacks) e = absurd (lacks more e)

-- a text is found, or never comes
pub found_or_never : (a b : Option (List ℕ)) (o : Option Verdict) (v : Verdict) (text : List ℕ) → IfSome o (λ w. (w ≡ v) × Came a b text) → (o ≡ None → NeverComes a text) → IsFound a o v text
found_or_never a b None v text some none = inr (none refl)
found_or_never a b (Some w) v text some none = inl (ap Some some.0)

-- a word came in two parts
abbrev pub WordCame : Option (List ℕ) → Option (List ℕ) → Option Verdict → Type 0
WordCame a b o = IfSome o (λ v. Came a b (verdict_word v))

abbrev pub CameBehindO : Option (List ℕ) → Option (List ℕ) → Option Verdict → Type 0
CameBehindO a b o = IfSome o (λ v. (rest : List ℕ) × (verdict_word v ≡ 111 ∷ rest) × Came a b rest)

pub came_behind_o : (a b c : Option (List ℕ)) (o : Option Verdict) → Came a b (111 ∷ []) → CameBehindO b c o → WordCame a c o
came_behind_o a b c None came some = tt
came_behind_o a b c (Some v) came (rest, word, behind) = came_as a c _ _ (sym word) (came_then a b c (111 ∷ []) rest came behind)

pub came_occluded : (a b c : Option (List ℕ)) (o : Option Verdict) → Came a b (99 ∷ []) → IfSome o (λ v. (v ≡ Occluded) × Came b c (codes "cluded")) → CameBehindO a c o
came_occluded a b c None came some = tt
came_occluded a b c (Some v) came some = (codes "ccluded", ap verdict_word some.0, came_then a b c (99 ∷ []) (codes "cluded") came some.1)

pub came_outside : (a b c : Option (List ℕ)) (o : Option Verdict) → b ≡ a → IfSome o (λ v. (v ≡ Outside) × Came b c (codes "utside")) → CameBehindO a c o
came_outside a b c None same some = tt
came_outside a b c (Some v) same some = (codes "utside", ap verdict_word some.0, came_from a b c (codes "utside") same some.1)

pub came_visible : (a b c : Option (List ℕ)) (o : Option Verdict) → b ≡ a → IfSome o (λ v. (v ≡ Visible) × Came b c (codes "visible")) → WordCame a c o
came_visible a b c None same some = tt
came_visible a b c (Some v) same some = came_as a c _ _ (sym (ap verdict_word some.0)) (came_from a b c (codes "visible") same some.1)

-- a text that was looked for behind another byte
pub found_behind : (a b : Option (List ℕ)) (o : Option Verdict) (v : Verdict) (x : ℕ) (text : List ℕ) → Came a b (x ∷ []) → IsFound b o v text → IsFound a o v (x ∷ text)
found_behind a b o v x text came (inl is) = inl is
found_behind a b o v x text came (inr never) = inr (never_behind a b (x ∷ []) text came never)

pub found_from : (a b : Option (List ℕ)) (o : Option Verdict) (v : Verdict) (text : List ℕ) → b ≡ a → IsFound b o v text → IsFound a o v text
found_from a b o v text same found = subst (λ (w : Option (List ℕ)). IsFound w o v text) same found
