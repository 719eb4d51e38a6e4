-- The input of `check`: a number of four bytes, a scene, and a log.
use Rattle.std.proofs.Common.{◌≡◌, ℕ, ◌<◌, ◌++◌, List, [], length, take, drop, nat_lt, arith, sym, ap, ◌∙◌, subst, Option, Some, None, w32}
use Rattle.std.specs.Prelude.{IfSome}
use Rattle.std.specs.Int.{from_le_bytes}
use Rattle.std.specs.Option.{option_map}
use Rattle.std.proofs.lemmas.Bool.{cond-false, cond-true, le-ltb, lt-ltb}
use Rattle.std.proofs.lemmas.List.{append-nil, drop_at, length-append}
use Rattle.std.proofs.lemmas.Option.{same_Some}
use Rattle.byteorder.specs.Endian.{little_number}
use Rattle.cull_base.specs.Stream.{IsAtEnd, SourceSays, Takes}
use Rattle.scene_reader.specs.Fault.{first_fault, word_at}
use Rattle.scene_reader.specs.Layout.{IsScene, Parts, layout}
use Rattle.scene_reader.specs.Reading.{HasFirstFault, TakesPart, first_bytes}
use Rattle.scene_reader.specs.declared.error.SceneError.{SceneError}
use Rattle.scene_reader.specs.declared.error.SceneError.TheVariants.{Truncated}
use Rattle.scene_reader.proofs.Headers.{word_front}
use Rattle.live_check.specs.Logs.{IsAnswered, IsJudged}
use Rattle.live_check.specs.declared.answer.LogAnswer.{LogAnswer}
use Rattle.live_check.specs.declared.answer.LogAnswer.TheVariants.{Accepted}
use Rattle.command_words.specs.declared.table.Command.TheVariants.{Check}
use Rattle.command_words.specs.declared.table.CheckWords.{CheckWords}
use Rattle.culling.specs.Checking.{TakesNumber}
use Rattle.culling.specs.Outcomes.{HasFault, HasScene, IfBytes, input_fault, log_bytes, scene_bytes}

-- ---- four bytes as a number

pub lowest_first : (bytes : List ℕ) → little_number 4 bytes ≡ from_le_bytes w32 bytes
lowest_first bytes = omega arith

-- ---- fewer than four bytes

short_none : (words : CheckWords) (before after : Option (List ℕ)) (x : List ℕ) → Takes before after x → length x < 4 → IsAtEnd after
    → IfSome before (λ bytes. input_fault (Check words) bytes ≡ Some (Truncated 4 (length x)))
short_none words None after x t few ended = tt
short_none words (Some b) None x t few ended = let no : ◌≡◌ {A = Option (List ℕ)} (Some b) None = t.front in absurd cc
short_none words (Some b) (Some r) x t few ended =
    let none : r ≡ [] = ended in
    let is : b ≡ x = same_Some b (x ++ r) t.front ∙ ap (λ (rest : List ℕ). x ++ rest) none ∙ append-nil x in
    ap (input_fault (Check words)) is
    ∙ cond-true (nat_lt (length x) 4) (Some (Truncated 4 (length x))) (first_fault (scene_bytes (Check words) x)) (lt-ltb (length x) 4 few)

-- ---- four bytes, and what is behind them

-- the number of an input, where its first bytes are these
number_of : (x r : List ℕ) (n : ℕ) → length x ≡ 4 → n ≡ word_at 0 x → word_at 0 (x ++ r) ≡ n
number_of x r n four says = word_front 0 x r (omega (arith, four)) ∙ sym says

behind_number : (words : CheckWords) (x r : List ℕ) (n : ℕ) → length x ≡ 4 → n ≡ word_at 0 x → scene_bytes (Check words) (x ++ r) ≡ take n r
behind_number words x r n four says = ap (λ (k : ℕ). take k (drop 4 (x ++ r))) (number_of x r n four says) ∙ ap (take n) (drop_at x r 4 four)

behind_scene : (x r : List ℕ) (n : ℕ) → length x ≡ 4 → n ≡ word_at 0 x → log_bytes (x ++ r) ≡ drop n r
behind_scene x r n four says = ap (λ (k : ℕ). drop k (drop 4 (x ++ r))) (number_of x r n four says) ∙ ap (drop n) (drop_at x r 4 four)

whole_fault : (words : CheckWords) (x r : List ℕ) (n : ℕ) → length x ≡ 4 → n ≡ word_at 0 x → input_fault (Check words) (x ++ r) ≡ first_fault (take n r)
whole_fault words x r n four says =
    cond-false (nat_lt (length (x ++ r)) 4) (Some (Truncated 4 (length (x ++ r)))) (first_fault (scene_bytes (Check words) (x ++ r))) (le-ltb (length (x ++ r)) 4 (omega (arith, length-append x r, four)))
    ∙ ap first_fault (behind_number words x r n four says)

-- what is said of the bytes behind the number is said of the input
behind : (P : List ℕ → Type 0) (Q : List ℕ → Type 0) (before after : Option (List ℕ)) (x : List ℕ) → Takes before after x → ((r : List ℕ) → P r → Q (x ++ r)) → IfSome after P → IfSome before Q
behind P Q None after x t gives h = tt
behind P Q (Some b) None x t gives h = let no : ◌≡◌ {A = Option (List ℕ)} (Some b) None = t.front in absurd cc
behind P Q (Some b) (Some r) x t gives h = subst Q (sym (same_Some b (x ++ r) t.front)) (gives r h)

-- a refusal of the part is the input's first fault
pub part_fault : (words : CheckWords) (i0 i1 : SourceSays) (n : ℕ) (e : SceneError) → TakesNumber i0 i1 n → HasFirstFault (first_bytes n i1) (Some e) → HasFault (Check words) i0 e
part_fault words i0 i1 n e t fault =
    behind (λ r. first_fault (take n r) ≡ Some e) (λ b. input_fault (Check words) b ≡ Some e) i0.left i1.left t.bytes t.takes
    (λ r h. whole_fault words t.bytes r n t.four t.says ∙ h) (mapped i1.left fault)
  where
    mapped : (left : Option (List ℕ)) → IfSome (option_map (take n) left) (λ b. first_fault b ≡ Some e) → IfSome left (λ r. first_fault (take n r) ≡ Some e)
    mapped None h = tt
    mapped (Some r) h = h

pub short_fault : (words : CheckWords) (i0 i1 : SourceSays) (x : List ℕ) → Takes i0.left i1.left x → length x < 4 → IsAtEnd i1.left → HasFault (Check words) i0 (Truncated 4 (length x))
short_fault words i0 i1 x t few ended = short_none words i0.left i1.left x t few ended

pub part_scene : (words : CheckWords) (i0 i1 i2 : SourceSays) (n : ℕ) (s : Parts) → TakesNumber i0 i1 n → IsScene s → TakesPart n i1 i2 s → HasScene (Check words) i0 s
part_scene words i0 i1 i2 n s t scene takes = record {
  scene = scene;
  spelled = behind (λ r. (take n r ≡ layout s) × (i2.left ≡ Some (drop n r))) (λ b. scene_bytes (Check words) b ≡ layout s) i0.left i1.left t.bytes t.takes
      (λ r h. behind_number words t.bytes r n t.four t.says ∙ h.0) takes;
}

-- an answer on what is left behind the scene is one on the log
pub part_judged : (words : CheckWords) (i0 i1 i2 i3 : SourceSays) (n : ℕ) (s : Parts) (answer : LogAnswer) → TakesNumber i0 i1 n → TakesPart n i1 i2 s → IsAnswered s words.rounds words.watch i2.left i3.left answer
    → IfBytes i0 (λ bytes. IsJudged s words.rounds words.watch (log_bytes bytes) answer)
part_judged words i0 i1 i2 i3 n s answer t takes answered =
    behind (λ r. (take n r ≡ layout s) × (i2.left ≡ Some (drop n r))) (λ b. IsJudged s words.rounds words.watch (log_bytes b) answer) i0.left i1.left t.bytes t.takes
    (λ r h.
    let told = subst (λ (o : Option (List ℕ)). IsAnswered s words.rounds words.watch o i3.left answer) h.1 answered in
    subst (λ (b : List ℕ). IsJudged s words.rounds words.watch b answer) (sym (behind_scene t.bytes r n t.four t.says)) told.0) takes

-- and nothing is left of the input of an accepted one
pub part_ended : (words : CheckWords) (i0 i1 i2 i3 : SourceSays) (n : ℕ) (s : Parts) (answer : LogAnswer) → TakesNumber i0 i1 n → TakesPart n i1 i2 s → IsAnswered s words.rounds words.watch i2.left i3.left answer
    → answer ≡ Accepted → IfBytes i0 (λ bytes. i3.left ≡ Some [])
part_ended words i0 i1 i2 i3 n s answer t takes answered is =
    behind (λ r. (take n r ≡ layout s) × (i2.left ≡ Some (drop n r))) (λ b. i3.left ≡ Some []) i0.left i1.left t.bytes t.takes
    (λ r h. (subst (λ (o : Option (List ℕ)). IsAnswered s words.rounds words.watch o i3.left answer) h.1 answered).1 is) takes
