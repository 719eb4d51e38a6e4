-- Logs that `live` may have written, and how many lines of another are good.
use Rattle.std.specs.Prelude.{ℕ, ◌≡◌, ◌≤◌, List, [], ◌∷◌, ◌++◌, length, Option, Some, IfSome}
use Rattle.std.specs.List.{AllByRecursion, flat_map}
use Rattle.scene_reader.specs.Layout.{Parts}
use Rattle.cull_report.specs.Live.{Counts, IsRising, live_text}
use Rattle.live_check.specs.declared.answer.LogAnswer.{LogAnswer}
use Rattle.live_check.specs.declared.answer.LogAnswer.TheVariants.{Accepted, Refused}

-- the log is the live text of some counts, and these rise
pub record IsAccepted (s : Parts) (rounds watch : ℕ) (log : List ℕ) : Type 0 where
  pub counts : Counts
  pub rising : IsRising s rounds watch counts
  pub spelled : log ≡ live_text s rounds watch counts

-- bytes without a newline
abbrev pub IsBare : List ℕ → Type 0
IsBare bytes = AllByRecursion (λ b. b ≡ 10 → ⊥) bytes

-- a text is so many lines, each with its newline
pub record AreLines (n : ℕ) (text : List ℕ) : Type 0 where
  pub lines : List (List ℕ)
  pub count : length lines ≡ n
  pub bare : AllByRecursion IsBare lines
  pub spelled : text ≡ flat_map (λ l. l ++ 10 ∷ []) lines

-- the log has so many whole lines in front that are the first of some accepted log
pub record HasGoodLines (s : Parts) (rounds watch : ℕ) (log : List ℕ) (n : ℕ) : Type 0 where
  pub front : List ℕ
  pub lines : AreLines n front
  pub behind : List ℕ
  pub begins : log ≡ front ++ behind
  pub rest : List ℕ
  pub accepted : IsAccepted s rounds watch (front ++ rest)

-- and no more of them: so many lines are good
pub record AreGoodLines (s : Parts) (rounds watch : ℕ) (log : List ℕ) (n : ℕ) : Type 0 where
  pub good : HasGoodLines s rounds watch log n
  pub greatest : (m : ℕ) → HasGoodLines s rounds watch log m → m ≤ n

-- an answer on a log
abbrev pub IsJudged : Parts → ℕ → ℕ → List ℕ → LogAnswer → Type 0
IsJudged s rounds watch log Accepted = IsAccepted s rounds watch log
IsJudged s rounds watch log (Refused n) = (IsAccepted s rounds watch log → ⊥) × AreGoodLines s rounds watch log n

-- the answer on what was left of a log, where its bytes are told; of an accepted one nothing is left
abbrev pub IsAnswered : Parts → ℕ → ℕ → Option (List ℕ) → Option (List ℕ) → LogAnswer → Type 0
IsAnswered s rounds watch before after answer =
    IfSome before (λ log. IsJudged s rounds watch log answer × (answer ≡ Accepted → after ≡ Some []))
