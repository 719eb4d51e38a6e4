-- What sources and sinks say of their bytes and their counts.
use Rattle.std.specs.Prelude.{ℕ, ◌≡◌, ◌+◌, ◌-◌, ◌^◌, ◌<◌, ◌≤◌, ◌⊎◌, min, List, [], ◌++◌, length, take, drop}
use Rattle.std.specs.Prelude.{Option, option_map, IfSome, Result, OnOk, OnErr, IsErrOf}
use Rattle.std.specs.List.{All}
use Rattle.cull_base.specs.declared.memory.SinkError.{SinkError}
use Rattle.cull_base.specs.declared.memory.SinkError.TheVariants.{Failed, Memory}

-- a count rose in a call, or stands at its type's end as the call ends
abbrev pub Rose : ℕ → ℕ → Type 0
Rose before after = min (before + 1) (2 ^ 64 - 1) ≤ after

-- the number of the next call, which stands still at its type's end
abbrev pub next_count : ℕ → ℕ
next_count n = min (n + 1) (2 ^ 64 - 1)

-- what a source says of itself: the bytes that are left, where they are told, how often it failed, and a number of turns
pub record SourceSays : Type 0 where
  pub left : Option (List ℕ)
  pub faults : ℕ
  pub turns : ℕ

-- what a sink says of itself: the bytes that it holds, where they are told, how often it failed, and how often it couldn't grow
pub record SinkSays : Type 0 where
  pub holding : Option (List ℕ)
  pub faults : ℕ
  pub refusals : ℕ

-- nothing is left, where that is told
abbrev pub IsAtEnd : Option (List ℕ) → Type 0
IsAtEnd after = IfSome after (λ rest. rest ≡ [])

-- no byte is left in a source, if the bytes are told
abbrev pub HasNoneLeft : SourceSays → Type 0
HasNoneLeft source = IsAtEnd source.left

-- n bytes were taken from the front of what was left, if that is told, and stand at the front of the buffer
abbrev pub TakesFront : Option (List ℕ) → Option (List ℕ) → List ℕ → ℕ → Type 0
TakesFront before after buffer n =
    (after ≡ option_map (drop n) before) × IfSome before (λ bytes. (n ≤ length bytes) × (take n buffer ≡ take n bytes))

-- these bytes were taken from the front of what was left, where that is told
pub record Takes (before after : Option (List ℕ)) (bytes : List ℕ) : Type 0 where
  pub front : before ≡ option_map (λ rest. bytes ++ rest) after
  pub fits : All (λ b. b < 256) bytes

-- so many bytes at most were taken, and all turns but one took a byte or more
pub record TakesInTurns (most : ℕ) (before after : SourceSays) : Type 0 where
  pub bytes : List ℕ
  pub takes : Takes before.left after.left bytes
  pub few : length bytes ≤ most
  pub turns : after.turns ≤ before.turns + length bytes + 1

-- these bytes were appended, if the bytes are told
abbrev pub Appends : SinkSays → SinkSays → List ℕ → Type 0
Appends before after bytes = after.holding ≡ option_map (λ held. held ++ bytes) before.holding

-- a front of these bytes was appended
abbrev pub AppendsPrefix : SinkSays → SinkSays → List ℕ → Type 0
AppendsPrefix before after bytes = (n : ℕ) × (n ≤ length bytes) × Appends before after (take n bytes)

-- a front that isn't the whole
abbrev pub AppendsProperPrefix : SinkSays → SinkSays → List ℕ → Type 0
AppendsProperPrefix before after bytes = (n : ℕ) × (n < length bytes) × Appends before after (take n bytes)

-- The text was appended, or after an error a front of it that isn't the whole; each error has its cause.
pub record Writes (before after : SinkSays) (result : Result (Unit {0}) SinkError) (text : List ℕ) : Type 0 where
  pub ok : OnOk result (Appends before after text)
  pub err : OnErr result (AppendsProperPrefix before after text)
  pub failed : IsErrOf result Failed → Rose before.faults after.faults
  pub memory : IsErrOf result Memory → Rose before.refusals after.refusals
  pub faults_stay : before.faults ≤ after.faults
  pub refusals_stay : before.refusals ≤ after.refusals

-- the text was appended, or a front of it where one of the sink's counts rose
abbrev pub IsNoted : SinkSays → SinkSays → List ℕ → Type 0
IsNoted before after text =
    Appends before after text
    ⊎ (AppendsPrefix before after text × (Rose before.faults after.faults ⊎ Rose before.refusals after.refusals))

-- a source in memory
pub record SourceBytes : Type 0 where
  pub left : List ℕ
  pub most : ℕ
  pub fails : List ℕ
  pub calls : ℕ
  pub faults : ℕ

-- a sink in memory
pub record SinkBytes : Type 0 where
  pub held : List ℕ
  pub most : ℕ
  pub fails : List ℕ
  pub calls : ℕ
  pub faults : ℕ
  pub refusals : ℕ

-- which of a sink's counts rose by one in a call
abbrev pub CountsNone : SinkBytes → SinkBytes → Type 0
CountsNone before after = (after.faults ≡ before.faults) × (after.refusals ≡ before.refusals)

abbrev pub CountsFault : SinkBytes → SinkBytes → Type 0
CountsFault before after = (after.faults ≡ next_count before.faults) × (after.refusals ≡ before.refusals)

abbrev pub CountsRefusal : SinkBytes → SinkBytes → Type 0
CountsRefusal before after = (after.faults ≡ before.faults) × (after.refusals ≡ next_count before.refusals)

-- a sink in memory that never fails
pub record SureBytes : Type 0 where
  pub held : List ℕ
  pub refusals : ℕ
