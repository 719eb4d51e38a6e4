-- The number in front of the input of `check`.
use Rattle.std.specs.Prelude.{ℕ, ◌≡◌, ◌<◌, ◌⊎◌, List, length}
use Rattle.cull_base.specs.Stream.{IsAtEnd, Rose, SourceSays, Takes}
use Rattle.scene_reader.specs.Fault.{word_at}
use Rattle.scene_reader.specs.declared.error.SceneError.TheVariants.{Truncated}
use Rattle.frame_reports.specs.declared.failure.Failure.{Failure}
use Rattle.frame_reports.specs.declared.failure.Failure.TheVariants.{Scene, ReadFault}

-- four bytes were taken, which are this number, lowest byte first
pub record TakesNumber (before after : SourceSays) (n : ℕ) : Type 0 where
  pub bytes : List ℕ
  pub takes : Takes before.left after.left bytes
  pub four : length bytes ≡ 4
  pub says : n ≡ word_at 0 bytes

-- there were fewer, which were all that was left; or the source failed
abbrev pub IsNoNumber : SourceSays → SourceSays → Failure → Type 0
IsNoNumber before after f =
    ((bytes : List ℕ) × Takes before.left after.left bytes × (length bytes < 4) × IsAtEnd after.left × (f ≡ Scene (Truncated 4 (length bytes))))
    ⊎ ((f ≡ ReadFault) × Rose before.faults after.faults)
