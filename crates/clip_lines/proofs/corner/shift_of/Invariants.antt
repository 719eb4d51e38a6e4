use Rattle.std.proofs.Common.{ℕ, ◌<◌, ◌+◌, ◌^◌, ◌↔◌, get_or}
use Rattle.exact_clip.specs.declared.held.Held.{Held}
use Rattle.clip_lines.specs.Parts.{IsShifted}
use Rattle.clip_lines.proofs.corner.shift_of.Given as goal

-- what is known of the corners so far
abbrev pub invariant-loop-v : goal.invariant-loop-v
invariant-loop-v l = (s : ℕ) → (l.greatest < 2 ^ (30 + s)) ↔ ((k : ℕ) → k < l.v-index → (d : Held) → IsShifted s (get_or l.corners k d))
