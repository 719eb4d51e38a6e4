-- What an upgraded scene has in common with the scene.
use Rattle.std.specs.Prelude.{ℕ, ◌≡◌}
use Rattle.scene_reader.specs.Layout.{Parts, upgraded}
use Rattle.cull_report.specs.Live.{Counts, live_text}
use Rattle.cull_report.specs.Scene.{report_text}

abbrev pub KeepsReport : Type 0
KeepsReport = (s : Parts) → report_text (upgraded s) ≡ report_text s

abbrev pub KeepsLive : Type 0
KeepsLive = (s : Parts) (rounds watch : ℕ) (counts : Counts) → live_text (upgraded s) rounds watch counts ≡ live_text s rounds watch counts
