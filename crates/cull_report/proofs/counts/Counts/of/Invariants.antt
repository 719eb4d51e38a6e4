use Rattle.std.proofs.Common.{◌≡◌, take}
use Rattle.std.specs.Prelude.{count_by}
use Rattle.cull_report.specs.Text.{is_visible, is_occluded, is_outside}
use Rattle.cull_report.proofs.counts.Counts.of.Given as goal

abbrev pub invariant-loop-verdict : goal.invariant-loop-verdict
invariant-loop-verdict l = record {
  visible : l.visible ≡ count_by is_visible (take l.verdict-index l.verdicts);
  occluded : l.occluded ≡ count_by is_occluded (take l.verdict-index l.verdicts);
  outside : l.outside ≡ count_by is_outside (take l.verdict-index l.verdicts);
}
