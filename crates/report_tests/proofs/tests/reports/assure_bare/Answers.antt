use Rattle.std.proofs.Common.{◌≡◌, length, rules, ap, ◌∙◌, sym}
use Rattle.report_tests.proofs.tests.reports.assure_bare.Goals as goal

pub returns-clause-vertices : goal.returns-clause-vertices
returns-clause-vertices c = let empty : length c.vertices.result.now ≡ 0 = search rules in sym (ap length c.vertices.ensures) ∙ empty
