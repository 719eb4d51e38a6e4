use Rattle.cull_report.proofs.Upgraded.{same_report, same_live}
use Rattle.cull_report.proofs.laws.upgrade_keeps_texts.Goals as goal

pub returns-clause-report : goal.returns-clause-report
returns-clause-report c = same_report

pub returns-clause-live : goal.returns-clause-live
returns-clause-live c = same_live
