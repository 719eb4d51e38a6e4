use Rattle.culling.proofs.Stopped.{cut_any, cut_check, cut_cull, cut_demo, cut_live, cut_notes, cut_picture, cut_report, cut_upgrade, stopped_groups, stopped_live}
use Rattle.culling.proofs.laws.cuts_leave_fronts.Goals as goal

pub returns-clause-any : goal.returns-clause-any
returns-clause-any c = cut_any

pub returns-clause-cull : goal.returns-clause-cull
returns-clause-cull c = cut_cull

pub returns-clause-live : goal.returns-clause-live
returns-clause-live c = cut_live

pub returns-clause-demo : goal.returns-clause-demo
returns-clause-demo c = cut_demo

pub returns-clause-checked : goal.returns-clause-checked
returns-clause-checked c = cut_check

pub returns-clause-upgrade : goal.returns-clause-upgrade
returns-clause-upgrade c = cut_upgrade

pub returns-clause-picture : goal.returns-clause-picture
returns-clause-picture c = cut_picture

pub returns-clause-report : goal.returns-clause-report
returns-clause-report c = cut_report

pub returns-clause-notes : goal.returns-clause-notes
returns-clause-notes c = cut_notes

pub returns-clause-live_notes : goal.returns-clause-live_notes
returns-clause-live_notes c = stopped_live

pub returns-clause-group_notes : goal.returns-clause-group_notes
returns-clause-group_notes c = stopped_groups
