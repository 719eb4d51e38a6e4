use Rattle.culling.proofs.ByInput.{log_refused}
use Rattle.culling.proofs.Corollaries.{done_check, done_cull, done_demo, done_live, done_picture, done_upgrade}
use Rattle.culling.proofs.laws.done_is_whole.Goals as goal

pub returns-clause-cull : goal.returns-clause-cull
returns-clause-cull c = done_cull

pub returns-clause-live : goal.returns-clause-live
returns-clause-live c = done_live

pub returns-clause-demo : goal.returns-clause-demo
returns-clause-demo c = done_demo

pub returns-clause-upgrade : goal.returns-clause-upgrade
returns-clause-upgrade c = done_upgrade

pub returns-clause-picture : goal.returns-clause-picture
returns-clause-picture c = done_picture

pub returns-clause-accepted : goal.returns-clause-accepted
returns-clause-accepted c = done_check

pub returns-clause-refused : goal.returns-clause-refused
returns-clause-refused c = log_refused
