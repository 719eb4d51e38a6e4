use Rattle.culling.proofs.ByInput.{complete_check, complete_cull, complete_demo, complete_live, complete_picture, complete_upgrade, frame_missing, missing_picture, read_rose, refused, scene_refused}
use Rattle.culling.proofs.laws.runs_end_by_their_input.Goals as goal

pub returns-clause-refused : goal.returns-clause-refused
returns-clause-refused c = refused

pub returns-clause-scene : goal.returns-clause-scene
returns-clause-scene c = scene_refused

pub returns-clause-unread : goal.returns-clause-unread
returns-clause-unread c = read_rose

pub returns-clause-cull : goal.returns-clause-cull
returns-clause-cull c words status before after s spelled no_read no_report no_notes h =
    complete_cull words status before after s spelled.left spelled.scene no_read no_report no_notes h

pub returns-clause-live : goal.returns-clause-live
returns-clause-live c words status before after s spelled no_read no_report no_notes h =
    complete_live words status before after s spelled.left spelled.scene no_read no_report no_notes h

pub returns-clause-demo : goal.returns-clause-demo
returns-clause-demo c = complete_demo

pub returns-clause-checked : goal.returns-clause-checked
returns-clause-checked c words status before after s bytes logged no_read no_report h =
    complete_check words status before after s bytes logged.left logged.spelled logged.scene no_read no_report h

pub returns-clause-upgrade : goal.returns-clause-upgrade
returns-clause-upgrade c status before after s spelled no_read no_report h = complete_upgrade status before after s spelled.left spelled.scene no_read no_report h

pub returns-clause-picture : goal.returns-clause-picture
returns-clause-picture c words status before after s spelled lt no_read no_report h =
    complete_picture words status before after s spelled.left spelled.scene lt no_read no_report h

pub returns-clause-missing : goal.returns-clause-missing
returns-clause-missing c words status before after s spelled past no_read h =
    missing_picture words status before after s spelled.left spelled.scene past no_read h

pub returns-clause-frame : goal.returns-clause-frame
returns-clause-frame c = frame_missing
