use Rattle.group_query.proofs.report.group_verdicts_with_lines.Goals as goal

pub report_of-requires-clause-verdicts : goal.report_of-requires-clause-verdicts
report_of-requires-clause-verdicts g c = c.in_ok-answers.ensures.verdicts

pub report_of-requires-clause-told : goal.report_of-requires-clause-told
report_of-requires-clause-told g c = c.in_ok-answers.ensures.told
