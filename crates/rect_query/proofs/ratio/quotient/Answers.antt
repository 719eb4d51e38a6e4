use Rattle.rect_query.proofs.ratio.quotient.Goals as goal

pub returns-in-Across-clause-value : goal.returns-in-Across-clause-value
returns-in-Across-clause-value c = let is = c.in-Across.is in rw is c.across.ensures.value

pub returns-in-Down-clause-value : goal.returns-in-Down-clause-value
returns-in-Down-clause-value c = let is = c.in-Down.is in rw is c.down.ensures.value
