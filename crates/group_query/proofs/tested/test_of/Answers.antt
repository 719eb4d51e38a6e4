use Rattle.group_query.proofs.tested.test_of.Goals as goal

pub rect_test-requires : goal.rect_test-requires
rect_test-requires g c = λ t below met. c.requires t below

pub returns-in-Some-clause-verdict : goal.returns-in-Some-clause-verdict
returns-in-Some-clause-verdict g c = rw c.in-Some.is c.rect_test.ensures
