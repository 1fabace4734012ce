use Rattle.rollout.proofs.dispatch.run_by.Goals as goal

pub returns-in-Some-clause-journal : goal.returns-in-Some-clause-journal
returns-in-Some-clause-journal g c = rw c.in-Some.is (rw c.resume_wish.ensures.wish at c.resume.ensures.journal)

pub returns-clause-journal : goal.returns-clause-journal
returns-clause-journal g c = rw c.in-None.is (rw (c.start_wish.ensures.journal, c.as_str.ensures.value) at c.begin_by.ensures.journal)
