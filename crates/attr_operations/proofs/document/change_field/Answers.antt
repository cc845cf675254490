use Rattle.attr_operations.proofs.document.change_field.Goals as goal

pub returns-in-Some-clause-counts : goal.returns-in-Some-clause-counts
returns-in-Some-clause-counts g c = rw c.in-Some.is c.put.ensures.counts

pub returns-in-None-clause-counts : goal.returns-in-None-clause-counts
returns-in-None-clause-counts g c = rw c.in-None.is c.remove.ensures.counts

pub returns-in-Some-clause-low : goal.returns-in-Some-clause-low
returns-in-Some-clause-low g c = rw c.in-Some.is c.put.ensures.low

pub returns-in-None-clause-low : goal.returns-in-None-clause-low
returns-in-None-clause-low g c = rw c.in-None.is c.remove.ensures.low

pub returns-in-Some-clause-refuses : goal.returns-in-Some-clause-refuses
returns-in-Some-clause-refuses g c = rw c.in-Some.is c.put.ensures.refuses

pub returns-in-None-clause-refuses : goal.returns-in-None-clause-refuses
returns-in-None-clause-refuses g c = rw c.in-None.is c.remove.ensures.refuses

pub returns-in-Some-clause-form : goal.returns-in-Some-clause-form
returns-in-Some-clause-form g c = c.put.ensures.form

pub returns-in-None-clause-form : goal.returns-in-None-clause-form
returns-in-None-clause-form g c = c.remove.ensures.form
