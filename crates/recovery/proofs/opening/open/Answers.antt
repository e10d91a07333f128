use Rattle.recovery.proofs.opening.open.Goals as goal

pub returns-in-Ok-clause-ok : goal.returns-in-Ok-clause-ok
returns-in-Ok-clause-ok g c = c.in-Ok.ensures.ok

pub returns-in-Ok-clause-images : goal.returns-in-Ok-clause-images
returns-in-Ok-clause-images g c = c.in-Ok.ensures.images

pub returns-in-Err-clause-fault : goal.returns-in-Err-clause-fault
returns-in-Err-clause-fault g c = c.in-Err.ensures.fault

pub returns-in-Err-clause-images : goal.returns-in-Err-clause-images
returns-in-Err-clause-images g c = c.in-Err.ensures.images

pub returns-in-Err-clause-log : goal.returns-in-Err-clause-log
returns-in-Err-clause-log g c = c.in-Err.ensures.log

pub returns-in-Ok-clause-version : goal.returns-in-Ok-clause-version
returns-in-Ok-clause-version g c = c.in-Ok.ensures.version

pub returns-in-Err-clause-version : goal.returns-in-Err-clause-version
returns-in-Err-clause-version g c = c.in-Err.ensures.version
