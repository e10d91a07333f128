use Rattle.store.proofs.files.open_database.Goals as goal

pub returns-in-Err-open_over-clause-err : goal.returns-in-Err-open_over-clause-err
returns-in-Err-open_over-clause-err g c = c.in-Err-open_over.ensures.err c.args.geometry

pub returns-in-Err-open_over-clause-fault : goal.returns-in-Err-open_over-clause-fault
returns-in-Err-open_over-clause-fault g c = c.in-Err-open_over.ensures.fault c.args.geometry c.in-Ok.ensures.found
