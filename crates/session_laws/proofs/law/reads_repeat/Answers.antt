use Rattle.session_laws.proofs.Sessions.{accesses-add_up, reads-snapshot, reads-repeat}
use Rattle.session_laws.proofs.law.reads_repeat.Goals as goal

pub returns : goal.returns
returns c = record { adds = accesses-add_up; reads = reads-snapshot; again = reads-repeat }
