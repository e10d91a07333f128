use Rattle.file_laws.proofs.FoundRuns.{comes-shown, comes-opened, comes-formatted}
use Rattle.file_laws.proofs.law.rooms_come_from_their_openings.Goals as goal

pub returns-clause-shown : goal.returns-clause-shown
returns-clause-shown g c = λ q shows. comes-shown g.D.Pmem.state c.args.room.now q (g.met.D.Pmem.orderly c.args.room.now.device) shows

pub returns-clause-opened : goal.returns-clause-opened
returns-clause-opened g c = λ history next lost q opens leaves.
    comes-opened (g.D.Pmem.state c.args.device.now) (g.D.Pmem.state c.args.room.now.device) history next lost q opens leaves

pub returns-clause-formatted : goal.returns-clause-formatted
returns-clause-formatted g c = λ layout history lost q nothing leaves fresh opens continues comes.
    comes-formatted (g.D.Pmem.state c.args.unformatted.now) (g.D.Pmem.state c.args.device.now) (g.D.Pmem.state c.args.room.now.device) layout history lost q nothing leaves fresh opens continues comes
