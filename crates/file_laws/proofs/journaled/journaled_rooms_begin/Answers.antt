use Rattle.file_laws.proofs.Finding.{begins-opened, begins-formatted}
use Rattle.file_laws.proofs.journaled.journaled_rooms_begin.Goals as goal

pub returns-clause-opened : goal.returns-clause-opened
returns-clause-opened g c = λ history next lost q zero_is opens shows leaves. begins-opened c.args.device.now c.args.room.now history next lost q zero_is opens shows leaves

pub returns-clause-formatted : goal.returns-clause-formatted
returns-clause-formatted g c = λ layout history next lost q zero_is nothing formats fresh opens shows leaves.
    begins-formatted c.args.unformatted.now c.args.device.now c.args.room.now layout history next lost q zero_is nothing formats fresh opens shows leaves
