use Rattle.std.proofs.Common.{rules}
use Rattle.requests.proofs.Bytes.{read-head}
use Rattle.requests.proofs.head.Head.of.Goals as goal

pub returns-clause-bytes : goal.returns-clause-bytes
returns-clause-bytes c = read-head c.args.bytes.now c.read_u32.result c.read_u16.result c.read_u16-2.result c.read_u64.result (search rules) (search rules) (search rules) (search rules) (search rules) (search rules)
