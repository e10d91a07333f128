use Rattle.std.proofs.Common.{rules}
use Rattle.requests.proofs.Bytes.{read-two}
use Rattle.requests.proofs.request.range_request.Goals as goal

pub returns-then-head-eq-FIRST : goal.returns-then-head-eq-FIRST
returns-then-head-eq-FIRST c = (search rules, read-two c.args.payload.now c.read_u64.result c.read_u64-limit.result (search rules) (search rules) (search rules) (search rules))

pub returns-else-head-eq-FIRST : goal.returns-else-head-eq-FIRST
returns-else-head-eq-FIRST c = (search rules, read-two c.args.payload.now c.read_u64.result c.read_u64-limit.result (search rules) (search rules) (search rules) (search rules))
