use Rattle.session_laws.proofs.Transactions.{transactions-add_up}
use Rattle.session_laws.proofs.law.transactions_add_up.Goals as goal

pub returns : goal.returns
returns c = transactions-add_up
