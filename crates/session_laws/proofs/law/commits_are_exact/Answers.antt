use Rattle.session_laws.proofs.Sessions.{ends-covered, polls-covered}
use Rattle.session_laws.proofs.Commits.{draws-writes, drawn-stays_one, commits-exactly, kept-stays, nothing-else}
use Rattle.session_laws.proofs.law.commits_are_exact.Goals as goal

pub returns : goal.returns
returns c = record { draws = draws-writes; one = drawn-stays_one; ends = record { ends = ends-covered; polls = polls-covered }; exact = commits-exactly; stays = kept-stays; only = nothing-else }
