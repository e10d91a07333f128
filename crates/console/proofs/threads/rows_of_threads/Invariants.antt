use Rattle.std.proofs.Common.{◌≡◌, take}
use Rattle.std.specs.Prelude.{filter}
use Rattle.console.specs.Threads.{is_of_thread}
use Rattle.console.proofs.threads.rows_of_threads.Given as goal

abbrev pub invariant-loop-row : goal.invariant-loop-row
invariant-loop-row l = l.own.items ≡ filter (is_of_thread l.sessions) (take l.row-index l.rows)
