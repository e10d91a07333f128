use Rattle.session_laws.proofs.Logs.{after-append, made-parts, made-join, own-append, own-split, silent-go, run-log, step-adds, mark-quiet, mark-other, mark-moved}
use Rattle.session_laws.proofs.law.logs_follow_runs.Goals as goal

pub returns : goal.returns
returns c = record {
  runs = run-log;
  steps = step-adds;
  silent = silent-go;
  split = record { made = λ q log more. (made-parts q log more, made-join q log more); after = after-append; owned = own-append; at_own = own-split };
  marks = record { quiet = mark-quiet; other = mark-other; moved = mark-moved };
}
