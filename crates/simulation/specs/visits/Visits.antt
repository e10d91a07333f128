-- Which operations a visit of the collector makes.
use Rattle.std.specs.Prelude.{ℕ, List}
use Rattle.machine.specs.Machine.{State}
use Rattle.pmem.specs.Trace.{Operation}
use Rattle.collector.specs.Sweeping.{tick_operations}

-- those of a tick at the state's place, by these values of the words
abbrev pub visit_operations : State → (ℕ → ℕ) → List Operation
visit_operations q = tick_operations q.layout q.ruling.gaps q.swept q.place
