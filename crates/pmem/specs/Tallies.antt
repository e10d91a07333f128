-- The number that a tally stands for.
use Rattle.std.specs.Prelude.{ℕ, ◌+◌}
use Rattle.pmem.specs.declared.tally.Tally.{Tally, Zero, More'}

-- how often it was raised
abbrev pub number_of : Tally → ℕ
number_of Zero = 0
number_of (More' marker before) = number_of before + 1
