-- Lines that are flushed and not fenced.
use Rattle.std.specs.Prelude.{ℕ, Bool, not, ◌==◌}
use Rattle.pmem_file.specs.declared.flushed.Flushed.{Flushed}

-- another actor than this one flushed it
abbrev pub is_of_another : ℕ → Flushed → Bool
is_of_another actor one = not (one.actor == actor)
