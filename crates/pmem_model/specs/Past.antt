-- What was done to the words, and what they had.
use Rattle.std.specs.Prelude.{ℕ, ◌/◌, List, if◌then◌else◌, ◌==◌}
use Rattle.pmem.specs.Device.{Entry, marked, persisted, restarted}
use Rattle.pmem_model.specs.Log.{pushed}
use Rattle.pmem_model.specs.declared.past.Change.{Change}
use Rattle.pmem_model.specs.declared.past.Change.TheVariants.{Store, Mark, Persist}
use Rattle.pmem_model.specs.declared.past.Past.{Past, Begun, Then'}

-- the histories after a change
abbrev pub changed_by : Change → (ℕ → List Entry) → ℕ → List Entry
changed_by (Store word value moment) history = pushed word value moment history
changed_by (Mark line actor) history = λ other. if (other / 8) == line then marked actor (history other) else history other
changed_by (Persist line actor moment) history = λ other. if (other / 8) == line then persisted actor moment (history other) else history other

-- the histories after all changes
abbrev pub history_of : Past → ℕ → List Entry
history_of (Begun words) = (restarted words.value.items).history
history_of (Then' marker before change) = changed_by change.value (history_of before)
