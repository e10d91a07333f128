-- Lines that are marked, and listed.
use Rattle.std.specs.Prelude.{◌≡◌, ℕ, Bool, true, false, if◌then◌else◌, List, slice_index_or}
use Rattle.journal.specs.Changes.{is_listed}
use Rattle.pmem_file.specs.Journaled.{is_gate_line}
use Rattle.pmem_file.specs.declared.changed.Mark.{Mark}
use Rattle.pmem_file.specs.declared.changed.Mark.TheVariants.{Unchanged, Plain, Gates}

-- the lines that are listed, each below a number, of a device with this number of places for records
pub record Changes : Type 0 where
  pub lines : List ℕ
  pub count : ℕ
  pub places : ℕ

-- the mark is that of a line that was stored to
abbrev pub is_change : Mark → Bool
is_change Unchanged = false
is_change Plain = true
is_change Gates = true

-- and that holds no gate
abbrev pub is_plain_change : Mark → Bool
is_plain_change Unchanged = false
is_plain_change Plain = true
is_plain_change Gates = false

-- the line is marked as stored to
abbrev pub is_marked : List Mark → ℕ → Bool
is_marked marks line = is_change (slice_index_or marks line Unchanged)

-- the line is marked as stored to, and as one without a gate
abbrev pub is_plain : List Mark → ℕ → Bool
is_plain marks line = is_plain_change (slice_index_or marks line Unchanged)

-- the mark of a line that is stored to
abbrev pub mark_of : ℕ → ℕ → Mark
mark_of places line = if is_gate_line places line then Gates else Plain

-- each line that is marked is listed, and none that is plain holds a gate
pub record AreMarked (places : ℕ) (lines : List ℕ) (marks : List Mark) : Type 0 where
  pub listed : (line : ℕ) → is_marked marks line ≡ true → is_listed lines line ≡ true
  pub plain : (line : ℕ) → is_plain marks line ≡ true → is_gate_line places line ≡ false

-- the marks of these lines are gone, and none came
pub record Unmarks (lines : List ℕ) (old new : List Mark) : Type 0 where
  pub marked : (line : ℕ) → is_marked new line ≡ true → (is_marked old line ≡ true) × (is_listed lines line ≡ false)
  pub plain : (line : ℕ) → is_plain new line ≡ true → is_plain old line ≡ true
