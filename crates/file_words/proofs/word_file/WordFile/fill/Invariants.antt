use Rattle.std.proofs.Common.{◌≡◌, ℕ, ◌-◌, get_or, length}
use Rattle.file_words.specs.Calls.{held_by, shown_by}
use Rattle.file_words.proofs.Writes.{IsFilling}
use Rattle.file_words.proofs.word_file.WordFile.fill.Given as goal

abbrev pub invariant-loop-at : goal.invariant-loop-at
invariant-loop-at l =
    IsFilling (held_by l.fn.self.account) (shown_by l.fn.self.account) (held_by l.self.account) (shown_by l.self.account) l.fn.from l.fn.to l.at
    × ((k : ℕ) → get_or l.zeros.items k 0 ≡ 0) × (length l.zeros.items ≡ 8192) × (l.self.end ≡ 0)

abbrev pub decreases-loop-at : goal.decreases-loop-at
decreases-loop-at l = l.to - l.at
