use Rattle.std.proofs.Common.{◌≡◌, length, take}
use Rattle.command_line.proofs.line.first_words.Given as goal

-- the words so far are at the front
abbrev pub invariant-loop-word : goal.invariant-loop-word
invariant-loop-word l = (l.count ≡ length l.yielded) × (take l.count l.words ≡ l.yielded) × (length l.words ≡ 6)
