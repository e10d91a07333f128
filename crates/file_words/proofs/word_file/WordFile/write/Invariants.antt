use Rattle.std.proofs.Common.{length, ◌+◌, ◌-◌}
use Rattle.file_words.specs.Calls.{IsApart, held_by, shown_by}
use Rattle.file_words.proofs.Writes.{IsWriting}
use Rattle.file_words.proofs.word_file.WordFile.write.Given as goal

abbrev pub invariant-loop-at : goal.invariant-loop-at
invariant-loop-at l =
    IsWriting (held_by l.fn.self.account) (shown_by l.fn.self.account) (held_by l.self.account) (shown_by l.self.account) l.fn.start l.fn.words l.at
    × IsApart l.fn.start (l.fn.start + length l.fn.words) l.self.unwritten l.self.end

abbrev pub decreases-loop-at : goal.decreases-loop-at
decreases-loop-at l = length l.words - l.at
