use Rattle.std.proofs.Common.{◌≡◌, ℕ, ◌<◌, get_or}
use Rattle.base.specs.Records.{record_word}
use Rattle.log_area.proofs.record.Record.fills.Given as goal

abbrev pub invariant-loop-word : goal.invariant-loop-word
invariant-loop-word l = (w : ℕ) → w < l.word → get_or l.words w 0 ≡ record_word l.self w
