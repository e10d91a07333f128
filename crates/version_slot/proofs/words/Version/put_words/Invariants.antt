use Rattle.std.proofs.Common.{◌≡◌, ◌+◌, ◌*◌, ◌^◌, ◌<◌, ℕ, length, slice_index}
use Rattle.version_slot.specs.Words.{link_number, row_word}
use Rattle.version_slot.proofs.words.Version.put_words.Given as goal

abbrev pub invariant-loop-k : goal.invariant-loop-k
invariant-loop-k l = record {
  size : length l.words ≡ 64;
  end : slice_index l.words 1 ≡ 0;
  key : slice_index l.words 2 ≡ l.self.key.key;
  header : slice_index l.words 3 ≡ l.self.key.table + 2 ^ 16 * length l.self.row + 2 ^ 32 * link_number l.self.previous;
  copied : (k : ℕ) → k < l.k → slice_index l.words (4 + k) ≡ row_word l.self.row k;
}
