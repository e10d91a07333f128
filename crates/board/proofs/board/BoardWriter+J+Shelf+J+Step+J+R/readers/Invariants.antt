use Rattle.std.proofs.Common.{◌≡◌, ◌≤◌, length, All, vec_capacity}
use Rattle.board.proofs.board.BoardWriter+J+Shelf+J+Step+J+R.readers.Given as goal

abbrev pub invariant-loop : goal.invariant-loop
invariant-loop g l = (length l.made.items ≤ l.counter) × (l.readers ≤ vec_capacity l.made) × All (λ reader. reader ≡ l.self.list) l.made.items
