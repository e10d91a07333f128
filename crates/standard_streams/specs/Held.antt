-- What an output that holds back its last line has passed on, and what it holds.
use Rattle.std.specs.Prelude.{ℕ, List}
use Rattle.standard_streams.specs.declared.last_line.LastLine.{LastLine}

-- what it passes lines on to
abbrev pub output_of : {W : Type 0} → LastLine W → W
output_of line = line.output

-- what it holds back
abbrev pub held_in : {W : Type 0} → LastLine W → List ℕ
held_in line = line.held.items
