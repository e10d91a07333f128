use Rattle.std.proofs.Common.{◌≡◌, take}
use Rattle.std.specs.String.{string_bytes}
use Rattle.std.specs.List.{flat_map}
use Rattle.command_line.specs.Texts.{gap_text}
use Rattle.command_line.proofs.printed.gaps_text.Given as goal

-- the gaps so far
abbrev pub invariant-loop-gap : goal.invariant-loop-gap
invariant-loop-gap l = string_bytes l.text ≡ flat_map gap_text (take l.gap-index l.gaps)
