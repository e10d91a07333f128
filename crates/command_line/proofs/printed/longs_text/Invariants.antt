use Rattle.std.proofs.Common.{◌≡◌, ◌++◌, take, codes}
use Rattle.std.specs.String.{string_bytes}
use Rattle.std.specs.List.{flat_map}
use Rattle.command_line.specs.Texts.{long_text}
use Rattle.command_line.proofs.printed.longs_text.Given as goal

-- the long commits so far
abbrev pub invariant-loop-long : goal.invariant-loop-long
invariant-loop-long l = string_bytes l.text ≡ codes " longs" ++ flat_map long_text (take l.long-index l.longs)
