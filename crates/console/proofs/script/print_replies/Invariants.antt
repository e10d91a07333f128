use Rattle.std.proofs.Common.{take}
use Rattle.std.specs.Io.KnownBytes.{Appends}
use Rattle.console.specs.Scripts.{replies_text}
use Rattle.console.proofs.script.print_replies.Given as goal

abbrev pub invariant-loop-reply : goal.invariant-loop-reply
invariant-loop-reply g l = Appends (g.W.Write.contents l.initial.output) (g.W.Write.contents l.output) (replies_text (take l.reply-index l.replies))
