use Rattle.std.proofs.Common.{◌++◌, ◌∷◌, [], ap, subst}
use Rattle.std.specs.Io.KnownBytes.{Appends}
use Rattle.command_line.specs.Numbers.{Text}
use Rattle.console.specs.Scripts.{closed_text, opened_text, replies_text}
use Rattle.console.proofs.Obeyed.{appends-more}
use Rattle.console.proofs.Scripts.{printed-last}
use Rattle.console.proofs.script.print_lived.Goals as goal

pub returns : goal.returns
returns g c =
    let replies = c.args.report.now.replies.items in
    printed-last c.print_closed.result (g.W.Write.contents c.args.output.now) (g.W.Write.contents c.print_replies.new.output) (g.W.Write.contents c.print_closed.new.output)
    ((opened_text c.args.opened.now ++ 10 ∷ []) ++ replies_text replies) (closed_text c.args.report.now.closed)
    (appends-more (g.W.Write.contents c.args.output.now) (g.W.Write.contents c.print_opened.new.output) (g.W.Write.contents c.print_replies.new.output)
    (opened_text c.args.opened.now ++ 10 ∷ []) (replies_text replies) c.in_ok-print_opened.ensures
    (subst (λ (said : Text). Appends (g.W.Write.contents c.print_opened.new.output) (g.W.Write.contents c.print_replies.new.output) said) (ap replies_text c.as_slice.ensures.value) c.in_ok-print_replies.ensures))
    c.print_closed.ensures
