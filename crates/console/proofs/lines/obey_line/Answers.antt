use Rattle.std.proofs.Common.{[], ◌∷◌, ◌++◌, ◌∙◌, ap, sym}
use Rattle.std.specs.Prelude.{Option, Some, None}
use Rattle.command_line.specs.declared.command.Command.{Command}
use Rattle.console.specs.Obeyed.{reply_text}
use Rattle.console.proofs.Obeyed.{obeys-reply, obeys-crash, line-read, line-skipped, appends-none}
use Rattle.console.proofs.lines.obey_line.Goals as goal

pub returns-in_default-clause-obeys : goal.returns-in_default-clause-obeys
returns-in_default-clause-obeys g c = (
  [],
  appends-none (g.W.Write.contents c.args.output.now),
  line-skipped g.D.Pmem.state c.args.room.now c.args.line.now (c.in_ok-command.ensures.ok ∙ ap (λ (read : Option Command). Some read) c.in_default.is),
)

pub returns-in_ok-show-in-Replied-clause-obeys : goal.returns-in_ok-show-in-Replied-clause-obeys
returns-in_ok-show-in-Replied-clause-obeys g c =
    let said = reply_text c.in-Replied.reply ++ 10 ∷ [] in (
      said,
      c.in_ok-show-in-Replied.ensures,
      line-read g.D.Pmem.state c.args.room.now c.perform.new.room c.args.line.now said c.in-Some.command None
          (c.in_ok-command.ensures.ok ∙ ap (λ (read : Option Command). Some read) c.in-Some.is)
          (obeys-reply g.D.Pmem.state c.args.room.now c.perform.new.room c.in-Some.command c.perform.result c.in-Replied.reply
          (sym c.is_failure.ensures ∙ c.if-is_failure.false) c.in-Replied.is c.perform.ensures.comes),
    )

pub returns-in-Crashed-clause-obeys : goal.returns-in-Crashed-clause-obeys
returns-in-Crashed-clause-obeys g c = (
  [],
  appends-none (g.W.Write.contents c.args.output.now),
  line-read g.D.Pmem.state c.args.room.now c.perform.new.room c.args.line.now [] c.in-Some.command (Some c.in-Crashed.keeps)
      (c.in_ok-command.ensures.ok ∙ ap (λ (read : Option Command). Some read) c.in-Some.is)
      (obeys-crash g.D.Pmem.state c.args.room.now c.perform.new.room c.in-Some.command c.perform.result c.in-Crashed.keeps c.in-Crashed.is c.perform.ensures.comes),
)
