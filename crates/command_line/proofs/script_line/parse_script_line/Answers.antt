use Rattle.std.proofs.Common.{◌∙◌, sym, Some, None}
use Rattle.command_line.specs.Lines.{put_of}
use Rattle.command_line.specs.declared.script_line.ScriptLine.TheVariants as line
use Rattle.command_line.proofs.Lines.{script-line-so}
use Rattle.command_line.proofs.script_line.parse_script_line.Goals as goal

pub returns-in-Ok-clause-ok : goal.returns-in-Ok-clause-ok
returns-in-Ok-clause-ok c =
    script-line-so c.args.line.now _ (Some c.in-Ok.line) (sym c.is_skipped.ensures ∙ c.if-is_skipped.false) (sym c.has_outer_space.ensures ∙ c.if-has_outer_space.false)
    c.first_words-count.ensures.words c.in-Ok.ensures.ok

pub returns-in-Err-clause-refused : goal.returns-in-Err-clause-refused
returns-in-Err-clause-refused c = λ is.
    script-line-so c.args.line.now _ None (sym c.is_skipped.ensures ∙ c.if-is_skipped.false) (sym c.has_outer_space.ensures ∙ c.if-has_outer_space.false)
    c.first_words-count.ensures.words (c.in-Err.ensures.refused is)

pub returns-in-Err-clause-memory : goal.returns-in-Err-clause-memory
returns-in-Err-clause-memory c = λ wanted.
    let put = c.in-Err.ensures.memory wanted in (
      put.0,
      put.1,
      put.2,
      script-line-so c.args.line.now _ (Some (line.Command (put_of put.0 put.1 put.2))) (sym c.is_skipped.ensures ∙ c.if-is_skipped.false)
          (sym c.has_outer_space.ensures ∙ c.if-has_outer_space.false) c.first_words-count.ensures.words put.3,
    )
