-- What the command line is, as clap's statements take it, and which kinds of error print help.
use Rattle.std.proofs.Common.{◌≡◌, ◌⊎◌, IfOk, IsOkAnd, Result, Bool, true, false, not, ◌&&◌, List, [], ◌∷◌, ◌++◌, ◌∙◌, ap, subst, arith}
use Rattle.std.proofs.lemmas.Result.{IfOk-weaker}
use Rattle.clap.specs.Words.{AddsArg, AddsSubcommand, App, IsAmong, Rule, Shape, app_of, fault_of, rule_of, shape_of, with_rule, with_subcommand}
use Rattle.std.specs.declared.alloc.AllocError.{AllocError}
use Rattle.clap.specs.declared.builder.arg.Arg.{Arg}
use Rattle.clap.specs.declared.builder.command.Command.{Command}
use Rattle.clap.specs.declared.error.kind.ErrorKind.{ErrorKind}
use Rattle.clap.specs.declared.error.kind.ErrorKind.TheVariants as kind
use Rattle.clap.specs.declared.error.kind.ErrorKind.TheVariants.{DisplayHelp}
use Rattle.command_line.specs.Help.{AnswersHelp, ReportsKind, app_with, subcommand_shape, wbl}
use Rattle.command_line.specs.Numbers.{Text}
use Rattle.command_line.specs.declared.orders.WordFault.{WordFault}

module _ (name : Text) (rules : List Rule) (rule : Rule) where
  adds-rule : (old : Command) (a : Arg) (new : Command) → AddsArg old a new → a.global ≡ false → rule_of a ≡ rule → app_of old ≡ app_with name rules
      → app_of new ≡ app_with name (rules ++ rule ∷ [])
  adds-rule old a new adds local is was =
      subst (λ (s : App). app_of new ≡ with_rule s rule) was (subst (λ (r : Rule). app_of new ≡ with_rule (app_of old) r) is (adds.shape local))

  pub first-arg : (old : Command) (a : Arg) (made : Result Command AllocError) → IfOk made (AddsArg old a) → a.global ≡ false → rule_of a ≡ rule
      → app_of old ≡ app_with name rules → IfOk made (λ new. app_of new ≡ app_with name (rules ++ rule ∷ []))
  first-arg old a made adds local is was = IfOk-weaker made _ _ (λ new added. adds-rule old a new added local is was) adds

  pub with-arg : (made : Result Command AllocError) (a : Arg) (next : Result Command AllocError) → IfOk next (λ new. IsOkAnd made (λ old. AddsArg old a new))
      → a.global ≡ false → rule_of a ≡ rule → IfOk made (λ old. app_of old ≡ app_with name rules)
      → IfOk next (λ new. app_of new ≡ app_with name (rules ++ rule ∷ []))
  with-arg b a next adds local is was = grind (arith, adds-rule)

  pub one-arg : (a : Arg) (made : Result Command AllocError) → IfOk made (λ new. app_of new ≡ app_with name (rule_of a ∷ [])) → rule_of a ≡ rule
      → IfOk made (λ new. app_of new ≡ app_with name (rule ∷ []))
  one-arg a made app is = IfOk-weaker made _ _ (λ new same. same ∙ ap (λ (r : Rule). app_with name (r ∷ [])) is) app

-- the shape of what was made so
pub shape-made : (name : Text) (rules : List Rule) (made : Result Command AllocError) → IfOk made (λ command. app_of command ≡ app_with name rules)
    → IfOk made (λ command. shape_of command ≡ subcommand_shape name rules)
shape-made name rules made is = IfOk-weaker made _ _ (λ command app. ap (λ (a : App). a.top) app) is

-- a shape that is plain has no global argument
globals-off : (a b c d : Bool) → (a && (b && (not c && d))) ≡ true → c ≡ false
globals-off a b c d plain = grind (arith)

module _ (a : App) (s : Shape) where
  adds-sub : (old sub new : Command) → AddsSubcommand old sub new → shape_of sub ≡ s → s.is_plain ≡ true → app_of old ≡ a → app_of new ≡ with_subcommand a s
  adds-sub old sub new adds is plain was = grind (arith, globals-off)

  pub with-sub : (made sub next : Result Command AllocError) → IfOk next (λ new. IsOkAnd made (λ old. IsOkAnd sub (λ added. AddsSubcommand old added new)))
      → IfOk sub (λ command. shape_of command ≡ s) → s.is_plain ≡ true → IfOk made (λ command. app_of command ≡ a)
      → IfOk next (λ command. app_of command ≡ with_subcommand a s)
  with-sub a sub next adds is plain was = grind (arith, adds-sub)

-- ---- the answer

pub answers : (words : List Text) (is : ErrorKind) (fault : WordFault) → ReportsKind is fault → (is ≡ kind.OutOfMemory) ⊎ IsAmong is (fault_of wbl words)
    → AnswersHelp words fault
answers words is a help met = grind (arith)
