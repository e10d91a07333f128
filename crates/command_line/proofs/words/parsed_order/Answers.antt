use Rattle.std.proofs.Common.{◌≡◌, ◌∙◌, [], ap, refl, subst, true, Option, List}
use Rattle.clap.proofs.TakesLemmas.{passed_up}
use Rattle.clap.specs.Words.{App, HasKind, HasMatchesOf, Row, Text, fault_of, is_simple, is_simple_and_free, kind_of}
use Rattle.command_line.specs.Help.{AnswersHelp, ReportsKind, wbl}
use Rattle.command_line.specs.Lines.{texts}
use Rattle.command_line.specs.Words.{FindsIn}
use Rattle.command_line.specs.declared.orders.WordFault.{WordFault}
use Rattle.command_line.proofs.Help.{answers}
use Rattle.command_line.proofs.words.parsed_order.Goals as goal

pub returns-in_err-matches-clause-help : goal.returns-in_err-matches-clause-help
returns-in_err-matches-clause-help c =
    let free : is_simple_and_free wbl ≡ true = refl in
    let error = c.in_err-matches.field-0.0 in
    let met = subst (λ (a : App). HasKind (fault_of a (texts c.args.words.now)) error) c.requires
    (c.in_err-matches.ensures.kinds (ap is_simple_and_free c.requires ∙ free)) in
    passed_up c.from_residual.result error (λ e. (fault : WordFault) → ReportsKind (kind_of e) fault → AnswersHelp (texts c.args.words.now) fault)
    c.from_residual.ensures.1 (λ fault tells. answers (texts c.args.words.now) (kind_of error) fault tells met)

pub returns-in-Some-clause-gives : goal.returns-in-Some-clause-gives
returns-in-Some-clause-gives c =
    let free : is_simple_and_free wbl ≡ true = refl in
    let simple : is_simple wbl ≡ true = refl in
    let none : fault_of wbl (texts c.args.words.now) ≡ [] =
    subst (λ (a : App). fault_of a (texts c.args.words.now) ≡ []) c.requires (c.in_ok-matches.ensures.kinds (ap is_simple_and_free c.requires ∙ free)) in
    let found = subst (λ (a : App). HasMatchesOf a (texts c.args.words.now) c.in_ok-matches.matches) c.requires c.in_ok-matches.ensures.ok.2 in
    (none, subst (λ (sub : Option (Text × List Row)). FindsIn sub c.in-Some.order) (found simple).1 c.in-Some.ensures.gives)
