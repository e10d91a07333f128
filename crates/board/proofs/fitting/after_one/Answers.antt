use Rattle.std.proofs.Common.{◌∙◌, sym, arith}
use Rattle.std.proofs.lemmas.Bool.Decides.{nat_tests}
use Rattle.board.proofs.Due.{next_has}
use Rattle.board.proofs.fitting.after_one.Goals as goal

pub returns-in_default-clause-none : goal.returns-in_default-clause-none
returns-in_default-clause-none c met rest meets all = grind (arith, next_has, nat_tests)

pub returns-then-timestamp-clause-none : goal.returns-then-timestamp-clause-none
returns-then-timestamp-clause-none c met rest meets all = grind (arith, next_has c.args.commits.now c.args.used c.args.longs.now met rest c.args.timestamp c.requires (sym c.contains.ensures ∙ c.if-contains.false) meets all)
