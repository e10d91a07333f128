use Rattle.std.proofs.Common.{◌∙◌, sym, arith}
use Rattle.journal.proofs.Placings.{line-run, line-written}
use Rattle.journal.proofs.unplaced.write_line.Goals as goal

pub returns-in_err-write-clause-found : goal.returns-in_err-write-clause-found
returns-in_err-write-clause-found g c word x h =
    let marked = sym c.has_mark.ensures.is ∙ c.if-not-has_mark.false in
    line-run c.args.line.now c.args.marks.now.items word x (omega arith) marked (c.write.ensures.found word x h)

pub returns-in_err-write-clause-others : goal.returns-in_err-write-clause-others
returns-in_err-write-clause-others g c word x h =
    let marked = sym c.has_mark.ensures.is ∙ c.if-not-has_mark.false in
    line-run c.args.line.now c.args.marks.now.items word x (omega arith) marked (c.write.ensures.others word x h)

pub returns-clause-found : goal.returns-clause-found
returns-clause-found g c word x h =
    let marked = sym c.has_mark.ensures.is ∙ c.if-not-has_mark.false in
    line-run c.args.line.now c.args.marks.now.items word x (omega arith) marked (c.write.ensures.found word x h)

pub returns-clause-others : goal.returns-clause-others
returns-clause-others g c word x h =
    let marked = sym c.has_mark.ensures.is ∙ c.if-not-has_mark.false in
    line-run c.args.line.now c.args.marks.now.items word x (omega arith) marked (c.write.ensures.others word x h)

pub returns-clause-written : goal.returns-clause-written
returns-clause-written g c word x at marked =
    line-written c.args.line.now (g.S.Storage.shows c.write.new.self) word x (omega arith) c.in_ok-write.ensures.written at
