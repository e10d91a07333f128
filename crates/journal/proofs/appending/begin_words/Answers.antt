use Rattle.std.proofs.Common.{◌≡◌, List, length, sym, subst, arith}
use Rattle.journal.specs.declared.line.Line.{Line}
use Rattle.journal.specs.Changes.{AreChanged}
use Rattle.journal.proofs.Appended.{rests-either}
use Rattle.journal.proofs.Decides.{decides_rests}
use Rattle.journal.proofs.Placings.{placed-changed}
use Rattle.journal.proofs.appending.begin_words.Goals as goal

pub returns-in_err-put_lines_at-clause-either : goal.returns-in_err-put_lines_at-clause-either
returns-in_err-put_lines_at-clause-either g c = grind (arith, rests-either)

pub write_changed-requires-clause-changed : goal.write_changed-requires-clause-changed
write_changed-requires-clause-changed g c =
    let L : List Line → Type 0 = λ l. AreChanged l c.args.durable.now.value.items c.args.words.now in
    subst L (sym c.as_slice.ensures.value) (c.in_ok-put_lines_at.ensures c.args.durable.now.value.items c.requires.differs)

pub returns-in_err-check_part-clause-either : goal.returns-in_err-check_part-clause-either
returns-in_err-check_part-clause-either g c = grind (arith, rests-either)

pub returns-in_err-check_part-clause-decides : goal.returns-in_err-check_part-clause-decides
returns-in_err-check_part-clause-decides g c =
    let durable = c.args.durable.now.value.items in
    decides_rests (g.S.Storage.may_hold c.args.storage.now) (length durable) c.args.room c.args.position.pass c.args.position.words durable c.requires.known

pub returns-in_err-put_lines_at-clause-decides : goal.returns-in_err-put_lines_at-clause-decides
returns-in_err-put_lines_at-clause-decides g c =
    let durable = c.args.durable.now.value.items in
    decides_rests (g.S.Storage.may_hold c.args.storage.now) (length durable) c.args.room c.args.position.pass c.args.position.words durable c.requires.known

pub returns-clause-placed : goal.returns-clause-placed
returns-clause-placed g c =
    let durable = c.args.durable.now.value.items in
    let words = c.args.words.now in
    let lines : List Line = c.as_slice-2.result.now in
    let mid = c.write_changed.new.unplaced in
    let new = c.add.new.self in
    let is : lines ≡ c.put_lines_at.new.lines.items = c.as_slice-2.ensures.value in
    let L : List Line → Type 0 = λ l. AreChanged l durable words in
    let changed : L lines = subst L (sym is) (c.in_ok-put_lines_at.ensures durable c.requires.differs) in
    placed-changed (g.S.Storage.may_hold c.write_changed.new.storage) mid.marks.items new.marks.items mid.lines.items new.lines.items lines durable words changed (sym c.requires.differs.size)
    c.in_ok-add.ensures.lines (record { size = c.add.ensures.size; each = c.in_ok-add.ensures.marks }) c.in_ok-next.ensures.placed
