use Rattle.std.proofs.Common.{ℕ, List, length, ◌+◌, slice_index, OnErr, subst, sym, ◌∙◌, arith}
use Rattle.std.proofs.lemmas.Result.{on_ok_weaker, on_err_weaker}
use Rattle.pmem.specs.Persisting.{store_operations}
use Rattle.pmem.specs.Trace.{Operation, StopsWithin}
use Rattle.version_slot.specs.Words.{Fits}
use Rattle.version_slot.proofs.Operations.{fills_by, filled_version}
use Rattle.version_slot.proofs.writing.fill.Goals as goal

pub returns-then-slot_words-eq8-clause-run : goal.returns-then-slot_words-eq8-clause-run
returns-then-slot_words-eq8-clause-run g c = grind (arith, on_ok_weaker, fills_by)

pub returns-then-slot_words-eq8-clause-stopped : goal.returns-then-slot_words-eq8-clause-stopped
returns-then-slot_words-eq8-clause-stopped g c =
    on_err_weaker c.store_all.result
    (subst (λ (ops : List Operation). StopsWithin ops (g.D.Pmem.state c.args.device.now) (g.D.Pmem.state c.store_all.new.device))
    (fills_by c.args.geometry c.args.slot c.slot_start.result 8 c.args.version.now c.slot_start.ensures.value (sym c.if-slot_words-eq8.true ∙ c.slot_words.ensures.value)))
    (subst (λ (words : List ℕ). OnErr c.store_all.result (StopsWithin (store_operations (c.slot_start.result + 1) (slice_index words) (length words)) (g.D.Pmem.state c.args.device.now) (g.D.Pmem.state c.store_all.new.device))) c.line_words-words.ensures.words c.store_all.ensures.stopped)

pub returns-then-slot_words-eq8-clause-version : goal.returns-then-slot_words-eq8-clause-version
returns-then-slot_words-eq8-clause-version g c =
    let words = c.line_words-words.ensures in
    let fits : Fits c.args.geometry c.args.version.now = record { table = words.table; row = c.requires.row; bytes = words.bytes; previous = c.requires.previous } in
    on_ok_weaker c.store_all.result (filled_version c.args.geometry c.args.slot c.args.version.now (g.D.Pmem.state c.args.device.now) (g.D.Pmem.state c.store_all.new.device) fits) (returns-then-slot_words-eq8-clause-run g c)

pub returns-else-slot_words-eq8-clause-run : goal.returns-else-slot_words-eq8-clause-run
returns-else-slot_words-eq8-clause-run g c = grind (arith, on_ok_weaker, fills_by c.args.geometry c.args.slot c.slot_start-else-slot_words-eq8.result c.slot_words-count.result c.args.version.now c.slot_start-else-slot_words-eq8.ensures.value c.slot_words-count.ensures.value, c.slot_start-else-slot_words-eq8.ensures.value, c.slot_words-count.ensures.value, c.store_lines.ensures.run)

pub returns-else-slot_words-eq8-clause-stopped : goal.returns-else-slot_words-eq8-clause-stopped
returns-else-slot_words-eq8-clause-stopped g c =
    on_err_weaker c.store_lines.result
    (subst (λ (ops : List Operation). StopsWithin ops (g.D.Pmem.state c.args.device.now) (g.D.Pmem.state c.store_lines.new.device))
    (fills_by c.args.geometry c.args.slot c.slot_start-else-slot_words-eq8.result c.slot_words-count.result c.args.version.now c.slot_start-else-slot_words-eq8.ensures.value c.slot_words-count.ensures.value))
    c.store_lines.ensures.stopped

pub returns-else-slot_words-eq8-clause-version : goal.returns-else-slot_words-eq8-clause-version
returns-else-slot_words-eq8-clause-version g c =
    let words = c.store_lines.ensures in
    let fits : Fits c.args.geometry c.args.version.now = record { table = words.table; row = c.requires.row; bytes = words.bytes; previous = c.requires.previous } in
    on_ok_weaker c.store_lines.result (filled_version c.args.geometry c.args.slot c.args.version.now (g.D.Pmem.state c.args.device.now) (g.D.Pmem.state c.store_lines.new.device) fits) (returns-else-slot_words-eq8-clause-run g c)
