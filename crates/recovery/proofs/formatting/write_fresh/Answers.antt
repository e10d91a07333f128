use Rattle.std.proofs.Common.{◌≡◌, ℕ, List, ◌++◌, ◌∙◌, subst, arith}
use Rattle.base.specs.Actors.{committer}
use Rattle.base.specs.Layout.{Layout, total_words}
use Rattle.base.specs.Images.{superblock_word}
use Rattle.base.specs.Fresh.{first_record}
use Rattle.base.specs.Records.{Record}
use Rattle.base.proofs.Results.{on_err}
use Rattle.pmem.specs.Device.{Device}
use Rattle.pmem.specs.Persisting.{set_operations}
use Rattle.pmem.specs.Trace.{Operation, Runs, StopsWithin}
use Rattle.pmem.proofs.Traces.{runs-then, stops-first, stops-then, words-run}
use Rattle.log_area.specs.Writings.{geometry_operations, record_operations}
use Rattle.log_area.proofs.Rulings.{log_within}
use Rattle.recovery.specs.Fresh.{clear_operations, fresh_operations, format_operations}
use Rattle.recovery.proofs.formatting.write_fresh.Goals as goal

module _ (layout : Layout) where
  abbrev first : List Operation
  first = set_operations committer 0 0

  abbrev last : List Operation
  last = set_operations committer 0 superblock_word

  abbrev cleared : List Operation
  cleared = clear_operations (total_words layout)

  abbrev recorded : List Operation
  recorded = record_operations layout first_record

  abbrev block : List Operation
  block = geometry_operations layout

  module _ {d0 d1 : Device} where
    at-first : StopsWithin first d0 d1 → StopsWithin (format_operations layout) d0 d1
    at-first stop = stops-first {xs = first ++ fresh_operations layout} last (stops-first {xs = first} (fresh_operations layout) stop)

    module _ {d2 : Device} (r1 : Runs first d0 d1) where
      within : StopsWithin (fresh_operations layout) d1 d2 → StopsWithin (format_operations layout) d0 d2
      within stop = stops-first {xs = first ++ fresh_operations layout} last (stops-then r1 stop)

      at-clear : StopsWithin cleared d1 d2 → StopsWithin (format_operations layout) d0 d2
      at-clear stop = within (stops-first {xs = cleared ++ recorded} block (stops-first {xs = cleared} recorded stop))

-- after the first two parts
module _ (layout : Layout) (r : Record) {d0 d1 d2 : Device} (is : r ≡ first_record) (r1 : Runs (set_operations committer 0 0) d0 d1) (size : d1.words ≡ total_words layout) (r2 : Runs (clear_operations d1.words) d1 d2) where
  cleared_all : Runs (cleared layout) d1 d2
  cleared_all = subst (λ (n : ℕ). Runs (clear_operations n) d1 d2) size r2

  at-record : {d3 : Device} → StopsWithin (record_operations layout r) d2 d3 → StopsWithin (format_operations layout) d0 d3
  at-record {d3} stop =
      within layout r1 (stops-first {xs = cleared layout ++ recorded layout} (block layout) (stops-then cleared_all (subst (λ (r : Record). StopsWithin (record_operations layout r) d2 d3) is stop)))

  module _ {d3 : Device} (r3 : Runs (record_operations layout r) d2 d3) where
    recorded_all : Runs (cleared layout ++ recorded layout) d1 d3
    recorded_all = runs-then cleared_all (subst (λ (r : Record). Runs (record_operations layout r) d2 d3) is r3)

    at-geometry : {d4 : Device} → StopsWithin (geometry_operations layout) d3 d4 → StopsWithin (format_operations layout) d0 d4
    at-geometry stop = within layout r1 (stops-then recorded_all stop)

    module _ {d4 : Device} (r4 : Runs (geometry_operations layout) d3 d4) where
      before_last : Runs (set_operations committer 0 0 ++ fresh_operations layout) d0 d4
      before_last = runs-then r1 (runs-then recorded_all r4)

      at-last : {d5 : Device} → StopsWithin (set_operations committer 0 superblock_word) d4 d5 → StopsWithin (format_operations layout) d0 d5
      at-last stop = stops-then before_last stop

      whole : {d5 : Device} → Runs (set_operations committer 0 superblock_word) d4 d5 → Runs (format_operations layout) d0 d5
      whole r5 = runs-then before_last r5

pub returns-in_err-set_word-clause-stopped : goal.returns-in_err-set_word-clause-stopped
returns-in_err-set_word-clause-stopped g c = on_err c.from_residual.result (at-first c.args.geometry c.in_err-set_word.ensures.stopped)

pub returns-in_err-clear-clause-stopped : goal.returns-in_err-clear-clause-stopped
returns-in_err-clear-clause-stopped g c =
    let state = g.D.Pmem.state in
    let size = words-run c.in_ok-set_word.ensures.run ∙ c.requires.size in
    on_err c.from_residual-in_err-clear.result
    (at-clear c.args.geometry c.in_ok-set_word.ensures.run (subst (λ (n : ℕ). StopsWithin (clear_operations n) (state c.set_word.new.device) (state c.clear.new.device)) size c.in_err-clear.ensures.stopped))

pub write_record-requires : goal.write_record-requires
write_record-requires g c = words-run c.in_ok-clear.ensures.run ∙ words-run c.in_ok-set_word.ensures.run ∙ c.requires.size

pub returns-in_err-write_record-clause-stopped : goal.returns-in_err-write_record-clause-stopped
returns-in_err-write_record-clause-stopped g c =
    let size = words-run c.in_ok-set_word.ensures.run ∙ c.requires.size in
    on_err c.from_residual-in_err-write_record.result (at-record c.args.geometry c.first_record.result c.first_record.ensures c.in_ok-set_word.ensures.run size c.in_ok-clear.ensures.run c.in_err-write_record.ensures.stopped)

pub write_geometry-requires : goal.write_geometry-requires
write_geometry-requires g c = omega (arith, c.requires.size, words-run c.in_ok-set_word.ensures.run, words-run c.in_ok-clear.ensures.run, words-run c.in_ok-write_record.ensures.run, log_within c.args.geometry)

pub returns-in_err-write_geometry-clause-stopped : goal.returns-in_err-write_geometry-clause-stopped
returns-in_err-write_geometry-clause-stopped g c =
    let size = words-run c.in_ok-set_word.ensures.run ∙ c.requires.size in
    on_err c.from_residual-in_err-write_geometry.result (at-geometry c.args.geometry c.first_record.result c.first_record.ensures c.in_ok-set_word.ensures.run size c.in_ok-clear.ensures.run c.in_ok-write_record.ensures.run c.in_err-write_geometry.ensures.stopped)

pub set_word-requires-2 : goal.set_word-requires-2
set_word-requires-2 g c =
    omega (arith, c.requires.size, words-run c.in_ok-set_word.ensures.run, words-run c.in_ok-clear.ensures.run, words-run c.in_ok-write_record.ensures.run, words-run c.in_ok-write_geometry.ensures.run, log_within c.args.geometry)

pub returns-in_err-done-clause-stopped : goal.returns-in_err-done-clause-stopped
returns-in_err-done-clause-stopped g c =
    let size = words-run c.in_ok-set_word.ensures.run ∙ c.requires.size in
    on_err c.from_residual-in_err-done.result (at-last c.args.geometry c.first_record.result c.first_record.ensures c.in_ok-set_word.ensures.run size c.in_ok-clear.ensures.run c.in_ok-write_record.ensures.run c.in_ok-write_geometry.ensures.run c.in_err-done.ensures.stopped)

pub returns-clause-run : goal.returns-clause-run
returns-clause-run g c =
    let size = words-run c.in_ok-set_word.ensures.run ∙ c.requires.size in
    whole c.args.geometry c.first_record.result c.first_record.ensures c.in_ok-set_word.ensures.run size c.in_ok-clear.ensures.run c.in_ok-write_record.ensures.run c.in_ok-write_geometry.ensures.run c.in_ok-done.ensures.run
