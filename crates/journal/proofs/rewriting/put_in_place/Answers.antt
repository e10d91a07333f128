use Rattle.std.proofs.Common.{length, arith}
use Rattle.std.proofs.Math.Logic.{∥∥₁_map}
use Rattle.journal.proofs.Files.{zeros-beside, place-opens, place-kept, merely-opens, on_ok}
use Rattle.journal.proofs.Tails.{names_before, first_before}
use Rattle.journal.proofs.Places.{places_image}
use Rattle.journal.proofs.Placings.{placed-keeps}
use Rattle.journal.proofs.rewriting.put_in_place.Goals as goal

pub returns-clause-opens : goal.returns-clause-opens
returns-clause-opens g c covers =
    let image = c.args.written.now.value.items in
    let old = g.S.Storage.may_hold c.args.storage.now in
    let new = g.S.Storage.may_hold c.put_unplaced.new.storage in
    merely-opens new (length image) c.args.room image covers (λ known. place-opens old new (length image) c.args.room image known c.put_unplaced.ensures.puts)

pub returns-clause-done : goal.returns-clause-done
returns-clause-done g c =
    let image = c.args.written.now.value.items in
    let old = g.S.Storage.may_hold c.args.storage.now in
    let new = g.S.Storage.may_hold c.put_unplaced.new.storage in
    on_ok c.put_unplaced.result (λ kept. ∥∥₁_map c.requires.known (λ known. place-kept old new (length image) c.args.room c.args.pass image known c.put_unplaced.ensures.puts (placed-keeps new image kept))) c.put_unplaced.ensures.kept

pub returns-clause-tail : goal.returns-clause-tail
returns-clause-tail g c =
    let image = c.args.written.now.value.items in
    let old = g.S.Storage.may_hold c.args.storage.now in
    let new = g.S.Storage.may_hold c.put_unplaced.new.storage in
    names_before old new (length image) c.args.room 0 image (omega arith) c.put_unplaced.ensures.puts

pub returns-clause-first : goal.returns-clause-first
returns-clause-first g c =
    let image = c.args.written.now.value.items in
    let old = g.S.Storage.may_hold c.args.storage.now in
    let new = g.S.Storage.may_hold c.put_unplaced.new.storage in
    first_before old new (length image) c.args.room 0 image (omega arith) c.put_unplaced.ensures.puts

pub returns-clause-place : goal.returns-clause-place
returns-clause-place g c =
    let image = c.args.written.now.value.items in
    let old = g.S.Storage.may_hold c.args.storage.now in
    let new = g.S.Storage.may_hold c.put_unplaced.new.storage in
    places_image old new image c.put_unplaced.ensures.puts

pub returns-clause-zeros : goal.returns-clause-zeros
returns-clause-zeros g c =
    let image = c.args.written.now.value.items in
    let old = g.S.Storage.may_hold c.args.storage.now in
    let new = g.S.Storage.may_hold c.put_unplaced.new.storage in
    zeros-beside old new (length image) c.args.room 0 image c.put_unplaced.ensures.puts (λ word above below from lt. omega (arith, above, lt))
