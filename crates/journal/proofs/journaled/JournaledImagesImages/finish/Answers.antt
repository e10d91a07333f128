use Rattle.std.proofs.Common.{◌∙◌, length, refl}
use Rattle.journal.proofs.Appended.{may-kept}
use Rattle.journal.proofs.Within.{both_ok}
use Rattle.journal.proofs.Within.{may_be_same}
use Rattle.journal.proofs.journaled.JournaledImagesImages.finish.Goals as goal

pub returns-clause-kept : goal.returns-clause-kept
returns-clause-kept g c =
    let self = c.complete.new.self in
    both_ok c.complete.result (λ works done image may.
    may-kept (g.S.Storage.may_hold self.storage) (length self.written.value.items) self.room self.position.pass self.position.words self.written.value.items image (self.rests works done) refl may ∙ c.complete.ensures.written) c.complete.ensures.works c.complete.ensures.done

pub returns-clause-whole : goal.returns-clause-whole
returns-clause-whole g c image may =
    let old = c.args.self.now in
    let new = c.complete.new.self in
    may_be_same (g.S.Storage.may_hold old.storage) (g.S.Storage.may_hold new.storage) old.room new.room old.written.value.items new.written.value.items image c.complete.ensures.found c.complete.ensures.room c.complete.ensures.written may
