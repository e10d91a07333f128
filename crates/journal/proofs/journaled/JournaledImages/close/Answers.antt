use Rattle.std.proofs.Common.{◌≡◌, false, rules}
use Rattle.std.specs.Prelude.{is_some}
use Rattle.std.proofs.Math.Logic.{∥∥₁_map}
use Rattle.journal.proofs.Appended.{stands-among}
use Rattle.journal.proofs.journaled.JournaledImages.close.Goals as goal

pub returns-clause-unclosed : goal.returns-clause-unclosed
returns-clause-unclosed g c =
    let hold = g.S.Storage.may_hold c.settle.new.storage in
    stands-among (g.S.Storage.may_hold c.args.self.storage) hold c.args.self.room c.args.self.written.value.items c.settle.ensures.opens

pub settle-requires-clause-known : goal.settle-requires-clause-known
settle-requires-clause-known g c =
    let works : is_some c.args.self.failure ≡ false = search rules in
    let synced : c.args.self.is_begun ≡ false = search rules in
    ∥∥₁_map (c.args.self.rests works synced) (λ r. r.known)
