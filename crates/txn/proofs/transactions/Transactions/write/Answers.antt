use Rattle.std.proofs.Common.{◌≡◌, ◌∙◌, sym, ap, ℕ, List, arith}
use Rattle.std.specs.Prelude.{Option, Some}
use Rattle.txn.specs.declared.transaction.Transaction.{Transaction}
use Rattle.txn.specs.declared.transaction.Transaction.TheVariants.{Active}
use Rattle.txn.specs.WriteSets.{with_write_at}
use Rattle.txn.specs.Tables.{entry_at, listed}
use Rattle.txn.specs.Transactions.{transaction_at, is_active}
use Rattle.txn.specs.declared.write.Write.{Write}
use Rattle.snapshot.specs.Snapshots.{Seen}
use Rattle.slab.specs.Slab.{Slab, get}
use Rattle.txn.proofs.Marks.{kept}
use Rattle.txn.proofs.Entries.{put, entry_at-listed}
use Rattle.txn.proofs.transactions.Transactions.write.Goals as goal

-- what is at the place of an Active transaction
active-at : (slab : Slab Transaction) (places : List (Option ℕ)) (now : List (Option Transaction)) (n place : ℕ) (there : Transaction) (snapshot : Seen) (writes : List Write) → listed slab places ≡ now
    → Some place ≡ entry_at places n → Some there ≡ get slab place → transaction_at now n ≡ Some (Active snapshot writes) → there ≡ Active snapshot writes
active-at slab places now n place there snapshot writes is at value active = grind (arith, entry_at-listed slab places n)

pub invariant_of-self : goal.invariant_of-self
invariant_of-self c =
    let snapshot = c.requires.0 in
    let writes = c.requires.1 in
    let before = active-at c.self.inside.slab c.self.inside.places c.args.self.now c.args.number c.in-Some.place c.in-Some-get_mut.found.now snapshot writes c.self.view_is c.in-Some.ensures.place c.in-Some-get_mut.ensures.value c.requires.2 in
    let changed = put c.self.inside.slab c.self.inside.places c.args.number c.in-Some.place c.write.new.self c.self.invariant.0 (sym c.in-Some.ensures.place) in (
      changed.table,
      kept c.self.inside.active (listed c.self.inside.slab c.self.inside.places) _ c.args.number (Some c.write.new.self) (ap (λ (t : Transaction). is_active (Some t)) (c.write.ensures snapshot writes before)) (ap is_active (ap (λ (e : List (Option Transaction)). transaction_at e c.args.number) c.self.view_is ∙ c.requires.2)) c.self.invariant.1 changed.sets,
      c.self.invariant.2,
      c.self.invariant.3,
    )

pub returns-in-Some-get_mut : goal.returns-in-Some-get_mut
returns-in-Some-get_mut c = λ snapshot writes at.
    let was = active-at c.self.inside.slab c.self.inside.places c.args.self.now c.args.number c.in-Some.place c.in-Some-get_mut.found.now snapshot writes c.self.view_is c.in-Some.ensures.place c.in-Some-get_mut.ensures.value at in
    let is : c.write.new.self ≡ Active snapshot (with_write_at c.args.write writes) = c.write.ensures snapshot writes was in
    rw (← c.self.view_is, ← is) (put c.self.inside.slab c.self.inside.places c.args.number c.in-Some.place c.write.new.self c.self.invariant.0 (sym c.in-Some.ensures.place)).sets
