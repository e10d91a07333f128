use Rattle.std.proofs.Common.{refl, sym, arith}
use Rattle.std.specs.Prelude.{None}
use Rattle.txn.specs.Tables.{listed}
use Rattle.txn.proofs.Entries.{number-of, removed, taken-taken_out}
use Rattle.txn.proofs.Marks.{removed as unmarked}
use Rattle.txn.proofs.transactions.Transactions.end.Goals as goal

pub invariant_of-self : goal.invariant_of-self
invariant_of-self c =
    let changed = removed c.self.inside.slab c.try_remove-ended.new.self c.self.inside.places c.args.number c.in-Some.place c.self.invariant.0 (sym c.in-Some.ensures.place) c.try_remove-ended.ensures.updates in
    let number = number-of c.self.inside.places c.args.number c.in-Some.place c.self.invariant.0.size (sym c.in-Some.ensures.place) in (
      changed.table,
      unmarked c.self.inside.active c.remove.new.self (listed c.self.inside.slab c.self.inside.places) _ c.args.number None refl c.self.invariant.1 changed.sets c.remove.ensures,
      taken-taken_out c.self.inside.places c.args.number c.self.inside.first c.min-self-inside.result c.self.invariant.0.size number.0 number.1 c.self.invariant.2 (omega (arith, c.min-self-inside.ensures)) (omega (arith, c.min-self-inside.ensures)),
      omega (arith, c.min-self-inside.ensures, number.0, c.self.invariant.3),
    )

pub returns-in-Some : goal.returns-in-Some
returns-in-Some c = rw (← c.self.view_is) (removed c.self.inside.slab c.try_remove-ended.new.self c.self.inside.places c.args.number c.in-Some.place c.self.invariant.0 (sym c.in-Some.ensures.place) c.try_remove-ended.ensures.updates).sets
