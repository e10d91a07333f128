-- The numbers of the Active transactions.
use Rattle.std.proofs.Common.{◌≡◌, ℕ, true, false, cond, ◌||◌, ◌&&◌, not, nat_eq, List, Option, arith}
use Rattle.dirty_table.specs.declared.sessions.SessionSet.{SessionSet}
use Rattle.dirty_table.specs.Touches.{has}
use Rattle.txn.specs.declared.transaction.Transaction.{Transaction}
use Rattle.txn.specs.Transactions.{transaction_at, is_active, Sets, AreMarked}

-- one transaction is set, and its number noted or not
pub marked : (old new : SessionSet) (was now : List (Option Transaction)) (n : ℕ) (x : Option Transaction) → AreMarked old was → Sets was now n x
    → ((m : ℕ) → has new m ≡ cond (nat_eq m n) (is_active x) (has old m)) → AreMarked new now
marked old new was now n x marks sets notes m = grind (arith)

-- it is noted
pub inserted : (old new : SessionSet) (was now : List (Option Transaction)) (n : ℕ) (x : Option Transaction) → is_active x ≡ true → AreMarked old was → Sets was now n x
    → ((m : ℕ) → has new m ≡ (nat_eq m n || has old m)) → AreMarked new now
inserted old new was now n x active marks sets notes = grind (arith)

-- it isn't
pub removed : (old new : SessionSet) (was now : List (Option Transaction)) (n : ℕ) (x : Option Transaction) → is_active x ≡ false → AreMarked old was → Sets was now n x
    → ((m : ℕ) → has new m ≡ (has old m && not (nat_eq m n))) → AreMarked new now
removed old new was now n x inactive marks sets notes = grind (arith)

-- it was Active, and is
pub kept : (numbers : SessionSet) (was now : List (Option Transaction)) (n : ℕ) (x : Option Transaction) → is_active x ≡ true → is_active (transaction_at was n) ≡ true → AreMarked numbers was → Sets was now n x → AreMarked numbers now
kept numbers was now n x active before marks sets = grind (arith)
