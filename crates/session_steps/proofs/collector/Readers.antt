-- Whether the snapshots of all Active sessions cover a timestamp, by the numbers that sessions may have.
use Rattle.std.proofs.Common.{◌≡◌, ℕ, zero, suc, ◌+◌, ◌<◌, ◌≤◌, Bool, true, false, List, refl, sym, ◌∙◌, arith, Option}
use Rattle.std.specs.List.{list_all, range_with_len}
use Rattle.std.proofs.lemmas.Bool.{and_from, false_from_ne_true, true≢false}
use Rattle.std.proofs.lemmas.Bool.Decides.{nat_tests}
use Rattle.machine.specs.Machine.{most_sessions}
use Rattle.state_invariant.proofs.collector.Garbage.{range-all}
use Rattle.txn.specs.declared.transaction.Transaction.{Transaction}
use Rattle.txn.specs.Transactions.{transaction_at, is_active}
use Rattle.session_steps.specs.Collecting.{is_covered_in, each_covers}

all-range : (p : ℕ → Bool) (from many : ℕ) → ((k : ℕ) → from ≤ k → k < from + many → p k ≡ true) → list_all p (range_with_len from many) ≡ true
all-range p from zero each = refl
all-range p from (suc many) each =
    and_from (p from) (list_all p (range_with_len (from + 1) many)) (each from (omega arith) (omega arith)) (all-range p (from + 1) many (λ k low high. each k (omega (arith, low)) (omega (arith, high))))

pub sixty-two : most_sessions ≡ 62
unfolding most_sessions
sixty-two = refl

each-covers : (ts : List (Option Transaction)) (t : ℕ) → ((k : ℕ) → 2 ≤ k → k < 64 → is_covered_in t (transaction_at ts k) ≡ true) → each_covers ts t ≡ true
each-covers ts t each = all-range (λ n. is_covered_in t (transaction_at ts n)) 2 most_sessions (λ k low high. each k low (omega (arith, high, sixty-two)))

pub one-uncovers : (ts : List (Option Transaction)) (t n : ℕ) → 2 ≤ n → n < 64 → is_covered_in t (transaction_at ts n) ≡ false → each_covers ts t ≡ false
one-uncovers ts t n low high is =
    false_from_ne_true (each_covers ts t) (λ all. true≢false (sym (range-all (λ n. is_covered_in t (transaction_at ts n)) 2 most_sessions n all low (omega (arith, high, sixty-two))) ∙ is))

-- one that isn't Active reads nothing
inactive-covered : (t : ℕ) (o : Option Transaction) → is_active o ≡ false → is_covered_in t o ≡ true
inactive-covered t a inactive = grind (arith)

-- so far the snapshot of each covers the timestamp
abbrev pub CoverBelow : List (Option Transaction) → ℕ → ℕ → Type 0
CoverBelow ts t from = (k : ℕ) → 2 ≤ k → k < from → is_covered_in t (transaction_at ts k) ≡ true

-- if no later transaction is active, the snapshot of each one covers it
pub covers-past : (ts : List (Option Transaction)) (t from : ℕ) → CoverBelow ts t from → ((n : ℕ) → from ≤ n → is_active (transaction_at ts n) ≡ false) → each_covers ts t ≡ true
covers-past ts t from below none = grind (arith, nat_tests, each-covers, inactive-covered) steps 800000
