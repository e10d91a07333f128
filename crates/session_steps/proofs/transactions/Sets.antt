-- The sessions of the plain state, when one transaction changes.
use Rattle.std.proofs.Common.{◌≡◌, ℕ, zero, suc, ◌+◌, ◌<◌, ◌≤◌, Bool, true, false, cond, List, refl, ◌∙◌, ap, nat_eq, arith}
use Rattle.std.specs.Prelude.{Option, Some, None, is_none, find}
use Rattle.std.specs.Option.{option_map}
use Rattle.std.specs.List.{range_with_len}
use Rattle.std.proofs.lemmas.Bool.Decides.{nat_tests}
use Rattle.base.specs.Lists.{replaced}
use Rattle.machine.specs.Machine.{most_sessions, free_session}
use Rattle.txn.specs.declared.transaction.Transaction.{Transaction}
use Rattle.txn.specs.Transactions.{transaction_at, Sets, IsLowestFree, IsFull}
use Rattle.session_steps.specs.declared.sessions.Sessions.{Sessions}
use Rattle.session_steps.specs.Shows.{Hidden, plain_of, plain_session}

-- ---- the lowest number that is free

find-at : (test : ℕ → Bool) (a len n : ℕ) → a ≤ n → n < a + len → test n ≡ true → ((k : ℕ) → a ≤ k → k < n → test k ≡ false) → find test (range_with_len a len) ≡ Some n
find-at test a zero n lo hi is before = grind (arith) steps 800000
find-at test a (suc len) n lo hi is before = grind (arith, nat_tests, find-at test (a + 1) len n) steps 800000

find-none : (test : ℕ → Bool) (a len : ℕ) → ((k : ℕ) → a ≤ k → k < a + len → test k ≡ false) → find test (range_with_len a len) ≡ None
find-none test a zero before = refl
find-none test a (suc len) before = grind (arith, find-none test (a + 1) len)

-- ---- one transaction is set

pub replaced-same : {X : Type 0} (n : ℕ) (x : X) (f : ℕ → X) → replaced n x f n ≡ x
replaced-same n x f = let e : nat_eq n n ≡ true = grind (arith, nat_tests) in ap (λ (b : Bool). cond b x (f n)) e

pub replaced-other : {X : Type 0} (n m : ℕ) (x : X) (f : ℕ → X) → nat_eq m n ≡ false → replaced n x f m ≡ f m
replaced-other n m x f apart = ap (λ (b : Bool). cond b x (f m)) apart

-- what holds of the transaction that is set, and of all others, holds of each
pub each-set : (P : ℕ → Option Transaction → Type 0) (old new : List (Option Transaction)) (n : ℕ) (x : Option Transaction) → Sets old new n x → P n x
    → ((m : ℕ) → nat_eq m n ≡ false → P m (transaction_at old m)) → (m : ℕ) → P m (transaction_at new m)
each-set P old new n x sets here others m = grind (arith, nat_tests) steps 800000

-- the plain sessions, if the snapshots are as they were
pub sessions-kept : (old new : List (Option Transaction)) (seen : ℕ → ℕ) (n : ℕ) (x : Option Transaction) → Sets old new n x → (m : ℕ)
    → option_map (plain_session (seen m)) (transaction_at new m) ≡ replaced n (option_map (plain_session (seen n)) x) (λ k. option_map (plain_session (seen k)) (transaction_at old k)) m
sessions-kept old new seen n x sets m = grind (arith, nat_tests) steps 800000

-- the plain sessions, if one snapshot is new
pub sessions-begun : (old new : List (Option Transaction)) (seen : ℕ → ℕ) (n begun : ℕ) (x : Option Transaction) → Sets old new n x → (m : ℕ)
    → option_map (plain_session (replaced n begun seen m)) (transaction_at new m) ≡ replaced n (option_map (plain_session begun) x) (λ k. option_map (plain_session (seen k)) (transaction_at old k)) m
sessions-begun old new seen n begun x sets m = grind (arith) steps 800000

-- the plain session of a number is there exactly if its transaction is
pub none-where : (seen : ℕ) (t : Option Transaction) → is_none (option_map (plain_session seen) t) ≡ is_none t
none-where seen a = grind (arith)

pub free-at : (s : Sessions) (h : Hidden) (n : ℕ) → IsLowestFree s.transactions n → free_session (plain_of s h) ≡ Some n
unfolding most_sessions
free-at s h n lowest =
    find-at (λ n. is_none (option_map (plain_session (h.seen n)) (transaction_at s.transactions n))) 2 62 n lowest.first lowest.last
    (none-where (h.seen n) (transaction_at s.transactions n) ∙ ap (λ (t : Option Transaction). is_none t) lowest.free)
    (λ k lo hi. none-where (h.seen k) (transaction_at s.transactions k) ∙ lowest.before k lo hi)

pub free-none : (s : Sessions) (h : Hidden) → IsFull s.transactions → free_session (plain_of s h) ≡ None
unfolding most_sessions
free-none s h full =
    find-none (λ n. is_none (option_map (plain_session (h.seen n)) (transaction_at s.transactions n))) 2 62 (λ k lo hi. none-where (h.seen k) (transaction_at s.transactions k) ∙ full.each k lo hi)
