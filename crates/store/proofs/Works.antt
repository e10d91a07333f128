-- What a work wrote, and what its history then covers.
use Rattle.std.proofs.Common.{◌≡◌, ◌≢◌, ℕ, Bool, true, false, if◌then◌else◌, List, [], ◌∷◌, refl, sym, ◌∙◌, subst, Some, None}
use Rattle.std.specs.Prelude.{Option, fold}
use Rattle.std.specs.List.{list_all}
use Rattle.std.proofs.Math.Logic.{∥∥₁_map₂}
use Rattle.base.specs.Commits.{Commit, Writes, with_write}
use Rattle.base.specs.Keys.{key_eq, key_lt}
use Rattle.base.specs.declared.key.Key.{Key}
use Rattle.base.specs.declared.step.Step.{Step}
use Rattle.machine.specs.Machine.{State, free_session}
use Rattle.pmem.specs.Device.{Device}
use Rattle.pmem.specs.Words.{image_of}
use Rattle.session_laws.specs.Laws.{IsFirst}
use Rattle.session_laws.specs.Logs.{state_after, AreMade}
use Rattle.session_laws.specs.Sessions.{reads_or_writes, with_step, written_by, IsKept}
use Rattle.session_laws.specs.Transactions.{Open, IsOpen, Commits}
use Rattle.session_laws.proofs.Transactions.{transactions-add_up}
use Rattle.room_logs.proofs.Logs.{each-both, each-follows}
use Rattle.database.specs.Histories.{Known, Does, GoesOnWith, HasBegun, HasCommitted, CommitsIn, IsBegunAt, write_steps}
use Rattle.database.specs.declared.transaction.Committed.{Committed}
use Rattle.file_laws.proofs.Lives.{stays-found}
use Rattle.store.specs.Files.{StaysInFile}
use Rattle.store.specs.Trying.{MeetsConflict}
use Rattle.store.specs.Working.{Deeds, Works, EndsWork, laid_over, CoversCommit, KeepsWrites}
use Rattle.store.specs.declared.store.Attempt.{Attempt}

-- ---- what the steps for writes write

some-written : (is_one is_less : Bool) (one two three : Key × Option (List ℕ)) (x y z : Writes) → (if is_one then one ∷ x else (if is_less then two ∷ y else three ∷ z)) ≢ []
some-written true is_less one two three x y z e = absurd (cc e)
some-written false true one two three x y z e = absurd (cc e)
some-written false false one two three x y z e = absurd (cc e)

with-some : (key : Key) (row : Option (List ℕ)) (done : Writes) → with_write key row done ≢ []
with-some key row [] e = absurd (cc e)
with-some key row (write ∷ done) e = some-written (key_eq key write.0) (key_lt key write.0) (key, row) (key, row) write done (write ∷ done) (with_write key row done) e

-- where something is written, it stays so
over-some : (done : Writes) (writes : List (Key × Option (List ℕ))) → done ≢ [] → fold (λ (done : Writes) (one : Key × Option (List ℕ)). with_write one.0 one.1 done) done writes ≢ []
over-some done [] some = some
over-some done (one ∷ writes) some = over-some (with_write one.0 one.1 done) writes (with-some one.0 one.1 done)

laid-some : (writes : List (Key × Option (List ℕ))) → writes ≢ [] → laid_over writes ≢ []
laid-some [] some = some
laid-some (one ∷ writes) some = over-some (with_write one.0 one.1 []) writes (with-some one.0 one.1 [])

over-steps : (s : ℕ) (done : Writes) (writes : List (Key × Option (List ℕ))) → fold with_step done (write_steps s writes) ≡ fold (λ (done : Writes) (one : Key × Option (List ℕ)). with_write one.0 one.1 done) done writes
over-steps s done [] = refl
over-steps s done ((key, Some row) ∷ writes) = over-steps s (with_write key (Some row) done) writes
over-steps s done ((key, None) ∷ writes) = over-steps s (with_write key None done) writes

-- what the steps for these writes write
written-over : (s : ℕ) (writes : List (Key × Option (List ℕ))) → written_by (write_steps s writes) ≡ laid_over writes
written-over s writes = over-steps s [] writes

all-write : (s : ℕ) (writes : List (Key × Option (List ℕ))) → list_all reads_or_writes (write_steps s writes) ≡ true
all-write s [] = refl
all-write s ((key, Some row) ∷ writes) = all-write s writes
all-write s ((key, None) ∷ writes) = all-write s writes

-- ---- what the history covers

covers-commit : (opened : Device) (s t : ℕ) (writes : List (Key × Option (List ℕ))) (known : Known) (log : List Step) → writes ≢ [] → IsBegunAt opened s known.begun
    → GoesOnWith s (write_steps s writes) known.begun known.seen → CommitsIn opened s known t log → CoversCommit opened log t (laid_over writes)
covers-commit opened s t writes known log some (before, begins, free) (since, goes, did) commits = ∥∥₁_map₂ free commits (λ free commits.
    each-follows (image_of opened) (λ history at start. (free_session (state_after start before) ≡ Some s) × (IsFirst history start × AreMade start log × Commits start it t log))
    (λ history at start. IsFirst history start × AreMade start log × IsKept (state_after start log) (record { timestamp = t; writes = laid_over writes }))
    (λ history at start both. (both.1.0, both.1.1, keeps history start both.0 both.1.0 both.1.1 both.1.2))
    (each-both (image_of opened) (λ history at start. free_session (state_after start before) ≡ Some s) (λ history at start. IsFirst history start × AreMade start log × Commits start it t log) free commits))
  where
    it : Open
    it = record { session = s; begun = known.begun; seen = known.seen }

    keeps : (history : List Commit) (start : State) → free_session (state_after start before) ≡ Some s → IsFirst history start → AreMade start log → Commits start it t log
        → IsKept (state_after start log) (record { timestamp = t; writes = laid_over writes })
    keeps history start free first made commits =
        let open_is : IsOpen start it (write_steps s writes) = record {
          before = before;
          free = free;
          begun = begins;
          since = since;
          seen = goes;
          did = did;
          accesses_are = all-write s writes;
        } in
        subst (λ (w : Writes). IsKept (state_after start log) (record { timestamp = t; writes = w })) (written-over s writes)
        (transactions-add_up.commits start it (write_steps s writes) log t first.of_life open_is (λ e. laid-some writes some (sym (written-over s writes) ∙ e)) made commits)

-- the transaction began in the history, made these writes, and committed
pub keeps-writes : (opened : Device) (kept : Bool) (s : ℕ) (writes : List (Key × Option (List ℕ))) (lent left : Option Known) (timestamp : Option ℕ) (front : Option (List Step)) → HasBegun opened kept s lent
    → Does s (write_steps s writes) lent left → HasCommitted opened s left timestamp front → KeepsWrites opened writes timestamp front
keeps-writes opened true s writes (Some known) (Some new) (Some t) (Some log) (same, begins) (begun, goes) commits = λ some.
    covers-commit opened s t writes new log some (subst (IsBegunAt opened s) (sym begun) begins) (subst (λ (l : List Step). GoesOnWith s (write_steps s writes) l new.seen) (same ∙ sym begun) goes) commits
keeps-writes opened true s writes (Some known) None (Some t) (Some log) begins does commits = absurd does
keeps-writes opened true s writes None left (Some t) (Some log) begins does commits = absurd begins
keeps-writes opened false s writes (Some known) left (Some t) (Some log) begins does commits = absurd (cc begins)
keeps-writes opened false s writes None (Some new) (Some t) (Some log) begins does commits = absurd (cc does)
keeps-writes opened false s writes None None (Some t) (Some log) begins does commits = absurd (cc commits)
keeps-writes opened kept s writes lent left (Some t) None begins does commits = tt
keeps-writes opened kept s writes lent left None front begins does commits = tt

-- ---- tries

pub ended-work : {W V J : Type 0} (opened : Device) (kept : Bool) (does : Deeds W V) (old new : W) (attempt : Attempt V (Committed J)) (key : Key)
    → attempt ≡ Attempt.Conflict key → EndsWork opened kept does old attempt new → MeetsConflict (Works does) (λ lent. lent.0) old key new
ended-work {W} {V} {J} opened kept does old new attempt key is ends = subst (λ (a : Attempt V (Committed J)). EndsWork opened kept does old a new) is ends

-- ---- the file

pub stays-in : (opened : Device) (front : Option (List Step)) → StaysInFile opened front
stays-in opened (Some log) = stays-found opened log
stays-in opened None = tt
