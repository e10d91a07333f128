-- What covers the drawn commits that a record commits.
use Rattle.std.specs.Prelude.{◌≡◌, ℕ, Bool, true, false, not, List, filter, ◌++◌, fold, slice_get, if◌then◌else◌, None, Some, All}
use Rattle.base.specs.declared.key.Key.{Key}
use Rattle.base.specs.Keys.{key_eq}
use Rattle.base.specs.Records.{Record, is_committed}
use Rattle.machine.specs.Machine.{State, Hand, state_covered}
use Rattle.pmem.specs.Device.{Device}
use Rattle.txn.specs.declared.drawn.DrawnCommit.{DrawnCommit}
use Rattle.txn.specs.declared.write.Write.{Write}
use Rattle.index.specs.declared.entry.Entry.{Entry}
use Rattle.index.specs.Entries.{entry_at, has_room, covered, KeepsRoom}
use Rattle.index.specs.Keyed.{is_kept}
use Rattle.state_invariant.specs.Kept.{Keeps}
use Rattle.device_invariant.specs.Upholds.{Upholds}
use Rattle.session_steps.specs.declared.sessions.Sessions.{Sessions}
use Rattle.session_steps.specs.Shows.{Hidden, plain_of, Agrees, Shows}

-- ---- the index

-- the key's entry once the write is covered
abbrev pub covered_by : Key → Entry → Write → Entry
covered_by key entry write = if key_eq write.key key then covered write.slot entry else entry

-- the key's entry once all these writes are covered, in their order
abbrev pub covered_by_all : Key → Entry → List Write → Entry
covered_by_all key entry writes = fold (covered_by key) entry writes

-- once all these commits are
abbrev pub covered_by_commits : Key → Entry → List DrawnCommit → Entry
covered_by_commits key entry commits = fold (λ entry d. covered_by_all key entry d.writes) entry commits

-- the key of each of these writes has room in the index
abbrev pub HasRoom : List (Key × Entry) → List Write → Type 0
HasRoom index writes = All (λ write. has_room index write.key ≡ true) writes

-- the slot of each of these writes can be kept there
abbrev pub AreKept : List Write → Type 0
AreKept writes = All (λ write. is_kept write.slot ≡ true) writes

-- the earlier index, with these writes covered
pub record CoversWrites (writes : List Write) (old new : List (Key × Entry)) : Type 0 where
  pub entries : (key : Key) → entry_at new key ≡ covered_by_all key (entry_at old key) writes
  pub room : KeepsRoom old new

-- the earlier index, with these commits covered
pub record CoversCommits (commits : List DrawnCommit) (old new : List (Key × Entry)) : Type 0 where
  pub entries : (key : Key) → entry_at new key ≡ covered_by_commits key (entry_at old key) commits
  pub room : KeepsRoom old new

-- ---- what it replaces

-- No slot is left out that was in, and none whose version was the newest of its key, unless the key's entry is the same
pub record MarksReplaced (before now : List Bool) (old new : List (Key × Entry)) : Type 0 where
  pub others : (slot : ℕ) → slice_get now slot ≡ Some false → slice_get before slot ≡ Some false
  pub entries : (key : Key) (slot : ℕ) → (entry_at old key).newest ≡ Some slot → slice_get now slot ≡ Some false → entry_at new key ≡ entry_at old key

-- ---- a batch

-- those of the drawn commits that the record commits
abbrev pub committed_by : Record → List DrawnCommit → List DrawnCommit
committed_by ruling drawn = filter (λ d. is_committed ruling d.timestamp) drawn

-- and the others
abbrev pub left_by : Record → List DrawnCommit → List DrawnCommit
left_by ruling drawn = filter (λ d. not (is_committed ruling d.timestamp)) drawn

-- the batch is pending, and this record is to cover it
pub record IsOf (q : State) (hand : Hand) (ruling : Record) : Type 0 where
  pub in_hand : q.hand ≡ Some hand
  pub target : hand.target ≡ ruling

-- what holds before the batch is covered, whatever is hidden
pub record MayCover (s : Sessions) (ruling : Record) (h : Hidden) (hand : Hand) : Type 0 where
  pub keeps : Keeps h.origin (plain_of s h)
  pub agrees : Agrees s h.origin h.seen (plain_of s h)
  pub batch : IsOf (plain_of s h) hand ruling

-- something is hidden of which that holds
abbrev pub MayCoverSome : Sessions → Record → Type 0
MayCoverSome s ruling = (h : Hidden) × (hand : Hand) × MayCover s ruling h hand

-- what is hidden once the batch is covered
abbrev pub hidden_covered : Hidden → Hand → Hidden
hidden_covered h hand = record h { history = h.history ++ hand.commits; hand = None }

-- the sessions agree with the state in which the batch is covered
pub record HasCovered (old new : Sessions) (h : Hidden) (hand : Hand) : Type 0 where
  pub plain : plain_of new (hidden_covered h hand) ≡ state_covered (plain_of old h) hand
  pub agrees : Agrees new h.origin h.seen (plain_of new (hidden_covered h hand))

-- so they do whatever is hidden
abbrev pub Covers : Sessions → Sessions → Record → Type 0
Covers old new ruling = (h : Hidden) (hand : Hand) → MayCover old ruling h hand → HasCovered old new h hand

-- whatever state they showed, they show the one in which the batch is covered, on a device that upholds it
abbrev pub ShowsCovered : Sessions → Sessions → Record → Type 0
ShowsCovered old new ruling =
    (before now : Device) (q : State) (hand : Hand) (shown : Shows old before q) → IsOf q hand ruling → Upholds shown.hidden.origin (state_covered q hand) now
    → Shows new now (state_covered q hand)
