-- Which plain states the sessions show on a device.
use Rattle.std.specs.Prelude.{◌≡◌, ◌⊎◌, ℕ, ◌*◌, ◌<◌, ◌≤◌, Bool, true, false, nat_eq, List, [], ◌∷◌, ◌++◌, length, map, drop, slice_get, Option, Some, None, is_some, is_none, All}
use Rattle.std.specs.List.{list_any}
use Rattle.std.specs.Option.{option_map}
use Rattle.base.specs.declared.key.Key.{Key}
use Rattle.base.specs.Commits.{Commit, writes_key}
use Rattle.base.specs.Layout.{total_words}
use Rattle.machine.specs.Machine.{State, Session, Active as Reads, Drew, WroteNothing, Drawn as PlainDrawn, Hand, Version, Writer, BySession, ByCommit, drawn_at, drawn_of}
use Rattle.machine.specs.Collecting.{replace}
use Rattle.pmem.specs.Device.{Device}
use Rattle.txn.specs.declared.drawn.DrawnCommit.{DrawnCommit}
use Rattle.txn.specs.declared.transaction.Transaction.{Transaction}
use Rattle.txn.specs.declared.transaction.Transaction.TheVariants.{Active, Drawn, ReadOnly}
use Rattle.txn.specs.declared.write.Write.{Write}
pub use Rattle.txn.specs.DrawnCommits.{plain_drawn}
use Rattle.txn.specs.Transactions.{transaction_at}
use Rattle.txn.specs.WriteSets.{plain_writes}
use Rattle.dirty_table.specs.declared.sessions.SessionSet.{SessionSet}
use Rattle.dirty_table.specs.Touches.{is_touched}
use Rattle.index.specs.declared.entry.Entry.{Entry}
use Rattle.index.specs.Entries.{entry_at, has_room, live_of}
use Rattle.state_invariant.specs.Kept.{Origin, IsInUse, commits_of_life, version_by}
use Rattle.state_invariant.specs.Links.{HoldsNewest}
use Rattle.device_invariant.specs.Slots.{newest_of}
use Rattle.simulation.specs.cycles.Batches.{line_numbers}
use Rattle.device_invariant.specs.Upholds.{Upholds}
use Rattle.simulation.specs.sessions.Sees.{Sees, last_on}
use Rattle.simulation.specs.steps.Moves.{IsSlotOf}
use Rattle.session_steps.specs.declared.sessions.Sessions.{Sessions}

-- ---- the plain state

-- what the plain state has and the sessions don't keep
pub record Hidden : Type 0 where
  pub origin : Origin  -- what the life began with
  pub history : List Commit
  pub lost : List ℕ
  pub seen : ℕ → ℕ  -- how many commits each session's snapshot has
  pub failed : Bool
  pub hand : Option Hand
  pub held : ℕ → Option Version

-- the transaction of the plain state, if its snapshot has this many commits
abbrev pub plain_session : ℕ → Transaction → Session
plain_session seen (Active snapshot writes) = Reads seen (plain_writes writes)
plain_session seen (Drawn t) = Drew t
plain_session seen ReadOnly = WroteNothing

-- the plain state that the sessions show, if this is hidden
abbrev pub plain_of : Sessions → Hidden → State
plain_of s h = record {
  layout = s.numbers.geometry;
  ruling = s.numbers.record;
  history = h.history;
  drawn = map plain_drawn s.drawn.commits;
  lost = h.lost;
  sessions = λ n. option_map (plain_session (h.seen n)) (transaction_at s.transactions n);
  next = s.numbers.next;
  swept = s.collector.swept;
  place = s.collector.place;
  failed = h.failed;
  hand = h.hand;
  held = h.held;
}

-- ---- how the fields agree with it

-- a write has the slot of its version, and a deletion none
pub record HasItsSlot (q : State) (writer : Writer) (write : Write) : Type 0 where
  pub slot : IsSlotOf q (version_by write.key writer) write.slot
  pub row : is_some write.slot ≡ is_some write.row

-- what holds of a session's transaction: its snapshot sees this many commits, and its writes have their slots
abbrev pub HoldsSession : Origin → State → ℕ → ℕ → Option Transaction → Type 0
HoldsSession o q n seen (Some (Active snapshot writes)) = Sees o q snapshot seen × All (HasItsSlot q (BySession n)) writes
HoldsSession o q n seen _ = Unit {0}

-- the slot has a version of the key, which a commit wrote
pub record HasVersionOf (q : State) (key : Key) (slot : ℕ) : Type 0 where
  pub within : slot < q.layout.slots
  pub timestamp : ℕ
  pub held : q.held slot ≡ Some (version_by key (ByCommit timestamp))

-- a drawn commit writes the key
abbrev pub HasDrawn : State → Key → Type 0
HasDrawn q key = (t : ℕ) × (d : PlainDrawn) × (drawn_at q t ≡ Some d) × (writes_key key d.commit ≡ true)

-- each snapshot in use sees all commits that write the key, and none of them is drawn
abbrev pub IsSeenByAll : State → Key → Type 0
IsSeenByAll q key = (n : ℕ) → IsInUse q n → list_any (writes_key key) (drop n q.history ++ drawn_of q) ≡ false

-- the last timestamp that was drawn for the key in this life; or none, once all see what writes it
abbrev pub HoldsLast : Origin → State → Key → Option ℕ → Type 0
HoldsLast o q key last = (last ≡ last_on key (commits_of_life o q)) ⊎ ((last ≡ None) × IsSeenByAll q key)

-- What the index has of a key: the slot of its newest covered version, while that has a row, and the last timestamp that was drawn for it
-- in this life, which may be forgotten once all see what writes the key. Also the slot of a version that a deletion ended is the newest, as
-- long as it isn't freed.
-- Excluded: a row whose slot the index doesn't know; an index entry taken out that an open transaction still conflicts with.
pub record HoldsEntry (o : Origin) (q : State) (key : Key) (entry : Entry) : Type 0 where
  pub live : IsSlotOf q (newest_of q key) (live_of entry)
  pub last : HoldsLast o q key entry.last
  pub newest : HoldsNewest q key entry.newest
  pub only : (slot : ℕ) → entry.newest ≡ Some slot → HasVersionOf q key slot
  pub drawn : (slot : ℕ) → entry.drawn ≡ Some slot → (slot < q.layout.slots) × HasDrawn q key

-- one of the drawn commits is the session's
abbrev pub has_drawn_by : List DrawnCommit → ℕ → Bool
has_drawn_by drawn n = list_any (λ d. nat_eq d.session n) drawn

-- The dirty table has for each drawn commit its lines, under its session's number, and no others.
-- Excluded: a line of a drawn commit that isn't in the dirty table.
pub record HoldsLines (q : State) (drawn : List DrawnCommit) (dirty : List SessionSet) : Type 0 where
  pub own : All (λ d. (line : ℕ) → is_touched dirty d.session line ≡ list_any (λ l. nat_eq l line) (line_numbers q ((plain_drawn d).commit ∷ []))) drawn
  pub none : (n line : ℕ) → has_drawn_by drawn n ≡ false → is_touched dirty n line ≡ false

-- a drawn commit is its session's, and its writes have their slots, and their keys room in the index
pub record HoldsDrawn (s : Sessions) (q : State) (d : DrawnCommit) : Type 0 where
  pub session : transaction_at s.transactions d.session ≡ Some (Drawn d.timestamp)
  pub writes : All (HasItsSlot q (ByCommit d.timestamp)) d.writes
  pub room : All (λ write. has_room s.index write.key ≡ true) d.writes

-- there is such a slot, and the history replaces no version in it: a visit of it changes nothing
abbrev pub IsUnreplaced : State → ℕ → Type 0
IsUnreplaced q slot = (slot < q.layout.slots) × (replace q.history (q.held slot) ≡ false)

-- The fields agree with the state, if the snapshots see this many commits.
-- Excluded: a slot that isn't among the replaced ones, and that a visit frees.
pub record Agrees (s : Sessions) (o : Origin) (seen : ℕ → ℕ) (q : State) : Type 0 where
  pub sessions : (n : ℕ) → HoldsSession o q n (seen n) (transaction_at s.transactions n)
  pub drawn : All (HoldsDrawn s q) s.drawn.commits
  pub free : (slot : ℕ) → slot < q.layout.slots → slice_get s.slots slot ≡ Some (is_none (q.held slot))
  pub counted : length s.slots ≡ q.layout.slots
  pub unreplaced : (slot : ℕ) → slice_get s.replaced slot ≡ Some false → IsUnreplaced q slot
  pub index : (key : Key) → HoldsEntry o q key (entry_at s.index key)
  pub lines : HoldsLines q s.drawn.commits s.dirty
  pub sized : total_words q.layout ≤ 8 * length s.dirty

-- the sessions show the state on the device
pub record Shows (s : Sessions) (device : Device) (q : State) : Type 0 where
  pub hidden : Hidden
  pub plain : q ≡ plain_of s hidden
  pub upholds : Upholds hidden.origin q device
  pub agrees : Agrees s hidden.origin hidden.seen q

-- the sessions show some state
abbrev pub ShowsAny : Sessions → Device → Type 0
ShowsAny s device = (q : State) × Shows s device q
