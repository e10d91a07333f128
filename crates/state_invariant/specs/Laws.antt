-- What follows for every life. Each law is stated here in words that need no proof, and a public function promises it.
use Rattle.std.specs.Prelude.{◌≡◌, ◌⊎◌, ℕ, ◌<◌, Bool, true, false, Option, Some, None, List, length, slice_index}
use Rattle.base.specs.declared.key.Key.{Key}
use Rattle.base.specs.declared.step.Step.{Step}
use Rattle.base.specs.declared.step.Step.TheVariants.{Put, Stamp, Collect}
use Rattle.base.specs.declared.step.Reply.{Reply}
use Rattle.machine.specs.Machine.{State, Hand, Version, BySession, Stepped, Run, final, state_covered, refusal, next_state, held_after_put, stamped_write, timestamp_of}
use Rattle.base.specs.Commits.{Commit}
use Rattle.base.specs.Layout.{total_words}
use Rattle.base.specs.Images.{Image, layout_of, opening_fault}
use Rattle.base.specs.Stands.{Stands}
use Rattle.machine.specs.Openings.{IsUpToDate, OpensAs, opened_slots}
use Rattle.state_invariant.specs.Kept.{Origin, origin_of, Keeps, IsInUse, version_by}
use Rattle.state_invariant.specs.Links.{Links, NamesNewest, SameRows}
use Rattle.state_invariant.specs.Shown.{SlotsShow, ReadsAs, StoresPut, StopsPut, StoresStamp}

-- every step keeps what a state keeps, whatever it replies
abbrev pub StepsKeep : Type 0
StepsKeep = (o : Origin) (q : State) (step : Step) (reply : Reply) (q' : State) → Keeps o q → Stepped q step reply q' → Keeps o q'

-- and so does every run
abbrev pub RunsKeep : Type 0
RunsKeep = (o : Origin) (q : State) (steps : List Step) (replies : List Reply) (states : List State) → Keeps o q → Run q steps replies states → Keeps o (final q states)

-- covering the batch being written keeps it too, however many commits it has
abbrev pub CoveringKeeps : Type 0
CoveringKeeps = (o : Origin) (q : State) (hand : Hand) → Keeps o q → q.hand ≡ Some hand → Keeps o (state_covered q hand)

-- an opened state keeps it, with its own beginning, and its slots show it in the words that the opening leaves there
pub record OpenedKeeps : Type 0 where
  pub keeps : (image : Image) (history drawn : List Commit) (next : ℕ) (lost : List ℕ) (q : State) → opening_fault image ≡ None → IsUpToDate image → Stands image history drawn next → OpensAs image history lost q
      → Keeps (origin_of q) q
  pub shows : (image : Image) (history drawn : List Commit) (next : ℕ) (lost : List ℕ) (q : State) → opening_fault image ≡ None → IsUpToDate image → Stands image history drawn next → OpensAs image history lost q
      → SlotsShow (origin_of q) q (slice_index (opened_slots image))

-- each snapshot in use reads the rows of its tables in each whole image with these words
abbrev pub Reading : Type 0
Reading = (o : Origin) (q : State) (image : Image) (n : ℕ) → layout_of image ≡ q.layout → length image ≡ total_words q.layout → Keeps o q → SlotsShow o q (slice_index image) → IsInUse q n
    → ReadsAs o q image n

-- ---- which version each one names

-- in an opened state each does, whatever its words are
abbrev pub OpenedLinks : Type 0
OpenedLinks =
    (image : Image) (history drawn : List Commit) (next : ℕ) (lost : List ℕ) (q : State) (value : ℕ → ℕ) → opening_fault image ≡ None → IsUpToDate image → Stands image history drawn next → OpensAs image history lost q
    → Links (origin_of q) q value

-- so it stays over stores in begins and ends, in slots that nothing holds, and in a session's own if the device failed
abbrev pub StoresLink : Type 0
StoresLink =
    (o : Origin) (q : State) (value new : ℕ → ℕ)
    → ((slot : ℕ) (v : Version) → slot < q.layout.slots → q.held slot ≡ Some v → SameRows q.layout value new slot ⊎ ((q.failed ≡ true) × (n : ℕ) × (v.writer ≡ BySession n)))
    → Links o q value → Links o q new

-- the step fills a slot
abbrev pub fills : Step → Bool
fills (Put n key row) = true
fills _ = false

-- the values may stay over any other step
abbrev pub StepsLink : Type 0
StepsLink = (o : Origin) (q : State) (step : Step) (reply : Reply) (q' : State) (value : ℕ → ℕ) → Keeps o q → Stepped q step reply q' → fills step ≡ false → Links o q value → Links o q' value

-- covering the batch being written keeps it too
abbrev pub CoveringLinks : Type 0
CoveringLinks = (o : Origin) (q : State) (hand : Hand) (value : ℕ → ℕ) → Keeps o q → q.hand ≡ Some hand → Links o q value → Links o (state_covered q hand) value

-- a put whose version names the newest one that is held; or one that the device stopped, after it stored in its slot alone
pub record PutLinks : Type 0 where
  pub stored : (o : Origin) (q : State) (n : ℕ) (key : Key) (row : List ℕ) (slot : ℕ) (value new : ℕ → ℕ) → Keeps o q → refusal q (Put n key row) ≡ None
      → slot < q.layout.slots → held_after_put q n key slot ≡ Some (version_by key (BySession n))
      → StoresPut q.layout value new slot key row → NamesNewest q new slot n key → Links o q value → Links o (next_state q (Put n key row)) new
  pub stopped : (o : Origin) (q : State) (n : ℕ) (key : Key) (row : List ℕ) (slot : ℕ) (value new : ℕ → ℕ) → Keeps o q → refusal q (Put n key row) ≡ None
      → slot < q.layout.slots → held_after_put q n key slot ≡ Some (version_by key (BySession n))
      → StopsPut q.layout value new slot → Links o q value → Links o (record q { failed = true }) new

-- ---- what the slots show

-- covering the batch being written keeps what the slots show, however many commits it has
abbrev pub CoveringShows : Type 0
CoveringShows = (o : Origin) (q : State) (hand : Hand) (value : ℕ → ℕ) → q.failed ≡ false → Keeps o q → q.hand ≡ Some hand → SlotsShow o q value → SlotsShow o (state_covered q hand) value

-- the step stores in slots
abbrev pub stores : Step → Bool
stores (Put n key row) = true
stores (Stamp n) = true
stores Collect = true
stores _ = false

-- the values may stay over any other step
abbrev pub StepsShow : Type 0
StepsShow = (o : Origin) (q : State) (step : Step) (reply : Reply) (q' : State) (value : ℕ → ℕ) → Keeps o q → Stepped q step reply q' → stores step ≡ false → SlotsShow o q value → SlotsShow o q' value

-- a put that stores its version in its slot: what the slots show is then what the next state says, and, if the device
-- stopped it, what the failed state says
pub record PutShows : Type 0 where
  pub stored : (o : Origin) (q : State) (n : ℕ) (key : Key) (row : List ℕ) (slot : ℕ) (value new : ℕ → ℕ) → Keeps o q → refusal q (Put n key row) ≡ None
      → slot < q.layout.slots → held_after_put q n key slot ≡ Some (version_by key (BySession n))
      → StoresPut q.layout value new slot key row → SlotsShow o q value → SlotsShow o (next_state q (Put n key row)) new
  pub stopped : (o : Origin) (q : State) (n : ℕ) (key : Key) (row : List ℕ) (slot : ℕ) (value new : ℕ → ℕ) → Keeps o q → refusal q (Put n key row) ≡ None
      → slot < q.layout.slots → held_after_put q n key slot ≡ Some (version_by key (BySession n))
      → StopsPut q.layout value new slot → SlotsShow o q value → SlotsShow o (record q { failed = true }) new

-- a stamp that stores its timestamp: what the slots show is then what the next state says
abbrev pub StampShows : Type 0
StampShows = (o : Origin) (q : State) (n : ℕ) (key : Key) (row : Option (List ℕ)) (value new : ℕ → ℕ) → Keeps o q → refusal q (Stamp n) ≡ None → stamped_write q n ≡ Some (key, row)
    → StoresStamp q value new (timestamp_of (q.sessions n)) key → SlotsShow o q value → SlotsShow o (next_state q (Stamp n)) new
