-- What follows for sessions. Each law is stated here in words that need no proof, and a public function promises it.
use Rattle.std.specs.Prelude.{◌≡◌, ℕ, ◌≤◌, Bool, true, false, not, length, map, filter, take, drop, ◌++◌, slice_index, Option, Contains}
use Rattle.std.specs.List.{list_any}
use Rattle.base.specs.declared.key.Key.{Key}
use Rattle.base.specs.declared.step.Step.{Step}
use Rattle.base.specs.declared.step.Reply.{Reply}
use Rattle.base.specs.Commits.{after, writes_key}
use Rattle.base.specs.Layout.{total_words}
use Rattle.base.specs.Records.{Record, is_committed}
use Rattle.base.specs.Images.{Image, layout_of}
use Rattle.machine.specs.Machine.{State, Drawn, Hand, ByCommit, Stepped, drawn_of, state_covered}
use Rattle.pmem.specs.Device.{Device, IsOrderly}
use Rattle.pmem.specs.Words.{image_of}
use Rattle.state_invariant.specs.Kept.{Origin, Keeps, KeepsHand, IsInUse, commits_of_life, version_by}
use Rattle.state_invariant.specs.Shown.{SlotsShow}
use Rattle.state_invariant.specs.Links.{Links, HoldsNewest}
use Rattle.device_invariant.specs.Slots.{newest_of}
use Rattle.device_invariant.specs.Upholds.{Upholds}
use Rattle.snapshot.specs.Snapshots.{Seen, covers, seen_by}
use Rattle.snapshot.specs.Walks.{IsLinked}
use Rattle.simulation.specs.sessions.Sees.{Sees, SeesBegins, CoversFreed, ReadsBy, last_on, is_unseen}

-- the ruling record is a snapshot of all that is covered
abbrev pub PresentSees : Type 0
PresentSees = (o : Origin) (q : State) → Keeps o q → Sees o q (seen_by q.ruling) (length q.history)

-- a snapshot of this many commits stays one over every step
abbrev pub StepsKeepSight : Type 0
StepsKeepSight =
    (o : Origin) (q q' : State) (step : Step) (reply : Reply) (snapshot : Seen) (begun : ℕ) → Keeps o q → begun ≤ length q.history → Stepped q step reply q' → Sees o q snapshot begun
    → Sees o q' snapshot begun

-- what a snapshot in use covers in the words of the slots is exactly the rows of its tables
abbrev pub Reads : Type 0
Reads =
    (o : Origin) (q : State) (device : Device) (snapshot : Seen) (begun : ℕ) → IsOrderly device → Upholds o q device → IsInUse q begun → Sees o q snapshot begun
    → ReadsBy (covers snapshot) q.layout (after (take begun q.history)) (image_of device)

-- from a key's newest version links lead to the one that a snapshot sees, for each that covers the ends of what was freed
abbrev pub ChainsLead : Type 0
ChainsLead =
    (o : Origin) (q : State) (image : Image) (snapshot : Seen) (n : ℕ) (key : Key) (newest : Option ℕ) → layout_of image ≡ q.layout → length image ≡ total_words q.layout → Keeps o q
    → SlotsShow o q (slice_index image) → Links o q (slice_index image) → CoversFreed o q (slice_index image) n → SeesBegins o q snapshot n image → HoldsNewest q key newest → IsLinked snapshot image key newest

-- so they do on a device, for each snapshot in use
abbrev pub LinksLead : Type 0
LinksLead =
    (o : Origin) (q : State) (device : Device) (snapshot : Seen) (begun : ℕ) (key : Key) (newest : Option ℕ) → IsOrderly device → Upholds o q device → IsInUse q begun → Sees o q snapshot begun
    → HoldsNewest q key newest → IsLinked snapshot (image_of device) key newest

-- a commit that the snapshot doesn't see writes the key exactly if the last commit of this life on the key is one
abbrev pub Conflicts : Type 0
Conflicts =
    (o : Origin) (q : State) (snapshot : Seen) (begun : ℕ) (key : Key) → Keeps o q → o.opened ≤ begun → begun ≤ length q.history → Sees o q snapshot begun
    → is_unseen snapshot (last_on key (commits_of_life o q)) ≡ list_any (writes_key key) (drop begun q.history ++ drawn_of q)

-- ---- covering

-- the record commits it
abbrev pub is_covered_by : Record → Drawn → Bool
is_covered_by r d = is_committed r d.commit.timestamp

-- A pending batch has exactly the drawn commits that its record commits; the others stay drawn, the last commit of the life on
-- each key stays, and on each key that the batch writes its commit's version is the newest
pub record CoversByRecord (o : Origin) (q : State) (hand : Hand) : Type 0 where
  pub batch : hand.commits ≡ map (λ d. d.commit) (filter (is_covered_by hand.target) q.drawn)
  pub rest : (state_covered q hand).drawn ≡ filter (λ d. not (is_covered_by hand.target d)) q.drawn
  pub last : (key : Key) → last_on key (commits_of_life o (state_covered q hand)) ≡ last_on key (commits_of_life o q)
  pub written : (key : Key) (d : Drawn) → Contains q.drawn d → is_covered_by hand.target d ≡ true → writes_key key d.commit ≡ true → newest_of (state_covered q hand) key ≡ version_by key (ByCommit d.commit.timestamp)
  pub unwritten : (key : Key) → list_any (writes_key key) hand.commits ≡ false → newest_of (state_covered q hand) key ≡ newest_of q key

-- this holds of each pending batch
abbrev pub BatchesCover : Type 0
BatchesCover = (o : Origin) (q : State) (hand : Hand) → Keeps o q → KeepsHand q hand → CoversByRecord o q hand
