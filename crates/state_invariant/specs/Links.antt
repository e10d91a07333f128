-- Which earlier version each version names.
use Rattle.std.specs.Prelude.{ℕ, ◌+◌, ◌<◌, ◌≤◌, ◌≡◌, true, false, is_some, fold, if◌then◌else◌, List, length, take, slice_get, slice_index, Option, Some, None}
use Rattle.base.specs.declared.key.Key.{Key}
use Rattle.base.specs.Commits.{Commit, writes_key}
use Rattle.base.specs.Layout.{Layout, slot_words, total_words}
use Rattle.base.specs.Images.{Image, layout_of, link_of}
use Rattle.machine.specs.Machine.{State, Version, BySession, ByCommit, Drawn, drawn_at, begun_of}
use Rattle.state_invariant.specs.Kept.{Origin, row_in, version_by}
use Rattle.state_invariant.specs.Shown.{word_of}

-- the timestamp of the last of the commits that wrote a row at the key; a later deletion doesn't hide it
abbrev pub last_row : List Commit → Key → Option ℕ
last_row commits key = fold (λ last commit. if is_some (row_in commit.writes key) then Some commit.timestamp else last) None commits

-- no commit that the session doesn't see writes the key, so that it may draw
pub record IsFreeToDraw (q : State) (n : ℕ) (key : Key) : Type 0 where
  pub covered : (place : ℕ) (c : Commit) → begun_of (q.sessions n) ≤ place → slice_get q.history place ≡ Some c → writes_key key c ≡ false
  pub drawn : (t : ℕ) (d : Drawn) → drawn_at q t ≡ Some d → writes_key key d.commit ≡ false

-- How many commits come before a version: of a drawn one all that are covered; of a covered one those before its commit; of
-- a session's all that are covered, as long as no commit on its key bars it from drawing. Of one that the opening found, or
-- that can't become a commit's any more, nothing is claimed
pub data ComesAfter (o : Origin) (q : State) : Version → ℕ → Type 0 where
  by_session : (n : ℕ) (key : Key) → q.failed ≡ false → IsFreeToDraw q n key → ComesAfter o q (version_by key (BySession n)) (length q.history)
  by_draw : (t : ℕ) (key : Key) (d : Drawn) → drawn_at q t ≡ Some d → writes_key key d.commit ≡ true → ComesAfter o q (version_by key (ByCommit t)) (length q.history)
  by_commit : (t place : ℕ) (key : Key) (commit : Commit) → o.opened ≤ place → slice_get q.history place ≡ Some commit → commit.timestamp ≡ t → writes_key key commit ≡ true
      → ComesAfter o q (version_by key (ByCommit t)) place

-- a whole image with these values in the slot's words from the third on has this link there
pub record LinksTo (a : Layout) (value : ℕ → ℕ) (slot link : ℕ) : Type 0 where
  pub read : (image : Image) → layout_of image ≡ a → length image ≡ total_words a
      → ((w : ℕ) → 2 ≤ w → w < slot_words a.version → slice_index image (word_of a slot w) ≡ value (word_of a slot w))
      → link_of image slot ≡ link

-- the version's slot names that of the row version before it on its key, while that is held, even if a covered deletion
-- ended it
abbrev pub SlotLinks : Origin → State → (ℕ → ℕ) → ℕ → Version → Type 0
SlotLinks o q value slot v =
    (place t earlier : ℕ) → ComesAfter o q v place → last_row (take place q.history) v.key ≡ Some t → earlier < q.layout.slots → q.held earlier ≡ Some (version_by v.key (ByCommit t))
    → LinksTo q.layout value slot (earlier + 1)

-- so do all that are held
pub record Links (o : Origin) (q : State) (value : ℕ → ℕ) : Type 0 where
  pub each : (slot : ℕ) (v : Version) → slot < q.layout.slots → q.held slot ≡ Some v → SlotLinks o q value slot v

-- ---- the newest

-- the slot of the key's newest row version, while that is held
abbrev pub HoldsNewest : State → Key → Option ℕ → Type 0
HoldsNewest q key newest = (t slot : ℕ) → last_row q.history key ≡ Some t → slot < q.layout.slots → q.held slot ≡ Some (version_by key (ByCommit t)) → newest ≡ Some slot

-- if no commit bars the session from drawing, the words of its version name the newest row version that is held
abbrev pub NamesNewest : State → (ℕ → ℕ) → ℕ → ℕ → Key → Type 0
NamesNewest q value slot n key =
    IsFreeToDraw q n key → (t earlier : ℕ) → last_row q.history key ≡ Some t → earlier < q.layout.slots → q.held earlier ≡ Some (version_by key (ByCommit t))
    → LinksTo q.layout value slot (earlier + 1)

-- ---- stores

-- the slot's words from the third on have the values that they had
pub record SameRows (a : Layout) (value new : ℕ → ℕ) (slot : ℕ) : Type 0 where
  pub each : (w : ℕ) → 2 ≤ w → w < slot_words a.version → new (word_of a slot w) ≡ value (word_of a slot w)
