-- The worked runs, by computing them. What computes too long from the start is computed in pieces: a state in between is
-- the one whose numbers are written out.
use Rattle.std.proofs.Common.{◌≡◌, List, [], ◌∷◌, ◌++◌, refl, ap, ◌∙◌}
use Rattle.std.specs.Prelude.{None, Some, map}
use Rattle.std.specs.List.{range_with_len}
use Rattle.base.specs.declared.step.Step.{Step}
use Rattle.base.specs.declared.step.Step.TheVariants.{Begin, Get, Put, Delete, Draw, Stamp, Poll, End}
use Rattle.base.specs.Commits.{after}
use Rattle.base.specs.Layout.{slot_lines, slot_words, used_words}
use Rattle.base.specs.Lists.{replaced}
use Rattle.machine.specs.Machine.{State, Active, Drew, BySession, by_commit, device_failed, most_sessions, closed}
use Rattle.machine.specs.Replay.{replies, end}
use Rattle.worked.specs.Images.{key_7, ab, commit_1, record_of}
use Rattle.worked.specs.Runs.{numbers, key_8, numbered_key, ticks, last_reply, start, inserted, committed, updated, two_keys, FirstCommit, FailedFence, LostCommit, EmptyWriteSet, HalfWritten, CloseThenOpen, SessionNumbers, OwnWrites, Scans, Update, TwoKeys, AbortedWrites, FullWriteSet, NoSlotLeft, FirstCommitterWins, NoTimestampLeft, FreedSlots, SweptGaps}

-- ---- states in between

-- one session is open
abbrev pub begun_state : State
begun_state = record start { sessions = replaced 2 (Some (Active 0 [])) start.sessions }

begun : end start (Begin ∷ []) ≡ begun_state
unfolding most_sessions slot_lines slot_words used_words
begun = refl

-- it has inserted key 7
abbrev pub inserted_state : State
inserted_state = record start {
  drawn = record { commit = commit_1; stamped = 1 } ∷ [];
  sessions = replaced 2 (Some (Drew 1)) (replaced 2 (Some (Active 0 ((key_7, Some ab) ∷ []))) (replaced 2 (Some (Active 0 [])) start.sessions));
  next = 2;
  held = λ slot. by_commit 2 1 (replaced 0 (Some (record { key = key_7; writer = BySession 2 })) start.held slot);
}

after_insert : inserted ≡ inserted_state
unfolding most_sessions slot_lines slot_words used_words
after_insert = refl

-- that is covered
abbrev pub committed_state : State
committed_state = record inserted_state { ruling = record_of 3 1 10 []; history = commit_1 ∷ []; drawn = [] }

after_cycle : end inserted_state (ticks 42) ≡ committed_state
unfolding most_sessions slot_lines slot_words used_words
after_cycle = refl

after_commit : committed ≡ committed_state
unfolding slot_lines slot_words used_words
after_commit = ap (λ (q : State). end q (ticks 42)) after_insert ∙ after_cycle

-- key 7 is updated
abbrev pub update_steps : List Step
update_steps = End 2 ∷ Begin ∷ Put 2 key_7 [] ∷ Draw 2 ∷ Stamp 2 ∷ []

abbrev pub updated_state : State
updated_state = record committed_state {
  drawn = record { commit = record { timestamp = 2; writes = (key_7, Some []) ∷ [] }; stamped = 1 } ∷ [];
  sessions = (end committed_state update_steps).sessions;
  next = 3;
  held = (end committed_state update_steps).held;
}

updates : end committed_state update_steps ≡ updated_state
unfolding most_sessions slot_lines slot_words used_words
updates = refl

after_update : updated ≡ updated_state
unfolding slot_lines slot_words used_words
after_update = ap (λ (q : State). end q update_steps) after_commit ∙ updates

-- key 7 is deleted and key 8 inserted
abbrev pub two_steps : List Step
two_steps = End 2 ∷ Begin ∷ Put 2 key_8 ab ∷ Delete 2 key_7 ∷ Draw 2 ∷ Stamp 2 ∷ Stamp 2 ∷ []

abbrev pub two_state : State
two_state = record committed_state {
  drawn = record { commit = record { timestamp = 2; writes = (key_7, None) ∷ (key_8, Some ab) ∷ [] }; stamped = 2 } ∷ [];
  sessions = (end committed_state two_steps).sessions;
  next = 3;
  held = (end committed_state two_steps).held;
}

writes_two : end committed_state two_steps ≡ two_state
unfolding most_sessions slot_lines slot_words used_words
writes_two = refl

after_two : two_keys ≡ two_state
unfolding slot_lines slot_words used_words
after_two = ap (λ (q : State). end q two_steps) after_commit ∙ writes_two

-- ---- the runs

pub first_commit : FirstCommit
unfolding most_sessions slot_lines slot_words used_words
first_commit = record {
  opens = refl;
  inserts = refl;
  takes_slot_0 = refl;
  ticks_42 = ap (λ (q : State). replies q (ticks 42)) after_insert;
  idle = ap (λ (q : State). replies q (ticks 1)) after_commit;
  polls = ap (λ (q : State). replies q (Poll 2 ∷ ticks 42 ++ Poll 2 ∷ Poll 2 ∷ End 2 ∷ Poll 2 ∷ [])) after_insert;
  covers = (ap numbers after_commit, ap (λ (q : State). q.history) after_commit, ap (λ (q : State). q.ruling) after_commit);
  operations = refl;
  reopens = (refl, refl, refl);
}

pub failed_fence : FailedFence
unfolding most_sessions slot_lines slot_words used_words
failed_fence = record { fails = device_failed refl refl refl refl; failed = refl }

pub lost_commit : LostCommit
unfolding most_sessions slot_lines slot_words used_words
lost_commit = record { opens = (refl, refl); again = refl; takes_slot_0 = refl; covers = (refl, refl) }

pub empty_write_set : EmptyWriteSet
unfolding most_sessions slot_lines slot_words used_words
empty_write_set = record { draws = refl; numbers_stay = refl }

pub half_written : HalfWritten
unfolding most_sessions slot_lines slot_words used_words
half_written = record { opens = refl }

pub close_then_open : CloseThenOpen
unfolding most_sessions slot_lines slot_words used_words
close_then_open = record {
  closes = ap (λ (q : State). (closed q).ruled_by) after_commit;
  covers_drawn = ap closed after_insert;
  covers_hand = ap (λ (q : State). closed (end q (ticks 20))) after_insert;
  opens = refl;
}

pub session_numbers : SessionNumbers
unfolding most_sessions slot_lines slot_words used_words
session_numbers = record { lowest = refl }

pub own_writes : OwnWrites
unfolding most_sessions slot_lines slot_words used_words
own_writes = record { sees = refl; releases = refl; operations = refl; covers = refl }

pub scans : Scans
unfolding slot_lines slot_words used_words
scans = record { whole = refl; ends = refl; empty = refl; refuses = refl }

pub update : Update
unfolding most_sessions slot_lines slot_words used_words
update = record {
  puts = ap (λ (q : State). replies q (End 2 ∷ Begin ∷ Put 2 key_7 [] ∷ Get 2 key_7 ∷ Draw 2 ∷ Stamp 2 ∷ [])) after_commit;
  takes_slot_1 = ap (λ (q : State). q.held 1) after_update;
  keeps_slot_0 = ap (λ (q : State). (end q (ticks 43)).held 0) after_update;
  covers = (ap (λ (q : State). numbers (end q (ticks 43))) after_update, ap (λ (q : State). after (end q (ticks 43)).history key_7) after_update);
}

pub two_keys_stamped : TwoKeys
unfolding most_sessions slot_lines slot_words used_words
two_keys_stamped = record {
  stamps = ap (λ (q : State). replies q (End 2 ∷ Begin ∷ Put 2 key_8 ab ∷ Delete 2 key_7 ∷ Draw 2 ∷ Stamp 2 ∷ Stamp 2 ∷ Stamp 2 ∷ [])) after_commit;
  covers = ap (λ (q : State). last_reply (replies q (ticks 43))) after_two;
  reads = ap (λ (q : State). replies (end q (ticks 43)) (End 2 ∷ Begin ∷ Get 2 key_7 ∷ Get 2 key_8 ∷ [])) after_two;
}

pub aborted_writes : AbortedWrites
unfolding most_sessions slot_lines slot_words used_words
aborted_writes = record { aborts = refl; releases = refl; drawn = refl }

pub full_write_set : FullWriteSet
unfolding slot_lines slot_words used_words
full_write_set = record {
  refuses = ap (λ (q : State). replies (end q (map (λ n. Delete 2 (numbered_key n)) (range_with_len 0 32))) (Put 2 key_8 ab ∷ Delete 2 key_8 ∷ Delete 2 (numbered_key 3) ∷ Get 2 (numbered_key 3) ∷ [])) begun;
}

pub no_slot_left : NoSlotLeft
unfolding most_sessions slot_lines slot_words used_words
no_slot_left = record { out = refl }

pub first_committer_wins : FirstCommitterWins
unfolding most_sessions slot_lines slot_words used_words
first_committer_wins = record { drawn = refl; covered = refl }

pub no_timestamp_left : NoTimestampLeft
unfolding most_sessions slot_lines slot_words used_words
no_timestamp_left = record { window = (refl, refl); limit = (refl, refl); records = (refl, refl, refl) }

pub freed_slots : FreedSlots
unfolding most_sessions slot_lines slot_words used_words
freed_slots = record { rounds = refl; frees = refl; keeps = refl; reads = refl; later = refl; operations = refl }

pub swept_gaps : SweptGaps
unfolding most_sessions slot_lines slot_words used_words
swept_gaps = record { before = refl; sweeps = refl; operations = refl; due = refl; drops = (refl, refl) }
