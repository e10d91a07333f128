-- What is due for two workers, and when they rest.
use Rattle.std.specs.Prelude.{◌≡◌, ℕ, ◌/◌, max, nat_le, nat_lt, Bool, true, false, not, ◌&&◌, ◌||◌}
use Rattle.roles.specs.declared.due.Due.{Due}
use Rattle.roles.specs.declared.due.News.{News}
use Rattle.roles.specs.declared.workers.Workers.{Workers}

-- nobody is to be told
abbrev pub nobody : News
nobody = record { committer = false; collector = false; waiting = false }

-- at first a tick and a round are due
abbrev pub first_due : Due
first_due = record { tick = true; visit = true; covered = 0; is_slot_wanted = false; news = nobody }

-- and no worker has been refused memory, or has to end
abbrev pub first_workers : Workers
first_workers = record { due = first_due; refusals = 0; are_asleep = false; is_closing = false }

-- how much has to be covered for a round: a fourth of the slots, and at least one
abbrev pub enough_for : ℕ → ℕ
enough_for slots = max (slots / 4) 1

-- a round falls due: none goes on, and a slot is needed, enough was covered, or one must begin
abbrev pub falls_due : ℕ → Bool → Bool → Bool → ℕ → Bool
falls_due enough must goes_on is_wanted covered = not goes_on && (is_wanted || (nat_le enough covered || must))

-- memory was refused more than a hundred times in a row
abbrev pub is_too_often : ℕ → Bool
is_too_often refusals = nat_lt 100 refusals

-- a worker sleeps if memory was refused too often, unless it has to end
abbrev pub rests : Bool → ℕ → Bool
rests closing refusals = not closing && is_too_often refusals

-- nothing but the refusals changes
abbrev pub LeavesWork : Workers → Workers → Type 0
LeavesWork old new = (new.due ≡ old.due) × (new.are_asleep ≡ old.are_asleep) × (new.is_closing ≡ old.is_closing)

-- nothing but what is due changes
abbrev pub LeavesRest : Workers → Workers → Type 0
LeavesRest old new = (new.refusals ≡ old.refusals) × (new.are_asleep ≡ old.are_asleep) × (new.is_closing ≡ old.is_closing)
