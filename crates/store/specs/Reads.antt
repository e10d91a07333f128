-- What the calls return that read a part of a range, or go on behind a key.
use Rattle.std.specs.Prelude.{◌≡◌, ◌⊎◌, ◌≤◌, ◌<◌, ◌-◌, ℕ, List, [], slice_get, Option, Result, Ok, Err}
use Rattle.std.specs.Option.{option_map}
use Rattle.base.specs.declared.fault.Fault.{Fault}
use Rattle.base.specs.declared.key.Key.{Key}
use Rattle.base.specs.declared.step.Step.{Step}
use Rattle.base.specs.declared.step.Step.TheVariants.{Scan}
use Rattle.base.specs.declared.step.Reply.{Reply}
use Rattle.session_steps.specs.Reads.{of_rows}
use Rattle.database.specs.Reads.{ReadsReply}
use Rattle.store.specs.declared.error.StoreError.{StoreError}
use Rattle.store.specs.Errors.{error_of}

-- A run comes to a state in which the machine makes this step and stays in it, and what is returned is read off the reply: a fault as the
-- error that it becomes.
-- Excluded: a row of another key or session.
abbrev pub Reads : {A : Type 0} → Step → (Reply → Result A Fault) → Result A StoreError → Type 0
Reads step read (Ok value) = ReadsReply step read (Ok value)
Reads step read (Err error) = (fault : Fault) × (error ≡ error_of fault) × ReadsReply step read (Err fault)

-- It is what is made of the rows with which the machine replies to a Scan of the session, from the start up to, but not including, the
-- end of the range; or there are no keys in between, and it is what is made of no rows
abbrev pub ReadsRange : {A : Type 0} → (List (Key × List ℕ) → A) → ℕ → ℕ → ℕ → ℕ → A → Type 0
ReadsRange make session table start end value =
    ((start < end) × ReadsReply (Scan session table start (end - 1)) (of_rows make) (Ok value)) ⊎ ((end ≤ start) × (value ≡ make []))

-- such a Scan is refused, with a fault that becomes this error
abbrev pub RangeRefused : {A : Type 0} → (List (Key × List ℕ) → A) → ℕ → ℕ → ℕ → ℕ → StoreError → Type 0
RangeRefused make session table start end error =
    (start < end) × ((fault : Fault) × (error ≡ error_of fault) × ReadsReply (Scan session table start (end - 1)) (of_rows make) (Err fault))

-- the number of the first key
abbrev pub first_key_of : List (Key × List ℕ) → Option ℕ
first_key_of rows = option_map (λ row. row.0.key) (slice_get rows 0)
