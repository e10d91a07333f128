-- What is known of words in a file.
use Rattle.std.specs.Prelude.{ℕ, List, ⊤, Bool, Option, Ok, Err, is_ok}
use Rattle.std.specs.Option.{option_map}
use Rattle.file_words.specs.Accounts.{Call, Anything, shown_is_held}
use Rattle.file_words.specs.Calls.{calls_of, held_by, shown_by}
use Rattle.file_words.specs.Files.{account_of}
use Rattle.pmem_file.specs.declared.storage.Apart.{Apart}
use Rattle.pmem_file.specs.declared.storage.Apart.TheVariants.{None as NoneApart, Out, Ended}
use Rattle.pmem_file.specs.declared.storage.FileStorage.{FileStorage}
use Rattle.pmem_file.specs.declared.storage.FileSync.{FileSync}

-- the calls that were made on the file, the last one first
abbrev pub calls_in : FileStorage → List Call
calls_in storage = calls_of (account_of storage.file)

-- By the file's account, the word may have this value once all has stopped.
-- Excluded: a device taken for open whose file may still stand for another image.
abbrev pub held_in : FileStorage → ℕ → ℕ → Type 0
held_in storage = held_by (account_of storage.file)

-- and it may have it by what was written last
abbrev pub shown_in : FileStorage → ℕ → ℕ → Type 0
shown_in storage = shown_by (account_of storage.file)

-- (A law of an impl may cite lemmas of specs/ alone.)
pub shown_in_is_held : (storage : FileStorage) (word x : ℕ) → shown_in storage word x → held_in storage word x
shown_in_is_held storage word x shown = shown_is_held Anything (calls_of (account_of storage.file)) word x shown

-- a sync is handed out, or it was taken back and had failed
abbrev pub IsRefusing : Apart → Type 0
IsRefusing NoneApart = ⊥
IsRefusing (Out number) = ⊤
IsRefusing (Ended (Ok done)) = ⊥
IsRefusing (Ended (Err error)) = ⊤

-- each write and each sync is refused
abbrev pub Refuses : FileStorage → Type 0
Refuses storage = IsRefusing storage.apart

-- whether a sync succeeded, once it was made
abbrev pub came_of : FileSync → Option Bool
came_of pending = option_map is_ok pending.ended
