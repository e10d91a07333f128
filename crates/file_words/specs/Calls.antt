-- The calls of an account, and what they say of a word.
use Rattle.std.specs.Prelude.{◌≡◌, ◌⊎◌, ℕ, ◌+◌, ◌<◌, ◌≤◌, nat_le, nat_lt, Bool, true, false, ◌&&◌, ◌||◌, List, [], ◌∷◌}
use Rattle.file_words.specs.Accounts.{Call, Writing, Syncing, Sizing, Lengthening, Stopping, Reading, Shown, Held, Anything, HasAfter}
use Rattle.file_words.specs.declared.account.Account.{Account, Begun, Read', After', Wrote', Synced', Sized', Lengthened'}

-- the last one first
abbrev pub calls_of : Account → List Call
calls_of Begun = []
calls_of (Read' marker before count words room file) = Reading count.value words.value room.value file.value.items ∷ calls_of before
calls_of (After' marker before) = Stopping ∷ calls_of before
calls_of (Wrote' marker before start count bytes is_ok) = Writing start.value count.value bytes.value.items is_ok.value ∷ calls_of before
calls_of (Synced' marker before is_ok) = Syncing is_ok.value ∷ calls_of before
calls_of (Sized' marker before count is_ok) = Sizing count.value is_ok.value ∷ calls_of before
calls_of (Lengthened' marker before from to is_ok) = Lengthening from.value to.value is_ok.value ∷ calls_of before

-- what a word may be once all has stopped, of a file of which nothing was known when it was first opened
abbrev pub held_by : Account → ℕ → ℕ → Type 0
held_by account = HasAfter Anything Held (calls_of account)

-- what it may be by what was written last
abbrev pub shown_by : Account → ℕ → ℕ → Type 0
shown_by account = HasAfter Anything Shown (calls_of account)

-- The word may be 0 by what was written last: no call wrote it, at least since the file got it by its length alone. So a 0 that is
-- written there changes nothing.
abbrev pub may_be_zero : List Call → ℕ → Bool
may_be_zero [] word = true
may_be_zero (Writing start count bytes ok ∷ calls) word = (nat_lt word start || nat_le (start + count) word) && may_be_zero calls word
may_be_zero (Syncing ok ∷ calls) word = may_be_zero calls word
may_be_zero (Sizing count ok ∷ calls) word = may_be_zero calls word
may_be_zero (Lengthening from to ok ∷ calls) word = nat_le from word || may_be_zero calls word
may_be_zero (Stopping ∷ calls) word = may_be_zero calls word
may_be_zero (Reading count words room file ∷ calls) word = false

-- each of these words may be 0
abbrev pub MayBeZeros : Account → ℕ → ℕ → Type 0
MayBeZeros account from to = (word : ℕ) → from ≤ word → word < to → may_be_zero (calls_of account) word ≡ true

-- what is from `start` up to `stop` is none of the words from `from` up to `to`
abbrev pub IsApart : ℕ → ℕ → ℕ → ℕ → Type 0
IsApart start stop from to = (stop ≤ from) ⊎ (to ≤ start)

-- by its last two calls the file got this number of words, and was synced
abbrev pub IsCutTo : ℕ → Account → Type 0
IsCutTo words account = (calls : List Call) × (calls_of account ≡ Syncing true ∷ Sizing words true ∷ calls)
