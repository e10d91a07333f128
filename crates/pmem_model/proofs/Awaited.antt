-- What a fence by an actor would change, after each kind of operation.
use Rattle.std.proofs.Common.{◌≡◌, ◌≢◌, ℕ, ◌/◌, ◌<◌, true, false, cond, List, get_or, nat_le, arith}
use Rattle.pmem.specs.Device.{Entry, persisted}
use Rattle.pmem.proofs.Awaited.{awaited-none, awaited-persisted, awaited-other}
use Rattle.pmem_model.specs.Listing.{is_listed, is_pending, IsTracked}

-- ---- the lines that are pending

pub tracked-fenced : (old new : ℕ → List Entry) (room room' : ℕ) (counts listed counts' listed' : List ℕ) (by moment : ℕ) → IsTracked old room counts listed
    → ((other : ℕ) → new other ≡ persisted by moment (old other))
    → ((other at : ℕ) → other ≢ by → is_pending room counts listed other at ≡ true → is_pending room' counts' listed' other at ≡ true)
    → IsTracked new room' counts' listed'
tracked-fenced old new room room' counts listed counts' listed' by moment tracked step others = grind (arith, awaited-persisted, awaited-other)

-- if the pending lines were visited, and are not all lines, all words are persisted
pub fenced_listed : (old new : ℕ → List Entry) (room : ℕ) (counts listed : List ℕ) (actor moment : ℕ) → actor < 64 → IsTracked old room counts listed → nat_le room (get_or counts actor 0) ≡ false
    → ((word : ℕ) → new word ≡ cond (is_listed listed actor (word / 8) (get_or counts actor 0)) (persisted actor moment (old word)) (old word))
    → (word : ℕ) → new word ≡ persisted actor moment (old word)
fenced_listed old new room counts listed actor moment small tracked unfull visited word = grind (arith, awaited-none)
