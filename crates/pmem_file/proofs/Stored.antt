-- What putting words makes of words.
use Rattle.std.proofs.Common.{◌≡◌, ◌⊎◌, ℕ, ◌+◌, ◌-◌, ◌<◌, ◌≤◌, List, length, get_or}
use Rattle.std.specs.Prelude.{◌%◌, IsBitSet}
use Rattle.journal.specs.Files.{IsInRun}
use Rattle.pmem_file.specs.declared.part.Part.{Part}
use Rattle.pmem_file.specs.declared.part.Part.TheVariants.{All as AllWords, Words}

-- the words before this place are put, as far as the part has them
pub record IsStoring (part : Part) (old now words : List ℕ) (start place : ℕ) : Type 0 where
  pub size : length now ≡ length old
  pub puts : (word : ℕ) → IsInRun start words word (get_or now word 0) ⊎ (get_or now word 0 ≡ get_or old word 0)
  pub whole : part ≡ AllWords → (word : ℕ) → start ≤ word → word < start + place → get_or now word 0 ≡ get_or words (word - start) 0
  pub torn : (set at : ℕ) → part ≡ Words set → at < place → IsBitSet set (at % 8) → get_or now (start + at) 0 ≡ get_or words at 0
  pub left : (set at : ℕ) → part ≡ Words set → at < length words → ¬ IsBitSet set (at % 8) → get_or now (start + at) 0 ≡ get_or old (start + at) 0
  pub further : (word : ℕ) → start + place ≤ word → get_or now word 0 ≡ get_or old word 0
