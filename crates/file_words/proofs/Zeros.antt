-- Words that may be 0 stay so.
use Rattle.std.proofs.Common.{◌≡◌, ◌⊎◌, inl, inr, ℕ, ◌+◌, ◌-◌, ◌<◌, ◌≤◌, nat_le, nat_lt, Bool, true, false, ◌&&◌, ◌||◌, List, [], ◌∷◌, take, replicate, get_or, refl, subst, sym, ◌∙◌, arith}
use Rattle.std.proofs.lemmas.Bool.{cases_lt}
use Rattle.std.proofs.lemmas.List.{get_or-take, get_or_past, length-take}
use Rattle.journal.specs.Files.{IsInRun}
use Rattle.file_words.specs.Accounts.{Call, Writing, Syncing, Sizing, Lengthening, Stopping, Reading, Shown, Anything, HasAfter, shown_is_held}
use Rattle.file_words.specs.Calls.{IsApart, may_be_zero}
use Rattle.file_words.proofs.Writes.{all-zero}

-- ---- what it says

zero-behind : (calls : List Call) (from to : ℕ) (ok : Bool) (word : ℕ) → from ≤ word → HasAfter Anything Shown (Lengthening from to ok ∷ calls) word 0
zero-behind calls from to true word le = inl (le, λ within. refl)
zero-behind calls from to false word le = inl le

zero-before : (calls : List Call) (from to : ℕ) (ok : Bool) (word : ℕ) → word < from → HasAfter Anything Shown calls word 0 → HasAfter Anything Shown (Lengthening from to ok ∷ calls) word 0
zero-before calls from to true word lt shown = inr (lt, shown)
zero-before calls from to false word lt shown = inr shown

zero-beside : (calls : List Call) (start count : ℕ) (bytes : List ℕ) (ok : Bool) (word : ℕ) → (word < start) ⊎ (start + count ≤ word) → HasAfter Anything Shown calls word 0 → HasAfter Anything Shown (Writing start count bytes ok ∷ calls) word 0
zero-beside calls start count bytes true word outside shown = inr (outside, shown)
zero-beside calls start count bytes false word outside shown = inl shown

zero-synced : (calls : List Call) (ok : Bool) (word : ℕ) → HasAfter Anything Shown calls word 0 → HasAfter Anything Shown (Syncing ok ∷ calls) word 0
zero-synced calls true word shown = shown
zero-synced calls false word shown = shown_is_held Anything calls word 0 shown

apart : (word start count : ℕ) → (nat_lt word start || nat_le (start + count) word) ≡ true → (word < start) ⊎ (start + count ≤ word)
apart word start count is = elim (cases_lt word start) [
  | inl lt ↦ inl lt
  | inr le ↦ inr (grind (arith))
]

pub shown-zero : (calls : List Call) (word : ℕ) → may_be_zero calls word ≡ true → HasAfter Anything Shown calls word 0
shown-zero [] word may = Prim.search
shown-zero (Writing start count bytes ok ∷ calls) word may = zero-beside calls start count bytes ok word (apart word start count (grind (arith))) (shown-zero calls word (grind (arith)))
shown-zero (Syncing ok ∷ calls) word may = zero-synced calls ok word (shown-zero calls word may)
shown-zero (Sizing count ok ∷ calls) word may = inr (shown-zero calls word may)
shown-zero (Lengthening from to ok ∷ calls) word may = elim (cases_lt word from) [
  | inl lt ↦ zero-before calls from to ok word lt (shown-zero calls word (grind (arith)))
  | inr le ↦ zero-behind calls from to ok word le
]
shown-zero (Stopping ∷ calls) word may = shown_is_held Anything calls word 0 (shown-zero calls word may)
shown-zero (Reading count words room file ∷ calls) word may = grind (arith)

-- ---- each call keeps it

-- each of these words may be 0 after these calls
abbrev pub Zeros : List Call → ℕ → ℕ → Type 0
Zeros calls from to = (word : ℕ) → from ≤ word → word < to → may_be_zero calls word ≡ true

after : (calls calls' : List Call) (from to : ℕ) → calls' ≡ calls → Zeros calls from to → Zeros calls' from to
after calls calls' from to is zeros = subst (λ (c : List Call). Zeros c from to) (sym is) zeros

pub fewer-zeros : (calls : List Call) (from to from' to' : ℕ) → from ≤ from' → to' ≤ to → Zeros calls from to → Zeros calls from' to'
fewer-zeros calls from to from' to' le le' zeros word behind lt = zeros word (omega (arith, le, behind)) (omega (arith, le', lt))

pub no-zeros : (calls : List Call) (from to : ℕ) → to ≤ from → Zeros calls from to
no-zeros calls from to none word le lt = absurd (omega (arith, none, le, lt))

pub zeros-written : (calls calls' : List Call) (start count : ℕ) (bytes : List ℕ) (ok : Bool) (from to : ℕ) → calls' ≡ Writing start count bytes ok ∷ calls → IsApart start (start + count) from to → Zeros calls from to → Zeros calls' from to
zeros-written calls calls' start count bytes ok from to is beside zeros = after (Writing start count bytes ok ∷ calls) calls' from to is (λ word le lt. outside word le lt beside (zeros word le lt))
  where
    outside : (word : ℕ) → from ≤ word → word < to → (start + count ≤ from) ⊎ (to ≤ start) → may_be_zero calls word ≡ true → ((nat_lt word start || nat_le (start + count) word) && may_be_zero calls word) ≡ true
    outside word le lt (inl below) may = grind (arith)
    outside word le lt (inr above) may = grind (arith)

pub zeros-synced : (calls calls' : List Call) (ok : Bool) (from to : ℕ) → calls' ≡ Syncing ok ∷ calls → Zeros calls from to → Zeros calls' from to
zeros-synced calls calls' ok from to is zeros = after (Syncing ok ∷ calls) calls' from to is zeros

pub zeros-sized : (calls calls' : List Call) (count : ℕ) (ok : Bool) (from to : ℕ) → calls' ≡ Sizing count ok ∷ calls → Zeros calls from to → Zeros calls' from to
zeros-sized calls calls' count ok from to is zeros = after (Sizing count ok ∷ calls) calls' from to is zeros

pub zeros-kept : (calls calls' : List Call) (first last : ℕ) (ok : Bool) (from to : ℕ) → calls' ≡ Lengthening first last ok ∷ calls → Zeros calls from to → Zeros calls' from to
zeros-kept calls calls' first last ok from to is zeros = after (Lengthening first last ok ∷ calls) calls' from to is (λ word le lt. too word (zeros word le lt))
  where
    too : (word : ℕ) → may_be_zero calls word ≡ true → (nat_le first word || may_be_zero calls word) ≡ true
    too word may = grind (arith)

pub zeros-added : (calls calls' : List Call) (from to : ℕ) (ok : Bool) → calls' ≡ Lengthening from to ok ∷ calls → Zeros calls' from to
zeros-added calls calls' from to ok is = after (Lengthening from to ok ∷ calls) calls' from to is (λ word le lt. behind word le)
  where
    behind : (word : ℕ) → from ≤ word → (nat_le from word || may_be_zero calls word) ≡ true
    behind word le = grind (arith)

-- ---- a 0 is written where a word may be 0

zeros-are-zero : (count some k : ℕ) → get_or (take some (replicate {A = ℕ} count 0)) k 0 ≡ 0
zeros-are-zero count some k = elim (cases_lt k some) [
  | inl lt ↦ get_or-take some (replicate {A = ℕ} count 0) k 0 lt ∙ all-zero (replicate {A = ℕ} count 0) count (λ i. replicate {A = ℕ} count 0) k
  | inr le ↦ get_or_past (take some (replicate {A = ℕ} count 0)) k 0 (omega (arith, le, length-take some (replicate {A = ℕ} count 0)))
]

pub zero-again : (may_hold now : ℕ → ℕ → Type 0) (start count some : ℕ) → some ≤ count → ((word : ℕ) → start ≤ word → word < start + some → may_hold word 0)
    → (word x : ℕ) → (now word x → may_hold word x ⊎ IsInRun start (take some (replicate {A = ℕ} count 0)) word x) → now word x → may_hold word x
zero-again may_hold now start count some few zeros word x finds has = elim (finds has) [
  | inl was ↦ was
  | inr put ↦ subst (λ (v : ℕ). may_hold word v) (sym (put.2 ∙ zeros-are-zero count some (word - start)))
      (zeros word put.0 (omega (arith, put.1, length-take some (replicate {A = ℕ} count 0))))
]
