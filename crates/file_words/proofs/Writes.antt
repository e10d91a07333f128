-- Words are written part by part.
use Rattle.std.proofs.Common.{◌≡◌, ◌⊎◌, inl, inr, ℕ, ◌+◌, ◌-◌, ◌<◌, ◌≤◌, List, length, get_or, take, drop, replicate, ◌∙◌, ap, arith}
use Rattle.std.proofs.lemmas.Bool.{cases_lt}
use Rattle.std.proofs.lemmas.List.{get_or-take, get_or-drop, length-drop, length-take, length-take-le, length-replicate, get_or-replicate, get_or_past}
use Rattle.journal.specs.Files.{IsInRun}
use Rattle.file_words.specs.Calls.{IsApart}

-- the words before place `at` are written
pub record IsWriting (held shown held' shown' : ℕ → ℕ → Type 0) (start : ℕ) (words : List ℕ) (at : ℕ) : Type 0 where
  pub within : at ≤ length words
  pub found : (word x : ℕ) → held' word x → held word x ⊎ IsInRun start words word x
  pub others : (word x : ℕ) → shown' word x → shown word x ⊎ IsInRun start words word x
  pub written : (word x : ℕ) → start ≤ word → word < start + at → shown' word x → x ≡ get_or words (word - start) 0

-- ---- the next part

-- a word of the part is the same of all
of_all : (start at : ℕ) (words part : List ℕ) (word x : ℕ) → at + length part ≤ length words → ((k : ℕ) → k < length part → get_or part k 0 ≡ get_or words (at + k) 0)
    → IsInRun (start + at) part word x → IsInRun start words word x
of_all start at words part word x within same put =
    let k : ℕ = word - (start + at) in
    let here : at + k ≡ word - start = omega (arith, put.0) in
    (omega (arith, put.0), omega (arith, put.1, within), put.2 ∙ same k (omega (arith, put.0, put.1)) ∙ ap (λ (n : ℕ). get_or words n 0) here)

pub writing-more : (held shown mid mid_shown now now_shown : ℕ → ℕ → Type 0) (start at next : ℕ) (words part : List ℕ)
    → IsWriting held shown mid mid_shown start words at → next ≡ at + length part → next ≤ length words
    → ((k : ℕ) → k < length part → get_or part k 0 ≡ get_or words (at + k) 0)
    → ((word x : ℕ) → now word x → mid word x ⊎ IsInRun (start + at) part word x)
    → ((word x : ℕ) → now_shown word x → mid_shown word x ⊎ IsInRun (start + at) part word x)
    → ((word x : ℕ) → start + at ≤ word → word < start + at + length part → now_shown word x → x ≡ get_or part (word - (start + at)) 0)
    → IsWriting held shown now now_shown start words next
writing-more held shown mid mid_shown now now_shown start at next words part before is within same finds shows writes = record {
  within = within;
  found = λ word x h. elim (finds word x h) [
    | inl was ↦ before.found word x was
    | inr put ↦ inr (of_all start at words part word x (omega (arith, is, within)) same put)
  ];
  others = λ word x h. elim (shows word x h) [
    | inl was ↦ before.others word x was
    | inr put ↦ inr (of_all start at words part word x (omega (arith, is, within)) same put)
  ];
  written = λ word x le lt h. elim (cases_lt word (start + at)) [
    | inl early ↦ elim (shows word x h) [
      | inl was ↦ before.written word x le early was
      | inr put ↦ absurd (omega (arith, put.0, early))
    ]
    | inr late ↦
        let k : ℕ = word - (start + at) in
        writes word x late (omega (arith, lt, is)) h ∙ same k (omega (arith, late, lt, is)) ∙ ap (λ (n : ℕ). get_or words n 0) (omega (arith, late))
  ];
}

-- how many words a part has, and which they are
pub part-size : (at next : ℕ) (words : List ℕ) → at ≤ next → next ≤ length words → next ≡ at + length (take (next - at) (drop at words))
part-size at next words behind within = omega (arith, behind, within, length-take (next - at) (drop at words), length-drop at words)

pub part-same : (at next : ℕ) (words : List ℕ) → at ≤ next → next ≤ length words
    → (k : ℕ) → k < length (take (next - at) (drop at words)) → get_or (take (next - at) (drop at words)) k 0 ≡ get_or words (at + k) 0
part-same at next words behind within k lt =
    get_or-take (next - at) (drop at words) k 0 (omega (arith, lt, part-size at next words behind within)) ∙ get_or-drop at words k 0

-- ---- zeros

-- the words from this one on are 0 up to that one
pub record IsFilling (held shown held' shown' : ℕ → ℕ → Type 0) (start end at : ℕ) : Type 0 where
  pub behind : start ≤ at
  pub within : at ≤ end
  pub found : (word x : ℕ) → word < start → held' word x → held word x
  pub others : (word x : ℕ) → word < start → shown' word x → shown word x
  pub zeros : (word x : ℕ) → start ≤ word → word < at → shown' word x → x ≡ 0

pub filling-more : (held shown mid mid_shown now now_shown : ℕ → ℕ → Type 0) (start end at count : ℕ) (zeros : List ℕ)
    → IsFilling held shown mid mid_shown start end at → count ≤ length zeros → at + count ≤ end → ((k : ℕ) → get_or zeros k 0 ≡ 0)
    → ((word x : ℕ) → now word x → mid word x ⊎ IsInRun at (take count zeros) word x)
    → ((word x : ℕ) → now_shown word x → mid_shown word x ⊎ IsInRun at (take count zeros) word x)
    → ((word x : ℕ) → at ≤ word → word < at + length (take count zeros) → now_shown word x → x ≡ get_or (take count zeros) (word - at) 0)
    → IsFilling held shown now now_shown start end (at + count)
filling-more held shown mid mid_shown now now_shown start end at count zeros before some within are finds shows writes =
    let size : length (take count zeros) ≡ count = length-take-le count zeros some in
    record {
      behind = omega (arith, before.behind);
      within = within;
      found = λ word x lt h. elim (finds word x h) [
        | inl was ↦ before.found word x lt was
        | inr put ↦ absurd (omega (arith, put.0, lt, before.behind))
      ];
      others = λ word x lt h. elim (shows word x h) [
        | inl was ↦ before.others word x lt was
        | inr put ↦ absurd (omega (arith, put.0, lt, before.behind))
      ];
      zeros = λ word x le lt h. elim (cases_lt word at) [
        | inl early ↦ elim (shows word x h) [
          | inl was ↦ before.zeros word x le early was
          | inr put ↦ absurd (omega (arith, put.0, early))
        ]
        | inr late ↦ writes word x late (omega (arith, lt, size)) h ∙ (get_or-take count zeros (word - at) 0 (omega (arith, late, lt)) ∙ are (word - at))
      ];
    }

-- each of these is 0, and so is what is read behind them
pub all-zero : (zeros : List ℕ) (count : ℕ) → zeros ≡ replicate count 0 → (k : ℕ) → get_or zeros k 0 ≡ 0
all-zero zeros count is k = ap (λ (l : List ℕ). get_or l k 0) is ∙ one (cases_lt k count)
  where
    nothing : ℕ
    nothing = 0

    one : (k < count) ⊎ (count ≤ k) → get_or (replicate count nothing) k nothing ≡ nothing
    one (inl lt) = get_or-replicate count k nothing nothing lt
    one (inr behind) = get_or_past (replicate count nothing) k nothing (omega (arith, behind, length-replicate count nothing))

-- before the first zero
pub begins : (held shown now now_shown : ℕ → ℕ → Type 0) (start end : ℕ) → start ≤ end → ((word x : ℕ) → word < start → now word x → held word x)
    → ((word x : ℕ) → word < start → now_shown word x → shown word x) → IsFilling held shown now now_shown start end start
begins held shown now now_shown start end le found others = record {
  behind = omega arith;
  within = le;
  found = found;
  others = others;
  zeros = λ word x here lt h. absurd (omega (arith, here, lt));
}

-- if a part fails
pub before-part : (held mid now : ℕ → ℕ → Type 0) (start at : ℕ) (part : List ℕ) → start ≤ at → ((word x : ℕ) → word < start → mid word x → held word x)
    → ((word x : ℕ) → now word x → mid word x ⊎ IsInRun at part word x) → (word x : ℕ) → word < start → now word x → held word x
before-part held mid now start at part le before finds word x lt h = elim (finds word x h) [
  | inl was ↦ before word x lt was
  | inr put ↦ absurd (omega (arith, put.0, lt, le))
]

-- ---- within a write

-- a part of what is apart
pub apart-part : (start stop from to first last : ℕ) → IsApart start stop from to → start ≤ first → last ≤ stop → IsApart first last from to
apart-part start stop from to first last (inl below) le le' = inl (omega (arith, below, le'))
apart-part start stop from to first last (inr above) le le' = inr (omega (arith, above, le))

-- if a part fails
pub part-found : (held mid now : ℕ → ℕ → Type 0) (start at next : ℕ) (words : List ℕ) → at ≤ next → next ≤ length words
    → ((word x : ℕ) → mid word x → held word x ⊎ IsInRun start words word x)
    → ((word x : ℕ) → now word x → mid word x ⊎ IsInRun (start + at) (take (next - at) (drop at words)) word x)
    → (word x : ℕ) → now word x → held word x ⊎ IsInRun start words word x
part-found held mid now start at next words behind within before finds word x h = elim (finds word x h) [
  | inl was ↦ before word x was
  | inr put ↦ inr (of_all start at words (take (next - at) (drop at words)) word x (omega (arith, within, part-size at next words behind within)) (part-same at next words behind within) put)
]
