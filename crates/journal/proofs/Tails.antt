-- Whatever is found of a tail names the image's words and the journal's room.
use Rattle.std.proofs.Common.{Option, Some, None, ◌≡◌, ◌⊎◌, inl, inr, ℕ, zero, suc, ◌+◌, ◌*◌, ◌-◌, ◌<◌, ◌≤◌, Bool, true, false, List, [], ◌∷◌, ◌++◌, length, drop, replicate, get_or, refl, sym, ◌∙◌, subst, arith}
use Rattle.std.specs.Prelude.{IfSome}
use Rattle.std.proofs.lemmas.Bool.{cases_eq}
use Rattle.std.proofs.lemmas.List.{get_or-drop, get_or_past, get_or-append-add, length-replicate, length-append}
use Rattle.journal.specs.declared.line.Line.{Line}
use Rattle.journal.specs.Kept.{IsFound}
use Rattle.journal.specs.Entries.{entry}
use Rattle.journal.specs.LinePayloads.{payloads_of_lines}
use Rattle.journal.specs.Opened.{AreLines}
use Rattle.journal.specs.Files.{magic, pass_word, tail_of, HasTail, IsFile}
use Rattle.journal.specs.ReadBack.{IsReadBack}
use Rattle.journal.specs.Tails.{IsTailWord, NamesBoth, IsFirstWord, BeginsTail, HoldsFirst}
use Rattle.journal.proofs.Files.{Puts, Keeps, along, at_run}
use Rattle.journal.proofs.Turned.{fillings, fillings_size}
use Rattle.journal.proofs.Changes.{entry_size}

-- ---- the words that are written as a tail

behind_four : (first words room pass at : ℕ) → get_or (first ∷ words ∷ room ∷ pass ∷ 0 ∷ 0 ∷ 0 ∷ 0 ∷ []) (4 + at) 0 ≡ 0
behind_four first words room pass zero = refl
behind_four first words room pass (suc zero) = refl
behind_four first words room pass (suc (suc zero)) = refl
behind_four first words room pass (suc (suc (suc zero))) = refl
behind_four first words room pass (suc (suc (suc (suc at)))) = get_or_past (first ∷ words ∷ room ∷ pass ∷ 0 ∷ 0 ∷ 0 ∷ 0 ∷ []) (4 + suc (suc (suc (suc at)))) 0 (omega arith)

pass_small : (pass : Bool) → pass_word pass < 2
pass_small true = omega arith
pass_small false = omega arith

-- a tail that is written has words of one
pub tail_written : (first words room : ℕ) (pass : Bool) (place x : ℕ) → (first ≡ 0) ⊎ (first ≡ magic) → x ≡ get_or (tail_of first words room pass) place 0 → IsTailWord words room place x
tail_written first words room pass place x begins is =
    let news : List ℕ = tail_of first words room pass in
    record {
      first = λ e off. elim begins [
        | inl off_is ↦ is ∙ along news place 0 e ∙ off_is
        | inr on ↦ absurd (off (is ∙ along news place 0 e ∙ on))
      ];
      words_named = λ e. is ∙ along news place 1 e;
      room_named = λ e. is ∙ along news place 2 e;
      pass = λ e. subst (λ (v : ℕ). v < 2) (sym (is ∙ along news place 3 e)) (pass_small pass);
      others = λ le. is ∙ along news place (4 + (place - 4)) (omega (arith, le)) ∙ behind_four first words room (pass_word pass) (place - 4);
    }

-- ---- what a write makes of it

-- less may be found
pub names_within : (old new : ℕ → ℕ → Type 0) (words room : ℕ) → ((word x : ℕ) → new word x → old word x) → NamesBoth old words room → NamesBoth new words room
names_within old new words room within names place x lt h = names place x lt (within (words + room + place) x h)

-- a run in front of the tail is written
pub names_before : (old new : ℕ → ℕ → Type 0) (words room start : ℕ) (news : List ℕ) → start + length news ≤ words + room → Puts old new start news → NamesBoth old words room → NamesBoth new words room
names_before old new words room start news fits puts names place x lt h = elim (puts (words + room + place) x h) [
  | inl held ↦ names place x lt held
  | inr put ↦ absurd (omega (arith, put.1, fits))
]

-- the rest of the journal is filled
pub names_filled : (old new : ℕ → ℕ → Type 0) (words room position : ℕ) (pass : Bool) → position ≤ room → Puts old new (words + position) (fillings pass (room - position)) → NamesBoth old words room → NamesBoth new words room
names_filled old new words room position pass within puts =
    names_before old new words room (words + position) (fillings pass (room - position)) (omega (arith, within, fillings_size pass (room - position))) puts

-- an entry is appended, if it fits
pub names_appended : (old new : ℕ → ℕ → Type 0) (words room position : ℕ) (pass : Bool) (lines : List Line) → AreLines lines → position + (1 + 9 * length lines) ≤ room
    → Puts old new (words + position) (entry pass (payloads_of_lines lines)) → NamesBoth old words room → NamesBoth new words room
names_appended old new words room position pass lines are within puts =
    names_before old new words room (words + position) (entry pass (payloads_of_lines lines)) (omega (arith, within, entry_size pass lines are)) puts

-- a tail is written that names both
pub names_over : (old new : ℕ → ℕ → Type 0) (first words room : ℕ) (pass : Bool) → (first ≡ 0) ⊎ (first ≡ magic) → Puts old new (words + room) (tail_of first words room pass) → NamesBoth old words room → NamesBoth new words room
names_over old new first words room pass begins puts names place x lt h = elim (puts (words + room + place) x h) [
  | inl held ↦ names place x lt held
  | inr put ↦ tail_written first words room pass place x begins (put.2 ∙ at_run (tail_of first words room pass) (words + room) (words + room + place) place refl)
]

-- and so is what is in front of it
rest_tail : (words room place x : ℕ) → x ≡ get_or (replicate room 0 ++ tail_of 0 words room true) (words + room + place - words) 0 → IsTailWord words room place x
rest_tail words room place x is =
    let zeros : List ℕ = replicate {A = ℕ} room 0 in
    let rest : List ℕ = zeros ++ tail_of 0 words room true in
    tail_written 0 words room true place x (inl refl)
    (is ∙ along rest (words + room + place - words) (length zeros + place) (omega (arith, length-replicate {A = ℕ} room 0)) ∙ get_or-append-add zeros (tail_of 0 words room true) place 0)

pub names_cleared : (old new : ℕ → ℕ → Type 0) (words room : ℕ) → Puts old new words (replicate room 0 ++ tail_of 0 words room true) → NamesBoth old words room → NamesBoth new words room
names_cleared old new words room puts names place x lt h = elim (puts (words + room + place) x h) [
  | inl held ↦ names place x lt held
  | inr put ↦ rest_tail words room place x put.2
]

-- once it is written, whatever was there before
pub names_clear : (new : ℕ → ℕ → Type 0) (words room : ℕ) → Keeps new words (replicate room 0 ++ tail_of 0 words room true) → NamesBoth new words room
names_clear new words room keeps place x lt h =
    let zeros : List ℕ = replicate {A = ℕ} room 0 in
    rest_tail words room place x (keeps (words + room + place) x (omega arith) (omega (arith, lt, length-append zeros (tail_of 0 words room true), length-replicate {A = ℕ} room 0)) h)

-- ---- what is read of it

-- a file that is found has a tail that names both
pub found_tail : (may_hold : ℕ → ℕ → Type 0) (words room : ℕ) (file : List ℕ) → NamesBoth may_hold words room → IsFound may_hold (words + room + 8) file → HasTail words room file
found_tail may_hold words room file names found =
    let word : (place : ℕ) → place < 8 → IsTailWord words room place (get_or file (words + room + place) 0) = λ place lt. names place (get_or file (words + room + place) 0) lt (found.each (words + room + place) (omega (arith, lt))) in
    let here : (place : ℕ) → get_or (drop (words + room) file) place 0 ≡ get_or file (words + room + place) 0 = λ place. get_or-drop (words + room) file place 0 in
    record {
      words_named = (word 1 (omega arith)).words_named refl;
      room_named = (word 2 (omega arith)).room_named refl;
      tail = record {
        first = elim (cases_eq (get_or (drop (words + room) file) 0 0) magic) [
          | inl on ↦ inr on
          | inr off ↦ inl (here 0 ∙ (word 0 (omega arith)).first refl (λ e. off (here 0 ∙ e)))
        ];
        pass = subst (λ (v : ℕ). v < 2) (sym (here 3)) ((word 3 (omega arith)).pass refl);
        fourth = here 4 ∙ (word 4 (omega arith)).others (omega arith);
        fifth = here 5 ∙ (word 5 (omega arith)).others (omega arith);
        sixth = here 6 ∙ (word 6 (omega arith)).others (omega arith);
        seventh = here 7 ∙ (word 7 (omega arith)).others (omega arith);
      };
    }

-- and one that was read, if nothing else is found, says so of whatever is found
read_tail : (words room : ℕ) (file : List ℕ) → HasTail words room file → (place : ℕ) → place < 8 → IsTailWord words room place (get_or file (words + room + place) 0)
read_tail words room file has place lt =
    let at : (n : ℕ) → place ≡ n → get_or file (words + room + place) 0 ≡ get_or (drop (words + room) file) n 0 = λ n e.
    along file (words + room + place) (words + room + n) (omega (arith, e)) ∙ sym (get_or-drop (words + room) file n 0) in
    record {
      first = λ e off. elim has.tail.first [
        | inl off_is ↦ at 0 e ∙ off_is
        | inr on ↦ absurd (off (at 0 e ∙ on))
      ];
      words_named = λ e. along file (words + room + place) (words + room + 1) (omega (arith, e)) ∙ has.words_named;
      room_named = λ e. along file (words + room + place) (words + room + 2) (omega (arith, e)) ∙ has.room_named;
      pass = λ e. subst (λ (v : ℕ). v < 2) (sym (at 3 e)) has.tail.pass;
      others = λ le. zeros le;
    }
  where
    zeros : 4 ≤ place → get_or file (words + room + place) 0 ≡ 0
    zeros le = sym (get_or-drop (words + room) file place 0) ∙ grind (arith, has.tail.fourth, has.tail.fifth, has.tail.sixth, has.tail.seventh)

pub names_read : (may_hold : ℕ → ℕ → Type 0) (words room : ℕ) (file : List ℕ) → IsReadBack may_hold words room file → HasTail words room file → NamesBoth may_hold words room
names_read may_hold words room file back has place x lt h =
    subst (λ (v : ℕ). IsTailWord words room place v) (sym (back (words + room + place) x (omega arith) (omega (arith, lt)) h)) (read_tail words room file has place lt)

-- ---- no tail names two shapes

pub named_one : (words room a b : ℕ) (file : List ℕ) → IsFile words room (length file) → HasTail words room file → IsFile a b (length file) → HasTail a b file → (a ≡ words) × (b ≡ room)
named_one words room a b file is has other named =
    let same : a + b ≡ words + room = omega (arith, is.size, other.size) in
    (sym named.words_named ∙ along file (a + b + 1) (words + room + 1) (omega (arith, same)) ∙ has.words_named, sym named.room_named ∙ along file (a + b + 2) (words + room + 2) (omega (arith, same)) ∙ has.room_named)

-- ---- the first tail of a file

-- the image in front of it is written
pub first_before : (old new : ℕ → ℕ → Type 0) (words room start : ℕ) (news : List ℕ) → start + length news ≤ words → Puts old new start news → HoldsFirst old words room → HoldsFirst new words room
first_before old new words room start news fits puts first place x lt h = elim (puts (words + place) x h) [
  | inl held ↦ first place x lt held
  | inr put ↦ absurd (omega (arith, put.1, fits))
]

first_tail : (words room at : ℕ) → get_or (replicate {A = ℕ} room 0 ++ tail_of 0 words room true) (room + at) 0 ≡ get_or (tail_of 0 words room true) at 0
first_tail words room at =
    let zeros : List ℕ = replicate {A = ℕ} room 0 in
    along (zeros ++ tail_of 0 words room true) (room + at) (length zeros + at) (omega (arith, length-replicate {A = ℕ} room 0)) ∙ get_or-append-add zeros (tail_of 0 words room true) at 0

-- it is written alone
pub first_over : (old new : ℕ → ℕ → Type 0) (words room : ℕ) → Puts old new (words + room) (tail_of 0 words room true) → HoldsFirst old words room → HoldsFirst new words room
first_over old new words room puts first place x lt h = elim (puts (words + place) x h) [
  | inl held ↦ first place x lt held
  | inr put ↦
      let news : List ℕ = tail_of 0 words room true in
      let at : ℕ = place - room in
      inr (put.2 ∙ along news (words + place - (words + room)) at (omega arith) ∙ sym (first_tail words room at)
      ∙ along (replicate {A = ℕ} room 0 ++ news) (room + at) place (omega (arith, put.0)))
]

-- or with the journal
pub first_cleared : (old new : ℕ → ℕ → Type 0) (words room : ℕ) → Puts old new words (replicate room 0 ++ tail_of 0 words room true) → HoldsFirst old words room → HoldsFirst new words room
first_cleared old new words room puts first place x lt h = elim (puts (words + place) x h) [
  | inl held ↦ first place x lt held
  | inr put ↦ inr (put.2 ∙ at_run (replicate room 0 ++ tail_of 0 words room true) words (words + place) place refl)
]

-- a file that was read, if nothing else is found
pub first_read : (may_hold : ℕ → ℕ → Type 0) (words room : ℕ) (file : List ℕ) → IsReadBack may_hold words room file → BeginsTail words room file → HoldsFirst may_hold words room
first_read may_hold words room file back begins place x lt h =
    subst (λ (v : ℕ). IsFirstWord words room place v) (sym (back (words + place) x (omega arith) (omega (arith, lt)) h)) (begins place lt)

-- its pass is the first
pub first_pass : (words room : ℕ) (file : List ℕ) → BeginsTail words room file → get_or file (words + room + 3) 0 ≡ 0
first_pass words room file begins = elim (begins (room + 3) (omega arith)) [
  | inl none ↦ along file (words + room + 3) (words + (room + 3)) (omega arith) ∙ none
  | inr is ↦ along file (words + room + 3) (words + (room + 3)) (omega arith) ∙ is ∙ first_tail words room 3
]

-- a file that is found
pub first_found : (may_hold : ℕ → ℕ → Type 0) (words room : ℕ) (file : List ℕ) → HoldsFirst may_hold words room → IsFound may_hold (words + room + 8) file → BeginsTail words room file
first_found may_hold words room file first found place lt = first place (get_or file (words + place) 0) lt (found.each (words + place) (omega (arith, lt)))

pub begun_or_named : (may_hold : ℕ → ℕ → Type 0) (words room : ℕ) (file : List ℕ) → HoldsFirst may_hold words room ⊎ NamesBoth may_hold words room → IsFound may_hold (words + room + 8) file → BeginsTail words room file ⊎ HasTail words room file
begun_or_named may_hold words room file (inl first) found = inl (first_found may_hold words room file first found)
begun_or_named may_hold words room file (inr names) found = inr (found_tail may_hold words room file names found)

-- no other words and room are named in it
first_one : (words room a b : ℕ) (file : List ℕ) → IsFile words room (length file) → BeginsTail words room file → IsFile a b (length file) → HasTail a b file → (a ≡ words) × (b ≡ room)
first_one words room a b file is begins other named =
    let same : a + b ≡ words + room = omega (arith, is.size, other.size) in
    let at : (n place : ℕ) → get_or (tail_of 0 words room true) place 0 ≡ n → place < 8 → (get_or file (a + b + place) 0 ≡ 0) ⊎ (get_or file (a + b + place) 0 ≡ n) = λ n place e lt.
    let here : get_or file (a + b + place) 0 ≡ get_or file (words + (room + place)) 0 = along file (a + b + place) (words + (room + place)) (omega (arith, same)) in
    elim (begins (room + place) (omega (arith, lt))) [
      | inl none ↦ inl (here ∙ none)
      | inr is_first ↦ inr (here ∙ is_first ∙ first_tail words room place ∙ e)
    ] in
    elim (at words 1 refl (omega arith)) [
      | inl a_none ↦ elim (at room 2 refl (omega arith)) [
        | inl b_none ↦ (omega (arith, same, a_none, b_none, named.words_named, named.room_named), omega (arith, same, a_none, b_none, named.words_named, named.room_named))
        | inr b_is ↦ (omega (arith, same, a_none, b_is, named.words_named, named.room_named), omega (arith, same, a_none, b_is, named.words_named, named.room_named))
      ]
      | inr a_is ↦ (omega (arith, same, a_is, named.words_named), omega (arith, same, a_is, named.words_named))
    ]

pub begun_one : (words room a b : ℕ) (file : List ℕ) → IsFile words room (length file) → BeginsTail words room file ⊎ HasTail words room file → IsFile a b (length file) → HasTail a b file → (a ≡ words) × (b ≡ room)
begun_one words room a b file is (inl begins) other named = first_one words room a b file is begins other named
begun_one words room a b file is (inr has) other named = named_one words room a b file is has other named

pub both_some : {X : Type 0} {P Q R : X → Type 0} (found : Option X) → ((x : X) → P x → Q x → R x) → IfSome found P → IfSome found Q → IfSome found R
both_some (Some x) a p q = a x p q
both_some None a p q = tt
