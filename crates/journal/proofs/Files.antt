-- What is found of a file, and what a run of words makes of it.
use Rattle.std.proofs.Common.{Result, ◌≡◌, ◌≢◌, ◌⊎◌, inl, inr, ℕ, zero, suc, ◌+◌, ◌-◌, ◌/◌, ◌<◌, ◌≤◌, Bool, true, cond, ◌==◌, List, [], ◌++◌, length, drop, replicate, set, get_or, refl, sym, ◌∙◌, ap, subst, arith}
use Rattle.std.specs.Prelude.{OnOk}
use Rattle.std.proofs.Math.Logic.{∥∥₁_elim, ∥∥₁_prop}
use Rattle.std.proofs.lemmas.Grind.{merely}
use Rattle.std.proofs.lemmas.Bool.{cases_eq, cases_lt, eq-eqb, ne_eqb}
use Rattle.std.proofs.lemmas.List.{length-take, length-drop, length-append, length-replicate, length-set, get_or-take, get_or-drop, get_or-replicate, get_or-set_same, get_or-set_other, get_or_append_left, get_or-append-add, ext_get_or}
use Rattle.journal.specs.declared.line.Line.{Line}
use Rattle.journal.specs.Kept.{HoldsOnly, IsFound}
use Rattle.journal.specs.Entries.{NoneOf}
use Rattle.journal.specs.InPlace.{put_over}
use Rattle.journal.specs.Opened.{lines_found}
use Rattle.journal.specs.Files.{magic, pass_word, pass_of, tail_of, journal_in, is_on, lines_in, IsInRun, IsStoodFor, MayBe, Opens, FoundOpens, StandsAs}
use Rattle.journal.specs.ReadBack.{IsReadBack, StandsStill, Covers, JournalDecides}
use Rattle.journal.specs.States.{HoldsTail, HoldsZeros, Knows, KnowsJournal, IsInPlace, IsOff, IsClear, Rests}
use Rattle.journal.specs.LinePayloads.{lines_of}
use Rattle.journal.specs.Passes.{joined}
use Rattle.journal.proofs.Several.{none_more}
use Rattle.journal.proofs.InPlace.{in_place-keeps, in_place-is_all}

abbrev pub Puts : (ℕ → ℕ → Type 0) → (ℕ → ℕ → Type 0) → ℕ → List ℕ → Type 0
Puts old new start news = (word x : ℕ) → new word x → old word x ⊎ IsInRun start news word x

abbrev pub Keeps : (ℕ → ℕ → Type 0) → ℕ → List ℕ → Type 0
Keeps new start news = (word x : ℕ) → start ≤ word → word < start + length news → new word x → x ≡ get_or news (word - start) 0

-- ---- numbers

less_zero : (n : ℕ) → n - 0 ≡ n
less_zero n = omega arith

zero-magic : 0 ≢ magic
zero-magic e = omega (arith, e)

size_zeros : (n : ℕ) → length (replicate {A = ℕ} n 0) ≡ n
size_zeros n = length-replicate {A = ℕ} n 0

pub at_run : (news : List ℕ) (start word at : ℕ) → word ≡ start + at → get_or news (word - start) 0 ≡ get_or news at 0
at_run news start word at is = grind (arith)

pub along : (l : List ℕ) (a b : ℕ) → a ≡ b → get_or l a 0 ≡ get_or l b 0
along l a b is = ap (λ (n : ℕ). get_or l n 0) is

-- ---- parts of a file

pub journal_word : (words room : ℕ) (file : List ℕ) (at : ℕ) → at < room → get_or (journal_in words room file) at 0 ≡ get_or file (words + at) 0
journal_word words room file at lt = get_or-take room (drop words file) at 0 lt ∙ get_or-drop words file at 0

pub journal_size : (words room : ℕ) (file : List ℕ) → length file ≡ words + room + 8 → length (journal_in words room file) ≡ room
journal_size words room file size = omega (arith, length-take room (drop words file), length-drop words file, size)

pub same_journal : (words room : ℕ) (file found : List ℕ) → length file ≡ words + room + 8 → length found ≡ words + room + 8
    → ((at : ℕ) → words ≤ at → at < words + room → get_or found at 0 ≡ get_or file at 0) → journal_in words room found ≡ journal_in words room file
same_journal words room file found size_file size_found same =
    ext_get_or 0 (journal_in words room found) (journal_in words room file) (journal_size words room found size_found ∙ sym (journal_size words room file size_file))
    (λ at lt.
    let below : at < room = omega (arith, lt, journal_size words room found size_found) in
    journal_word words room found at below ∙ same (words + at) (omega arith) (omega (arith, below)) ∙ sym (journal_word words room file at below))

pub same_lines : (words room : ℕ) (file found : List ℕ) → length file ≡ words + room + 8 → length found ≡ words + room + 8
    → ((at : ℕ) → words ≤ at → at < words + room + 8 → get_or found at 0 ≡ get_or file at 0) → lines_in words room found ≡ lines_in words room file
same_lines words room file found size_file size_found same = grind (arith, same_journal)

-- if the journal counts, by its pass
pub lines-on : (words room : ℕ) (pass : Bool) (file : List ℕ) → is_on words room file ≡ true → get_or file (words + room + 3) 0 ≡ pass_word pass → lines_in words room file ≡ lines_found pass (journal_in words room file)
lines-on words room pass file on is = grind (arith)

pub lines-off : (words room : ℕ) (file : List ℕ) → get_or file (words + room) 0 ≢ magic → lines_in words room file ≡ []
lines-off words room file off = ap (λ (b : Bool). cond b (lines_found (pass_of (get_or file (words + room + 3) 0)) (journal_in words room file)) []) (ne_eqb (get_or file (words + room) 0) magic off)

pub opens-one : (words room : ℕ) (file a b : List ℕ) → Opens words room file a → Opens words room file b → a ≡ b
opens-one words room file a b left right = ext_get_or 0 a b (left.size ∙ sym right.size) (λ at lt. let below : at < words = omega (arith, lt, left.size) in left.each at below ∙ sym (right.each at below))

-- what is found of a word
pub found_word : (may_hold : ℕ → ℕ → Type 0) (count : ℕ) (file found : List ℕ) → HoldsOnly may_hold count file → IsFound may_hold count found → (word : ℕ) → word < count → get_or found word 0 ≡ get_or file word 0
found_word may_hold count file found holds is word lt = holds word (get_or found word 0) lt (is.each word lt)

-- the image is in place, and no line is over it
pub opens-off : (words room : ℕ) (file durable : List ℕ) → length durable ≡ words → ((word : ℕ) → word < words → get_or file word 0 ≡ get_or durable word 0) → lines_in words room file ≡ [] → Opens words room file durable
opens-off words room file durable size place none = grind (arith)

-- what each found file stands for
pub found_opens : (may_hold : ℕ → ℕ → Type 0) (words room : ℕ) (durable : List ℕ) → ((file : List ℕ) → IsFound may_hold (words + room + 8) file → Opens words room file durable) → FoundOpens may_hold words room durable
found_opens may_hold words room durable each file image is opens = merely (opens-one words room file image durable opens (each file is))

-- ---- at rest

pub known-opens : (may_hold : ℕ → ℕ → Type 0) (words room : ℕ) (pass : Bool) (durable : List ℕ) → Knows may_hold words room pass durable → FoundOpens may_hold words room durable
known-opens may_hold words room pass durable known = found_opens may_hold words room durable (λ found is.
    let same : found ≡ known.file = ext_get_or 0 found known.file (is.size ∙ sym known.size) (λ at lt. found_word may_hold (words + room + 8) known.file found known.holds is at (omega (arith, lt, is.size))) in
    subst (λ (f : List ℕ). Opens words room f durable) (sym same) known.opens)

-- what was read of a file is found
pub file-stands : (may_hold : ℕ → ℕ → Type 0) (words room : ℕ) (file : List ℕ) → HoldsOnly may_hold (length file) file → StandsAs may_hold words room file
file-stands may_hold words room file holds is_file image opens = found_opens may_hold words room image (λ found is.
    let same : found ≡ file = ext_get_or 0 found file (is.size ∙ sym is_file.size) (λ at lt. found_word may_hold (length file) file found holds (record { size = is.size ∙ sym is_file.size; each = λ word below. is.each word (omega (arith, below, is_file.size)) }) at (omega (arith, lt, is.size, is_file.size))) in
    subst (λ (f : List ℕ). Opens words room f image) (sym same) opens)

-- an image that all stands for is the one that the file stands for
pub opened-stands : (may_hold : ℕ → ℕ → Type 0) (words room : ℕ) (file image : List ℕ) → Opens words room file image → FoundOpens may_hold words room image → StandsAs may_hold words room file
opened-stands may_hold words room file image opens all is_file other is = subst (λ (l : List ℕ). FoundOpens may_hold words room l) (opens-one words room file image other opens is) all

-- and so, if no other image may be found
pub only-stands : (may_hold : ℕ → ℕ → Type 0) (words room : ℕ) (file image : List ℕ) → Opens words room file image → ((other : List ℕ) → MayBe may_hold room image other → other ≡ image) → StandsAs may_hold words room file
only-stands may_hold words room file image opens only = opened-stands may_hold words room file image opens (λ found other is stands.
    let stood : IsStoodFor may_hold words room other = record { file = found; found = is; opens = stands } in
    merely (only other (inr (subst (λ (n : ℕ). IsStoodFor may_hold n room other) (sym opens.size) stood))))

-- ---- the image is put in place

-- what is found is as it was, except for a run
pub found_beside : (old new : ℕ → ℕ → Type 0) (count start : ℕ) (news file found : List ℕ) → HoldsOnly old count file → Puts old new start news → IsFound new count found
    → (word : ℕ) → word < count → (get_or found word 0 ≡ get_or file word 0) ⊎ IsInRun start news word (get_or found word 0)
found_beside old new count start news file found holds puts is word lt = grind (arith)

pub place-opens : (old new : ℕ → ℕ → Type 0) (words room : ℕ) (durable : List ℕ) → Covers old words room durable → Puts old new 0 durable → FoundOpens new words room durable
place-opens old new words room durable covers puts = found_opens new words room durable (λ found is.
    let file : List ℕ = covers.file in
    let size : length durable ≡ words = covers.opens.size in
    let lines : lines_in words room found ≡ lines_in words room file = same_lines words room file found covers.size is.size (λ at le lt. elim (puts at (get_or found at 0) (is.each at lt)) [
      | inl held ↦ covers.behind at (get_or found at 0) le lt held
      | inr put ↦ absurd (omega (arith, put.1, le, size))
    ]) in
    let stays : (word : ℕ) → word < words → put_over (lines_in words room file) word (get_or found word 0) ≡ put_over (lines_in words room file) word (get_or file word 0) = λ word lt.
    elim (puts word (get_or found word 0) (is.each word (omega (arith, lt)))) [
      | inl held ↦ covers.still word (get_or found word 0) lt held
      | inr put ↦ in_place-keeps (lines_in words room file) word (get_or file word 0) (get_or found word 0) (inr (put.2 ∙ along durable (word - 0) word (less_zero word) ∙ covers.opens.each word lt))
    ] in
    record { size = size; each = λ word lt. covers.opens.each word lt ∙ sym (stays word lt) ∙ ap (λ (l : List Line). put_over l word (get_or found word 0)) (sym lines) })

-- while nothing is put
pub covers-opens : (may_hold : ℕ → ℕ → Type 0) (words room : ℕ) (durable : List ℕ) → Covers may_hold words room durable → FoundOpens may_hold words room durable
covers-opens may_hold words room durable covers = place-opens may_hold may_hold words room durable covers (λ word x h. inl h)

-- a file that is known has its journal known, and its words in place
pub known-journal : (may_hold : ℕ → ℕ → Type 0) (words room : ℕ) (pass : Bool) (durable : List ℕ) → Knows may_hold words room pass durable → KnowsJournal may_hold words room pass durable
known-journal may_hold words room pass durable known = record { file = known.file; size = known.size; behind = λ word x le lt h. known.holds word x lt h; opens = known.opens; pass_is = known.pass_is }

pub known-covers : (may_hold : ℕ → ℕ → Type 0) (words room : ℕ) (pass : Bool) (durable : List ℕ) → Knows may_hold words room pass durable → Covers may_hold words room durable
known-covers may_hold words room pass durable known = record {
  file = known.file;
  size = known.size;
  behind = λ word x le lt h. known.holds word x lt h;
  opens = known.opens;
  still = λ word x lt h. ap (λ (v : ℕ). put_over (lines_in words room known.file) word v) (known.holds word x (omega (arith, lt)) h);
}

pub place-kept : (old new : ℕ → ℕ → Type 0) (words room : ℕ) (pass : Bool) (durable : List ℕ) → KnowsJournal old words room pass durable → Puts old new 0 durable → Keeps new 0 durable → IsInPlace new words room pass durable
place-kept old new words room pass durable known puts keeps =
    let was : length durable ≡ words = known.opens.size in
    let file : List ℕ = durable ++ drop words known.file in
    let size : length file ≡ words + room + 8 = omega (arith, length-append durable (drop words known.file), length-drop words known.file, known.size, was) in
    let left : (word : ℕ) → word < words → get_or file word 0 ≡ get_or durable word 0 = λ word lt. get_or_append_left durable (drop words known.file) 0 word (omega (arith, lt, was)) in
    let right : (word : ℕ) → words ≤ word → get_or file word 0 ≡ get_or known.file word 0 = λ word le.
    along file word (length durable + (word - words)) (omega (arith, le, was)) ∙ get_or-append-add durable (drop words known.file) (word - words) 0 ∙ get_or-drop words known.file (word - words) 0 ∙ along known.file (words + (word - words)) word (omega (arith, le)) in
    let lines : lines_in words room file ≡ lines_in words room known.file = same_lines words room known.file file known.size size (λ at le lt. right at le) in
    record {
      known = record {
        file = file;
        size = size;
        holds = λ word x lt h. elim (cases_lt word words) [
          | inl below ↦ keeps word x (omega arith) (omega (arith, below, was)) h ∙ along durable (word - 0) word (less_zero word) ∙ sym (left word below)
          | inr above ↦ elim (puts word x h) [
            | inl held ↦ known.behind word x above lt held ∙ sym (right word above)
            | inr put ↦ absurd (omega (arith, put.1, above, was))
          ]
        ];
        opens = record {
          size = was;
          each = λ word lt.
              let at = known.opens.each word lt in
              at
              ∙ sym (in_place-is_all (lines_in words room known.file) word (get_or known.file word 0))
              ∙ ap (λ (v : ℕ). put_over (lines_in words room known.file) word v) (sym at)
              ∙ (λ i. put_over (sym lines i) word (sym (left word lt) i));
        };
        pass_is = λ on. right (words + room + 3) (omega arith) ∙ known.pass_is (sym (ap (λ (v : ℕ). v == magic) (right (words + room) (omega arith))) ∙ on);
      };
      place = left;
    }

-- ---- a file of which the journal is known

read-covers : (may_hold : ℕ → ℕ → Type 0) (words room : ℕ) (file image : List ℕ) → length file ≡ words + room + 8 → IsReadBack may_hold words room file → StandsStill may_hold words room file
    → Opens words room file image → Covers may_hold words room image
read-covers may_hold words room file image size back still opens = record { file = file; size = size; behind = back; opens = opens; still = still }

-- nothing is written to it
pub read-stands : (may_hold : ℕ → ℕ → Type 0) (words room : ℕ) (file : List ℕ) → (length file ≡ words + room + 8 → IsReadBack may_hold words room file)
    → (length file ≡ words + room + 8 → StandsStill may_hold words room file) → StandsAs may_hold words room file
read-stands may_hold words room file back still is_file image opens = covers-opens may_hold words room image (read-covers may_hold words room file image is_file.size (back is_file.size) (still is_file.size) opens)

-- it is brought to rest, or a write fails
pub rewritten-stands : (old new : ℕ → ℕ → Type 0) (words room : ℕ) (file image : List ℕ) → length file ≡ words + room + 8 → (length file ≡ words + room + 8 → IsReadBack old words room file)
    → (length file ≡ words + room + 8 → StandsStill old words room file) → Opens words room file image → (∥ Covers old words room image ∥₁ → FoundOpens new words room image) → StandsAs new words room file
rewritten-stands old new words room file image size back still opens each =
    opened-stands new words room file image opens (each (merely (read-covers old words room file image size (back size) (still size) opens)))

-- if nothing but what was read may be found of the whole file
pub held-back : (may_hold : ℕ → ℕ → Type 0) (words room : ℕ) (file : List ℕ) → HoldsOnly may_hold (length file) file → length file ≡ words + room + 8 → IsReadBack may_hold words room file
held-back may_hold words room file holds size word x le lt h = holds word x (omega (arith, lt, size)) h

pub held-still : (may_hold : ℕ → ℕ → Type 0) (words room : ℕ) (file : List ℕ) → HoldsOnly may_hold (length file) file → length file ≡ words + room + 8 → StandsStill may_hold words room file
held-still may_hold words room file holds size word x lt h = ap (λ (v : ℕ). put_over (lines_in words room file) word v) (holds word x (omega (arith, lt, size)) h)

-- what was written back is the journal and the tail of a file of this length
pub written-back : (may_hold : ℕ → ℕ → Type 0) (words room : ℕ) (file : List ℕ) → IsReadBack may_hold words (length file - words - 8) file → length file ≡ words + room + 8 → IsReadBack may_hold words room file
written-back may_hold words room file back size word x le lt h = back word x le (omega (arith, lt, size)) h

-- another word in place, which might be found too, changes nothing
pub decided-stands_still : (before now : ℕ → ℕ → Type 0) (words room : ℕ) (file image : List ℕ) → JournalDecides before words room → IsFound before (words + room + 8) file → Opens words room file image
    → ((word x : ℕ) → word < words → now word x → before word x) → StandsStill now words room file
decided-stands_still before now words room file image decides found opens within word x lt held =
    let other : List ℕ = set file word x in
    let size : length other ≡ words + room + 8 = length-set file word x ∙ found.size in
    let here : get_or other word 0 ≡ x = get_or-set_same file word x 0 (omega (arith, lt, found.size)) in
    let beside : (at : ℕ) → at ≢ word → get_or other at 0 ≡ get_or file at 0 = λ at ne. grind (arith, get_or-set_other) in
    let is : IsFound before (words + room + 8) other = record {
      size = size;
      each = λ at below. elim (cases_eq at word) [
        | inl same ↦ subst (λ (n : ℕ). before n (get_or other n 0)) (sym same) (subst (λ (v : ℕ). before word v) (sym here) (within word x lt held))
        | inr ne ↦ subst (λ (v : ℕ). before at v) (sym (beside at ne)) (found.each at below)
      ];
    } in
    let behind : (at : ℕ) → words ≤ at → at < words + room + 8 → get_or other at 0 ≡ get_or file at 0 = λ at le below. beside at (λ e. omega (arith, e, le, lt)) in
    let lines : lines_in words room other ≡ lines_in words room file = same_lines words room file other found.size size behind in
    (λ i. put_over (sym lines i) word (sym here i)) ∙ sym ((decides.same file other image found is behind opens).each word lt) ∙ opens.each word lt

-- ---- the journal counts no more, whatever the tail names

pub off-opens : (a b : ℕ) (old new : ℕ → ℕ → Type 0) (words room : ℕ) (pass : Bool) (durable : List ℕ) → IsInPlace old words room pass durable → Puts old new (words + room) (tail_of 0 a b pass) → FoundOpens new words room durable
off-opens a b old new words room pass durable here puts = found_opens new words room durable (λ found is. by_test found is (cases_eq (get_or found (words + room) 0) magic))
  where
    by_test : (found : List ℕ) → IsFound new (words + room + 8) found → (get_or found (words + room) 0 ≡ magic) ⊎ (get_or found (words + room) 0 ≢ magic) → Opens words room found durable
    by_test found is (inr off) = grind (arith, lines-off)
    by_test found is (inl on) =
        let file : List ℕ = here.known.file in
        let beside = found_beside old new (words + room + 8) (words + room) (tail_of 0 a b pass) file found here.known.holds puts is in
        let before : (word : ℕ) → word < words + room → get_or found word 0 ≡ get_or file word 0 = λ word lt. elim (beside word (omega (arith, lt))) [
          | inl same ↦ same
          | inr put ↦ absurd (omega (arith, put.0, lt))
        ] in
        let was_on : is_on words room file ≡ true = elim (beside (words + room) (omega arith)) [
          | inl same ↦ eq-eqb (get_or file (words + room) 0) magic (sym same ∙ on)
          | inr put ↦ absurd (zero-magic (sym (sym on ∙ put.2 ∙ at_run (tail_of 0 a b pass) (words + room) (words + room) 0 (omega arith))))
        ] in
        let was_pass = here.known.pass_is was_on in
        let is_pass : get_or found (words + room + 3) 0 ≡ pass_word pass = elim (beside (words + room + 3) (omega arith)) [
          | inl same ↦ same ∙ was_pass
          | inr put ↦ put.2 ∙ at_run (tail_of 0 a b pass) (words + room) (words + room + 3) 3 (omega arith)
        ] in
        let lines : lines_in words room found ≡ lines_in words room file =
        lines-on words room pass found (eq-eqb (get_or found (words + room) 0) magic on) is_pass
        ∙ ap (lines_found pass) (same_journal words room file found here.known.size is.size (λ at le lt. before at lt))
        ∙ sym (lines-on words room pass file was_on was_pass) in
        record {
          size = here.known.opens.size;
          each = λ word lt. here.known.opens.each word lt ∙ (λ i. put_over (sym lines i) word (sym (before word (omega (arith, lt))) i));
        }

pub off-kept : (a b : ℕ) (old new : ℕ → ℕ → Type 0) (words room : ℕ) (pass : Bool) (durable : List ℕ) → IsInPlace old words room pass durable → Puts old new (words + room) (tail_of 0 a b pass)
    → Keeps new (words + room) (tail_of 0 a b pass) → IsOff new words room durable
off-kept a b old new words room pass durable here puts keeps = grind (arith)

-- ---- nothing is left in it

abbrev pub clear : ℕ → ℕ → List ℕ
clear words room = replicate room 0 ++ tail_of 0 words room true

clear_size : (words room : ℕ) → length (clear words room) ≡ room + 8
clear_size words room = omega (arith, length-append (replicate room 0) (tail_of 0 words room true), size_zeros room)

clear_tail : (first words room at : ℕ) → get_or (replicate room 0 ++ tail_of first words room true) (room + at) 0 ≡ get_or (tail_of first words room true) at 0
clear_tail first words room at =
    ap (λ (n : ℕ). get_or (replicate room 0 ++ tail_of first words room true) (n + at) 0) (sym (size_zeros room)) ∙ get_or-append-add (replicate room 0) (tail_of first words room true) at 0

pub clear-opens : (old new : ℕ → ℕ → Type 0) (words room : ℕ) (durable : List ℕ) → IsOff old words room durable → Puts old new words (clear words room) → FoundOpens new words room durable
clear-opens old new words room durable here puts = found_opens new words room durable (λ found is.
    let off : get_or found (words + room) 0 ≡ 0 = elim (puts (words + room) (get_or found (words + room) 0) (is.each (words + room) (omega arith))) [
      | inl held ↦ here.off (get_or found (words + room) 0) held
      | inr put ↦ put.2 ∙ at_run (clear words room) words (words + room) (room + 0) (omega arith) ∙ clear_tail 0 words room 0
    ] in
    opens-off words room found durable here.size
    (λ word lt. elim (puts word (get_or found word 0) (is.each word (omega (arith, lt)))) [
      | inl held ↦ here.place word (get_or found word 0) lt held
      | inr put ↦ absurd (omega (arith, put.0, lt))
    ])
    (lines-off words room found (λ e. zero-magic (sym off ∙ e))))

pub clear-kept : (old new : ℕ → ℕ → Type 0) (words room : ℕ) (durable : List ℕ) → IsOff old words room durable → Puts old new words (clear words room) → Keeps new words (clear words room) → IsClear new words room durable
clear-kept old new words room durable here puts keeps = grind (arith, get_or_append_left, clear_size, get_or-append-add)

-- and so if it has nothing but zeros, and this tail
pub blank-keeps : (new : ℕ → ℕ → Type 0) (words room : ℕ) → HoldsZeros new words room → HoldsTail new words room (tail_of 0 words room true) → Keeps new words (clear words room)
blank-keeps new words room zeros last word x above below held =
    let at : ℕ = word - words in
    elim (cases_lt at room) [
      | inl lt ↦ zeros word x above (omega (arith, lt, above)) held ∙ sym (get_or_append_left (replicate room 0) (tail_of 0 words room true) 0 at (omega (arith, lt, size_zeros room)) ∙ get_or-replicate room at 0 0 lt)
      | inr le ↦
          let place : ℕ = at - room in
          let is : word ≡ words + room + place = omega (arith, above, le) in
          let here : new (words + room + place) x = subst (λ (n : ℕ). new n x) is held in
          last place x (omega (arith, below, above, le, clear_size words room)) here ∙ sym (along (clear words room) at (room + place) (omega (arith, le)) ∙ clear_tail 0 words room place)
    ]

-- zeros that are written over stay zeros, and so do others
pub zeros-beside : (old new : ℕ → ℕ → Type 0) (words room start : ℕ) (news : List ℕ) → Puts old new start news → ((word : ℕ) → words ≤ word → word < words + room → start ≤ word → word < start + length news → ⊥) → HoldsZeros old words room → HoldsZeros new words room
zeros-beside old new words room start news puts beside zeros word x above below held = elim (puts word x held) [
  | inl before ↦ zeros word x above below before
  | inr put ↦ absurd (beside word above below put.0 put.1)
]

-- the tail that was written
pub tail-kept : (new : ℕ → ℕ → Type 0) (words room first : ℕ) (pass : Bool) → Keeps new (words + room) (tail_of first words room pass) → HoldsTail new words room (tail_of first words room pass)
tail-kept new words room first pass keeps place x lt held =
    keeps (words + room + place) x (omega arith) (omega (arith, lt)) held ∙ along (tail_of first words room pass) (words + room + place - (words + room)) place (omega arith)

-- ---- the journal counts

abbrev pub fresh : ℕ → ℕ → List ℕ → List ℕ
fresh words room durable = durable ++ (replicate room 0 ++ tail_of magic words room true)

none_zero : (n : ℕ) → NoneOf true (replicate n 0)
none_zero zero = tt
none_zero (suc n) = (refl, none_zero n)

fresh_size : (words room : ℕ) (durable : List ℕ) → length durable ≡ words → length (fresh words room durable) ≡ words + room + 8
fresh_size words room durable size =
    omega (arith, length-append durable (replicate room 0 ++ tail_of magic words room true), length-append (replicate room 0) (tail_of magic words room true), size_zeros room, size)

-- a file without lines over it
at_first : (words room : ℕ) (file durable : List ℕ) → length file ≡ words + room + 8 → length durable ≡ words → ((word : ℕ) → word < words → get_or file word 0 ≡ get_or durable word 0)
    → ((at : ℕ) → at < room → get_or file (words + at) 0 ≡ 0) → get_or file (words + room + 3) 0 ≡ 0
    → (journal_in words room file ≡ replicate room 0) × Opens words room file durable
at_first words room file durable size was place zeros pass = (journal, opens (cases_eq (get_or file (words + room) 0) magic))
  where
    nothing : lines_found true (replicate room 0) ≡ []
    nothing = ap (λ (l : List (List ℕ)). lines_of (length (joined l) / 9) (joined l)) (none_more true (length (replicate room 0)) (replicate room 0) (none_zero room))

    journal : journal_in words room file ≡ replicate room 0
    journal = ext_get_or 0 (journal_in words room file) (replicate room 0) (journal_size words room file size ∙ sym (size_zeros room)) (λ at lt.
        let below : at < room = omega (arith, lt, journal_size words room file size) in
        journal_word words room file at below ∙ zeros at below ∙ sym (get_or-replicate room at 0 0 below))

    opens : (get_or file (words + room) 0 ≡ magic) ⊎ (get_or file (words + room) 0 ≢ magic) → Opens words room file durable
    opens (inr off) = opens-off words room file durable was place (lines-off words room file off)
    opens (inl on) = opens-off words room file durable was place
        (lines-on words room true file (eq-eqb (get_or file (words + room) 0) magic on) pass ∙ ap (lines_found true) journal ∙ nothing)

pub on-opens : (old new : ℕ → ℕ → Type 0) (words room : ℕ) (durable : List ℕ) → IsClear old words room durable → Puts old new (words + room) (tail_of magic words room true) → FoundOpens new words room durable
on-opens old new words room durable here puts = found_opens new words room durable (λ found is.
    let file : List ℕ = durable ++ clear words room in
    let beside = found_beside old new (words + room + 8) (words + room) (tail_of magic words room true) file found here.holds puts is in
    let journal_at : (at : ℕ) → at < room + 8 → get_or file (words + at) 0 ≡ get_or (clear words room) at 0 = λ at lt.
    ap (λ (n : ℕ). get_or file (n + at) 0) (sym here.size) ∙ get_or-append-add durable (clear words room) at 0 in
    (at_first words room found durable is.size here.size
    (λ word lt. elim (beside word (omega (arith, lt))) [
      | inl same ↦ same ∙ get_or_append_left durable (clear words room) 0 word (omega (arith, lt, here.size))
      | inr put ↦ absurd (omega (arith, put.0, lt))
    ])
    (λ at lt. elim (beside (words + at) (omega (arith, lt))) [
      | inl same ↦ same ∙ journal_at at (omega (arith, lt)) ∙ get_or_append_left (replicate room 0) (tail_of 0 words room true) 0 at (omega (arith, lt, size_zeros room)) ∙ get_or-replicate room at 0 0 lt
      | inr put ↦ absurd (omega (arith, put.0, lt))
    ])
    (elim (beside (words + room + 3) (omega arith)) [
      | inl same ↦ same ∙ along file (words + room + 3) (words + (room + 3)) (omega arith) ∙ journal_at (room + 3) (omega arith) ∙ clear_tail 0 words room 3
      | inr put ↦ put.2 ∙ at_run (tail_of magic words room true) (words + room) (words + room + 3) 3 (omega arith)
    ])).1)

pub on-kept : (old new : ℕ → ℕ → Type 0) (words room : ℕ) (durable : List ℕ) → IsClear old words room durable → Puts old new (words + room) (tail_of magic words room true)
    → Keeps new (words + room) (tail_of magic words room true) → Rests new words room true 0 durable
on-kept old new words room durable here puts keeps =
    let file : List ℕ = fresh words room durable in
    let rest : List ℕ = replicate room 0 ++ tail_of magic words room true in
    let size : length file ≡ words + room + 8 = fresh_size words room durable here.size in
    let left : (word : ℕ) → word < words → get_or file word 0 ≡ get_or durable word 0 = λ word lt. get_or_append_left durable rest 0 word (omega (arith, lt, here.size)) in
    let right : (at : ℕ) → get_or file (words + at) 0 ≡ get_or rest at 0 = λ at. ap (λ (n : ℕ). get_or file (n + at) 0) (sym here.size) ∙ get_or-append-add durable rest at 0 in
    let zeros : (at : ℕ) → at < room → get_or file (words + at) 0 ≡ 0 = λ at lt. right at ∙ get_or_append_left (replicate room 0) (tail_of magic words room true) 0 at (omega (arith, lt, size_zeros room)) ∙ get_or-replicate room at 0 0 lt in
    let tail : (at : ℕ) → get_or file (words + room + at) 0 ≡ get_or (tail_of magic words room true) at 0 = λ at. along file (words + room + at) (words + (room + at)) (omega arith) ∙ right (room + at) ∙ clear_tail magic words room at in
    let at_start = at_first words room file durable size here.size left zeros (tail 3) in
    let first : get_or file (words + room) 0 ≡ magic = along file (words + room) (words + room + 0) (omega arith) ∙ tail 0 in
    record {
      known = record {
        file = file;
        size = size;
        holds = λ word x lt h. elim (cases_lt word (words + room)) [
          | inl below ↦ elim (puts word x h) [
            | inl held ↦ here.holds word x lt held ∙ same_before word below
            | inr put ↦ absurd (omega (arith, put.0, below))
          ]
          | inr above ↦ keeps word x above (omega (arith, lt)) h ∙ sym (tail (word - (words + room))) ∙ along file (words + room + (word - (words + room))) word (omega (arith, above))
        ];
        opens = at_start.1;
        pass_is = λ on. tail 3;
      };
      on = eq-eqb (get_or file (words + room) 0) magic first;
      entries = [];
      behind = replicate room 0;
      written = at_start.0;
      position_is = refl;
      none = none_zero room;
      lines = λ k d lt. absurd (omega (arith, lt));
    }
  where
    same_before : (word : ℕ) → word < words + room → get_or (durable ++ clear words room) word 0 ≡ get_or (fresh words room durable) word 0
    same_before word lt = elim (cases_lt word words) [
      | inl below ↦ get_or_append_left durable (clear words room) 0 word (omega (arith, below, here.size)) ∙ sym (get_or_append_left durable (replicate room 0 ++ tail_of magic words room true) 0 word (omega (arith, below, here.size)))
      | inr above ↦
          let at : ℕ = word - words in
          let is : word ≡ length durable + at = omega (arith, above, here.size) in
          let below : at < length (replicate room 0) = omega (arith, above, lt, size_zeros room) in
          along (durable ++ clear words room) word (length durable + at) is
          ∙ get_or-append-add durable (clear words room) at 0
          ∙ get_or_append_left (replicate room 0) (tail_of 0 words room true) 0 at below
          ∙ sym (get_or_append_left (replicate room 0) (tail_of magic words room true) 0 at below)
          ∙ sym (get_or-append-add durable (replicate room 0 ++ tail_of magic words room true) at 0)
          ∙ along (fresh words room durable) (length durable + at) word (sym is)
    ]

-- ---- through what is merely known

pub on_ok : {T E : Type 0} {P Q : Type 0} (r : Result T E) → (P → Q) → OnOk r P → OnOk r Q
on_ok a f p = grind (arith)

pub merely-opens : {K : Type 0} (may_hold : ℕ → ℕ → Type 0) (words room : ℕ) (durable : List ℕ) → ∥ K ∥₁ → (K → FoundOpens may_hold words room durable) → FoundOpens may_hold words room durable
merely-opens may_hold words room durable known each file image is opens = ∥∥₁_elim known ∥∥₁_prop (λ k. each k file image is opens)
