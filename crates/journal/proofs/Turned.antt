-- A full journal's next pass begins.
use Rattle.std.proofs.Common.{◌≡◌, ◌⊎◌, inl, inr, ℕ, suc, ◌+◌, ◌-◌, ◌/◌, ◌<◌, ◌≤◌, Bool, true, not, ◌==◌, List, [], ◌∷◌, ◌++◌, length, map, take, drop, replicate, get_or, refl, sym, ◌∙◌, ap, subst, arith}
use Rattle.std.proofs.lemmas.Bool.{cases_lt, eq-eqb}
use Rattle.std.proofs.lemmas.List.{length-take, length-drop, length-append, length-replicate, get_or-take, get_or-drop, get_or_past, get_or-replicate, get_or_append_left, get_or-append-add}
use Rattle.journal.specs.Kept.{HoldsOnly, IsFound}
use Rattle.journal.specs.Entries.{bit_of, marked, marks, is_of}
use Rattle.journal.specs.Several.{journal}
use Rattle.journal.specs.Passes.{joined, IsFilling, AllOf}
use Rattle.journal.specs.LinePayloads.{payloads_of_lines, lines_of}
use Rattle.journal.specs.InPlace.{put_over}
use Rattle.journal.specs.Opened.{lines_found, all_lines, journal_of, OpensTo}
use Rattle.journal.specs.Files.{magic, pass_word, tail_of, journal_in, is_on, lines_in, Opens, FoundOpens, IsInRun}
use Rattle.journal.specs.States.{Rests, IsFull}
use Rattle.journal.proofs.Torn.{own_bit}
use Rattle.journal.proofs.Passes.{next-is_empty}
use Rattle.journal.proofs.Opened.{file_states}
use Rattle.journal.proofs.Pointwise.{by_places}
use Rattle.journal.proofs.Files.{Puts, Keeps, at_run, along, found_beside, found_opens, same_journal, lines-on, opens-off}
use Rattle.journal.proofs.Appended.{rests-behind, rest_of, rest_at, rest_size, behind_at, split, durable_is, pasted, pasted_size, pasted_before, pasted_within, pasted_after}

-- ---- words of a pass

abbrev pub fillings : Bool → ℕ → List ℕ
fillings pass count = replicate count (bit_of pass)

pub fillings_size : (pass : Bool) (count : ℕ) → length (fillings pass count) ≡ count
fillings_size pass count = length-replicate {A = ℕ} count (bit_of pass)

nothing_marked : (pass : Bool) → marked pass 0 ≡ bit_of pass
nothing_marked a = grind (arith)

own_filling : (pass : Bool) → is_of pass (bit_of pass) ≡ true
own_filling a = grind (arith)

all_append : (pass : Bool) (a b : List ℕ) → AllOf pass a → AllOf pass b → AllOf pass (a ++ b)
all_append pass [] b left right = right
all_append pass (word ∷ a) b left right = (left.0, all_append pass a b left.1 right)

all_at : (pass : Bool) (words : List ℕ) → ((at : ℕ) → at < length words → is_of pass (get_or words at 0) ≡ true) → AllOf pass words
all_at pass [] each = tt
all_at pass (word ∷ words) each = (each 0 (omega arith), all_at pass words (λ at lt. each (suc at) (omega (arith, lt))))

all_marks : (pass : Bool) (payloads : List ℕ) → AllOf pass (marks pass payloads)
all_marks pass [] = tt
all_marks pass (payload ∷ payloads) = (own_bit pass payload, all_marks pass payloads)

all_entries : (pass : Bool) (entries : List (List ℕ)) → AllOf pass (journal pass entries)
all_entries pass [] = tt
all_entries pass (payloads ∷ entries) = all_append pass (marks pass (length payloads ∷ payloads)) (journal pass entries) (all_marks pass (length payloads ∷ payloads)) (all_entries pass entries)

-- ---- while the image is put in place, and the rest of the journal is filled

-- what is found of each word
record IsFilled (words room : ℕ) (pass : Bool) (position : ℕ) (file durable found : List ℕ) : Type 0 where
  size : length found ≡ words + room + 8
  place : (word : ℕ) → word < words → (get_or found word 0 ≡ get_or file word 0) ⊎ (get_or found word 0 ≡ get_or durable word 0)
  before : (word : ℕ) → words ≤ word → word < words + position → get_or found word 0 ≡ get_or file word 0
  behind : (word : ℕ) → words + position ≤ word → word < words + room → (get_or found word 0 ≡ get_or file word 0) ⊎ (get_or found word 0 ≡ bit_of pass)
  after : (word : ℕ) → words + room ≤ word → word < words + room + 8 → get_or found word 0 ≡ get_or file word 0

filled-opens : (may_hold : ℕ → ℕ → Type 0) (words room : ℕ) (pass : Bool) (position : ℕ) (durable found : List ℕ) (r : Rests may_hold words room pass position durable)
    → IsFilled words room pass position r.known.file durable found → Opens words room found durable
filled-opens may_hold words room pass position durable found r filled =
    let file : List ℕ = r.known.file in
    let begun : List ℕ = journal pass (map payloads_of_lines r.entries) in
    let behind = rests-behind may_hold words room pass position durable r in
    let rest : List ℕ = rest_of words room position found in
    let is_journal : journal_in words room found ≡ journal_of pass r.entries rest = split words room position file found begun r.behind behind filled.size filled.before in
    let fills : IsFilling pass r.behind rest = by_places.filling pass r.behind rest (omega (arith, rest_size words room position found filled.size, behind.all_size)) (λ at lt.
    let inside : position + at < room = omega (arith, lt, behind.all_size) in
    elim (filled.behind (words + position + at) (omega arith) (omega (arith, inside))) [
      | inl same ↦ inl (rest_at words room position at found inside ∙ same ∙ sym (behind_at words room position at file begun r.behind behind inside))
      | inr is ↦ inr (rest_at words room position at found inside ∙ is ∙ sym (nothing_marked pass))
    ]) in
    let on : is_on words room found ≡ true = ap (λ (v : ℕ). v == magic) (filled.after (words + room) (omega arith) (omega arith)) ∙ r.on in
    let in_pass : get_or found (words + room + 3) 0 ≡ pass_word pass = filled.after (words + room + 3) (omega arith) (omega arith) ∙ r.known.pass_is r.on in
    let lines : lines_in words room found ≡ lines_found pass (journal_of pass r.entries rest) = lines-on words room pass found on in_pass ∙ ap (lines_found pass) is_journal in
    let short : (l : List ℕ) (word : ℕ) → word < words → get_or (take words l) word 0 ≡ get_or l word 0 = λ l word lt. get_or-take words l word 0 lt in
    let past : (l : List ℕ) (word : ℕ) → words ≤ word → get_or (take words l) word 0 ≡ 0 = λ l word le. get_or_past (take words l) word 0 (omega (arith, length-take words l, le)) in
    let stays : OpensTo pass (take words found) (journal_of pass r.entries rest) (all_lines r.entries) (take words file) =
    file_states.filling pass r.entries (take words file) (take words found) r.behind rest r.lines r.none fills (λ word. elim (cases_lt word words) [
      | inl lt ↦ elim (filled.place word lt) [
        | inl same ↦ inl (short found word lt ∙ same ∙ sym (short file word lt))
        | inr is ↦ inr (short found word lt ∙ is ∙ durable_is may_hold words room pass position durable r word lt ∙ ap (λ (v : ℕ). put_over (all_lines r.entries) word v) (sym (short file word lt)))
      ]
      | inr le ↦ inl (past found word le ∙ sym (past file word le))
    ]) in
    record {
      size = r.known.opens.size;
      each = λ word lt.
          durable_is may_hold words room pass position durable r word lt
          ∙ ap (λ (v : ℕ). put_over (all_lines r.entries) word v) (sym (short file word lt))
          ∙ sym (stays word)
          ∙ (λ i. put_over (sym lines i) word (short found word lt i));
    }

-- what is found, by what was written
filled-found : (old new : ℕ → ℕ → Type 0) (words room : ℕ) (pass : Bool) (position : ℕ) (file durable found : List ℕ) → HoldsOnly old (words + room + 8) file → length durable ≡ words → position ≤ room
    → ((word x : ℕ) → new word x → (old word x ⊎ IsInRun (words + position) (fillings pass (room - position)) word x) ⊎ IsInRun 0 durable word x)
    → IsFound new (words + room + 8) found → IsFilled words room pass position file durable found
filled-found old new words room pass position file durable found holds was within puts is = grind (arith, fillings_size, get_or-replicate)

pub fill-opens : (old new : ℕ → ℕ → Type 0) (words room : ℕ) (pass : Bool) (position : ℕ) (durable : List ℕ) → position ≤ room → Rests old words room pass position durable
    → ((word x : ℕ) → new word x → (old word x ⊎ IsInRun (words + position) (fillings pass (room - position)) word x) ⊎ IsInRun 0 durable word x) → FoundOpens new words room durable
fill-opens old new words room pass position durable within r puts = found_opens new words room durable (λ found is.
    filled-opens old words room pass position durable found r (filled-found old new words room pass position r.known.file durable found r.known.holds r.known.opens.size within puts is))

-- ---- once it is

pub fill-kept : (old shown mid new : ℕ → ℕ → Type 0) (words room : ℕ) (pass : Bool) (position : ℕ) (durable : List ℕ) → position ≤ room → ((word x : ℕ) → shown word x → old word x) → Rests old words room pass position durable
    → Puts shown mid (words + position) (fillings pass (room - position)) → Keeps mid (words + position) (fillings pass (room - position)) → Puts mid new 0 durable → Keeps new 0 durable → IsFull new words room pass durable
fill-kept old shown mid new words room pass position durable within is_found r puts keeps puts_image keeps_image =
    let was : List ℕ = r.known.file in
    let same : length durable ≡ words = r.known.opens.size in
    let fills : List ℕ = fillings pass (room - position) in
    let size_fills : length fills ≡ room - position = fillings_size pass (room - position) in
    let start : ℕ = words + position in
    let placed : List ℕ = durable ++ drop words was in
    let size_placed : length placed ≡ words + room + 8 = omega (arith, length-append durable (drop words was), length-drop words was, r.known.size, same) in
    let inside : start + length fills ≤ length placed = omega (arith, size_fills, size_placed, within) in
    let file : List ℕ = pasted placed start fills in
    let count : length file ≡ words + room + 8 = pasted_size placed start fills inside ∙ size_placed in
    let beyond : (word : ℕ) → words ≤ word → get_or placed word 0 ≡ get_or was word 0 = λ word le.
    along placed word (length durable + (word - words)) (omega (arith, le, same)) ∙ get_or-append-add durable (drop words was) (word - words) 0 ∙ get_or-drop words was (word - words) 0 ∙ along was (words + (word - words)) word (omega (arith, le)) in
    let left : (word : ℕ) → word < words → get_or file word 0 ≡ get_or durable word 0 = λ word lt. pasted_before placed start fills inside word (omega (arith, lt)) ∙ get_or_append_left durable (drop words was) 0 word (omega (arith, lt, same)) in
    let middle : (word : ℕ) → words ≤ word → word < start → get_or file word 0 ≡ get_or was word 0 = λ word le lt. pasted_before placed start fills inside word lt ∙ beyond word le in
    let filled : (word : ℕ) → start ≤ word → word < words + room → get_or file word 0 ≡ bit_of pass = λ word le lt.
    let at : ℕ = word - start in
    along file word (start + at) (omega (arith, le)) ∙ pasted_within placed start fills inside at (omega (arith, le, lt, size_fills)) ∙ get_or-replicate (room - position) at (bit_of pass) 0 (omega (arith, le, lt)) in
    let right : (word : ℕ) → words + room ≤ word → get_or file word 0 ≡ get_or was word 0 = λ word le. pasted_after placed start fills inside word (omega (arith, le, size_fills, within)) ∙ beyond word (omega (arith, le)) in
    let on : is_on words room file ≡ true = ap (λ (v : ℕ). v == magic) (right (words + room) (omega arith)) ∙ r.on in
    let is_filled : IsFilled words room pass position was durable file = record {
      size = count;
      place = λ word lt. inr (left word lt);
      before = middle;
      behind = λ word le lt. inr (filled word le lt);
      after = λ word le lt. right word le;
    } in
    let begun : List ℕ = journal pass (map payloads_of_lines r.entries) in
    let rest : List ℕ = rest_of words room position file in
    let is_journal : journal_in words room file ≡ begun ++ rest = split words room position was file begun r.behind (rests-behind old words room pass position durable r) count middle in
    let all_rest : AllOf pass rest = all_at pass rest (λ at lt.
    let below : position + at < room = omega (arith, lt, rest_size words room position file count) in
    ap (λ (v : ℕ). is_of pass v) (rest_at words room position at file below ∙ filled (words + position + at) (omega arith) (omega (arith, below))) ∙ own_filling pass) in
    record {
      here = record {
        known = record {
          file = file;
          size = count;
          holds = λ word x lt h. elim (cases_lt word words) [
            | inl below ↦ keeps_image word x (omega arith) (omega (arith, below, same)) h ∙ along durable (word - 0) word (omega arith) ∙ sym (left word below)
            | inr above ↦ elim (puts_image word x h) [
              | inr put ↦ absurd (omega (arith, put.1, above, same))
              | inl held ↦ elim (cases_lt word start) [
                | inl early ↦ elim (puts word x held) [
                  | inl kept ↦ r.known.holds word x lt (is_found word x kept) ∙ sym (middle word above early)
                  | inr put ↦ absurd (omega (arith, put.0, early))
                ]
                | inr late ↦ elim (cases_lt word (words + room)) [
                  | inl within_room ↦ keeps word x late (omega (arith, within_room, size_fills, within)) held
                      ∙ get_or-replicate (room - position) (word - start) (bit_of pass) 0 (omega (arith, late, within_room))
                      ∙ sym (filled word late within_room)
                  | inr behind ↦ elim (puts word x held) [
                    | inl kept ↦ r.known.holds word x lt (is_found word x kept) ∙ sym (right word behind)
                    | inr put ↦ absurd (omega (arith, put.1, behind, size_fills, within))
                  ]
                ]
              ]
            ]
          ];
          opens = filled-opens old words room pass position durable file r is_filled;
          pass_is = λ is. right (words + room + 3) (omega arith) ∙ r.known.pass_is r.on;
        };
        place = left;
      };
      on = on;
      all = subst (λ (l : List ℕ). AllOf pass l) (sym is_journal) (all_append pass begun rest (all_entries pass (map payloads_of_lines r.entries)) all_rest);
    }

-- ---- the other pass counts

-- of which nothing is found
nothing : (pass : Bool) (words : List ℕ) → AllOf pass words → lines_found (not pass) words ≡ []
nothing pass words all = ap (λ (l : List (List ℕ)). lines_of (length (joined l) / 9) (joined l)) (next-is_empty pass words all).1

pub turn-opens : (old new : ℕ → ℕ → Type 0) (words room : ℕ) (pass : Bool) (durable : List ℕ) → IsFull old words room pass durable → Puts old new (words + room) (tail_of magic words room (not pass)) → FoundOpens new words room durable
turn-opens old new words room pass durable full puts = found_opens new words room durable (λ found is.
    let known = full.here.known in
    let file : List ℕ = known.file in
    let news : List ℕ = tail_of magic words room (not pass) in
    let beside = found_beside old new (words + room + 8) (words + room) news file found known.holds puts is in
    let before : (word : ℕ) → word < words + room → get_or found word 0 ≡ get_or file word 0 = λ word lt. elim (beside word (omega (arith, lt))) [
      | inl same ↦ same
      | inr put ↦ absurd (omega (arith, put.0, lt))
    ] in
    let on : is_on words room found ≡ true = elim (beside (words + room) (omega arith)) [
      | inl same ↦ ap (λ (v : ℕ). v == magic) same ∙ full.on
      | inr put ↦ eq-eqb (get_or found (words + room) 0) magic (put.2 ∙ at_run news (words + room) (words + room) 0 (omega arith))
    ] in
    let journal_is : journal_in words room found ≡ journal_in words room file = same_journal words room file found known.size is.size (λ at le lt. before at lt) in
    elim (beside (words + room + 3) (omega arith)) [
      | inl same ↦
          let lines : lines_in words room found ≡ lines_in words room file =
          lines-on words room pass found on (same ∙ known.pass_is full.on) ∙ ap (lines_found pass) journal_is ∙ sym (lines-on words room pass file full.on (known.pass_is full.on)) in
          record {
            size = known.opens.size;
            each = λ word lt. known.opens.each word lt ∙ (λ i. put_over (sym lines i) word (sym (before word (omega (arith, lt))) i));
          }
      | inr put ↦ opens-off words room found durable known.opens.size (λ word lt. before word (omega (arith, lt)) ∙ full.here.place word lt)
          (lines-on words room (not pass) found on (put.2 ∙ at_run news (words + room) (words + room + 3) 3 (omega arith)) ∙ ap (lines_found (not pass)) journal_is ∙ nothing pass (journal_in words room file) full.all)
    ])

pub turn-kept : (old new : ℕ → ℕ → Type 0) (words room : ℕ) (pass : Bool) (durable : List ℕ) → IsFull old words room pass durable → Puts old new (words + room) (tail_of magic words room (not pass))
    → Keeps new (words + room) (tail_of magic words room (not pass)) → Rests new words room (not pass) 0 durable
turn-kept old new words room pass durable full puts keeps =
    let known = full.here.known in
    let was : List ℕ = known.file in
    let news : List ℕ = tail_of magic words room (not pass) in
    let begin : List ℕ = take (words + room) was in
    let size_begin : length begin ≡ words + room = omega (arith, length-take (words + room) was, known.size) in
    let file : List ℕ = begin ++ news in
    let size : length file ≡ words + room + 8 = omega (arith, length-append begin news, size_begin) in
    let before : (word : ℕ) → word < words + room → get_or file word 0 ≡ get_or was word 0 = λ word lt. get_or_append_left begin news 0 word (omega (arith, lt, size_begin)) ∙ get_or-take (words + room) was word 0 lt in
    let after : (at : ℕ) → get_or file (words + room + at) 0 ≡ get_or news at 0 = λ at. along file (words + room + at) (length begin + at) (omega (arith, size_begin)) ∙ get_or-append-add begin news at 0 in
    let first : get_or file (words + room) 0 ≡ magic = along file (words + room) (words + room + 0) (omega arith) ∙ after 0 in
    let on : is_on words room file ≡ true = eq-eqb (get_or file (words + room) 0) magic first in
    let journal_is : journal_in words room file ≡ journal_in words room was = same_journal words room was file known.size size (λ at le lt. before at lt) in
    record {
      known = record {
        file = file;
        size = size;
        holds = λ word x lt h. elim (cases_lt word (words + room)) [
          | inl below ↦ elim (puts word x h) [
            | inl held ↦ known.holds word x lt held ∙ sym (before word below)
            | inr put ↦ absurd (omega (arith, put.0, below))
          ]
          | inr above ↦ keeps word x above (omega (arith, lt)) h ∙ sym (after (word - (words + room))) ∙ along file (words + room + (word - (words + room))) word (omega (arith, above))
        ];
        opens = opens-off words room file durable known.opens.size (λ word lt. before word (omega (arith, lt)) ∙ full.here.place word lt)
            (lines-on words room (not pass) file on (after 3) ∙ ap (lines_found (not pass)) journal_is ∙ nothing pass (journal_in words room was) full.all);
        pass_is = λ is. after 3;
      };
      on = on;
      entries = [];
      behind = journal_in words room was;
      written = journal_is;
      position_is = refl;
      none = (next-is_empty pass (journal_in words room was) full.all).0;
      lines = λ k d lt. absurd (omega (arith, lt));
    }
