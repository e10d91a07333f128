-- Lines are appended to the journal of a file.
use Rattle.std.proofs.Common.{◌≡◌, ◌⊎◌, inl, inr, ℕ, ◌+◌, ◌-◌, ◌<◌, ◌≤◌, Bool, true, ◌==◌, List, [], ◌∷◌, ◌++◌, length, map, take, drop, get_or, refl, sym, ◌∙◌, ap, subst, arith}
use Rattle.std.proofs.Math.Logic.{∥∥₁_map}
use Rattle.std.proofs.lemmas.Bool.{cases_lt}
use Rattle.std.proofs.lemmas.List.{length-take, length-drop, length-append, get_or-take, get_or-drop, get_or_past, get_or_append_left, get_or-append-add, ext_get_or, append_assoc, take-append-drop, map-append}
use Rattle.std.proofs.lemmas.List.Elements.{All-append}
use Rattle.journal.specs.declared.line.Line.{Line}
use Rattle.journal.specs.Kept.{HoldsOnly, IsFound}
use Rattle.journal.specs.Entries.{NoneOf, entry, IsMixture}
use Rattle.journal.specs.Several.{journal}
use Rattle.journal.specs.LinePayloads.{payloads_of_lines, IsLine}
use Rattle.journal.specs.InPlace.{put_over}
use Rattle.journal.specs.Opened.{lines_found, all_lines, journal_of, AreLines}
use Rattle.journal.specs.Files.{magic, pass_word, pass_of, journal_in, is_on, lines_in, FoundOpens, FoundEither, IsStoodFor, StandsAmong}
use Rattle.journal.specs.States.{Rests}
use Rattle.journal.proofs.Several.{none_left}
use Rattle.journal.proofs.Opened.{file_states}
use Rattle.journal.proofs.Pointwise.{by_places}
use Rattle.journal.proofs.Files.{Puts, Keeps, at_run, along, found_beside, journal_word, journal_size, lines-on, opens-one, known-opens}
use Rattle.journal.proofs.Settled.{equal_out, either_out}

-- ---- lists

right_nil : {X : Type 0} (l : List X) → l ++ [] ≡ l
right_nil [] = refl
right_nil (x ∷ l) = λ i. x ∷ right_nil l i

journal-append : (pass : Bool) (entries : List (List ℕ)) (last : List ℕ) → journal pass (entries ++ last ∷ []) ≡ journal pass entries ++ entry pass last
journal-append pass [] last = right_nil (entry pass last)
journal-append pass (payloads ∷ entries) last = ap (λ (l : List ℕ). entry pass payloads ++ l) (journal-append pass entries last) ∙ sym (append_assoc (entry pass payloads) (journal pass entries) (entry pass last))

lines-append : (entries : List (List Line)) (last : List Line) → all_lines (entries ++ last ∷ []) ≡ all_lines entries ++ last
lines-append [] last = right_nil last
lines-append (lines ∷ entries) last = ap (λ (l : List Line). lines ++ l) (lines-append entries last) ∙ sym (append_assoc lines (all_lines entries) last)

pub over-append : (a b : List Line) (word v : ℕ) → put_over (a ++ b) word v ≡ put_over b word (put_over a word v)
over-append [] b word v = refl
over-append (line ∷ a) b word v = over-append a b word _

-- ---- the journal of a file that is as another one, except for what is appended

-- a place behind the entries of the journal
pub record IsBehind (words room position : ℕ) (file begun behind : List ℕ) : Type 0 where
  pub size : length file ≡ words + room + 8
  pub written : journal_in words room file ≡ begun ++ behind
  pub begun_size : length begun ≡ position
  pub all_size : position + length behind ≡ room

-- the words from that place on
abbrev pub rest_of : ℕ → ℕ → ℕ → List ℕ → List ℕ
rest_of words room position found = drop position (journal_in words room found)

pub rest_at : (words room position at : ℕ) (found : List ℕ) → position + at < room → get_or (rest_of words room position found) at 0 ≡ get_or found (words + position + at) 0
rest_at words room position at found lt =
    get_or-drop position (journal_in words room found) at 0 ∙ journal_word words room found (position + at) lt ∙ along found (words + (position + at)) (words + position + at) (omega arith)

pub rest_size : (words room position : ℕ) (found : List ℕ) → length found ≡ words + room + 8 → length (rest_of words room position found) ≡ room - position
rest_size words room position found size = omega (arith, length-drop position (journal_in words room found), journal_size words room found size)

pub behind_at : (words room position at : ℕ) (file begun behind : List ℕ) → IsBehind words room position file begun behind → position + at < room → get_or behind at 0 ≡ get_or file (words + position + at) 0
behind_at words room position at file begun behind is lt = grind (arith, get_or-append-add, journal_word)

pub split : (words room position : ℕ) (file found begun behind : List ℕ) → IsBehind words room position file begun behind → length found ≡ words + room + 8
    → ((word : ℕ) → words ≤ word → word < words + position → get_or found word 0 ≡ get_or file word 0) → journal_in words room found ≡ begun ++ rest_of words room position found
split words room position file found begun behind is size same = grind (arith, take-append-drop position (journal_in words room found), length-take position (journal_in words room found), journal_size words room found size, ext_get_or 0 (take position (journal_in words room found)) begun, get_or-take position (journal_in words room found), journal_word words room found, journal_word words room file, get_or_append_left begun behind 0)

mixture : (old new : ℕ → ℕ → Type 0) (words room position : ℕ) (file found begun behind news : List ℕ) → IsBehind words room position file begun behind → HoldsOnly old (words + room + 8) file
    → Puts old new (words + position) news → IsFound new (words + room + 8) found → position + length news ≤ room → IsMixture behind news (rest_of words room position found)
mixture old new words room position file found begun behind news is holds puts here fits =
    by_places.mixture behind news (rest_of words room position found) (record {
      size = omega (arith, rest_size words room position found here.size, is.all_size);
      fits = omega (arith, fits, is.all_size);
      first = λ at lt.
          let inside : position + at < room = omega (arith, lt, fits) in
          elim (found_beside old new (words + room + 8) (words + position) news file found holds puts here (words + position + at) (omega (arith, inside))) [
            | inl same ↦ inl (rest_at words room position at found inside ∙ same ∙ sym (behind_at words room position at file begun behind is inside))
            | inr put ↦ inr (rest_at words room position at found inside ∙ put.2 ∙ at_run news (words + position) (words + position + at) at refl)
          ];
      others = λ at le. elim (cases_lt (position + at) room) [
        | inl inside ↦ elim (found_beside old new (words + room + 8) (words + position) news file found holds puts here (words + position + at) (omega (arith, inside))) [
          | inl same ↦ rest_at words room position at found inside ∙ same ∙ sym (behind_at words room position at file begun behind is inside)
          | inr put ↦ absurd (omega (arith, put.1, le))
        ]
        | inr outside ↦
            get_or_past (rest_of words room position found) at 0 (omega (arith, rest_size words room position found here.size, outside))
            ∙ sym (get_or_past behind at 0 (omega (arith, is.all_size, outside)))
      ];
    })

-- ---- at rest

pub rests-behind : (may_hold : ℕ → ℕ → Type 0) (words room : ℕ) (pass : Bool) (position : ℕ) (durable : List ℕ) (r : Rests may_hold words room pass position durable)
    → IsBehind words room position r.known.file (journal pass (map payloads_of_lines r.entries)) r.behind
rests-behind may_hold words room pass position durable r = grind (arith, journal_size words room r.known.file r.known.size, length-append (journal pass (map payloads_of_lines r.entries)) r.behind)

-- what the durable words are, by the file
pub durable_is : (may_hold : ℕ → ℕ → Type 0) (words room : ℕ) (pass : Bool) (position : ℕ) (durable : List ℕ) (r : Rests may_hold words room pass position durable) (word : ℕ) → word < words
    → get_or durable word 0 ≡ put_over (all_lines r.entries) word (get_or r.known.file word 0)
durable_is may_hold words room pass position durable r word lt =
    r.known.opens.each word lt
    ∙ ap (λ (l : List Line). put_over l word (get_or r.known.file word 0)) (lines-on words room pass r.known.file r.on (r.known.pass_is r.on) ∙ ap (lines_found pass) r.written)
    ∙ file_states.ready pass r.entries r.known.file r.behind r.lines r.none word

pub opens-either : (may_hold : ℕ → ℕ → Type 0) (words room : ℕ) (durable next : List ℕ) → FoundOpens may_hold words room durable → FoundEither may_hold words room durable next
opens-either may_hold words room durable next opens file image is stands = inl (equal_out image durable (opens file image is stands))

pub rests-either : (may_hold : ℕ → ℕ → Type 0) (words room : ℕ) (pass : Bool) (position : ℕ) (durable next : List ℕ) → ∥ Rests may_hold words room pass position durable ∥₁ → FoundEither may_hold words room durable next
rests-either may_hold words room pass position durable next some file image is stands =
    inl (equal_out image durable (∥∥₁_map some (λ r. equal_out image durable (known-opens may_hold words room pass durable r.known file image is stands))))

-- ---- while an entry is appended

append-either-1 : (old new : ℕ → ℕ → Type 0) (words room : ℕ) (pass : Bool) (position : ℕ) (durable next : List ℕ) (changed : List Line) → Rests old words room pass position durable → AreLines changed
    → position + length (entry pass (payloads_of_lines changed)) ≤ room → length next ≡ words → ((word : ℕ) → word < words → put_over changed word (get_or durable word 0) ≡ get_or next word 0)
    → Puts old new (words + position) (entry pass (payloads_of_lines changed)) → FoundEither new words room durable next
append-either-1 old new words room pass position durable next changed r are fits size makes puts found image is stands =
    let file : List ℕ = r.known.file in
    let news : List ℕ = entry pass (payloads_of_lines changed) in
    let begun : List ℕ = journal pass (map payloads_of_lines r.entries) in
    let behind = rests-behind old words room pass position durable r in
    let beside = found_beside old new (words + room + 8) (words + position) news file found r.known.holds puts is in
    let before : (word : ℕ) → word < words + position → get_or found word 0 ≡ get_or file word 0 = λ word lt. elim (beside word (omega (arith, lt, fits))) [
      | inl same ↦ same
      | inr put ↦ absurd (omega (arith, put.0, lt))
    ] in
    let after : (word : ℕ) → words + room ≤ word → word < words + room + 8 → get_or found word 0 ≡ get_or file word 0 = λ word le lt. elim (beside word lt) [
      | inl same ↦ same
      | inr put ↦ absurd (omega (arith, put.1, le, fits))
    ] in
    let rest : List ℕ = rest_of words room position found in
    let is_journal : journal_in words room found ≡ journal_of pass r.entries rest = split words room position file found begun r.behind behind is.size (λ word le lt. before word lt) in
    let on : is_on words room found ≡ true = ap (λ (v : ℕ). v == magic) (after (words + room) (omega arith) (omega arith)) ∙ r.on in
    let in_pass : get_or found (words + room + 3) 0 ≡ pass_word pass = after (words + room + 3) (omega arith) (omega arith) ∙ r.known.pass_is r.on in
    let lines : lines_in words room found ≡ lines_found pass (journal_of pass r.entries rest) = lines-on words room pass found on in_pass ∙ ap (lines_found pass) is_journal in
    let was : (word : ℕ) → word < words → get_or durable word 0 ≡ put_over (all_lines r.entries) word (get_or found word 0) = λ word lt.
    durable_is old words room pass position durable r word lt ∙ ap (λ (v : ℕ). put_over (all_lines r.entries) word v) (sym (before word (omega (arith, lt)))) in
    elim (file_states.appending pass r.entries changed found r.behind rest r.lines are r.none (mixture old new words room position file found begun r.behind news behind r.known.holds puts is fits)) [
      | inl whole ↦ inr (opens-one words room found image next stands (record {
        size = size;
        each = λ word lt.
            sym (makes word lt)
            ∙ ap (λ (v : ℕ). put_over changed word v) (was word lt)
            ∙ sym (over-append (all_lines r.entries) changed word (get_or found word 0))
            ∙ sym (whole.1 word)
            ∙ ap (λ (l : List Line). put_over l word (get_or found word 0)) (sym lines);
      }))
      | inr torn ↦ inl (opens-one words room found image durable stands (record {
        size = r.known.opens.size;
        each = λ word lt. was word lt ∙ sym (torn.1 word) ∙ ap (λ (l : List Line). put_over l word (get_or found word 0)) (sym lines);
      }))
    ]

pub append-either : (old new : ℕ → ℕ → Type 0) (words room : ℕ) (pass : Bool) (position : ℕ) (durable next : List ℕ) (changed : List Line) → ∥ Rests old words room pass position durable ∥₁ → AreLines changed
    → position + length (entry pass (payloads_of_lines changed)) ≤ room → length next ≡ words → ((word : ℕ) → word < words → put_over changed word (get_or durable word 0) ≡ get_or next word 0)
    → Puts old new (words + position) (entry pass (payloads_of_lines changed)) → FoundEither new words room durable next
append-either old new words room pass position durable next changed some are fits size makes puts found image is stands =
    either_out image durable next (∥∥₁_map some (λ r. append-either-1 old new words room pass position durable next changed r are fits size makes puts found image is stands))

-- ---- once it is appended

-- a file with these words from there on
abbrev pub pasted : List ℕ → ℕ → List ℕ → List ℕ
pasted file start news = take start file ++ (news ++ drop (start + length news) file)

pub pasted_size : (file : List ℕ) (start : ℕ) (news : List ℕ) → start + length news ≤ length file → length (pasted file start news) ≡ length file
pasted_size file start news fits =
    omega (arith, length-append (take start file) (news ++ drop (start + length news) file), length-append news (drop (start + length news) file), length-take start file, length-drop (start + length news) file, fits)

pub pasted_before : (file : List ℕ) (start : ℕ) (news : List ℕ) → start + length news ≤ length file → (word : ℕ) → word < start → get_or (pasted file start news) word 0 ≡ get_or file word 0
pasted_before file start news fits word lt = get_or_append_left (take start file) (news ++ drop (start + length news) file) 0 word (omega (arith, length-take start file, fits, lt)) ∙ get_or-take start file word 0 lt

pasted_from : (file : List ℕ) (start : ℕ) (news : List ℕ) → start + length news ≤ length file → (at : ℕ) → get_or (pasted file start news) (start + at) 0 ≡ get_or (news ++ drop (start + length news) file) at 0
pasted_from file start news fits at =
    along (pasted file start news) (start + at) (length (take start file) + at) (omega (arith, length-take start file, fits)) ∙ get_or-append-add (take start file) (news ++ drop (start + length news) file) at 0

pub pasted_within : (file : List ℕ) (start : ℕ) (news : List ℕ) → start + length news ≤ length file → (at : ℕ) → at < length news → get_or (pasted file start news) (start + at) 0 ≡ get_or news at 0
pasted_within file start news fits at lt = pasted_from file start news fits at ∙ get_or_append_left news (drop (start + length news) file) 0 at lt

pub pasted_after : (file : List ℕ) (start : ℕ) (news : List ℕ) → start + length news ≤ length file → (word : ℕ) → start + length news ≤ word → get_or (pasted file start news) word 0 ≡ get_or file word 0
pasted_after file start news fits word le = grind (arith, pasted_from file start news fits (length news + (word - (start + length news))), get_or-append-add news (drop (start + length news) file) (word - (start + length news)) 0, get_or-drop (start + length news) file (word - (start + length news)) 0)

pub append-kept : (old new : ℕ → ℕ → Type 0) (words room : ℕ) (pass : Bool) (position : ℕ) (durable next : List ℕ) (changed : List Line) → Rests old words room pass position durable → AreLines changed
    → position + length (entry pass (payloads_of_lines changed)) ≤ room → length next ≡ words → ((word : ℕ) → word < words → put_over changed word (get_or durable word 0) ≡ get_or next word 0)
    → Puts old new (words + position) (entry pass (payloads_of_lines changed)) → Keeps new (words + position) (entry pass (payloads_of_lines changed))
    → Rests new words room pass (position + length (entry pass (payloads_of_lines changed))) next
append-kept old new words room pass position durable next changed r are fits size makes puts keeps =
    let was : List ℕ = r.known.file in
    let news : List ℕ = entry pass (payloads_of_lines changed) in
    let start : ℕ = words + position in
    let inside : start + length news ≤ length was = omega (arith, fits, r.known.size) in
    let file : List ℕ = pasted was start news in
    let count : length file ≡ words + room + 8 = pasted_size was start news inside ∙ r.known.size in
    let first : get_or file (words + room) 0 ≡ get_or was (words + room) 0 = pasted_after was start news inside (words + room) (omega (arith, fits)) in
    let fourth : get_or file (words + room + 3) 0 ≡ get_or was (words + room + 3) 0 = pasted_after was start news inside (words + room + 3) (omega (arith, fits)) in
    let on : is_on words room file ≡ true = ap (λ (v : ℕ). v == magic) first ∙ r.on in
    let in_pass : get_or file (words + room + 3) 0 ≡ pass_word pass = fourth ∙ r.known.pass_is r.on in
    let entries : List (List Line) = r.entries ++ changed ∷ [] in
    let left : List ℕ = drop (length news) r.behind in
    let none : NoneOf pass left = none_left pass (length news) r.behind r.none in
    let all : AreLines (all_lines entries) = subst (λ (l : List Line). AreLines l) (sym (lines-append r.entries changed)) (All-append (λ line. IsLine line) (all_lines r.entries) changed r.lines are) in
    let written : journal_in words room file ≡ journal_of pass entries left = journal_is old words room pass position durable changed r fits in
    record {
      known = record {
        file = file;
        size = count;
        holds = λ word x lt h. elim (cases_lt word start) [
          | inl below ↦ elim (puts word x h) [
            | inl held ↦ r.known.holds word x lt held ∙ sym (pasted_before was start news inside word below)
            | inr put ↦ absurd (omega (arith, put.0, below))
          ]
          | inr above ↦ elim (cases_lt word (start + length news)) [
            | inl within ↦
                let at : ℕ = word - start in
                keeps word x above within h ∙ sym (pasted_within was start news inside at (omega (arith, above, within))) ∙ along file (start + at) word (omega (arith, above))
            | inr behind ↦ elim (puts word x h) [
              | inl held ↦ r.known.holds word x lt held ∙ sym (pasted_after was start news inside word behind)
              | inr put ↦ absurd (omega (arith, put.1, behind))
            ]
          ]
        ];
        opens = record {
          size = size;
          each = λ word lt.
              sym (makes word lt)
              ∙ ap (λ (v : ℕ). put_over changed word v) (durable_is old words room pass position durable r word lt)
              ∙ sym (over-append (all_lines r.entries) changed word (get_or was word 0))
              ∙ (λ i. put_over (sym (lines-append r.entries changed) i) word (sym (pasted_before was start news inside word (omega (arith, lt))) i))
              ∙ sym (file_states.ready pass entries file left all none word)
              ∙ ap (λ (l : List Line). put_over l word (get_or file word 0)) (sym (lines-on words room pass file on in_pass ∙ ap (lines_found pass) written));
        };
        pass_is = λ is. in_pass;
      };
      on = on;
      entries = entries;
      behind = left;
      written = written;
      position_is = ap (λ (l : List ℕ). length l) (begun_is pass r.entries changed) ∙ length-append (journal pass (map payloads_of_lines r.entries)) news ∙ ap (λ (n : ℕ). n + length news) r.position_is;
      none = none;
      lines = all;
    }
  where
    begun_is : (p : Bool) (es : List (List Line)) (last : List Line) → journal p (map payloads_of_lines (es ++ last ∷ [])) ≡ journal p (map payloads_of_lines es) ++ entry p (payloads_of_lines last)
    begun_is p es last = ap (journal p) (map-append payloads_of_lines es (last ∷ [])) ∙ journal-append p (map payloads_of_lines es) (payloads_of_lines last)

    journal_is : (may_hold : ℕ → ℕ → Type 0) (ws rm : ℕ) (p : Bool) (at : ℕ) (image : List ℕ) (ls : List Line) (q : Rests may_hold ws rm p at image) → at + length (entry p (payloads_of_lines ls)) ≤ rm
        → journal_in ws rm (pasted q.known.file (ws + at) (entry p (payloads_of_lines ls))) ≡ journal_of p (q.entries ++ ls ∷ []) (drop (length (entry p (payloads_of_lines ls))) q.behind)
    journal_is may_hold ws rm p at image ls q room_left =
        let file : List ℕ = q.known.file in
        let news : List ℕ = entry p (payloads_of_lines ls) in
        let begun : List ℕ = journal p (map payloads_of_lines q.entries) in
        let left : List ℕ = drop (length news) q.behind in
        let is = rests-behind may_hold ws rm p at image q in
        let inside : ws + at + length news ≤ length file = omega (arith, room_left, is.size) in
        let made : List ℕ = pasted file (ws + at) news in
        let count : length made ≡ ws + rm + 8 = pasted_size file (ws + at) news inside ∙ is.size in
        let rest : rest_of ws rm at made ≡ news ++ left = ext_get_or 0 (rest_of ws rm at made) (news ++ left)
        (omega (arith, rest_size ws rm at made count, length-append news left, length-drop (length news) q.behind, is.all_size, room_left))
        (λ k lt.
        let below : at + k < rm = omega (arith, lt, rest_size ws rm at made count) in
        rest_at ws rm at k made below ∙ elim (cases_lt k (length news)) [
          | inl within ↦ pasted_within file (ws + at) news inside k within ∙ sym (get_or_append_left news left 0 k within)
          | inr beyond ↦
              let j : ℕ = k - length news in
              pasted_after file (ws + at) news inside (ws + at + k) (omega (arith, beyond))
              ∙ sym (behind_at ws rm at k file begun q.behind is below)
              ∙ along q.behind k (length news + j) (omega (arith, beyond))
              ∙ sym (get_or-drop (length news) q.behind j 0)
              ∙ sym (get_or-append-add news left j 0)
              ∙ along (news ++ left) (length news + j) k (omega (arith, beyond))
        ]) in
        split ws rm at file made begun q.behind is count (λ word le lt. pasted_before file (ws + at) news inside word lt)
        ∙ ap (λ (l : List ℕ). begun ++ l) rest
        ∙ sym (append_assoc begun news left)
        ∙ ap (λ (l : List ℕ). l ++ left) (sym (begun_is p q.entries ls))

-- ---- what images may be found

pub may-kept : (may_hold : ℕ → ℕ → Type 0) (words room : ℕ) (pass : Bool) (position : ℕ) (next image : List ℕ) → ∥ Rests may_hold words room pass position next ∥₁ → length next ≡ words
    → (image ≡ next) ⊎ IsStoodFor may_hold (length next) room image → image ≡ next
may-kept may_hold words room pass position next image some size (inl is) = is
may-kept may_hold words room pass position next image some size (inr stood) =
    let by : IsStoodFor may_hold words room image = subst (λ (n : ℕ). IsStoodFor may_hold n room image) size stood in
    equal_out image next (∥∥₁_map some (λ r. equal_out image next (known-opens may_hold words room pass next r.known by.file image by.found by.opens)))

-- if all that is found stands for the image that was written last
pub stands-among : (before now : ℕ → ℕ → Type 0) (room : ℕ) (durable : List ℕ) → FoundOpens now (length durable) room durable → StandsAmong before now room durable
stands-among before now room durable all image stood = inl (equal_out image durable (all stood.file image stood.found stood.opens))

-- ---- a file that was read

two : (v : ℕ) → v < 2 → v ≡ pass_word (pass_of v)
two a lt = grind (arith)
