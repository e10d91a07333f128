-- Lines that may not be in place are written there.
use Rattle.std.proofs.Common.{Result, ◌≡◌, ◌≢◌, ◌⊎◌, inl, inr, ℕ, zero, suc, ◌+◌, ◌-◌, ◌*◌, ◌/◌, ◌%◌, ◌<◌, ◌≤◌, Bool, true, false, if◌then◌else◌, ◌||◌, ◌==◌, List, [], ◌∷◌, ◌++◌, length, map, take, drop, get_or, replicate, refl, sym, ◌∙◌, ap, subst, arith}
use Rattle.std.specs.Prelude.{OnOk}
use Rattle.std.proofs.Math.Logic.{∥∥₁_elim}
use Rattle.std.proofs.Math.Nat.{ℕ_set}
use Rattle.std.proofs.Math.Seq.{take-suc}
use Rattle.std.proofs.lemmas.Bool.{cases_lt, cases_eq, cases_Bool, eq-eqb, false≢true, true≢false}
use Rattle.std.proofs.lemmas.List.{get_or_past}
use Rattle.journal.specs.declared.line.Line.{Line}
use Rattle.journal.specs.Kept.{HoldsOnly, is_put_at}
use Rattle.journal.specs.Files.{IsInRun, Opens, lines_in}
use Rattle.journal.specs.InPlace.{put_over}
use Rattle.journal.specs.LinePayloads.{payloads_of_lines}
use Rattle.journal.specs.Several.{journal}
use Rattle.journal.specs.Opened.{all_lines}
use Rattle.journal.specs.ReadBack.{StandsStill}
use Rattle.journal.specs.States.{Rests}
use Rattle.journal.specs.Changes.{AreChanged}
use Rattle.journal.specs.Places.{PlacesOnly}
use Rattle.journal.specs.Unplaced.{IsOfLine, IsPlacedBut, is_marked}
use Rattle.journal.proofs.Files.{Puts, Keeps, along}
use Rattle.journal.proofs.Appended.{durable_is, over-append}
use Rattle.journal.proofs.LineRuns.{at-last}

-- ---- marks

or_swap : (a b : Bool) → (a || b) ≡ (b || a)
or_swap true true = refl
or_swap true false = refl
or_swap false true = refl
or_swap false false = refl

or_assoc : (a b c : Bool) → (a || (b || c)) ≡ ((a || b) || c)
or_assoc true b c = refl
or_assoc false b c = refl

at-append : (a b : List Line) (number : ℕ) → is_put_at (a ++ b) number ≡ (is_put_at a number || is_put_at b number)
at-append [] b number = refl
at-append (line ∷ a) b number = ap (λ (r : Bool). (line.number == number) || r) (at-append a b number) ∙ or_assoc (line.number == number) (is_put_at a number) (is_put_at b number)

at-other : (lines : List Line) (line : Line) (number : ℕ) → line.number ≢ number → is_put_at (lines ++ line ∷ []) number ≡ is_put_at lines number
at-other [] line number differs = grind (arith)
at-other (first ∷ lines) line number differs = ap (λ (r : Bool). (first.number == number) || r) (at-other lines line number differs)

-- these lines are marked, besides those that were
pub record IsMarking (old now : List Bool) (lines : List Line) : Type 0 where
  pub size : length now ≡ length old
  pub each : (number : ℕ) → number < length old → is_marked now number ≡ (is_put_at lines number || is_marked old number)

pub marking-more : (old mid now : List Bool) (lines : List Line) (line : Line) → IsMarking old mid lines → length now ≡ length mid
    → (line.number < length mid → is_marked now line.number ≡ true) → ((other : ℕ) → ¬ (other ≡ line.number) → is_marked now other ≡ is_marked mid other) → IsMarking old now (lines ++ line ∷ [])
marking-more old mid now lines line before size marked others = record {
  size = size ∙ before.size;
  each = λ number lt. elim (cases_eq number line.number) [
    | inl same ↦
        subst (λ (n : ℕ). is_marked now n ≡ true) (sym same) (marked (omega (arith, same, lt, before.size)))
        ∙ ap (λ (b : Bool). b || is_marked old number) (sym (at-last lines line number (sym same)))
    | inr differ ↦
        others number differ ∙ before.each number lt
        ∙ ap (λ (b : Bool). b || is_marked old number) (sym (at-other lines line number (λ e. differ (sym e))))
  ];
}

pub lines-marked : (old mid now : List Bool) (lines : List Line) (count : ℕ) (d : Line) → count < length lines → IsMarking old mid (take count lines) → length now ≡ length mid
    → ((get_or lines count d).number < length mid → is_marked now (get_or lines count d).number ≡ true) → ((other : ℕ) → ¬ (other ≡ (get_or lines count d).number) → is_marked now other ≡ is_marked mid other)
    → IsMarking old now (take (count + 1) lines)
lines-marked old mid now lines count d lt before size marked others =
    let next : count + 1 ≡ suc count = omega arith in
    subst (λ (m : ℕ). IsMarking old now (take m lines)) (sym next)
    (subst (λ (l : List Line). IsMarking old now l) (sym (take-suc lines count d lt)) (marking-more old mid now (take count lines) (get_or lines count d) before size marked others))

marked-within : (marks : List Bool) (number : ℕ) → is_marked marks number ≡ true → number < length marks
marked-within marks number is = elim (cases_lt number (length marks)) [
  | inl lt ↦ lt
  | inr past ↦ absurd (false≢true (sym (get_or_past marks number false past) ∙ is))
]

pub none-marked : (count number : ℕ) → is_marked (replicate count false) number ≡ false
none-marked zero number = refl
none-marked (suc count) zero = refl
none-marked (suc count) (suc number) = none-marked count number

-- ---- one line is written

pub line-run : {P : Type 0} (line : Line) (marks : List Bool) (word x : ℕ) → length line.words ≡ 8 → is_marked marks line.number ≡ true → P ⊎ IsInRun (8 * line.number) line.words word x → P ⊎ IsOfLine line marks word x
line-run line marks word x size marked (inl was) = inl was
line-run line marks word x size marked (inr put) =
    inr (marked, omega (arith, put.0, put.1, size), put.2 ∙ along line.words (word - 8 * line.number) (word % 8) (omega (arith, put.0, put.1, size)))

pub line-written : (line : Line) (shown : ℕ → ℕ → Type 0) (word x : ℕ) → length line.words ≡ 8
    → ((word x : ℕ) → 8 * line.number ≤ word → word < 8 * line.number + length line.words → shown word x → x ≡ get_or line.words (word - 8 * line.number) 0)
    → word / 8 ≡ line.number → shown word x → x ≡ get_or line.words (word % 8) 0
line-written line shown word x size writes at h =
    writes word x (omega (arith, at)) (omega (arith, at, size)) h ∙ along line.words (word - 8 * line.number) (word % 8) (omega (arith, at))

-- ---- of several lines of one number the last one counts

pub over_none : (lines : List Line) (word v : ℕ) → is_put_at lines (word / 8) ≡ false → put_over lines word v ≡ v
over_none [] word v none = refl
over_none (line ∷ lines) word v none = grind (arith, over_none lines word v)

pub over_some : (lines : List Line) (word v w : ℕ) → is_put_at lines (word / 8) ≡ true → put_over lines word v ≡ put_over lines word w
over_some [] word v w is = absurd (false≢true is)
over_some (line ∷ lines) word v w is = grind (arith, over_some lines word v w)

over-last : (lines : List Line) (at : ℕ) (d : Line) (word v : ℕ) → at < length lines → (get_or lines at d).number ≡ word / 8 → is_put_at (drop (suc at) lines) (word / 8) ≡ false
    → put_over lines word v ≡ get_or (get_or lines at d).words (word % 8) 0
over-last [] at d word v lt is none = absurd (omega (arith, lt))
over-last (line ∷ rest) zero d word v lt is none =
    over_none rest word _ none ∙ ap (λ (b : Bool). if b then get_or line.words (word % 8) 0 else v) (eq-eqb line.number (word / 8) is)
over-last (line ∷ rest) (suc at) d word v lt is none = over-last rest at d word _ (omega (arith, lt)) is none

drop-next : (lines : List Line) (at : ℕ) (d : Line) → at < length lines → drop at lines ≡ get_or lines at d ∷ drop (suc at) lines
drop-next [] at d lt = absurd (omega (arith, lt))
drop-next (line ∷ rest) zero d lt = refl
drop-next (line ∷ rest) (suc at) d lt = drop-next rest at d (omega (arith, lt))

drop-none : (lines : List Line) → drop (length lines) lines ≡ []
drop-none [] = refl
drop-none (line ∷ rest) = drop-none rest

-- ---- they are written from the last to the first

-- of the lines from this one on the last of each number is written
pub record IsPlacing (held shown held' shown' : ℕ → ℕ → Type 0) (image : List ℕ) (lines : List Line) (marks marks' : List Bool) (at : ℕ) : Type 0 where
  pub size : length marks' ≡ length marks
  pub found : (word x : ℕ) → held' word x → held word x ⊎ IsInRun 0 image word x
  pub others : (word x : ℕ) → shown' word x → shown word x ⊎ IsInRun 0 image word x
  pub left : (number : ℕ) → is_marked marks' number ≡ true → (is_marked marks number ≡ true) × (is_put_at (drop at lines) number ≡ false)
  pub written : (word x : ℕ) → word < length image → is_marked marks (word / 8) ≡ true → is_marked marks' (word / 8) ≡ false → shown' word x → x ≡ get_or image word 0

pub placing-none : (held shown : ℕ → ℕ → Type 0) (image : List ℕ) (lines : List Line) (marks : List Bool) → IsPlacing held shown held shown image lines marks marks (length lines)
placing-none held shown image lines marks = record {
  size = refl;
  found = λ word x h. inl h;
  others = λ word x h. inl h;
  left = λ number is. (is, ap (λ (l : List Line). is_put_at l number) (drop-none lines));
  written = λ word x lt is off h. absurd (true≢false (sym is ∙ off));
}

-- a line that is marked still has words of the image
pub of-image : (old held shown held' shown' : ℕ → ℕ → Type 0) (image : List ℕ) (lines : List Line) (marks marks' : List Bool) (at : ℕ) (d : Line) (word x : ℕ)
    → IsPlacedBut old lines marks image → at < length lines → IsPlacing held shown held' shown' image lines marks marks' (suc at) → IsOfLine (get_or lines at d) marks' word x → IsInRun 0 image word x
of-image old held shown held' shown' image lines marks marks' at d word x placed lt before is =
    let line : Line = get_or lines at d in
    let left = before.left line.number is.0 in
    let within : line.number < length marks = marked-within marks line.number left.0 in
    let inside : word < length image = omega (arith, within, is.1, placed.size) in
    let put : is_put_at lines (word / 8) ≡ true = subst (λ (n : ℕ). is_put_at lines n ≡ true) (sym is.1) (sym (placed.marked line.number within) ∙ left.0) in
    let last : is_put_at (drop (suc at) lines) (word / 8) ≡ false = subst (λ (n : ℕ). is_put_at (drop (suc at) lines) n ≡ false) (sym is.1) left.1 in
    (omega arith, omega (arith, inside), is.2 ∙ sym (over-last lines at d word 0 lt (sym is.1) last) ∙ placed.makes word 0 inside put ∙ along image word (word - 0) (omega arith))

pub placing-found : (old held shown held' shown' now : ℕ → ℕ → Type 0) (image : List ℕ) (lines : List Line) (marks marks' : List Bool) (at : ℕ) (d : Line)
    → IsPlacedBut old lines marks image → at < length lines → IsPlacing held shown held' shown' image lines marks marks' (suc at)
    → ((word x : ℕ) → now word x → held' word x ⊎ IsOfLine (get_or lines at d) marks' word x) → (word x : ℕ) → now word x → held word x ⊎ IsInRun 0 image word x
placing-found old held shown held' shown' now image lines marks marks' at d placed lt before finds word x h = elim (finds word x h) [
  | inl was ↦ before.found word x was
  | inr put ↦ inr (of-image old held shown held' shown' image lines marks marks' at d word x placed lt before put)
]

pub placing-others : (old held shown held' shown' now : ℕ → ℕ → Type 0) (image : List ℕ) (lines : List Line) (marks marks' : List Bool) (at : ℕ) (d : Line)
    → IsPlacedBut old lines marks image → at < length lines → IsPlacing held shown held' shown' image lines marks marks' (suc at)
    → ((word x : ℕ) → now word x → shown' word x ⊎ IsOfLine (get_or lines at d) marks' word x) → (word x : ℕ) → now word x → shown word x ⊎ IsInRun 0 image word x
placing-others old held shown held' shown' now image lines marks marks' at d placed lt before finds word x h = elim (finds word x h) [
  | inl was ↦ before.others word x was
  | inr put ↦ inr (of-image old held shown held' shown' image lines marks marks' at d word x placed lt before put)
]

pub placing-more : (old held shown held' shown' now now_shown : ℕ → ℕ → Type 0) (image : List ℕ) (lines : List Line) (marks marks' marks'' : List Bool) (at : ℕ) (d : Line)
    → IsPlacedBut old lines marks image → at < length lines → IsPlacing held shown held' shown' image lines marks marks' (suc at)
    → ((word x : ℕ) → now word x → held' word x ⊎ IsOfLine (get_or lines at d) marks' word x)
    → ((word x : ℕ) → now_shown word x → shown' word x ⊎ IsOfLine (get_or lines at d) marks' word x)
    → ((word x : ℕ) → word / 8 ≡ (get_or lines at d).number → is_marked marks' (get_or lines at d).number ≡ true → now_shown word x → x ≡ get_or (get_or lines at d).words (word % 8) 0)
    → length marks'' ≡ length marks' → is_marked marks'' (get_or lines at d).number ≡ false → ((other : ℕ) → ¬ (other ≡ (get_or lines at d).number) → is_marked marks'' other ≡ is_marked marks' other)
    → IsPlacing held shown now now_shown image lines marks marks'' at
placing-more old held shown held' shown' now now_shown image lines marks marks' marks'' at d placed lt before finds shows writes size none rest = record {
  size = size ∙ before.size;
  found = placing-found old held shown held' shown' now image lines marks marks' at d placed lt before finds;
  others = placing-others old held shown held' shown' now_shown image lines marks marks' at d placed lt before shows;
  left = λ number is. elim (cases_eq number line.number) [
    | inl same ↦ absurd (true≢false (sym is ∙ subst (λ (n : ℕ). is_marked marks'' n ≡ false) (sym same) none))
    | inr differ ↦
        (let was = before.left number (sym (rest number differ) ∙ is) in
        (was.0, ap (λ (l : List Line). is_put_at l number) (drop-next lines at d lt) ∙ first-other number (λ e. differ (sym e)) was.1))
  ];
  written = λ word x inside is off h. elim (cases_Bool (is_marked marks' (word / 8))) [
    | inl marked ↦ elim (cases_eq (word / 8) line.number) [
      | inl same ↦
          (let here : is_marked marks' line.number ≡ true = subst (λ (n : ℕ). is_marked marks' n ≡ true) same marked in
          along' word x (of-image old held shown held' shown' image lines marks marks' at d word x placed lt before (here, same, writes word x same here h)))
      | inr differ ↦ absurd (true≢false (sym marked ∙ sym (rest (word / 8) differ) ∙ off))
    ]
    | inr un ↦ elim (shows word x h) [
      | inl was ↦ before.written word x inside is un was
      | inr put ↦ along' word x (of-image old held shown held' shown' image lines marks marks' at d word x placed lt before put)
    ]
  ];
}
  where
    line : Line
    line = get_or lines at d

    along' : (word x : ℕ) → IsInRun 0 image word x → x ≡ get_or image word 0
    along' word x put = put.2 ∙ along image (word - 0) word (omega arith)

    first-other : (number : ℕ) → line.number ≢ number → is_put_at (drop (suc at) lines) number ≡ false → is_put_at (line ∷ drop (suc at) lines) number ≡ false
    first-other number differs none = grind (arith)

-- at the end none is marked
pub placing-all : (old held shown held' shown' : ℕ → ℕ → Type 0) (image : List ℕ) (lines : List Line) (marks marks' : List Bool)
    → IsPlacedBut old lines marks image → IsPlacing held shown held' shown' image lines marks marks' 0 → (number : ℕ) → is_marked marks' number ≡ false
placing-all old held shown held' shown' image lines marks marks' placed all number = elim (cases_Bool (is_marked marks' number)) [
  | inl is ↦
      (let was = all.left number is in
      absurd (true≢false (sym was.0 ∙ placed.marked number (marked-within marks number was.0) ∙ was.1)))
  | inr off ↦ off
]

pub placing-written : (old held shown held' shown' : ℕ → ℕ → Type 0) (image : List ℕ) (lines : List Line) (marks marks' : List Bool)
    → IsPlacedBut old lines marks image → IsPlacing held shown held' shown' image lines marks marks' 0
    → (word x : ℕ) → is_put_at lines (word / 8) ≡ true → word < length image → shown' word x → x ≡ get_or image word 0
placing-written old held shown held' shown' image lines marks marks' placed all word x put lt h =
    all.written word x lt (placed.marked (word / 8) (omega (arith, lt, placed.size)) ∙ put) (placing-all old held shown held' shown' image lines marks marks' placed all (word / 8)) h

-- so all of the image is in place
pub placed-all : (old mid shown new : ℕ → ℕ → Type 0) (lines : List Line) (marks : List Bool) (image : List ℕ) → IsPlacedBut old lines marks image → Puts old mid 0 image
    → ((word x : ℕ) → is_put_at lines (word / 8) ≡ true → word < length image → shown word x → x ≡ get_or image word 0)
    → ((word x : ℕ) → new word x → mid word x) → ((word x : ℕ) → new word x → shown word x) → HoldsOnly new (length image) image
placed-all old mid shown new lines marks image placed puts written found synced word x lt h = elim (cases_Bool (is_put_at lines (word / 8))) [
  | inl put ↦ written word x put lt (synced word x h)
  | inr off ↦ elim (puts word x (found word x h)) [
    | inl held ↦ placed.others word x lt off held
    | inr put ↦ put.2 ∙ along image (word - 0) word (omega arith)
  ]
]

-- and no line is left
pub placed-none : (hold : ℕ → ℕ → Type 0) (lines : List Line) (marks : List Bool) (image : List ℕ) → lines ≡ [] → 8 * length marks ≡ length image → ((number : ℕ) → is_marked marks number ≡ false)
    → HoldsOnly hold (length image) image → IsPlacedBut hold lines marks image
placed-none hold lines marks image none size off holds =
    subst (λ (l : List Line). IsPlacedBut hold l marks image) (sym none) (record {
      size = size;
      marked = λ number lt. off number;
      makes = λ word value lt is. absurd (false≢true is);
      others = λ word x lt is h. holds word x lt h;
    })

pub placed-keeps : (new : ℕ → ℕ → Type 0) (image : List ℕ) → HoldsOnly new (length image) image → Keeps new 0 image
placed-keeps new image holds word x le lt h = holds word x (omega (arith, lt)) h ∙ along image word (word - 0) (omega arith)

-- ---- what is in place stays so

pub placed-still : (old new : ℕ → ℕ → Type 0) (lines : List Line) (marks : List Bool) (image : List ℕ) → PlacesOnly old new image → IsPlacedBut old lines marks image → IsPlacedBut new lines marks image
placed-still old new lines marks image places placed = record {
  size = placed.size;
  marked = placed.marked;
  makes = placed.makes;
  others = λ word x lt off h. elim (places word x lt h) [
    | inl held ↦ placed.others word x lt off held
    | inr put ↦ put
  ];
}

pub placed-within : (old new : ℕ → ℕ → Type 0) (lines : List Line) (marks : List Bool) (image : List ℕ) → ((word x : ℕ) → new word x → old word x) → IsPlacedBut old lines marks image → IsPlacedBut new lines marks image
placed-within old new lines marks image within placed = record {
  size = placed.size;
  marked = placed.marked;
  makes = placed.makes;
  others = λ word x lt off h. placed.others word x lt off (within word x h);
}

-- if nothing is in the journal, all of the image is in place
no_lines : (pass : Bool) (entries : List (List Line)) → length (journal pass (map payloads_of_lines entries)) ≡ 0 → all_lines entries ≡ []
no_lines pass [] none = refl
no_lines pass (lines ∷ entries) none = absurd (omega (arith, none))

rests-holds : (hold : ℕ → ℕ → Type 0) (room : ℕ) (pass : Bool) (durable : List ℕ) → ∥ Rests hold (length durable) room pass 0 durable ∥₁ → HoldsOnly hold (length durable) durable
rests-holds hold room pass durable some word x lt h = ∥∥₁_elim some (ℕ_set _ _) (λ r.
    r.known.holds word x (omega (arith, lt)) h
    ∙ sym (durable_is hold (length durable) room pass 0 durable r word lt ∙ ap (λ (l : List Line). put_over l word (get_or r.known.file word 0)) (no_lines pass r.entries r.position_is)))

pub rests-placed : (hold : ℕ → ℕ → Type 0) (room : ℕ) (pass : Bool) (lines : List Line) (marks : List Bool) (durable : List ℕ) → lines ≡ [] → 8 * length marks ≡ length durable → ((number : ℕ) → is_marked marks number ≡ false)
    → ∥ Rests hold (length durable) room pass 0 durable ∥₁ → IsPlacedBut hold lines marks durable
rests-placed hold room pass lines marks durable none size off some = placed-none hold lines marks durable none size off (rests-holds hold room pass durable some)

-- a file was read whose words in place are known, except those of the journal's lines
pub placed-read : (hold : ℕ → ℕ → Type 0) (words room : ℕ) (lines : List Line) (marks : List Bool) (file image : List ℕ) → lines ≡ lines_in words room file → 8 * length marks ≡ length image
    → ((number : ℕ) → number < length marks → is_marked marks number ≡ is_put_at lines number) → Opens words room file image → StandsStill hold words room file → IsPlacedBut hold lines marks image
placed-read hold words room lines marks file image are size marked opens still = record {
  size = size;
  marked = marked;
  makes = λ word value lt put. over_some lines word value (get_or file word 0) put ∙ made word lt;
  others = λ word x lt off held.
      sym (over_none lines word x off)
      ∙ ap (λ (l : List Line). put_over l word x) are
      ∙ still word x (omega (arith, lt, opens.size)) held
      ∙ sym (opens.each word (omega (arith, lt, opens.size)));
}
  where
    made : (word : ℕ) → word < length image → put_over lines word (get_or file word 0) ≡ get_or image word 0
    made word lt = ap (λ (l : List Line). put_over l word (get_or file word 0)) are ∙ sym (opens.each word (omega (arith, lt, opens.size)))

-- ---- the lines of an entry aren't in place

pub placed-changed : (hold : ℕ → ℕ → Type 0) (old new : List Bool) (before after lines : List Line) (durable words : List ℕ) → AreChanged lines durable words → length words ≡ length durable
    → after ≡ before ++ lines → IsMarking old new lines → IsPlacedBut hold before old durable → IsPlacedBut hold after new words
placed-changed hold old new before after lines durable words changed same is marking placed =
    subst (λ (l : List Line). IsPlacedBut hold l new words) (sym is) (record {
      size = omega (arith, marking.size, placed.size, same);
      marked = λ number lt.
          let inside : number < length old = omega (arith, lt, marking.size) in
          marking.each number inside
          ∙ ap (λ (b : Bool). is_put_at lines number || b) (placed.marked number inside)
          ∙ or_swap (is_put_at lines number) (is_put_at before number)
          ∙ sym (at-append before lines number);
      makes = λ word value lt put. over-append before lines word value ∙ elim (cases_Bool (is_put_at lines (word / 8))) [
        | inl here ↦ over_some lines word (put_over before word value) (get_or durable word 0) here ∙ changed.makes word lt
        | inr off ↦
            over_none lines word (put_over before word value) off
            ∙ placed.makes word value (omega (arith, lt, same)) (was word put off)
            ∙ sym (over_none lines word (get_or durable word 0) off)
            ∙ changed.makes word lt
      ];
      others = λ word x lt off h.
          let both = neither word off in
          placed.others word x (omega (arith, lt, same)) both.0 h ∙ sym (over_none lines word (get_or durable word 0) both.1) ∙ changed.makes word lt;
    })
  where
    or_false : (a b : Bool) → (a || b) ≡ true → b ≡ false → a ≡ true
    or_false true b is none = refl
    or_false false b is none = absurd (true≢false (sym is ∙ none))

    or_none : (a b : Bool) → (a || b) ≡ false → (a ≡ false) × (b ≡ false)
    or_none true b is = absurd (true≢false is)
    or_none false b is = (refl, is)

    was : (word : ℕ) → is_put_at (before ++ lines) (word / 8) ≡ true → is_put_at lines (word / 8) ≡ false → is_put_at before (word / 8) ≡ true
    was word put off = or_false (is_put_at before (word / 8)) (is_put_at lines (word / 8)) (sym (at-append before lines (word / 8)) ∙ put) off

    neither : (word : ℕ) → is_put_at (before ++ lines) (word / 8) ≡ false → (is_put_at before (word / 8) ≡ false) × (is_put_at lines (word / 8) ≡ false)
    neither word off = or_none (is_put_at before (word / 8)) (is_put_at lines (word / 8)) (sym (at-append before lines (word / 8)) ∙ off)

pub any_ok : {T E P : Type 0} (result : Result T E) → P → OnOk result P
any_ok a p = grind (arith)
