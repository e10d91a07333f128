-- What a log shows, over each kind of change.
use Rattle.std.proofs.Common.{◌≡◌, ◌≢◌, inl, inr, ℕ, zero, suc, ◌+◌, ◌-◌, ◌/◌, ◌<◌, ◌≤◌, ◌^◌, Bool, true, false, cond, ◌||◌, List, [], ◌∷◌, length, get_or, is_some, ◌==◌, refl, sym, ◌∙◌, ap, subst, arith}
use Rattle.std.specs.Int.{bit_at}
use Rattle.std.proofs.lemmas.Bool.{cases_lt, ne_eqb}
use Rattle.pmem.specs.Device.{Entry, fresh, marked, persisted, kept_from, newest, survivors_in}
use Rattle.pmem_model.specs.declared.stored.Stored.{Stored}
use Rattle.pmem_model.specs.Log.{store_at, IsTimely, IsSettled, IsOpen, Shows, nobody, also, NoneTakenIn}
use Rattle.pmem_model.specs.Orderly.{level_cases}

-- ---- one word's last value

timely_later : (clock clock' : ℕ) (entry : Entry) → clock ≤ clock' → IsTimely clock entry → IsTimely clock' entry
timely_later clock clock' entry le timely = record { born = omega (arith, le, timely.born); kept = omega (arith, le, timely.kept); fits = timely.fits }

pub settled_later : (clock clock' value : ℕ) (history : List Entry) → clock ≤ clock' → IsSettled clock value history → IsSettled clock' value history
settled_later clock clock' value [] le is = is
settled_later clock clock' value (entry ∷ older) le is = (is.0, is.1, timely_later clock clock' entry le is.2)

open_like : (clock clock' value : ℕ) (flushed flushed' : ℕ → Bool) (rest rest' : List Entry → Type 0) (history : List Entry) → clock ≤ clock'
    → ((actor : ℕ) → actor < 64 → flushed actor ≡ flushed' actor) → ((older : List Entry) → rest older → rest' older)
    → IsOpen clock value flushed rest history → IsOpen clock' value flushed' rest' history
open_like clock clock' value flushed flushed' rest rest' [] le same deeper is = is
open_like clock clock' value flushed flushed' rest rest' (entry ∷ older) le same deeper is =
    (is.0, is.1, λ actor lt. is.2 actor lt ∙ same actor lt, timely_later clock clock' entry le is.3, deeper older is.4)

pub settled_marked : (clock value actor : ℕ) (history : List Entry) → IsSettled clock value history → IsSettled clock value (marked actor history)
settled_marked clock value actor [] is = is
settled_marked clock value actor (entry ∷ older) is = (is.0, is.1, record { born = is.2.born; kept = is.2.kept; fits = is.2.fits })

open_marked : (clock value actor : ℕ) (flushed flushed' : ℕ → Bool) (rest rest' : List Entry → Type 0) (history : List Entry)
    → ((other : ℕ) → other < 64 → flushed' other ≡ ((other == actor) || flushed other)) → ((older : List Entry) → rest older → rest' older)
    → IsOpen clock value flushed rest history → IsOpen clock value flushed' rest' (marked actor history)
open_marked clock value actor flushed flushed' rest rest' [] same deeper is = is
open_marked clock value actor flushed flushed' rest rest' (entry ∷ older) same deeper is =
    (is.0, is.1, λ other lt. ap (λ (b : Bool). (other == actor) || b) (is.2 other lt) ∙ sym (same other lt), record { born = is.3.born; kept = is.3.kept; fits = is.3.fits }, deeper older is.4)

persisted_kept : (actor moment : ℕ) (entry : Entry) (older : List Entry) → is_some entry.kept ≡ true → persisted actor moment (entry ∷ older) ≡ entry ∷ older
persisted_kept actor moment entry older is =
    ap (λ (b : Bool). cond b (entry ∷ older) (cond (entry.flushed actor) (kept_from moment entry ∷ older) (entry ∷ persisted actor moment older))) is

persisted_passes : (actor moment : ℕ) (entry : Entry) (older : List Entry) → is_some entry.kept ≡ false → entry.flushed actor ≡ false → persisted actor moment (entry ∷ older) ≡ entry ∷ persisted actor moment older
persisted_passes actor moment entry older not_yet is = grind (arith)

settled_persisted : (clock value actor : ℕ) (history : List Entry) → IsSettled clock value history → IsSettled clock value (persisted actor clock history)
settled_persisted clock value actor [] is = is
settled_persisted clock value actor (entry ∷ older) is = subst (IsSettled clock value) (sym (persisted_kept actor clock entry older is.1)) is

-- and by one that didn't
open_passed : (clock value actor : ℕ) (flushed : ℕ → Bool) (rest rest' : List Entry → Type 0) (history : List Entry) → actor < 64 → flushed actor ≡ false
    → ((older : List Entry) → rest older → rest' (persisted actor clock older)) → IsOpen clock value flushed rest history
    → IsOpen clock value flushed rest' (persisted actor clock history)
open_passed clock value actor flushed rest rest' [] lt by deeper is = is
open_passed clock value actor flushed rest rest' (entry ∷ older) lt by deeper is =
    subst (IsOpen clock value flushed rest') (sym (persisted_passes actor clock entry older is.1 (is.2 actor lt ∙ by))) (is.0, is.1, is.2, is.3, deeper older is.4)

-- ---- logs that are alike for a word

-- the stores are of one word, and the same if it is of the line
abbrev pub IsAlike : ℕ → Stored → Stored → Type 0
IsAlike word store store' = (store.word ≡ store'.word) × (store.word / 8 ≡ word / 8 → store ≡ store')

pub shows-like : (log log' : List Stored) (from clock clock' word n value : ℕ) (actors actors' : ℕ → Bool) (history : List Entry) → clock ≤ clock'
    → ((k : ℕ) → from ≤ k → k < n → IsAlike word (store_at log k) (store_at log' k)) → ((actor : ℕ) → actor < 64 → actors actor ≡ actors' actor)
    → Shows log from clock word n value actors history → Shows log' from clock' word n value actors' history
shows-like log log' from clock clock' word zero value actors actors' history le alike same shown = settled_later clock clock' value history le shown
shows-like log log' from clock clock' word (suc n) value actors actors' history le alike same shown = record {
  settled = λ lt. settled_later clock clock' value history le (shown.settled lt);
  own = λ in_span is'.
      let here = alike n in_span (omega arith) in
      let is : (store_at log n).word ≡ word = here.0 ∙ is' in
      subst (λ (s : Stored). IsOpen clock' value (also s.flushed actors') (Shows log' from clock' word n s.replaced nobody) history) (here.1 (ap (λ (w : ℕ). w / 8) is))
      (open_like clock clock' value (also (store_at log n).flushed actors) (also (store_at log n).flushed actors') _ _ history le (more (store_at log n).flushed)
      (λ older. shows-like log log' from clock clock' word n (store_at log n).replaced nobody nobody older le (λ k from_k lt. alike k from_k (omega (arith, lt))) (λ actor lt. refl)) (shown.own in_span is));
  near = λ in_span apart line'.
      let here = alike n in_span (omega arith) in
      let line : (store_at log n).word / 8 ≡ word / 8 = ap (λ (w : ℕ). w / 8) here.0 ∙ line' in
      subst (λ (s : Stored). Shows log' from clock' word n value (also s.flushed actors') history) (here.1 line)
      (shows-like log log' from clock clock' word n value (also (store_at log n).flushed actors) (also (store_at log n).flushed actors') history le (λ k from_k lt. alike k from_k (omega (arith, lt))) (more (store_at log n).flushed)
      (shown.near in_span (λ e. apart (sym here.0 ∙ e)) line));
  far = λ in_span away.
      let here = alike n in_span (omega arith) in
      shows-like log log' from clock clock' word n value actors actors' history le (λ k from_k lt. alike k from_k (omega (arith, lt))) same
      (shown.far in_span (λ e. away (ap (λ (w : ℕ). w / 8) (sym here.0) ∙ e)));
}
  where
    more : (marks : ℕ) (actor : ℕ) → actor < 64 → also marks actors actor ≡ also marks actors' actor
    more marks actor lt = ap (λ (b : Bool). (bit_at marks actor == 1) || b) (same actor lt)

-- before the span
pub shows-settled : (log : List Stored) (from clock word n value : ℕ) (actors : ℕ → Bool) (history : List Entry) → n ≤ from → Shows log from clock word n value actors history → IsSettled clock value history
shows-settled log from clock word a value actors history le shown = grind (arith)

pub settled-shows : (log : List Stored) (from clock word n value : ℕ) (actors : ℕ → Bool) (history : List Entry) → n ≤ from → IsSettled clock value history → Shows log from clock word n value actors history
settled-shows log from clock word a value actors history le is = grind (arith)

-- if there is no store of the line
pub shows-past : (log : List Stored) (from clock word m n value : ℕ) (actors : ℕ → Bool) (history : List Entry) → from ≤ m → m ≤ n → ((k : ℕ) → m ≤ k → k < n → (store_at log k).word / 8 ≢ word / 8)
    → Shows log from clock word m value actors history → Shows log from clock word n value actors history
shows-past log from clock word m zero value actors history after le none shown = let same : m ≡ 0 = omega (arith, le) in subst (λ (k : ℕ). Shows log from clock word k value actors history) same shown
shows-past log from clock word m (suc n) value actors history after le none shown = elim (cases_lt n m) [
  | inl below ↦ let same : m ≡ suc n = omega (arith, le, below) in subst (λ (k : ℕ). Shows log from clock word k value actors history) same shown
  | inr above ↦ record {
    settled = λ lt. absurd (omega (arith, after, above, lt));
    own = λ in_span is. absurd (none n above (omega arith) (ap (λ (w : ℕ). w / 8) is));
    near = λ in_span apart line. absurd (none n above (omega arith) line);
    far = λ in_span away. shows-past log from clock word m n value actors history after above (λ k up lt. none k up (omega (arith, lt))) shown;
  }
]

-- ---- a store

-- of the word
pub shows-own : (log : List Stored) (from clock word n value : ℕ) (history : List Entry) → from ≤ n → (store_at log n).word ≡ word → (store_at log n).flushed ≡ 0 → value < 2 ^ 64
    → Shows log from clock word n (store_at log n).replaced nobody history → Shows log from clock word (suc n) value nobody (fresh value clock ∷ history)
shows-own log from clock word n value history in_span is unmarked fits shown = grind (arith)

-- of another word of the line
pub shows-near : (log : List Stored) (from clock word n value : ℕ) (history : List Entry) → from ≤ n → (store_at log n).word ≢ word → (store_at log n).word / 8 ≡ word / 8 → (store_at log n).flushed ≡ 0
    → Shows log from clock word n value nobody history → Shows log from clock word (suc n) value nobody history
shows-near log from clock word n value history in_span apart line unmarked shown = grind (arith)

-- ---- a flush

-- who is noted above is passed down
pub shows-marked : (log : List Stored) (from clock word n value actor : ℕ) (actors actors' : ℕ → Bool) (history : List Entry)
    → ((other : ℕ) → other < 64 → actors' other ≡ ((other == actor) || actors other))
    → Shows log from clock word n value actors history → Shows log from clock word n value actors' (marked actor history)
shows-marked log from clock word zero value actor actors actors' history same shown = settled_marked clock value actor history shown
shows-marked log from clock word (suc n) value actor actors actors' history same shown = grind (arith, shows-marked log from clock word n value actor (also (store_at log n).flushed actors) (also (store_at log n).flushed actors') history, shows-marked log from clock word n value actor actors actors' history same)

-- the line's last store has the mark
pub shows-flushed : (log log' : List Stored) (from clock word n value actor : ℕ) (history : List Entry) → from ≤ n
    → ((k : ℕ) → k < n → store_at log k ≡ store_at log' k) → (store_at log n).word ≡ (store_at log' n).word → (store_at log n).replaced ≡ (store_at log' n).replaced
    → (store_at log n).word / 8 ≡ word / 8
    → ((other : ℕ) → other < 64 → (bit_at (store_at log' n).flushed other == 1) ≡ ((other == actor) || (bit_at (store_at log n).flushed other == 1)))
    → Shows log from clock word (suc n) value nobody history → Shows log' from clock word (suc n) value nobody (marked actor history)
shows-flushed log log' from clock word n value actor history in_span same words replaced line marks shown = record {
  settled = λ lt. absurd (omega (arith, in_span, lt));
  own = λ le is'. open_marked clock value actor (also (store_at log n).flushed nobody) (also (store_at log' n).flushed nobody) _ _ history more
      (λ older rest. subst (λ (v : ℕ). Shows log' from clock word n v nobody older) replaced (below (store_at log n).replaced nobody older rest)) (shown.own le (words ∙ is'));
  near = λ le apart here. shows-marked log' from clock word n value actor (also (store_at log n).flushed nobody) (also (store_at log' n).flushed nobody) history more
      (below value (also (store_at log n).flushed nobody) history (shown.near le (λ e. apart (sym words ∙ e)) line));
  far = λ le away. absurd (away (ap (λ (w : ℕ). w / 8) (sym words) ∙ line));
}
  where
    more : (other : ℕ) → other < 64 → also (store_at log' n).flushed nobody other ≡ ((other == actor) || also (store_at log n).flushed nobody other)
    more other lt = ap (λ (b : Bool). b || false) (marks other lt) ∙ or_last (other == actor) (bit_at (store_at log n).flushed other == 1)
      where
        or_last : (x b : Bool) → ((x || b) || false) ≡ (x || (b || false))
        or_last true b = refl
        or_last false b = refl

    below : (v : ℕ) (actors : ℕ → Bool) (older : List Entry) → Shows log from clock word n v actors older → Shows log' from clock word n v actors older
    below v actors older rest = shows-like log log' from clock clock word n v actors actors older (omega arith) (λ k from_k lt. (ap (λ (s : Stored). s.word) (same k lt), λ e. same k lt)) (λ other lt. refl) rest

-- ---- a fence

-- by an actor who is noted above
pub shows-taken : (log : List Stored) (from clock word n value actor : ℕ) (actors : ℕ → Bool) (history : List Entry) → actor < 64 → actors actor ≡ true
    → Shows log from clock word n value actors history → IsSettled clock value (persisted actor clock history)
shows-taken log from clock word zero value actor actors history small by shown = settled_persisted clock value actor history shown
shows-taken log from clock word (suc n) value actor actors history small by shown = grind (arith, shows-taken log from clock word n value actor (also (store_at log n).flushed actors) history small, shows-taken log from clock word n value actor actors history small)

-- whose mark the store has
shows-at : (log : List Stored) (from clock word n value actor : ℕ) (actors : ℕ → Bool) (history : List Entry) → actor < 64 → from ≤ n → (store_at log n).word / 8 ≡ word / 8 → bit_at (store_at log n).flushed actor ≡ 1
    → Shows log from clock word (suc n) value actors history → IsSettled clock value (persisted actor clock history)
shows-at log from clock word n value actor actors history small in_span line mark shown = grind (arith, shows-taken)

-- down to the place at which what is older is settled
shows-cut : (log : List Stored) (from cut clock word n value actor : ℕ) (actors : ℕ → Bool) (history : List Entry) → actor < 64 → from ≤ cut → actors actor ≡ false
    → ((v : ℕ) (seen : ℕ → Bool) (older : List Entry) → Shows log from clock word cut v seen older → IsSettled clock v (persisted actor clock older))
    → cut ≤ n → NoneTakenIn log actor (word / 8) cut n
    → Shows log from clock word n value actors history → Shows log cut clock word n value actors (persisted actor clock history)
shows-cut log from cut clock word zero value actor actors history small after untold ends up none shown = grind (arith)
shows-cut log from cut clock word (suc n) value actor actors history small after untold ends up none shown = elim (cases_lt n cut) [
  | inl lt ↦
      let same : suc n ≡ cut = omega (arith, up, lt) in
      settled-shows log cut clock word (suc n) value actors _ (omega (arith, lt)) (ends value actors history (subst (λ (k : ℕ). Shows log from clock word k value actors history) same shown))
  | inr le ↦ record {
    settled = λ lt. absurd (omega (arith, le, lt));
    own = λ in_span is. open_passed clock value actor (also (store_at log n).flushed actors) _ _ history small (still le (ap (λ (w : ℕ). w / 8) is))
        (λ older. shows-cut log from cut clock word n (store_at log n).replaced actor nobody older small after refl ends le (λ k low lt. none k low (omega (arith, lt)))) (shown.own (omega (arith, after, le)) is);
    near = λ in_span apart line. shows-cut log from cut clock word n value actor (also (store_at log n).flushed actors) history small after (still le line) ends le (λ k low lt. none k low (omega (arith, lt))) (shown.near (omega (arith, after, le)) apart line);
    far = λ in_span away. shows-cut log from cut clock word n value actor actors history small after untold ends le (λ k low lt. none k low (omega (arith, lt))) (shown.far (omega (arith, after, le)) away);
  }
]
  where
    still : cut ≤ n → (store_at log n).word / 8 ≡ word / 8 → also (store_at log n).flushed actors actor ≡ false
    still le line = (λ i. ne_eqb (bit_at (store_at log n).flushed actor) 1 (none n le (omega arith) line) i || untold i)

-- if nothing is taken
pub shows-passed : (log : List Stored) (from clock word n value actor : ℕ) (history : List Entry) → actor < 64 → NoneTakenIn log actor (word / 8) from n
    → Shows log from clock word n value nobody history → Shows log from clock word n value nobody (persisted actor clock history)
shows-passed log from clock word n value actor history small none shown = grind (arith, shows-settled, shows-cut)

-- and if this is the newest that is
pub shows-persisted : (log : List Stored) (from clock word place n value actor : ℕ) (history : List Entry) → actor < 64 → from < place → place ≤ n
    → (store_at log (place - 1)).word / 8 ≡ word / 8 → bit_at (store_at log (place - 1)).flushed actor ≡ 1 → NoneTakenIn log actor (word / 8) place n
    → Shows log from clock word n value nobody history → Shows log place clock word n value nobody (persisted actor clock history)
shows-persisted log from clock word place n value actor history small after up line mark none shown =
    let next : place ≡ suc (place - 1) = omega (arith, after) in
    shows-cut log from place clock word n value actor nobody history small (omega (arith, after)) refl
    (λ v seen older rest. shows-at log from clock word (place - 1) v actor seen older small (omega (arith, after)) line mark (subst (λ (k : ℕ). Shows log from clock word k v seen older) next rest)) up none shown

-- ---- its survivors

newest_settled : (clock value : ℕ) (history : List Entry) → IsSettled clock value history → newest history ≡ value
newest_settled clock value [] is = absurd is
newest_settled clock value (entry ∷ older) is = is.0

pub shows-newest : (log : List Stored) (from clock word n value : ℕ) (actors : ℕ → Bool) (history : List Entry) → Shows log from clock word n value actors history → newest history ≡ value
shows-newest log from clock word zero value actors history shown = newest_settled clock value history shown
shows-newest log from clock word (suc n) value actors history shown = grind (arith, shows-newest log from clock word n value)

pub survivors_settled : (clock value : ℕ) (history : List Entry) → IsSettled clock value history → survivors_in history ≡ value ∷ []
survivors_settled clock value [] is = absurd is
survivors_settled clock value (entry ∷ older) is = (λ i. is.0 i ∷ cond (is.1 i) [] (survivors_in older))

-- what is older, of a value that isn't persisted
pub record Older (clock value : ℕ) (rest : List Entry → Type 0) (history : List Entry) : Type 0 where
  pub older : List Entry
  pub rests : rest older
  pub survivors : survivors_in history ≡ value ∷ survivors_in older

older_of : (clock value : ℕ) (flushed : ℕ → Bool) (rest : List Entry → Type 0) (history : List Entry) → IsOpen clock value flushed rest history → Older clock value rest history
older_of clock value flushed rest [] is = absurd is
older_of clock value flushed rest (entry ∷ older) is = record { older = older; rests = is.4; survivors = (λ i. is.0 i ∷ cond (is.1 i) [] (survivors_in older)) }

-- this many of the word's survivors are newer than those that the first stores show
pub record IsAfter (log : List Stored) (from clock word place value newer : ℕ) (whole : List Entry) : Type 0 where
  pub actors : ℕ → Bool
  pub older : List Entry
  pub shown : Shows log from clock word place value actors older
  pub count : length (survivors_in whole) ≡ newer + length (survivors_in older)
  pub each : (k : ℕ) → get_or (survivors_in whole) (newer + k) 0 ≡ get_or (survivors_in older) k 0

-- there is such a value
pub record IsAfterSome (log : List Stored) (from clock word place newer : ℕ) (whole : List Entry) : Type 0 where
  pub value : ℕ
  pub after : IsAfter log from clock word place value newer whole

pub after_own : (log : List Stored) (from clock word n value newer : ℕ) (whole : List Entry) → from ≤ n → (store_at log n).word ≡ word → IsAfter log from clock word (suc n) value newer whole
    → IsAfter log from clock word n (store_at log n).replaced (newer + 1) whole
after_own log from clock word n value newer whole in_span is after =
    let o = older_of clock value (also (store_at log n).flushed after.actors) (Shows log from clock word n (store_at log n).replaced nobody) after.older (after.shown.own in_span is) in
    record {
      actors = nobody;
      older = o.older;
      shown = o.rests;
      count = omega (arith, after.count, ap (length {A = ℕ}) o.survivors);
      each = λ k.
          let z : (newer + 1) + k ≡ newer + suc k = omega arith in
          ap (λ (n : ℕ). get_or (survivors_in whole) n 0) z ∙ after.each (suc k) ∙ ap (λ (l : List ℕ). get_or l (suc k) 0) o.survivors;
    }

pub after_other : (log : List Stored) (from clock word n value newer : ℕ) (whole : List Entry) → from ≤ n → (store_at log n).word ≢ word → IsAfter log from clock word (suc n) value newer whole
    → IsAfter log from clock word n value newer whole
after_other log from clock word n value newer whole in_span apart after = grind (arith)

pub after_all : (log : List Stored) (from clock word place value newer : ℕ) (whole : List Entry) → place ≤ from → IsAfter log from clock word place value newer whole → length (survivors_in whole) ≡ newer + 1
after_all log from clock word place value newer whole le after = grind (arith)

head_settled : (clock value : ℕ) (history : List Entry) → IsSettled clock value history → get_or (survivors_in history) 0 0 ≡ value
head_settled clock value history is = ap (λ (l : List ℕ). get_or l 0 0) (survivors_settled clock value history is)

head_shown : (log : List Stored) (from clock word n value : ℕ) (actors : ℕ → Bool) (history : List Entry) → Shows log from clock word n value actors history → get_or (survivors_in history) 0 0 ≡ value
head_shown log from clock word zero value actors history shown = head_settled clock value history shown
head_shown log from clock word (suc n) value actors history shown = grind (arith, head_shown log from clock word n value)

pub after_value : (log : List Stored) (from clock word place value newer : ℕ) (whole : List Entry) → IsAfter log from clock word place value newer whole → get_or (survivors_in whole) newer 0 ≡ value
after_value log from clock word place value newer whole after = grind (arith, head_shown)

-- a word has no more survivors than there are stores, and one
pub survivors-few : (log : List Stored) (from clock word n value : ℕ) (actors : ℕ → Bool) (history : List Entry) → Shows log from clock word n value actors history → length (survivors_in history) ≤ n + 1
survivors-few log from clock word zero value actors history shown = omega (arith, ap (length {A = ℕ}) (survivors_settled clock value history shown))
survivors-few log from clock word (suc n) value actors history shown = elim (level_cases from clock word n value actors (store_at log n) (Shows log from clock word n) history shown) [
  | inl is ↦ omega (arith, ap (length {A = ℕ}) (survivors_settled clock value history is))
  | inr (inl own) ↦
      let o = older_of clock value _ (Shows log from clock word n (store_at log n).replaced nobody) history own.1 in
      omega (arith, ap (length {A = ℕ}) o.survivors, survivors-few log from clock word n (store_at log n).replaced nobody o.older o.rests)
  | inr (inr other) ↦ omega (arith, survivors-few log from clock word n value other.1.actors history other.1.shown)
]
