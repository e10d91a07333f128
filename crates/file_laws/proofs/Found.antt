-- What is found stands for the same as what a crash at that very moment leaves: the image with the found one's superblock and gates, and the
-- newest value of every other word, is one that a crash then may leave, and has the same greatest gate.
use Rattle.std.proofs.Common.{◌≡◌, ◌⊎◌, inl, inr, ℕ, ◌+◌, ◌*◌, ◌/◌, ◌%◌, ◌<◌, ◌≤◌, max, Bool, true, false, cond, not, ◌&&◌, ◌||◌, List, [], ◌∷◌, length, map, fold, get_or, refl, sym, ◌∙◌, ap, subst, arith, lit<, nat_eq, nat_lt, nat_le}
use Rattle.std.specs.Prelude.{IsTrue, Contains, slice_index}
use Rattle.std.specs.List.{range_with_len, list_all}
use Rattle.std.proofs.Math.ListN.{get_or-eq_default}
use Rattle.std.proofs.lemmas.Nat.{mod_below}
use Rattle.std.proofs.lemmas.Bool.{and_parts, and_from, or_cases, or_right, cases_lt, ltb-true, ltb-false, lt-ltb, eq-eqb, eqb-true, true≢false}
use Rattle.std.proofs.lemmas.List.{ext_get_or}
use Rattle.std.proofs.lemmas.List.FromFn.{length-map-range_with_len, get_or-map-range_with_len}
use Rattle.base.specs.Layout.{Layout, place_start, is_in_limits}
use Rattle.base.specs.Records.{Record, record_in, is_committed}
use Rattle.base.specs.Images.{Image, superblock_word, layout_of, is_formatted, gate_at, place_words, greatest_gate, ruling_place, ruling}
use Rattle.base.specs.Stands.{has_timestamp}
use Rattle.base.proofs.Layouts.{in-limits}
use Rattle.base.proofs.Spelling.{get_or-range}
use Rattle.machine.specs.Machine.{State, Cover, drawn_of, StandsAsOne, StandsUnder}
use Rattle.machine.proofs.openings.States.{whole-of, size-of}
use Rattle.pmem.specs.Device.{Device, Entry, survivors_at, IsAmong, LeftAt}
use Rattle.file_laws.specs.Found.{IsFound, StandsFor}

-- ---- one word

-- its newest value at that moment
abbrev newest_at : ℕ → List Entry → ℕ
newest_at moment [] = 0
newest_at moment (entry ∷ older) = cond (nat_lt moment entry.born) (newest_at moment older) entry.value

-- where something might have been left earlier, that may be left
newest-left : (early moment : ℕ) (history : List Entry) (x : ℕ) → early ≤ moment → IsAmong (survivors_at early history) x → IsAmong (survivors_at moment history) (newest_at moment history)
newest-left early moment [] x le among = absurd among
newest-left early moment (entry ∷ older) x le among = grind (arith, newest-left early moment older x le, ltb-true, ltb-false)

-- ---- the image between

module _ (layout : Layout) (device : Device) (since moment : ℕ) (image : Image) (found : IsFound layout device since moment image) where
  -- a word of the superblock, or a gate
  abbrev is_gate : ℕ → Bool
  is_gate word = nat_lt word 8 || (nat_eq (word % 32) 8 && nat_lt word (8 + 32 * layout.places))

  abbrev value : ℕ → ℕ
  value word = cond (is_gate word) (slice_index image word) (newest_at moment (device.history word))

  abbrev pub mixed : Image
  mixed = map value (range_with_len 0 device.words)

  size : length mixed ≡ device.words
  size = length-map-range_with_len value 0 device.words

  word-is : (word : ℕ) → word < device.words → get_or mixed word 0 ≡ value word
  word-is word within = get_or-map-range_with_len value 0 device.words word word 0 within (omega arith)

  gate-left : (word : ℕ) → word < device.words → (nat_eq (word % 32) 8 ≡ true) × (nat_lt word (8 + 32 * layout.places) ≡ true) → IsAmong (survivors_at moment (device.history word)) (slice_index image word)
  gate-left word within both =
      let rest : word % 32 ≡ 8 = eqb-true (word % 32) 8 both.0 in
      let below : word < 8 + 32 * layout.places = ltb-true word (8 + 32 * layout.places) both.1 in
      let at : 8 + 32 * (word / 32) ≡ word = omega (arith, rest) in
      subst (λ (w : ℕ). IsAmong (survivors_at moment (device.history w)) (slice_index image w)) at (found.gates (word / 32) (omega (arith, at, below)) (omega (arith, at, within)))

  each-left : (word : ℕ) → word < device.words → IsAmong (survivors_at moment (device.history word)) (value word)
  each-left word within = by (is_gate word) refl
    where
      by : (b : Bool) → is_gate word ≡ b → IsAmong (survivors_at moment (device.history word)) (cond b (slice_index image word) (newest_at moment (device.history word)))
      by false is = newest-left found.before moment (device.history word) (slice_index image word) found.to (found.left.each word within)
      by true is = elim (or_cases (nat_lt word 8) (nat_eq (word % 32) 8 && nat_lt word (8 + 32 * layout.places)) is) [
        | inl low ↦ found.superblock word (ltb-true word 8 low) within
        | inr at ↦ gate-left word within (and_parts (nat_eq (word % 32) 8) (nat_lt word (8 + 32 * layout.places)) at)
      ]

  -- a crash then may leave it
  pub mixed-left : LeftAt device moment mixed
  mixed-left = record { size = size; each = λ word within. subst (IsAmong (survivors_at moment (device.history word))) (sym (word-is word within)) (each-left word within) }

  -- ---- what both have

  same : (word : ℕ) → is_gate word ≡ true → get_or mixed word 0 ≡ get_or image word 0
  same word is = grind (arith, cases_lt, word-is, get_or-eq_default, size)

  low : (word : ℕ) → word < 8 → is_gate word ≡ true
  low word h = ap (λ (b : Bool). b || (nat_eq (word % 32) 8 && nat_lt word (8 + 32 * layout.places))) (lt-ltb word 8 h)

  start : (place : ℕ) → place < layout.places → is_gate (place_start place) ≡ true
  start place h = or_right (nat_lt (8 + 32 * place) 8) (nat_eq ((8 + 32 * place) % 32) 8 && nat_lt (8 + 32 * place) (8 + 32 * layout.places))
      (and_from (nat_eq ((8 + 32 * place) % 32) 8) (nat_lt (8 + 32 * place) (8 + 32 * layout.places)) (eq-eqb ((8 + 32 * place) % 32) 8 (omega arith)) (lt-ltb (8 + 32 * place) (8 + 32 * layout.places) (omega (arith, h))))

  pub laid : layout_of mixed ≡ layout_of image
  laid = λ i. record { version = same 1 (low 1 (lit< tt)) i; slots = same 2 (low 2 (lit< tt)) i; places = same 3 (low 3 (lit< tt)) i; window = same 4 (low 4 (lit< tt)) i }

  pub formatted : is_formatted mixed ≡ is_formatted image
  formatted = λ i. nat_le 8 ((size ∙ sym found.left.size) i) && nat_eq (same 0 (low 0 (lit< tt)) i) superblock_word

  module _ (laid_out : layout_of mixed ≡ layout) (limits : is_in_limits layout ≡ true) where
    image-laid : layout_of image ≡ layout
    image-laid = sym laid ∙ laid_out

    gates-same : map (gate_at mixed) (range_with_len 0 layout.places) ≡ map (gate_at image) (range_with_len 0 layout.places)
    gates-same =
        ext_get_or 0 (map (gate_at mixed) (range_with_len 0 layout.places)) (map (gate_at image) (range_with_len 0 layout.places))
        (length-map-range_with_len (gate_at mixed) 0 layout.places ∙ sym (length-map-range_with_len (gate_at image) 0 layout.places)) each
      where
        each : (k : ℕ) → k < length (map (gate_at mixed) (range_with_len 0 layout.places)) → get_or (map (gate_at mixed) (range_with_len 0 layout.places)) k 0 ≡ get_or (map (gate_at image) (range_with_len 0 layout.places)) k 0
        each k h =
            let within : k < layout.places = omega (arith, h, length-map-range_with_len (gate_at mixed) 0 layout.places) in
            get_or-map-range_with_len (gate_at mixed) 0 layout.places k k 0 within (omega arith) ∙ same (place_start k) (start k within)
            ∙ sym (get_or-map-range_with_len (gate_at image) 0 layout.places k k 0 within (omega arith))

    greatest-same : greatest_gate mixed ≡ greatest_gate image
    greatest-same =
        ap (λ (l : Layout). fold max 0 (map (gate_at mixed) (range_with_len 0 l.places))) laid_out ∙ ap (λ (gates : List ℕ). fold max 0 gates) gates-same
        ∙ sym (ap (λ (l : Layout). fold max 0 (map (gate_at image) (range_with_len 0 l.places))) image-laid)

    place-same : ruling_place mixed ≡ ruling_place image
    place-same = λ i. cond (nat_eq (greatest-same i) 0) 1 (greatest-same i % (laid i).places)

    within : ruling_place image < layout.places
    within = by (nat_eq (greatest_gate image) 0)
      where
        places : (2 ≤ layout.places) × (layout.places ≤ 64)
        places = (in-limits layout limits).places

        by : (b : Bool) → cond b 1 (greatest_gate image % (layout_of image).places) < layout.places
        by true = omega (arith, places.0)
        by false = subst (λ (l : Layout). greatest_gate image % l.places < layout.places) (sym image-laid) (mod_below (greatest_gate image) layout.places (omega (arith, places.0)))

    first : (other : Image) (place : ℕ) → (record_in (place_words other place)).gate ≡ gate_at other place
    first other place =
        let at : place_start place + 0 ≡ place_start place = omega arith in
        get_or-range other (place_start place) (place_start place + 32) 0 (omega arith) ∙ ap (λ (n : ℕ). get_or other n 0) at

    -- their ruling records have one gate
    pub gate-same : (ruling mixed).gate ≡ (ruling image).gate
    gate-same = first mixed (ruling_place mixed) ∙ ap (gate_at mixed) place-same ∙ same (place_start (ruling_place image)) (start (ruling_place image) within) ∙ sym (first image (ruling_place image))

-- ---- what it stands for

-- if the image between stands for one of these covers, and the found one stands for that whose gate it has
stands-from : (q : State) (covers : List Cover) (device : Device) (since moment : ℕ) (image : Image) (found : IsFound q.layout device since moment image)
    → StandsAsOne q covers (mixed q.layout device since moment image found)
    → (is_formatted image ≡ false) ⊎ ((cover : Cover) → Contains covers cover → (ruling image).gate ≡ cover.ruled_by.gate → StandsFor cover image)
    → StandsAsOne q covers image
stands-from q covers device since moment image found (cover, has, under) (inl raw) =
    absurd (true≢false (sym (whole-of (mixed q.layout device since moment image found) under.stands.sound).formatted ∙ formatted q.layout device since moment image found ∙ raw))
stands-from q covers device since moment image found (cover, has, under) (inr means) = (cover, has, stands (means cover has gate))
  where
    limits : is_in_limits q.layout ≡ true
    limits = subst (λ (l : Layout). is_in_limits l ≡ true) under.laid_out
        (size-of (mixed q.layout device since moment image found) (whole-of (mixed q.layout device since moment image found) under.stands.sound).geometry).0

    gate : (ruling image).gate ≡ cover.ruled_by.gate
    gate = sym (gate-same q.layout device since moment image found under.laid_out limits) ∙ ap (λ (r : Record). r.gate) under.ruled

    stands : StandsFor cover image → StandsUnder q cover image
    stands for =
        let ruled : ruling (mixed q.layout device since moment image found) ≡ ruling image = under.ruled ∙ sym for.ruled in
        record {
          stands = record {
            sound = for.stands.sound;
            tables = for.stands.tables;
            covered = for.stands.covered;
            left_out = subst (λ (r : Record). IsTrue (list_all (λ commit. has_timestamp cover.commits commit.timestamp || not (is_committed r commit.timestamp)) (drawn_of q))) ruled under.stands.left_out;
            reserved = subst (λ (r : Record). q.next ≤ r.dirty) ruled under.stands.reserved;
          };
          ruled = for.ruled;
          laid_out = sym (laid q.layout device since moment image found) ∙ under.laid_out;
        }

-- so it is where each image that a crash at that moment might have left stands for one of them
pub stands-as : (q : State) (covers : List Cover) (device : Device) (since moment : ℕ) (image : Image) → IsFound q.layout device since moment image
    → ((other : Image) → LeftAt device moment other → StandsAsOne q covers other)
    → (is_formatted image ≡ false) ⊎ ((cover : Cover) → Contains covers cover → (ruling image).gate ≡ cover.ruled_by.gate → StandsFor cover image)
    → StandsAsOne q covers image
stands-as q covers device since moment image found each means =
    stands-from q covers device since moment image found (each (mixed q.layout device since moment image found) (mixed-left q.layout device since moment image found)) means
