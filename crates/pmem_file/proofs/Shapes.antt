-- Which shape the words of a file have.
use Rattle.std.proofs.Common.{◌≡◌, ◌≢◌, ◌⊎◌, inl, inr, ℕ, ◌+◌, ◌-◌, ◌*◌, ◌^◌, ◌<◌, ◌≤◌, true, List, Option, Result, Ok, Err, None, Some, IfOk, IfNone, IfSome, IsTrue, OnSome, length, take, drop, replicate, get_or, refl, sym, ◌∙◌, ap, subst, arith}
use Rattle.std.proofs.lemmas.Bool.{and_parts, eqb-true}
use Rattle.std.proofs.lemmas.List.{append-nil, length-drop, length-take, length-replicate, get_or-drop, get_or-take, get_or-replicate, get_or_append_left, get_or-append_right, take_all}
use Rattle.std.specs.Option.{option_or}
use Rattle.std.specs.declared.io.Error.{Error}
use Rattle.base.specs.Images.{layout_of, has_good_geometry}
use Rattle.base.specs.Layout.{Layout, is_in_limits, slot_start, slot_words, total_words}
use Rattle.base.proofs.Layouts.{in-limits, line-words}
use Rattle.journal.specs.Files.{magic, HasTail, IsFile, Opens}
use Rattle.journal.proofs.Files.{lines-off, opens-off, opens-one}
use Rattle.journal.proofs.Tails.{named_one}
use Rattle.log_area.specs.Rulings.{IsLaidOut}
use Rattle.pmem_file.specs.declared.shape.Shape.{Shape}
use Rattle.pmem_file.specs.Journaled.{places_named}
use Rattle.pmem_file.proofs.Named.{named-of}
use Rattle.pmem_file.specs.Shapes.{IsBlank, IsImageOf, HasItsPlaces, HasShape, IsMadeFor, IsGrown, IsGrowing, IsNothingBehind, IsOurs, KeepsNames, room_made, room_needed, room_older, whole, padded}

zero-magic : 0 ≢ magic
zero-magic e = omega (arith, e)

-- ---- the length

good-length : (image : List ℕ) → has_good_geometry image ≡ true → length image ≡ total_words (layout_of image)
good-length image good = grind (arith, and_parts, eqb-true)

good-size : (image : List ℕ) → has_good_geometry image ≡ true → length image ≡ get_or image 5 0
good-size image good = grind (arith, and_parts, eqb-true)

image-length : (asked : Option Layout) (a : Layout) (words : List ℕ) → IsImageOf asked a words → length words ≡ total_words a
image-length asked a words (inl laid) = good-length words laid.geometry ∙ ap total_words laid.laid_out
image-length asked a words (inr (is, blank)) = blank.size

-- ---- what padded words stand for

exact : (shape : Shape) (words : List ℕ) → length words ≡ whole shape → padded shape words ≡ words
exact shape words size = grind (arith, append-nil)

-- the image is in place, and the tail doesn't count
off : (shape : Shape) (words image : List ℕ) → length image ≡ shape.words → ((word : ℕ) → word < shape.words → get_or (padded shape words) word 0 ≡ get_or image word 0)
    → get_or (padded shape words) (shape.words + shape.room) 0 ≡ 0 → Opens shape.words shape.room (padded shape words) image
off shape words image size place none =
    opens-off shape.words shape.room (padded shape words) image size place (lines-off shape.words shape.room (padded shape words) (λ e. zero-magic (sym none ∙ e)))

pub past : (shape : Shape) (words : List ℕ) (word : ℕ) → length words ≤ word → word < whole shape → get_or (padded shape words) word 0 ≡ 0
past shape words word le lt = grind (arith, get_or-append_right, get_or-replicate)

-- an image alone
pub alone : (asked : Option Layout) (a : Layout) (words : List ℕ) (shape : Shape) → IsImageOf asked a words → IsMadeFor a shape → HasShape asked words shape
alone asked a words shape is made = grind (arith, image-length, off, get_or_append_left, past)

-- nothing at all
pub nothing : (asked : Layout) (words : List ℕ) (shape : Shape) → length words ≡ 0 → IsMadeFor asked shape → HasShape (Some asked) words shape
nothing asked words shape none made =
    let image : List ℕ = replicate shape.words 0 in
    let zero-at : (word : ℕ) → word < shape.words → get_or image word 0 ≡ 0 = λ word lt. get_or-replicate shape.words word 0 0 lt in
    let size : length image ≡ shape.words = length-replicate {A = ℕ} shape.words 0 in
    let some : 8 ≤ shape.words = omega (arith, made.words_are) in
    let all : (word : ℕ) → word < whole shape → get_or (padded shape words) word 0 ≡ 0 = λ word lt. past shape words word (omega (arith, none)) lt in
    record {
      fits = made.fits;
      within = omega (arith, none);
      image = image;
      opens = off shape words image size (λ word lt. all word (omega (arith, lt)) ∙ sym (zero-at word lt)) (all (shape.words + shape.room) (omega arith));
      has_places = record {
        layout = asked;
        image = inr (
          refl,
          record {
            size = size ∙ made.words_are;
            first = zero-at 0 (omega (arith, some));
            slots = λ word past lt. zero-at word (omega (arith, lt, made.words_are));
          },
        );
        places_are = made.places_are;
      };
    }

-- an image with a journal
pub journaled : (asked : Option Layout) (a : Layout) (words image : List ℕ) (shape : Shape) → whole shape < 2 ^ 58 → length words ≡ whole shape → Opens shape.words shape.room words image
    → IsImageOf asked a image → shape.places ≡ a.places → HasShape asked words shape
journaled asked a words image shape fits size opens is places_are = grind (arith, exact)

-- an image behind which nothing counts yet
pub growing : (asked : Option Layout) (a : Layout) (words image : List ℕ) (shape : Shape) → whole shape < 2 ^ 58 → length words ≡ whole shape → length image ≡ shape.words
    → ((word : ℕ) → word < shape.words → get_or words word 0 ≡ get_or image word 0) → get_or words (shape.words + shape.room) 0 ≡ 0
    → IsImageOf asked a image → shape.places ≡ a.places → HasShape asked words shape
growing asked a words image shape fits size length_is place none is places_are =
    journaled asked a words image shape fits size
    (opens-off shape.words shape.room words image length_is place (lines-off shape.words shape.room words (λ e. zero-magic (sym none ∙ e))))
    is places_are

-- ---- nothing was ever kept

pub blank : (a : Layout) (image : List ℕ) (start : ℕ) → length image ≡ total_words a → get_or image 0 0 ≡ 0 → start ≡ slot_start a 0
    → ((word : ℕ) → word < length (take (length image - start) (drop start image)) → get_or (take (length image - start) (drop start image)) word 0 ≡ 0) → IsBlank a image
blank a image start size first is zeros = record {
  size = size;
  first = first;
  slots = λ word le lt.
      let here : word ≡ start + (word - start) = omega (arith, is, le) in
      let below : word - start < length image - start = omega (arith, is, le, lt, size) in
      ap (λ (n : ℕ). get_or image n 0) here ∙ sym (get_or-drop start image (word - start) 0) ∙ sym (get_or-take (length image - start) (drop start image) (word - start) 0 below)
      ∙ zeros (word - start) (omega (arith, length-take (length image - start) (drop start image), length-drop start image, below));
}

pub blank-zeros : (a : Layout) (image : List ℕ) (start : ℕ) → IsBlank a image → start ≡ slot_start a 0 → (word : ℕ) → word < length (take (length image - start) (drop start image))
    → get_or (take (length image - start) (drop start image)) word 0 ≡ 0
blank-zeros a image start is at word lt = grind (arith, get_or-drop, get_or-take, length-take, length-drop)

-- ---- behind an image

pub behind-drop : (room : ℕ) (behind : List ℕ) → length behind ≡ room + 8 → take (length behind - room) (drop room behind) ≡ drop room behind
behind-drop room behind size = grind (arith, take_all, length-drop)

-- ---- which words are of no file of ours

-- a file has one tail
one-tail : (words : List ℕ) (size room size' room' : ℕ) → IsFile size room (length words) → IsFile size' room' (length words) → HasTail size room words → HasTail size' room' words → (size ≡ size') × (room ≡ room')
one-tail words size room size' room' file file' tail tail' =
    let end : size + room ≡ size' + room' = omega (arith, file.size, file'.size) in
    (sym tail.words_named ∙ ap (λ (n : ℕ). get_or words (n + 1) 0) end ∙ tail'.words_named, sym tail.room_named ∙ ap (λ (n : ℕ). get_or words (n + 2) 0) end ∙ tail'.room_named)

-- a word of the tail of a file that was being made longer
tail-word : (words : List ℕ) (size room word : ℕ) → get_or (drop room (drop size words)) word 0 ≡ get_or words (size + room + word) 0
tail-word words size room word = get_or-drop room (drop size words) word 0 ∙ get_or-drop size words (room + word) 0 ∙ ap (λ (n : ℕ). get_or words n 0) (omega arith)

of-two : (size room size' room' : ℕ) → size + room ≡ size' + room' → 8 ≤ size' → (size ≡ 0) ⊎ (size ≡ size') → (room ≡ 0) ⊎ (room ≡ room') → (size ≡ size') × (room ≡ room')
of-two size room size' room' sum some (inl a) (inl b) = absurd (omega (arith, sum, some, a, b))
of-two size room size' room' sum some (inl a) (inr b) = absurd (omega (arith, sum, some, a, b))
of-two size room size' room' sum some (inr a) (inl b) = (a, omega (arith, sum, a, b))
of-two size room size' room' sum some (inr a) (inr b) = (a, b)

-- if a file that was being made longer ends with a tail already, it is that of its shape
growing-tail : (asked : Option Layout) (words : List ℕ) (size room : ℕ) → IsFile size room (length words) → HasTail size room words → (g : IsGrowing asked words) → (size ≡ total_words g.layout) × (room ≡ g.room)
growing-tail asked words size room file tail g =
    let end : size + room ≡ total_words g.layout + g.room = omega (arith, file.size, g.size) in
    let eight : length (drop g.room (drop (total_words g.layout) words)) ≡ 8 = grind (arith, length-drop, g.size) in
    of-two size room (total_words g.layout) g.room end (omega arith)
    (named size 1 (tail-word words (total_words g.layout) g.room 1 ∙ sym (ap (λ (n : ℕ). get_or words (n + 1) 0) end) ∙ tail.words_named) (g.behind.tail.names 1 (omega (arith, eight))))
    (named room 2 (tail-word words (total_words g.layout) g.room 2 ∙ sym (ap (λ (n : ℕ). get_or words (n + 2) 0) end) ∙ tail.room_named) (g.behind.tail.names 2 (omega (arith, eight))))
  where
    named : (x word : ℕ) {name : ℕ} → get_or (drop g.room (drop (total_words g.layout) words)) word 0 ≡ x → (get_or (drop g.room (drop (total_words g.layout) words)) word 0 ≡ 0) ⊎ (get_or (drop g.room (drop (total_words g.layout) words)) word 0 ≡ name)
        → (x ≡ 0) ⊎ (x ≡ name)
    named x word is (inl zero) = inl (sym is ∙ zero)
    named x word is (inr name) = inr (sym is ∙ name)

-- the words are an image of one layout
pub image-one : (asked : Option Layout) (a b : Layout) (words : List ℕ) → IsImageOf asked a words → IsImageOf asked b words → a ≡ b
image-one asked a b words (inl laid) (inl other) = sym laid.laid_out ∙ other.laid_out
image-one asked a b words (inl laid) (inr (is, blank)) = absurd (grind (arith, and_parts, eqb-true, laid.formatted, blank.first))
image-one asked a b words (inr (is, blank)) (inl laid) = absurd (grind (arith, and_parts, eqb-true, laid.formatted, blank.first))
image-one asked a b words (inr (is, blank)) (inr (is', blank')) = cc (sym is ∙ is')

-- a journal has the room that it needs, however it was made
made-entry : (a : Layout) (room : ℕ) → (room ≡ room_made a) ⊎ (room ≡ room_older a) → room_needed a ≤ room
made-entry a room (inl now) = grind (arith, now)
made-entry a room (inr older) = grind (arith, older)

pub older_enough : (a : Layout) → room_needed a ≤ room_older a
older_enough a = made-entry a (room_older a) (inr refl)

pub no-ours-tail : (asked : Option Layout) (words : List ℕ) (size room : ℕ) → ((own : Layout) → ¬ IsImageOf asked own words) → IsFile size room (length words) → HasTail size room words
    → ((image : List ℕ) (own : Layout) → room_needed own ≤ room → Opens size room words image → ¬ IsImageOf asked own image) → ¬ IsOurs asked words
no-ours-tail asked words size room whole_not file tail none ours = elim ours [
  | inl one ↦ whole_not one.0 one.1
  | inr (inl j) ↦ (let same = one-tail words size room j.size j.room file j.is_file tail j.tail in moved j.size j.room same.0 same.1 j.image j.layout j.entry j.opens j.image_is)
  | inr (inr g) ↦ (let same = growing-tail asked words size room file tail g in
      moved (total_words g.layout) g.room same.0 same.1 (take (total_words g.layout) words) g.layout (made-entry g.layout g.room g.made) (grown-opens g) g.image_is)
]
  where
    None : ℕ → ℕ → Type 0
    None size room = (image : List ℕ) (own : Layout) → room_needed own ≤ room → Opens size room words image → ¬ IsImageOf asked own image

    moved : (size' room' : ℕ) → size ≡ size' → room ≡ room' → None size' room'
    moved size' room' s r = subst (λ (n : ℕ). None n room') s (subst (λ (n : ℕ). None size n) r none)

    grown-opens : (g : IsGrowing asked words) → Opens (total_words g.layout) g.room words (take (total_words g.layout) words)
    grown-opens g =
        let T = total_words g.layout in
        opens-off T g.room words (take T words) (grind (arith, length-take, g.size)) (λ word lt. sym (get_or-take T words word 0 lt))
        (lines-off T g.room words (λ e. zero-magic (sym (sym (tail-word words T g.room 0) ∙ g.behind.tail.first) ∙ ap (λ (n : ℕ). get_or words n 0) (omega arith) ∙ e)))

pub no-ours : (asked : Option Layout) (words : List ℕ) → ((own : Layout) → ¬ IsImageOf asked own words) → ((size room : ℕ) → IsFile size room (length words) → HasTail size room words → ⊥) → ¬ IsGrowing asked words
    → ¬ IsOurs asked words
no-ours asked words whole_not untailed growing (inl (own, is)) = whole_not own is
no-ours asked words whole_not untailed growing (inr (inl j)) = untailed j.size j.room j.is_file j.tail
no-ours asked words whole_not untailed growing (inr (inr g)) = growing g

head-layout : (n : ℕ) (words : List ℕ) → 8 ≤ n → layout_of (take n words) ≡ layout_of words
head-layout n words some = grind (arith, get_or-take)

-- if its image is laid out, its words name a layout
growing-limits : (a : Layout) (words : List ℕ) → total_words a ≤ length words → IsLaidOut a (take (total_words a) words) → (5 ≤ length words) × (is_in_limits (layout_of words) ≡ true)
growing-limits a words le laid =
    (omega (arith, le), subst (λ (l : Layout). is_in_limits l ≡ true) (head-layout (total_words a) words (omega arith)) (grind (arith, and_parts, laid.geometry)))

-- no shape is found that these words, with this journal, have
abbrev NoneOf : Option Layout → List ℕ → ℕ → ℕ → Type 0
NoneOf asked words size room = (own : Layout) → length words ≡ size + room + 8 → IsNothingBehind size room (drop size words) → ¬ IsImageOf asked own (take size words)

pub no-growing : (asked : Option Layout) (own : Layout) (words : List ℕ) (new older : Shape) → ((g : IsGrowing asked words) → own ≡ g.layout) → IsMadeFor own new → new.room ≡ room_made own → IsMadeFor own older
    → older.room ≡ room_older own → NoneOf asked words new.words new.room → NoneOf asked words older.words older.room → ¬ IsGrowing asked words
no-growing asked own words new older is made room made' room' none none' g =
    let size : total_words own ≡ total_words g.layout = ap total_words (is g) in
    elim g.made [
      | inl now ↦ against new (made.words_are ∙ size) (room ∙ ap room_made (is g) ∙ sym now) none
      | inr before ↦ against older (made'.words_are ∙ size) (room' ∙ ap room_older (is g) ∙ sym before) none'
    ]
  where
    against : (shape : Shape) → shape.words ≡ total_words g.layout → shape.room ≡ g.room → NoneOf asked words shape.words shape.room → ⊥
    against shape w r none =
        subst (λ (n : ℕ). NoneOf asked words n g.room) w (subst (λ (n : ℕ). NoneOf asked words shape.words n) r none) g.layout g.size g.behind g.image_is

-- behind the image that the superblock names a journal was being made
pub grown : (words : List ℕ) (own : Layout) (shape : Shape) → own ≡ layout_of words → IsTrue (is_in_limits (layout_of words)) → IsMadeFor own shape
    → (shape.room ≡ room_made own) ⊎ (shape.room ≡ room_older own) → length words ≡ whole shape → IsNothingBehind shape.words shape.room (drop shape.words words) → IsGrown shape.words words
grown words own shape is limits made room size behind = record {
  some = omega (arith, size);
  limits = limits;
  size_is = made.words_are ∙ ap total_words is;
  room = shape.room;
  made = elim room [
    | inl now ↦ inl (now ∙ ap room_made is)
    | inr older ↦ inr (older ∙ ap room_older is)
  ];
  whole_is = size;
  behind = behind;
}

-- behind the image that the superblock names nothing was being made
pub ungrown : (words : List ℕ) (own : Layout) (new older : Shape) → own ≡ layout_of words → IsMadeFor own new → new.room ≡ room_made own → IsMadeFor own older → older.room ≡ room_older own
    → ((length words ≡ whole new) × IsNothingBehind new.words new.room (drop new.words words) → ⊥) → ((length words ≡ whole older) × IsNothingBehind older.words older.room (drop older.words words) → ⊥)
    → (size : ℕ) → ¬ IsGrown size words
ungrown words own new older is made room made' room' none none' size g =
    let size_is : total_words own ≡ size = ap total_words is ∙ sym g.size_is in
    elim g.made [
      | inl now ↦ against new (made.words_are ∙ size_is) (room ∙ ap room_made is ∙ sym now) none
      | inr before ↦ against older (made'.words_are ∙ size_is) (room' ∙ ap room_older is ∙ sym before) none'
    ]
  where
    against : (shape : Shape) → shape.words ≡ size → shape.room ≡ g.room → ((length words ≡ whole shape) × IsNothingBehind shape.words shape.room (drop shape.words words) → ⊥) → ⊥
    against shape w r none = none (
      g.whole_is ∙ (λ i. sym w i + sym r i + 8),
      subst (λ (n : ℕ). IsNothingBehind n shape.room (drop n words)) (sym w) (subst (λ (n : ℕ). IsNothingBehind size n (drop size words)) (sym r) g.behind),
    )

-- the layout for which a shape is looked for is that of the image
pub own-of : (asked found : Option Layout) (words : List ℕ) → IfSome found (λ own. own ≡ layout_of words) → OnSome found (IsTrue (is_in_limits (layout_of words)))
    → IfNone found (5 ≤ length words → ¬ IsTrue (is_in_limits (layout_of words))) → (g : IsGrowing asked words) → option_or found asked ≡ Some g.layout
own-of asked (Some own) words some limits none g = ap Some (some ∙ g.named limits)
own-of asked None words some limits none g = elim g.image_is [
  | inl laid ↦ (let named = growing-limits g.layout words (omega (arith, g.size)) laid in absurd (none named.0 named.1))
  | inr one ↦ one.0
]

pub none-of : {P Q : Type 0} (found : Result (Option Shape) Error) → (P → Q) → IfOk found (λ o. IfNone o P) → IfOk found (λ o. IfNone o Q)
none-of (Ok (Some shape)) to none = tt
none-of (Ok None) to none = to none
none-of (Err error) to none = tt

pub none-growing : {P Q : Type 0} (found : Option Shape) → (P → Q) → IfNone found P → IfNone found Q
none-growing (Some shape) to none = tt
none-growing None to none = to none

-- ---- the words and the room that a tail names

pub names-alone : (asked : Option Layout) (own : Layout) (file : List ℕ) (shape : Shape) → IsImageOf asked own file → KeepsNames asked file shape
names-alone asked own file shape is size room sized tail not_alone = absurd (not_alone own is)

-- the last eight words of an image alone are a slot's
slot-words : (a : Layout) → is_in_limits a ≡ true → slot_start a 0 + 8 ≤ total_words a
slot-words a limits =
    let some : 1 ≤ a.slots = (in-limits a limits).slots.0 in
    omega (arith, times (slot_words a.version) a.slots (line-words a.version) some)
  where
    times : (n count : ℕ) → 8 ≤ n → 1 ≤ count → 8 ≤ n * count
    times n count eight some = grind (arith, eight, some)

-- a file with a tail, whose superblock doesn't name the whole file, is not an image alone
pub not-whole : (asked : Option Layout) (own : Layout) (file : List ℕ) (size room : ℕ) → length file ≡ size + room + 8 → 5 < size → get_or file 5 0 ≢ size + room + 8 → HasTail size room file
    → (asked ≡ Some own → is_in_limits own ≡ true) → ¬ IsImageOf asked own file
not-whole asked own file size room sized some less tail limits (inl laid) = less (sym (good-size file laid.geometry) ∙ sized)
not-whole asked own file size room sized some less tail limits (inr (is, blank)) =
    let within = slot-words own (limits is) in
    omega (arith, some, tail.words_named, blank.slots (size + room + 1) (omega (arith, within, sized, blank.size)) (omega (arith, sized, blank.size)))

pub names-tail : {E : Type 0} (asked : Option Layout) (file : List ℕ) (a b : ℕ) (found : Result (Option Shape) E) → IsFile a b (length file) → HasTail a b file
    → IfOk found (λ o. IfSome o (λ shape. (shape.words ≡ a) × (shape.room ≡ b))) → IfOk found (λ o. IfSome o (KeepsNames asked file))
names-tail asked file a b (Ok (Some shape)) sized tail is = λ size room other named not_alone.
    let one = named_one size room a b file other named sized tail in
    (is.0 ∙ one.0, is.1 ∙ one.1)
names-tail asked file a b (Ok None) sized tail is = tt
names-tail asked file a b (Err error) sized tail is = tt

pub names-none : (asked : Option Layout) (file : List ℕ) (found : Option Shape) → ((size room : ℕ) → IsFile size room (length file) → HasTail size room file → ⊥) → IfSome found (KeepsNames asked file)
names-none asked file (Some shape) none = λ size room sized tail not_alone. absurd (none size room sized tail)
names-none asked file None none = tt

pub names_nothing : (asked : Option Layout) (file : List ℕ) (shape : Shape) → length file ≡ 0 → KeepsNames asked file shape
names_nothing asked file shape nothing size room sized tail not_alone = omega (arith, nothing, sized.size)

-- no words are those of a file of ours only where a layout is asked for
pub no-ours-empty : (asked : Option Layout) (words : List ℕ) → asked ≡ None → length words ≡ 0 → ¬ IsOurs asked words
no-ours-empty asked words is none (inl (own, inl laid)) = omega (arith, none, good-length words laid.geometry)
no-ours-empty asked words is none (inl (own, inr (same, blank))) = absurd (cc (sym is ∙ same))
no-ours-empty asked words is none (inr (inl j)) = omega (arith, none, j.is_file.size)
no-ours-empty asked words is none (inr (inr g)) = omega (arith, none, g.size)

-- ---- a device that begins with such words

pub begun : (asked : Option Layout) (words : List ℕ) (shape : Shape) (image : List ℕ) (places : ℕ) → HasShape asked words shape → Opens shape.words shape.room (padded shape words) image → places ≡ places_named image shape.places
    → HasItsPlaces asked image places
begun asked words shape image places has opens is =
    let named = has.has_places in
    let image_is : IsImageOf asked named.layout image = subst (λ (l : List ℕ). IsImageOf asked named.layout l) (opens-one shape.words shape.room (padded shape words) has.image image has.opens opens) named.image in
    record { layout = named.layout; image = image_is; places_are = is ∙ named-of asked named.layout image shape.places image_is named.places_are }
