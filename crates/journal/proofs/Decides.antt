-- The journal decides which image is found.
use Rattle.std.proofs.Common.{Result, Ok, Err, IfOk, IfErr, ◌≡◌, ◌⊎◌, inl, inr, ℕ, ◌+◌, ◌<◌, ◌≤◌, Bool, List, length, map, get_or, sym, ◌∙◌, subst, arith}
use Rattle.std.proofs.Math.Logic.{∥∥₁_elim}
use Rattle.std.proofs.Math.Nat.{ℕ_set}
use Rattle.std.proofs.lemmas.Bool.{cases_lt}
use Rattle.std.proofs.lemmas.List.{ext_get_or}
use Rattle.std.proofs.lemmas.List.FromFn.{get_or-map-range_with_len, length-map-range_with_len}
use Rattle.std.specs.List.{range_with_len}
use Rattle.journal.specs.Files.{lines_in, FoundOpens, IsFile, Opens, StandsAs}
use Rattle.journal.specs.InPlace.{put_over}
use Rattle.journal.specs.Kept.{HoldsOnly, IsFound}
use Rattle.journal.specs.Lives.{IsLeft, IsNoMore, StandsForNoOther}
use Rattle.journal.specs.Places.{PartAsBefore}
use Rattle.journal.specs.ReadBack.{IsReadWord, JournalDecides, StandsStill}
use Rattle.journal.specs.States.{Rests}
use Rattle.journal.specs.Tails.{NamesAsRead}
use Rattle.journal.proofs.Settled.{equal_out}
use Rattle.journal.proofs.Files.{Puts, decided-stands_still}
use Rattle.journal.proofs.Tails.{found_tail, names_within}

-- each file stands for an image
abbrev pub image_in : ℕ → ℕ → List ℕ → List ℕ
image_in words room file = map (λ word. put_over (lines_in words room file) word (get_or file word 0)) (range_with_len 0 words)

pub stands_for : (words room : ℕ) (file : List ℕ) → Opens words room file (image_in words room file)
stands_for words room file =
    let at : ℕ → ℕ = λ word. put_over (lines_in words room file) word (get_or file word 0) in
    record {
      size = length-map-range_with_len at 0 words;
      each = λ word lt. get_or-map-range_with_len at 0 words word word 0 lt (omega arith);
    }

-- ---- where it does

-- whatever is found stands for one image
pub decides_opens : (may_hold : ℕ → ℕ → Type 0) (words room : ℕ) (durable : List ℕ) → FoundOpens may_hold words room durable → JournalDecides may_hold words room
decides_opens may_hold words room durable opens = record {
  same = λ file other image found found_other same stands.
      let one = equal_out image durable (opens file image found stands) in
      let two = equal_out (image_in words room other) durable (opens other (image_in words room other) found_other (stands_for words room other)) in
      subst (λ (l : List ℕ). Opens words room other l) (two ∙ sym one) (stands_for words room other);
}

-- each word in place is known
known_same : (may_hold : ℕ → ℕ → Type 0) (words room : ℕ) (known file other : List ℕ) → HoldsOnly may_hold words known → IsFound may_hold (words + room + 8) file → IsFound may_hold (words + room + 8) other
    → ((word : ℕ) → words ≤ word → word < words + room + 8 → get_or other word 0 ≡ get_or file word 0) → (word : ℕ) → word < words + room + 8 → get_or other word 0 ≡ get_or file word 0
known_same may_hold words room known file other holds found found_other same word lt = elim (cases_lt word words) [
  | inl below ↦ holds word (get_or other word 0) below (found_other.each word lt) ∙ sym (holds word (get_or file word 0) below (found.each word lt))
  | inr above ↦ same word above lt
]

-- two files with the same words stand for the same image
same_stands : (words room : ℕ) (file other image : List ℕ) → length file ≡ words + room + 8 → length other ≡ words + room + 8 → ((word : ℕ) → word < words + room + 8 → get_or other word 0 ≡ get_or file word 0)
    → Opens words room file image → Opens words room other image
same_stands words room file other image size size_other same stands =
    let all : other ≡ file = ext_get_or 0 other file (size_other ∙ sym size) (λ word lt. same word (omega (arith, lt, size_other))) in
    subst (λ (f : List ℕ). Opens words room f image) (sym all) stands

-- less may be found
pub decides_within : (old new : ℕ → ℕ → Type 0) (words room : ℕ) → ((word x : ℕ) → new word x → old word x) → JournalDecides old words room → JournalDecides new words room
decides_within old new words room within decides = record { same = λ file other image found found_other same stands. decides.same file other image (less file found) (less other found_other) same stands }
  where
    less : (file : List ℕ) → IsFound new (words + room + 8) file → IsFound old (words + room + 8) file
    less file is = record { size = is.size; each = λ word lt. within word (get_or file word 0) (is.each word lt) }

-- an entry is appended to a file at rest
pub decides_appended : (old new : ℕ → ℕ → Type 0) (words room : ℕ) (pass : Bool) (position : ℕ) (durable : List ℕ) (start : ℕ) (news : List ℕ) → words ≤ start → ∥ Rests old words room pass position durable ∥₁
    → Puts old new start news → JournalDecides new words room
decides_appended old new words room pass position durable start news behind some puts = record {
  same = λ file other image found found_other same stands. same_stands words room file other image found.size found_other.size (λ word lt.
      ∥∥₁_elim some (ℕ_set _ _) (λ r. known_same new words room r.known.file file other (λ at x below h. elim (puts at x h) [
        | inl held ↦ r.known.holds at x (omega (arith, below)) held
        | inr put ↦ absurd (omega (arith, put.0, behind, below))
      ]) found found_other same word lt)) stands;
}

-- or nothing is
pub decides_rests : (may_hold : ℕ → ℕ → Type 0) (words room : ℕ) (pass : Bool) (position : ℕ) (durable : List ℕ) → ∥ Rests may_hold words room pass position durable ∥₁ → JournalDecides may_hold words room
decides_rests may_hold words room pass position durable some = record {
  same = λ file other image found found_other same stands. same_stands words room file other image found.size found_other.size (λ word lt.
      ∥∥₁_elim some (ℕ_set _ _) (λ r. known_same may_hold words room r.known.file file other (λ at x below h. r.known.holds at x (omega (arith, below)) h) found found_other same word lt)) stands;
}

-- ---- from one life to the next

-- what was left before, less of which may be found now
pub left_within : (before now : ℕ → ℕ → Type 0) (words room : ℕ) → IsNoMore before now → IsLeft before words room → IsLeft now words room
left_within before now words room within left = record {
  some = left.some;
  names = names_within before now words room within left.names;
  part = λ x h. left.part x (within _ x h);
  decides = decides_within before now words room within left.decides;
}

pub stands_within : (before now : ℕ → ℕ → Type 0) (words room : ℕ) → IsNoMore before now → StandsForNoOther before now words room
stands_within before now words room within image stood = record {
  file = stood.file;
  found = record { size = stood.found.size; each = λ word lt. within word (get_or stood.file word 0) (stood.found.each word lt) };
  opens = stood.opens;
}

-- a file that might be found is written back
pub read_within : (before old new : ℕ → ℕ → Type 0) (words room : ℕ) (file : List ℕ) → IsFound before (words + room + 8) file → IsNoMore before old → ((word x : ℕ) → new word x → old word x ⊎ IsReadWord words file word x) → IsNoMore before new
read_within before old new words room file found within puts word x h = elim (puts word x h) [
  | inl held ↦ within word x held
  | inr read ↦ subst (λ (v : ℕ). before word v) (sym read.2) (found.each word (omega (arith, read.1, found.size)))
]

-- of the words in place that were left the journal's lines make the same as of those that were read
pub left_still : (before now : ℕ → ℕ → Type 0) (words room : ℕ) (file : List ℕ) → IsFound before (words + room + 8) file → JournalDecides before words room → IsNoMore before now → StandsStill now words room file
left_still before now words room file found decides within =
    decided-stands_still before now words room file (image_in words room file) decides found (stands_for words room file) (λ word x lt h. within word x h)

-- and opening it fails then
module _ (before old new : ℕ → ℕ → Type 0) (words room : ℕ) (file : List ℕ) (is : IsFile words room (length file)) (found : IsFound before (words + room + 8) file) (left : IsLeft before words room) (within : IsNoMore before old) (stands : StandsAs new words room file) where
  opens : FoundOpens new words room (image_in words room file)
  opens =
      let image = image_in words room file in
      stands is image (stands_for words room file)

  pub stopped_stands : StandsForNoOther before new words room
  stopped_stands image stood =
      let same : image ≡ image_in words room file = equal_out image (image_in words room file) (opens stood.file image stood.found stood.opens) in
      record { file = file; found = found; opens = subst (λ (l : List ℕ). Opens words room file l) (sym same) (stands_for words room file) }

  pub stopped_left : NamesAsRead new words room file → PartAsBefore old new words room → IsLeft new words room
  stopped_left names part = record {
    some = left.some;
    names = names is (found_tail before words room file left.names found);
    part = part (λ x h. left.part x (within _ x h));
    decides = decides_opens new words room (image_in words room file) opens;
  }

-- ---- results

pub if_ok : {T E : Type 0} {P Q R : T → Type 0} (result : Result T E) → ((t : T) → P t → Q t → R t) → IfOk result P → IfOk result Q → IfOk result R
if_ok (Ok t) f p q = f t p q
if_ok (Err e) f p q = tt

pub if_err : {T E : Type 0} {P R : E → Type 0} (result : Result T E) → ((e : E) → P e → R e) → IfErr result P → IfErr result R
if_err (Ok t) f p = tt
if_err (Err e) f p = f e p

pub if_err_all : {T E : Type 0} {P Q M R : E → Type 0} (result : Result T E) → ((e : E) → P e → Q e → M e → R e) → IfErr result P → IfErr result Q → IfErr result M → IfErr result R
if_err_all (Ok t) f p q m = tt
if_err_all (Err e) f p q m = f e p q m
