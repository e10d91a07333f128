-- How the lines that were read follow those that are left.
use Rattle.std.proofs.Common.{◌≡◌, ℕ, ◌-◌, ◌<◌, suc, Bool, true, false, cond, List, [], ◌∷◌, ◌++◌, length, take, refl, sym, ◌∙◌, ap, subst, arith, append-nil, append_assoc}
use Rattle.std.specs.Prelude.{◌≢◌, Option, Some, None, is_some, IfSome, All, reverse, ◌==◌}
use Rattle.std.specs.List.{onto_first}
use Rattle.std.specs.Io.BufRead.{first_piece, drop_through, take_through, strip_last, ends_with_byte, DropsThrough}
use Rattle.std.specs.Io.KnownBytes.{IsAtEnd, prepend_known}
use Rattle.std.proofs.lemmas.Grind.{common_steps}
use Rattle.std.proofs.lemmas.List.{reverse-append}
use Rattle.std.proofs.lemmas.List.Elements.{All-head, All-tail}
use Rattle.command_line.specs.Numbers.{Text}
use Rattle.command_line.specs.declared.command.Survivor.{Survivor}
use Rattle.console.specs.Input.{lines_in, written, BeginsWith, Reads}

-- ---- one line

stripped : (x : ℕ) (t : List ℕ) (n m : ℕ) (b c : Bool) → n ≡ suc m → b ≡ c → cond b (take n (x ∷ t)) (x ∷ t) ≡ x ∷ cond c (take m t) t
stripped x t n m a b e f = grind (arith)

ends-later : (x y : ℕ) (ys : List ℕ) → ends_with_byte 10 (x ∷ y ∷ ys) ≡ ends_with_byte 10 (y ∷ ys)
ends-later x y ys = grind (arith, common_steps)

-- a byte before a list that isn't empty leaves its end as it is
strip-later : (x y : ℕ) (ys : List ℕ) → strip_last 10 (x ∷ y ∷ ys) ≡ x ∷ strip_last 10 (y ∷ ys)
strip-later x y ys = stripped x (y ∷ ys) (length (x ∷ y ∷ ys) - 1) (length (y ∷ ys) - 1) (ends_with_byte 10 (x ∷ y ∷ ys)) (ends_with_byte 10 (y ∷ ys)) (omega arith) (ends-later x y ys)

strip-through : (x y : ℕ) (ys : List ℕ) → strip_last 10 (x ∷ take_through 10 (y ∷ ys)) ≡ x ∷ first_piece 10 (y ∷ ys)
strip-through x y ys = grind (arith, strip-later)

strip-one : (x : ℕ) → (x == 10) ≡ false → strip_last 10 (x ∷ []) ≡ x ∷ []
strip-one x e = rw e refl

strip-feed : (x : ℕ) → (x == 10) ≡ true → strip_last 10 (x ∷ []) ≡ []
strip-feed x e = rw e refl

-- from the lines of what follows to those of the whole
lines-in-cons : (b : Bool) (x y : ℕ) (ys : List ℕ) → (x == 10) ≡ b → lines_in (y ∷ ys) ≡ first_piece 10 (y ∷ ys) ∷ lines_in (drop_through 10 (y ∷ ys))
    → cond b ([] ∷ lines_in (y ∷ ys)) (onto_first x (lines_in (y ∷ ys)))
    ≡ strip_last 10 (cond b (x ∷ []) (x ∷ take_through 10 (y ∷ ys))) ∷ lines_in (cond b (y ∷ ys) (drop_through 10 (y ∷ ys)))
lines-in-cons a x y ys e rest = grind (arith, strip-feed, strip-through)

lines-in-one : (b : Bool) (x : ℕ) → (x == 10) ≡ b → cond b ([] ∷ []) ((x ∷ []) ∷ []) ≡ strip_last 10 (cond b (x ∷ []) (x ∷ [])) ∷ lines_in (cond b [] [])
lines-in-one a x e = grind (arith, strip-feed, strip-one)

-- the first line is what `split` gives first
pub lines-in-first : (x : ℕ) (xs : List ℕ) → lines_in (x ∷ xs) ≡ first_piece 10 (x ∷ xs) ∷ lines_in (drop_through 10 (x ∷ xs))
lines-in-first x [] = lines-in-one (x == 10) x refl
lines-in-first x (y ∷ ys) = lines-in-cons (x == 10) x y ys refl (lines-in-first y ys)

-- ---- lines that are written down

not-feed : (byte : ℕ) → byte ≢ 10 → (byte == 10) ≡ false
not-feed byte ne = grind (arith, common_steps)

line-read-back : (line text : Text) → All (λ byte. byte ≢ 10) line → lines_in (line ++ 10 ∷ text) ≡ line ∷ lines_in text
line-read-back [] text none = refl
line-read-back (byte ∷ line) text none =
    rw (not-feed byte (All-head (λ (b : ℕ). b ≢ 10) byte line none)) (ap (onto_first byte) (line-read-back line text (All-tail (λ (b : ℕ). b ≢ 10) byte line none)))

pub lines-read-back : (lines : List Text) → All (All (λ byte. byte ≢ 10)) lines → lines_in (written lines) ≡ lines
lines-read-back [] none = refl
lines-read-back (line ∷ lines) none =
    line-read-back line (written lines) (All-head (All (λ (b : ℕ). b ≢ 10)) line lines none)
    ∙ ap (λ (rest : List Text). line ∷ rest) (lines-read-back lines (All-tail (All (λ (b : ℕ). b ≢ 10)) line lines none))

-- ---- the lines so far

-- so much is read of the input, and these bytes are left
abbrev pub Reading : Option Text → List Text → Option Text → Type 0
Reading input read left = IfSome input (λ text. (rest : Text) × (left ≡ Some rest) × (lines_in text ≡ reverse read ++ lines_in rest))

pub reading-begins : (input left : Option Text) → left ≡ prepend_known [] input → Reading input [] left
reading-begins a left e = grind (arith)

abbrev lines-left : Option Text → List Text
lines-left None = []
lines-left (Some rest) = lines_in rest

take-line : (read : List Text) (line rest text : Text) → 0 < length rest → line ≡ first_piece 10 rest → lines_in text ≡ reverse read ++ lines_in rest
    → lines_in text ≡ reverse (line ∷ read) ++ lines_in (drop_through 10 rest)
take-line read line [] text more is e = absurd (omega (arith, more))
take-line read line (x ∷ xs) text more is e =
    let later = lines_in (drop_through 10 (x ∷ xs)) in
    e ∙ (ap (λ (l : List Text). reverse read ++ l) (lines-in-first x xs ∙ ap (λ (l : Text). l ∷ later) (sym is))
    ∙ (sym (append_assoc (reverse read) (line ∷ []) later) ∙ ap (λ (l : List Text). l ++ later) (sym (reverse-append (line ∷ []) read))))

pub reading-goes-on : (input left next : Option Text) (read : List Text) (line items : Text) (byte : ℕ) → byte ≡ 10 → line ≡ items → Reading input read left
    → IfSome left (λ xs. (0 < length xs) × (items ≡ first_piece byte xs)) → DropsThrough left next byte → Reading input (line ∷ read) next
reading-goes-on a left next read line items byte feed same r first drops = grind (arith, take-line)

pub all-read : (input left : Option Text) (read : List Text) → Reading input read left → IsAtEnd left → Reads input read None
all-read None left read r end = tt
all-read (Some text) None read (rest, is, e) end = cc
all-read (Some text) (Some xs) read (rest, is, e) end =
    let so_far = subst (λ (left : Option Text). lines_in text ≡ reverse read ++ lines-left left) (sym is) e in
    subst (λ (xs : Text). lines_in text ≡ reverse read ++ lines_in xs) end so_far ∙ append-nil (reverse read)

pub read-to-crash : (input left : Option Text) (read : List Text) (keeps : Option Survivor) → is_some keeps ≡ true → Reading input read left → Reads input read keeps
read-to-crash a left read keeps crash r = grind (arith)

pub read-so-far : (input left : Option Text) (read : List Text) → Reading input read left → BeginsWith input read
read-so-far a left read r = grind (arith)
