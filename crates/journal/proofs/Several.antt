-- Several entries are read.
use Rattle.std.proofs.Common.{◌≡◌, inl, inr, ℕ, zero, suc, ◌+◌, ◌/◌, ◌≤◌, Bool, true, cond, ◌&&◌, List, [], ◌∷◌, ◌++◌, length, take, drop, None, nat_le, refl, ◌∙◌, ap, arith}
use Rattle.std.proofs.lemmas.Bool.{and_from}
use Rattle.std.proofs.lemmas.List.{length-map, length-append, take_at, drop_at}
use Rattle.journal.specs.Entries.{marks, payloads_of, are_of, NoneOf, entry, read, over, IsMixture}
use Rattle.journal.specs.Several.{read_most, journal, AppendIsWhole, NoneIsNothing, IsScrub, ScrubIsNone}
use Rattle.journal.proofs.Torn.{half, own_bit, torn-is_none}

marks_are : (pass : Bool) (payloads : List ℕ) → are_of pass (marks pass payloads) ≡ true
marks_are pass [] = refl
marks_are pass (payload ∷ payloads) = and_from _ _ (own_bit pass payload) (marks_are pass payloads)

marks_read : (pass : Bool) (payloads : List ℕ) → payloads_of (marks pass payloads) ≡ payloads
marks_read pass [] = refl
marks_read pass (payload ∷ payloads) = λ i. half pass payload i ∷ marks_read pass payloads i

-- a whole entry is read, and then what is behind it
pub one_more : (pass : Bool) (most : ℕ) (payloads rest : List ℕ) → read_most pass (suc most) (entry pass payloads ++ rest) ≡ payloads ∷ read_most pass most rest
one_more pass most payloads rest = grind (arith, length-map, take_at, drop_at, length-append, marks_are, marks_read)

pub none_more : (pass : Bool) (most : ℕ) (words : List ℕ) → NoneOf pass words → read_most pass most words ≡ []
none_more pass zero words none = refl
none_more pass (suc most) [] none = refl
none_more pass (suc most) (word ∷ words) none =
    ap (λ (b : Bool). cond (b && (nat_le (word / 2) (length words) && are_of pass (take (word / 2) words))) (payloads_of (take (word / 2) words) ∷ read_most pass most (drop (word / 2) words)) []) none.0

pub torn_more : (pass : Bool) (most : ℕ) (words : List ℕ) → read pass words ≡ None → read_most pass most words ≡ []
torn_more pass zero words torn = refl
torn_more pass (suc most) [] torn = refl
torn_more pass (suc most) (word ∷ words) torn = grind (arith)

-- those before
pub before : (pass : Bool) (entries : List (List ℕ)) (last : List (List ℕ)) (words : List ℕ) (most : ℕ) → ((left : ℕ) → most ≡ length entries + left → read_most pass left words ≡ last)
    → length entries ≤ most → read_most pass most (journal pass entries ++ words) ≡ entries ++ last
before pass [] last words most is within = is most (omega arith)
before pass (payloads ∷ entries) last words zero is within = absurd (omega (arith, within))
before pass (payloads ∷ entries) last words (suc most) is within =
    let rest : read_most pass most (journal pass entries ++ words) ≡ entries ++ last = before pass entries last words most (λ left e. is left (omega (arith, e))) (omega (arith, within)) in
    ap (read_most pass (suc most)) (assoc (entry pass payloads) (journal pass entries) words)
    ∙ one_more pass most payloads (journal pass entries ++ words)
    ∙ ap (λ (es : List (List ℕ)). payloads ∷ es) rest
  where
    assoc : (a b c : List ℕ) → (a ++ b) ++ c ≡ a ++ (b ++ c)
    assoc [] b c = refl
    assoc (x ∷ a) b c = λ i. x ∷ assoc a b c i

pub long : (pass : Bool) (entries : List (List ℕ)) (words : List ℕ) → length entries + length words ≤ length (journal pass entries ++ words)
long pass [] words = omega arith
long pass (payloads ∷ entries) words = omega (arith, long pass entries words, length-append (entry pass payloads ++ journal pass entries) words, length-append (entry pass payloads) (journal pass entries), length-append (journal pass entries) words)

over_is : (old news words : List ℕ) → IsMixture old news words → over news old ≡ news ++ drop (length news) old
over_is old [] words mixed = refl
over_is [] (new ∷ news) words mixed = absurd mixed
over_is (word ∷ old) (new ∷ news) [] mixed = absurd mixed
over_is (word ∷ old) (new ∷ news) (found ∷ words) mixed = λ i. new ∷ over_is old news words mixed.1 i

pub none_left : (pass : Bool) (n : ℕ) (old : List ℕ) → NoneOf pass old → NoneOf pass (drop n old)
none_left pass zero old none = none
none_left pass (suc n) [] none = none
none_left pass (suc n) (word ∷ old) none = none_left pass n old none.1

some_words : (old : List ℕ) (new : ℕ) (news words : List ℕ) → IsMixture old (new ∷ news) words → 1 ≤ length words
some_words [] new news words mixed = absurd mixed
some_words (word ∷ old) new news [] mixed = absurd mixed
some_words (word ∷ old) new news (found ∷ words) mixed = omega arith

pub append-is_whole : AppendIsWhole
append-is_whole pass entries old payloads words none mixed = elim (torn-is_none pass old payloads words none mixed) [
  | inl whole ↦ inl (whole.0, before pass entries (payloads ∷ []) words (length (journal pass entries ++ words)) (λ left e. last left (omega (arith, e, long pass entries words, some_words old _ _ words mixed)) whole.0) (omega (arith, long pass entries words)))
  | inr torn ↦ inr (torn.0, before pass entries [] words (length (journal pass entries ++ words)) (λ left e. torn_more pass left words torn.1) (omega (arith, long pass entries words)) ∙ nil entries)
]
  where
    nil : (es : List (List ℕ)) → es ++ [] ≡ es
    nil [] = refl
    nil (e ∷ es) = λ i. e ∷ nil es i

    last : (left : ℕ) → 1 ≤ left → words ≡ over (entry pass payloads) old → read_most pass left words ≡ payloads ∷ []
    last zero some is = absurd (omega (arith, some))
    last (suc left) some is = grind (arith, over_is, one_more, none_more, none_left)

pub none-is_nothing : NoneIsNothing
none-is_nothing pass entries old none =
    before pass entries [] old (length (journal pass entries ++ old)) (λ left e. none_more pass left old none) (omega (arith, long pass entries old)) ∙ nil entries
  where
    nil : (es : List (List ℕ)) → es ++ [] ≡ es
    nil [] = refl
    nil (e ∷ es) = λ i. e ∷ nil es i

-- ---- scrubbing

scrub_size : (pass : Bool) (old words : List ℕ) → IsScrub pass old words → length words ≡ length old
scrub_size pass [] words scrub = ap (λ (ws : List ℕ). length ws) scrub
scrub_size pass (word ∷ old) [] scrub = absurd scrub
scrub_size pass (word ∷ old) (found ∷ words) scrub = ap (λ (n : ℕ). suc n) (scrub_size pass old words scrub.1)

scrub_are : (pass : Bool) (n : ℕ) (old words : List ℕ) → IsScrub pass old words → are_of pass (take n words) ≡ true → are_of pass (take n old) ≡ true
scrub_are pass zero old words scrub are = refl
scrub_are pass (suc n) [] words scrub are = refl
scrub_are pass (suc n) (word ∷ old) [] scrub are = absurd scrub
scrub_are pass (suc n) (word ∷ old) (found ∷ words) scrub are = grind (arith, scrub_are pass n old words scrub.1)

pub scrub-is_none : ScrubIsNone
scrub-is_none pass [] words torn scrub = ap (read pass) scrub
scrub-is_none pass (word ∷ old) [] torn scrub = absurd scrub
scrub-is_none pass (word ∷ old) (found ∷ words) torn scrub = grind (arith, scrub_size, scrub_are)
