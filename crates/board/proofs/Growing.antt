-- What changes make of a published list.
use Rattle.std.proofs.Common.{◌≡◌, ℕ, ◌+◌, ◌≤◌, ◌<◌, Bool, true, false, nat_le, MatchBool, length, length-append, subst, fold, map, Option, Some, None, is_some, Result, Ok, Err, is_err, MatchResult, List, [], ◌∷◌, ◌++◌, refl, sym, ap, ◌∙◌, le_refl, le_trans, arith}
use Rattle.std.proofs.lemmas.Bool.Decides.{nat_tests}
use mathlib.Core.List.{append-nil, append_assoc, IsPrefix}
use Rattle.board.proofs.Fronts.{prefix_shorter}
use Rattle.base.specs.Batches.{Batch}
use Rattle.base.specs.Published.{Published, Follow, last_from, last_stamp}
use Rattle.board.specs.declared.change.Change.{Change}
use Rattle.board.specs.declared.change.Change.TheVariants.{Begin, Add, Raise}
use Rattle.board.specs.Changes.{changed, begun, list_of}
use Rattle.board.specs.Shown.{Shown, whole, shown, one_or_none}
use Rattle.board.specs.Lists.{IsPublished, Begins, CoversDue, Counted, Fits, persisted_from, longs_from}
use Rattle.board.proofs.Staying.{stamps_stay}
use Rattle.board.proofs.Rules.{begins_self, begins_on}
use Rattle.board.proofs.Ends.{last_from-push}

begins_one : (list : Published) (change : Change) → Begins list (changed list change)
begins_one list (Begin start) = begins_self list
begins_one list (Add batch) = record { stamp = refl; persisted = refl; longs = refl; rows = refl; batches = (batch ∷ [], refl); floor = le_refl list.floor }
begins_one list (Raise stamp) = record { stamp = refl; persisted = refl; longs = refl; rows = refl; batches = ([], append-nil list.batches); floor = omega arith }

pub begins_changed : (list : Published) (changes : List Change) → Begins list (fold changed list changes)
begins_changed list [] = begins_self list
begins_changed list (change ∷ changes) = begins_on list (changed list change) (fold changed (changed list change) changes) (begins_one list change) (begins_changed (changed list change) changes)

follow-push : (stamp : ℕ) (batches : List Batch) (batch : Batch) → Follow stamp batches → batch.from ≡ last_from stamp batches → batch.stamp ≡ batch.from + 1 → Follow stamp (batches ++ batch ∷ [])
follow-push stamp [] batch h from own = (from, own ∙ ap (λ (n : ℕ). n + 1) from, tt)
follow-push stamp (b ∷ batches) batch h from own = (h.0, h.1, follow-push b.stamp batches batch h.2 from own)

counted-push : (persisted : ℕ) (longs : List ℕ) (batches : List Batch) (batch : Batch) → Counted persisted longs batches
    → CoversDue (persisted_from persisted batches) (longs_from longs batches) batch → Counted persisted longs (batches ++ batch ∷ [])
counted-push persisted longs [] batch h covers = (covers, tt)
counted-push persisted longs (b ∷ batches) batch h covers = (h.0, counted-push b.persisted b.longs batches batch h.1 covers)

pub fits : (list : Published) (batch : Batch) → IsPublished list → Fits list batch → IsPublished (changed list (Add batch))
fits list batch h f = grind (arith, follow-push, counted-push, last_from-push)

pub raised : (list : Published) (stamp : ℕ) → IsPublished list → stamp ≤ last_stamp list → IsPublished (changed list (Raise stamp))
raised list stamp h le = record { follow = h.follow; counted = h.counted; floor = omega (arith, h.floor, le) }

fold_append : (list : Published) (xs ys : List Change) → fold changed list (xs ++ ys) ≡ fold changed (fold changed list xs) ys
fold_append list [] ys = refl
fold_append list (x ∷ xs) ys = fold_append (changed list x) xs ys

-- the list that a history makes, and then more
pub list_on : (log more : List Change) → 0 < length log → list_of (log ++ more) ≡ fold changed (list_of log) more
list_on [] more some = absurd (omega arith)
list_on (c ∷ log) more some = fold_append (begun c) log more

-- a beginning of the history makes a beginning of the list
pub begins_log : (xs ys : List Change) → 0 < length xs → IsPrefix xs ys → Begins (list_of xs) (list_of ys)
begins_log xs ys some pre = subst (λ (l : List Change). Begins (list_of xs) (list_of l)) pre.1 (rw (list_on xs pre.0 some) (begins_changed (list_of xs) pre.0))

-- of two beginnings of one history the shorter begins the longer
pub begins_test : (xs ys both : List Change) (a b : ℕ) → length xs ≡ a → length ys ≡ b → IsPrefix xs both → IsPrefix ys both → (t : Bool) → nat_le a b ≡ t → MatchBool t (IsPrefix xs ys) (IsPrefix ys xs)
begins_test xs ys both a b n m p q true e = let le : a ≤ b = grind (arith, nat_tests) in prefix_shorter xs ys both p q (omega (arith, n, m, le))
begins_test xs ys both a b n m p q false e = let le : b < a = grind (arith, nat_tests) in prefix_shorter ys xs both q p (omega (arith, n, m, le))

pub begins_lists : (xs ys both : List Change) (a b : ℕ) → length xs ≡ a → length ys ≡ b → 0 < a → 0 < b → IsPrefix xs both → IsPrefix ys both → (t : Bool) → nat_le a b ≡ t → MatchBool t (Begins (list_of xs) (list_of ys)) (Begins (list_of ys) (list_of xs))
begins_lists xs ys both a b n m i j p q true e = let le : a ≤ b = grind (arith, nat_tests) in begins_log xs ys (omega (arith, n, i)) (prefix_shorter xs ys both p q (omega (arith, n, m, le)))
begins_lists xs ys both a b n m i j p q false e = let le : b < a = grind (arith, nat_tests) in begins_log ys xs (omega (arith, m, j)) (prefix_shorter ys xs both q p (omega (arith, n, m, le)))

-- the history with one more change makes the changed list
pub list_next : (log : List Change) (c : Change) → 0 < length log → list_of (log ++ c ∷ []) ≡ changed (list_of log) c
list_next log c some = list_on log (c ∷ []) some

pub fold_steps : {A : Type 0} (f : A → Change) (log : List Change) (steps : List A) → fold (λ log step. log ++ f step ∷ []) log steps ≡ log ++ map f steps
fold_steps f log [] = sym (append-nil log)
fold_steps f log (step ∷ steps) = fold_steps f (log ++ f step ∷ []) steps ∙ append_assoc log (f step ∷ []) (map f steps)

pub some_more : (xs ys : List Change) → 0 < length xs → 0 < length (xs ++ ys)
some_more xs ys some = omega (arith, length-append xs ys, some)

-- what waits may be followed by a floor that is published
pub raises : (list : Published) (waits : List Change) (stamp : ℕ) → stamp ≤ last_stamp list → IsPublished (fold changed list waits) → IsPublished (changed (fold changed list waits) (Raise stamp))
raises list waits stamp le h = raised (fold changed list waits) stamp h (le_trans le (stamps_stay list (fold changed list waits) h (begins_changed list waits)))

-- the change that may follow the board's whole list may follow its history
pub may_follow : (log waits front : List Change) (board : Shown) (change : Change) → 0 < length log → front ≡ log ++ waits → record { list = list_of log; waits = waits } ≡ board
    → IsPublished (list_of front) → 0 < length front → (IsPublished (whole board) → IsPublished (changed (whole board) change)) → IsPublished (list_of (front ++ change ∷ []))
may_follow log waits front board change some is view published begun may = grind (arith, list_on)

-- what a result without an error has
pub done : {E P : Type 0} (Q : Type 0) (r : Result (Unit {0}) E) → is_err r ≡ false → MatchResult r (λ _. P) (λ _. Q) → P
done Q (Ok x) e h = h
done Q (Err x) e h = absurd (cc e)

-- once the operations are absorbed, the history is the front's
pub flushed_front : {A : Type 0} (f : A → Change) (log later front : List Change) (ops none : List A) (kept : Option A) → 0 < length log → is_some kept ≡ false
    → front ≡ log ++ map f (ops ++ one_or_none kept) → later ≡ fold (λ l op. l ++ f op ∷ []) log ops → none ≡ []
    → (0 < length later) × (front ≡ later ++ map f (none ++ one_or_none kept))
flushed_front f log later front ops none (Some x) some e is now empty = absurd (cc e)
flushed_front f log later front ops none None some e is now empty =
    let all : later ≡ log ++ map f ops = now ∙ fold_steps f log ops in
    let nil : later ++ map f (none ++ []) ≡ later = rw empty (append-nil later) in (
      rw all (some_more log (map f ops) some),
      is ∙ (ap (λ l. log ++ map f l) (append-nil ops) ∙ (sym all ∙ sym nil)),
    )

-- and what waited is published
pub flushed_view : {A : Type 0} (f : A → Change) (log later : List Change) (ops none : List A) (kept : Option A) → 0 < length log → is_some kept ≡ false
    → later ≡ fold (λ l op. l ++ f op ∷ []) log ops → none ≡ []
    → ◌≡◌ {A = Shown} (record { list = list_of later; waits = map f (none ++ one_or_none kept) }) (shown (record { list = list_of log; waits = map f (ops ++ one_or_none kept) }))
flushed_view f log later ops none (Some x) some e now empty = absurd (cc e)
flushed_view f log later ops none None some e now empty =
    let all : later ≡ log ++ map f ops = now ∙ fold_steps f log ops in
    let list : list_of later ≡ fold changed (list_of log) (map f (ops ++ [])) =
    ap list_of all ∙ (list_on log (map f ops) some ∙ ap (λ l. fold changed (list_of log) (map f l)) (sym (append-nil ops))) in
    let nil : map f (none ++ []) ≡ [] = rw empty refl in
    λ i. record { list = list i; waits = nil i }
