-- Receipts of one session more.
use Rattle.std.proofs.Common.{◌≡◌, ℕ, ◌+◌, ◌≤◌, ◌<◌, List, [], ◌∷◌, ◌++◌, sym, ap, ◌∙◌, arith, take, drop, append-nil}
use Rattle.std.specs.Prelude.{IsTrue, false, length, All, slice_index_or}
use Rattle.std.proofs.lemmas.Grind.{flat_map-append}
use Rattle.std.proofs.lemmas.List.{take_more, take-append-drop}
use Rattle.std.proofs.lemmas.List.Sums.{sum_by-append}
use Rattle.std.proofs.lemmas.List.Elements.{All-same, All-tail, All-nil, All-cons, All-head}
use Rattle.pmem.specs.declared.device.Pmem.{Ghosts}
use Rattle.board.specs.declared.history.Naming.{Ghosts as Names}
use Rattle.engine.specs.declared.origin.Origin.{Ghosts as Origins}
use Rattle.audited.specs.declared.receipt.Receipt.{Receipt}
use Rattle.engine.specs.declared.session.Session.{Session}
use Rattle.engine.specs.Agreement.{count_at, receipts_in}

pub receipts_more : {D J B : Type 0} {G : Ghosts D} {N : Origins J} {M : Names J} (sessions : List (Session D J B G N M)) (i : ℕ) (s : Session D J B G N M) → i < length sessions → s ≡ slice_index_or sessions i s
    → receipts_in (take (i + 1) sessions) ≡ receipts_in (take i sessions) ++ s.receipts.items
receipts_more {D} {J} {B} {G} {N} {M} sessions i s less at =
    ap receipts_in (take_more sessions i s less)
    ∙ (ap (λ (x : Session D J B G N M). receipts_in (take i sessions ++ x ∷ [])) (sym at)
    ∙ (flat_map-append (λ (x : Session D J B G N M). x.receipts.items) (take i sessions) (s ∷ [])
    ∙ ap (λ (rs : List Receipt). receipts_in (take i sessions) ++ rs) (append-nil s.receipts.items)))

pub count_more : {D J B : Type 0} {G : Ghosts D} {N : Origins J} {M : Names J} (place : ℕ) (sessions : List (Session D J B G N M)) (i : ℕ) (s : Session D J B G N M) → i < length sessions → s ≡ slice_index_or sessions i s
    → count_at place (receipts_in (take (i + 1) sessions)) ≡ count_at place (receipts_in (take i sessions)) + count_at place s.receipts.items
count_more place sessions i s less at = grind (arith, receipts_more sessions i s less at, sum_by-append)

pub count_le : {D J B : Type 0} {G : Ghosts D} {N : Origins J} {M : Names J} (place : ℕ) (sessions : List (Session D J B G N M)) (n : ℕ) → count_at place (receipts_in (take n sessions)) ≤ count_at place (receipts_in sessions)
count_le {D} {J} {B} {G} {N} {M} place sessions n = grind (arith, take-append-drop n sessions, flat_map-append, sum_by-append)

-- if the sessions so far have it more than once, they all do
pub more_than_once : {D J B : Type 0} {G : Ghosts D} {N : Origins J} {M : Names J} (place : ℕ) (sessions : List (Session D J B G N M)) (i : ℕ) (s : Session D J B G N M) (before here : ℕ) → i < length sessions → s ≡ slice_index_or sessions i s
    → count_at place (receipts_in (take i sessions)) ≡ before → count_at place s.receipts.items ≡ here → 1 < before + here
    → (IsTrue false → count_at place (receipts_in sessions) ≡ 1) × (count_at place (receipts_in sessions) ≡ 1 → IsTrue false)
more_than_once place sessions i s before here less at was is many = grind (arith, count_more place sessions i s less at, count_le place sessions (i + 1))

All-right : {X : Type 0} (P : X → Type 0) (xs ys : List X) → All P (xs ++ ys) → All P ys
All-right P [] ys all = all
All-right P (x ∷ xs) ys all = All-right P xs ys (All-tail P x (xs ++ ys) all)

All-left : {X : Type 0} (P : X → Type 0) (xs ys : List X) → All P (xs ++ ys) → All P xs
All-left P [] ys all = All-nil P
All-left P (x ∷ xs) ys all = All-cons P x xs (All-head P x (xs ++ ys) all) (All-left P xs ys (All-tail P x (xs ++ ys) all))

-- what holds of all receipts holds of one session's
pub All-session : {D J B : Type 0} {G : Ghosts D} {N : Origins J} {M : Names J} (P : Receipt → Type 0) (sessions : List (Session D J B G N M)) (i : ℕ) (s : Session D J B G N M) → i < length sessions → s ≡ slice_index_or sessions i s
    → All P (receipts_in sessions) → All P s.receipts.items
All-session {D} {J} {B} {G} {N} {M} P sessions i s less at all =
    All-right P (receipts_in (take i sessions)) s.receipts.items (All-same P _ _ (sym (receipts_more sessions i s less at))
    (All-left P (receipts_in (take (i + 1) sessions)) (receipts_in (drop (i + 1) sessions)) (All-same P _ _ (sym parts) all)))
  where
    parts : receipts_in sessions ≡ receipts_in (take (i + 1) sessions) ++ receipts_in (drop (i + 1) sessions)
    parts = ap receipts_in (sym (take-append-drop (i + 1) sessions)) ∙ flat_map-append (λ (x : Session D J B G N M). x.receipts.items) (take (i + 1) sessions) (drop (i + 1) sessions)
