-- What the threads' receipts say about the room's history, once they were compared.
use Rattle.std.proofs.Common.{◌≡◌, ◌⊎◌, ℕ, false, List, [], ◌∷◌, ◌++◌, length, Option, Some, None, inl, inr, refl, sym, ap, ◌∙◌, subst, map}
use Rattle.std.proofs.Math.Logic.{∥∥₁_map}
use Rattle.std.proofs.lemmas.List.{length-map}
use Rattle.std.proofs.lemmas.List.Folds.{flat_map-map}
use Rattle.std.proofs.lemmas.List.Elements.{All-cons, All-head, All-map, All-nil, All-tail}
use Rattle.std.specs.Prelude.{All, flat_map, slice_get, slice_index_or, ⊤}
use Rattle.std.specs.List.{Any}
use Rattle.base.specs.declared.fault.Fault.{Fault}
use Rattle.base.specs.declared.fault.Fault.TheVariants.{WrongState}
use Rattle.base.specs.declared.step.Step.{Step}
use Rattle.base.specs.declared.step.Step.TheVariants.{Commit as Tick}
use Rattle.base.specs.declared.step.Note.{Note}
use Rattle.base.specs.declared.step.Note.TheVariants.{Refused}
use Rattle.base.specs.Images.{Image}
use Rattle.pmem.specs.Device.{Device}
use Rattle.pmem.specs.declared.device.Pmem.{Ghosts}
use Rattle.audited.specs.declared.audited.Audited.{Audited}
use Rattle.audited.specs.declared.receipt.Receipt.{Receipt}
use Rattle.room.specs.Room.{Shows}
use Rattle.room.proofs.Runs.{of-weaken}
use Rattle.engine.specs.Agreement.{Agrees, IsEntry}
use Rattle.engine.specs.Calls.{ReportsLast}
use Rattle.engine.specs.declared.halt.Halt.{Halt}
use Rattle.engine.specs.Origins.{IsFrom, Knows}
use Rattle.engine.proofs.Halting.{slice_get-last}
use Rattle.workload.specs.Load.{AreMade, GivesUp, HasRefusal, IsRefusedWith, Makes, ReportsNothing, Works, may_pass}

-- ---- parts of a list

All-left : {X : Type 0} (P : X → Type 0) (xs ys : List X) → All P (xs ++ ys) → All P xs
All-left P [] ys all = All-nil P
All-left P (x ∷ xs) ys all = All-cons P x xs (All-head P x (xs ++ ys) all) (All-left P xs ys (All-tail P x (xs ++ ys) all))

All-right : {X : Type 0} (P : X → Type 0) (xs ys : List X) → All P (xs ++ ys) → All P ys
All-right P [] ys all = all
All-right P (x ∷ xs) ys all = All-right P xs ys (All-tail P x (xs ++ ys) all)

All-pieces : {X A : Type 0} (P : A → Type 0) (f : X → List A) (xs : List X) → All P (flat_map f xs) → All (λ x. All P (f x)) xs
All-pieces P f [] all = All-nil (λ x. All P (f x))
All-pieces P f (x ∷ xs) all =
    All-cons (λ x. All P (f x)) x xs (All-left P (f x) (flat_map f xs) all) (All-pieces P f xs (All-right P (f x) (flat_map f xs) all))

-- ---- all commits are made

-- if no thread met a fault
pub are-made : {T : Type 0} (f : T → List Receipt) (fault : T → Option Fault) (Halted : T → Fault → Type 0) (sessions commits : ℕ) (tasks : List T) (entries : List (Step × Note)) (first : ℕ) (receipts : List Receipt)
    → length tasks ≡ sessions → first ≡ 0 → All (λ t. Works (Halted t) commits (f t) (fault t)) tasks → All (λ t. fault t ≡ None) tasks
    → receipts ≡ flat_map f tasks → Agrees entries first receipts → AreMade sessions commits entries
are-made f fault Halted sessions commits tasks entries first receipts count begins works none are agrees = record {
  threads = map f tasks;
  count = length-map tasks f ∙ count;
  each = All-map (Makes commits) f tasks (λ k d less. made (Halted (slice_index_or tasks k d)) (fault (slice_index_or tasks k d)) (f (slice_index_or tasks k d)) (none k d less) (works k d less));
  agrees = subst (λ (rs : List Receipt). Agrees entries 0 rs) (are ∙ sym (flat_map-map (λ (rs : List Receipt). rs) f tasks)) (subst (λ (n : ℕ). Agrees entries n receipts) begins agrees);
}
  where
    made : (H : Fault → Type 0) (fault : Option Fault) (receipts : List Receipt) → fault ≡ None → Works H commits receipts fault → Makes commits receipts
    made H None receipts is works = works
    made H (Some fault) receipts is works = absurd (cc is)

-- ---- a thread met a fault

halted-refusal : (image : Image) (told : Option Halt) (fault : Fault) → Knows image told fault → HasRefusal image fault
halted-refusal image (Some halt) fault (is, halted) =
    subst (HasRefusal image) is (∥∥₁_map halted (λ h. (h.0 ++ (Tick, Refused halt.fault) ∷ [], h.2, length h.0, Tick, slice_get-last h.0 (Tick, Refused halt.fault))))
halted-refusal image None fault knows = absurd knows

refusal : {D : Type 0} {G : Ghosts D} (state : D → Device) (image : Image) (audited : Audited D G) (first : ℕ) (receipts : List Receipt) (told : Option Halt) (fault : Fault)
    → All (IsEntry audited.entries.items first) receipts → IsFrom state image audited → IsRefusedWith (Knows image told) receipts fault → HasRefusal image fault
refusal state image audited first receipts known fault all from (inl (before, r, last, told)) =
    let entries = audited.entries.items in
    let one : IsEntry entries first r = All-head (IsEntry entries first) r [] (All-right (IsEntry entries first) before (r ∷ []) (subst (All (IsEntry entries first)) last all)) in
    ∥∥₁_map from (λ a. (entries, of-weaken image entries (Shows state audited.room) (λ q. ⊤) (λ q shows. tt) a.run, r.place, r.step, one.entry ∙ ap (λ (note : Note). Some (r.step, note)) told))
refusal state image audited first receipts known fault all from (inr knows) = halted-refusal image known fault knows

given-up : {D : Type 0} {G : Ghosts D} (state : D → Device) (image : Image) (audited : Audited D G) (first : ℕ) (receipts : List Receipt) (told : Option Halt) (fault : Fault)
    → All (IsEntry audited.entries.items first) receipts → IsFrom state image audited → GivesUp (Knows image told) receipts fault
    → (fault ≡ WrongState) ⊎ ((may_pass fault ≡ false) × HasRefusal image fault)
given-up state image audited first receipts told fault all from gives = of gives.why
  where
    of : ((fault ≡ WrongState) × ReportsNothing receipts) ⊎ IsRefusedWith (Knows image told) receipts fault → (fault ≡ WrongState) ⊎ ((may_pass fault ≡ false) × HasRefusal image fault)
    of (inl (wrong, nothing)) = inl wrong
    of (inr refused) = inr (gives.is_final, refusal state image audited first receipts told fault all from refused)

-- the fault of some thread is WrongState, or a final one, which a run was refused with
pub some-refusal : {D T : Type 0} {G : Ghosts D} (state : D → Device) (image : Image) (audited : Audited D G) (first commits : ℕ) (receipts : List Receipt)
    (f : T → List Receipt) (fault : T → Option Fault) (told : T → Option Halt) (tasks : List T) (why : Fault)
    → All (λ t. Works (Knows image (told t)) commits (f t) (fault t)) tasks → Any (λ t. fault t ≡ Some why) tasks → receipts ≡ flat_map f tasks → Agrees audited.entries.items first receipts
    → IsFrom state image audited → (why ≡ WrongState) ⊎ ((may_pass why ≡ false) × HasRefusal image why)
some-refusal state image audited first commits receipts f fault told tasks why works (k, task, less, is, met) are agrees from =
    let gives = gave (Knows image (told (slice_index_or tasks k task))) (fault (slice_index_or tasks k task)) (f (slice_index_or tasks k task)) (ap fault is ∙ met) (works k task less) in
    let pieces = All-pieces (IsEntry audited.entries.items first) f tasks (subst (All (IsEntry audited.entries.items first)) are agrees.each) in
    given-up state image audited first (f (slice_index_or tasks k task)) (told (slice_index_or tasks k task)) why (pieces k task less) from gives
  where
    some-inj : (a b : Fault) → Some a ≡ Some b → a ≡ b
    some-inj a b h = cc h

    gave : (H : Fault → Type 0) (fault : Option Fault) (receipts : List Receipt) → fault ≡ Some why → Works H commits receipts fault → GivesUp H receipts why
    gave H None receipts is works = absurd (cc is)
    gave H (Some other) receipts is works = subst (GivesUp H receipts) (some-inj other why is) works
