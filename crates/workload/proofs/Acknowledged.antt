-- What calls of a session add to what was acknowledged and drawn, and why a thread stops.
use Rattle.std.proofs.Common.{◌≡◌, ◌⊎◌, ℕ, ◌+◌, ◌≤◌, Bool, true, false, List, [], ◌∷◌, ◌++◌, Option, Some, None, inl, inr, refl, sym, ap, ◌∙◌, subst, append_assoc, arith}
use Rattle.std.specs.Prelude.{◌≢◌, All, Err, IfErr, IfOk, Ok, Result, if◌then◌else◌, is_some, slice_index_or, ⊤}
use Rattle.std.proofs.Math.Seq.{drop-append_seam}
use Rattle.std.proofs.lemmas.Bool.{false≢true}
use Rattle.std.proofs.lemmas.List.Elements.{All-append, All-head, All-tail}
use Rattle.base.specs.Images.{Image}
use Rattle.base.specs.declared.fault.Fault.{Fault}
use Rattle.base.specs.declared.fault.Fault.TheVariants.{OutOfMemory, WrongState}
use Rattle.base.specs.declared.key.Key.{Key}
use Rattle.base.specs.declared.step.Step.{Step}
use Rattle.base.specs.declared.step.Step.TheVariants.{Abort, Begin, Draw, End, Poll, Put, Stamp}
use Rattle.base.specs.declared.step.Note.{Note}
use Rattle.base.specs.declared.step.Note.TheVariants.{Began, Committed, Done, Refused}
use Rattle.audited.specs.declared.receipt.Receipt.{Receipt}
use Rattle.engine.specs.declared.halt.Halt.{Halt}
use Rattle.engine.specs.Origins.{Knows}
use Rattle.engine.specs.declared.phase.Phase.{Phase}
use Rattle.engine.specs.declared.phase.Phase.TheVariants.{Idle, Active, Drawn, Stamped, Covered}
use Rattle.engine.specs.Calls.{ArePolls, AreUnended, AskCommit, AskPrepare, Called, DeclinesCall, ReportsCommit, ReportsEnd, ReportsLast, note_of_commit}
use Rattle.engine.specs.Phases.{added_since, number_of, phase_after, phase_after_step}
use Rattle.engine.specs.Receipts.{Answers, Asks, Declines, Refuses}
use Rattle.engine.proofs.Phasing.{phase_after-append}
use Rattle.workload.specs.Load.{GivesUp, IsRefusedWith, Makes, MakesNone, MakesOne, ReportsNothing, acknowledged, draws, ended_of, has_drawn, may_pass, pending, reported_to}
use Rattle.workload.proofs.Counted.{acknowledged-none, acknowledged-one, count-one, draws-append, draws-cons, ends, ends-append, ends-cons, ends-short, none-counted}

-- ---- one after the other

pub none-yet : (phase : Phase) (receipts : List Receipt) → MakesNone phase receipts phase receipts
none-yet phase receipts = record { acknowledges = refl; drawn = omega arith }

pub none-then : (p q s : Phase) (old mid new : List Receipt) → MakesNone p old q mid → MakesNone q mid s new → MakesNone p old s new
none-then p q s old mid new one two = record { acknowledges = two.acknowledges ∙ one.acknowledges; drawn = omega (arith, one.drawn, two.drawn) }

pub none-then-one : (p q : Phase) (old mid new : List Receipt) → MakesNone p old q mid → MakesOne q mid new → MakesOne p old new
none-then-one p q old mid new one two = record { acknowledges = two.acknowledges ∙ ap (λ (n : ℕ). n + 1) one.acknowledges; drawn = omega (arith, one.drawn, two.drawn) }

-- one more
pub makes-one : (made : ℕ) (phase : Phase) (old new : List Receipt) → Makes made old → MakesOne phase old new → phase_after Idle new ≡ Idle → Makes (made + 1) new
makes-one made phase old new earlier last closed =
    record { acknowledges = last.acknowledges ∙ ap (λ (n : ℕ). n + 1) earlier.acknowledges; drawn = omega (arith, earlier.drawn, last.drawn); closed = closed }

pub makes-zero : (receipts : List Receipt) → receipts ≡ [] → Makes 0 receipts
makes-zero receipts none = subst (Makes 0) (sym none) (record { acknowledges = refl; drawn = omega arith; closed = refl })

-- ---- a step that neither draws nor ends

-- such a step
record IsPlain (step : Step) : Type 0 where
  ends : (note : Note) → ended_of step note ≡ None
  draws : (note : Note) → has_drawn step note ≡ false

begin-plain : IsPlain Begin
begin-plain = record { ends = λ note. refl; draws = λ note. refl }

put-plain : (n : ℕ) (key : Key) (row : List ℕ) → IsPlain (Put n key row)
put-plain n key row = record { ends = λ note. refl; draws = λ note. refl }

abort-plain : (n : ℕ) → IsPlain (Abort n)
abort-plain n = record { ends = λ note. refl; draws = λ note. refl }

-- what it leaves
record LeavesAll (old new : List Receipt) : Type 0 where
  acknowledges : acknowledged new ≡ acknowledged old
  drawn : draws new ≡ draws old

leaves-same : (old new : List Receipt) → new ≡ old → LeavesAll old new
leaves-same old new is = record { acknowledges = ap acknowledged is; drawn = ap draws is }

asked-plain : (old new : List Receipt) (step : Step) (note : Note) → IsPlain step → Asks old new step note → LeavesAll old new
asked-plain old new step note plain a = grind (arith, ends, count-one, acknowledged-none, draws-append)

refused-plain : (old new : List Receipt) (step : Step) (fault : Fault) → IsPlain step → Refuses old new step fault → LeavesAll old new
refused-plain old new step fault plain (inl (same, memory)) = leaves-same old new same
refused-plain old new step fault plain (inr asks) = asked-plain old new step (Refused fault) plain asks

declined-plain : (phase : Phase) (old new : List Receipt) (step : Step) (fault : Fault) → IsPlain step → Declines phase old new step fault → LeavesAll old new
declined-plain phase old new step fault plain (inl (there, refuses)) = refused-plain old new step fault plain refuses
declined-plain phase old new step fault plain (inr (idle, none, same)) = leaves-same old new same

leaves-none : (p q : Phase) (old new : List Receipt) → pending p ≤ pending q → LeavesAll old new → MakesNone p old q new
leaves-none p q old new less all = record { acknowledges = all.acknowledges; drawn = omega (arith, less, all.drawn) }

same-pending : (p q : Phase) → q ≡ p → pending p ≤ pending q
same-pending p q is = omega (arith, ap pending is)

none-pending : (p q : Phase) → pending p ≡ 0 → pending p ≤ pending q
none-pending p q none = omega (arith, none)

-- a begin
pub begun-none : (p q : Phase) (old new : List Receipt) (n : ℕ) → p ≡ Idle → Asks old new Begin (Began n) → MakesNone p old q new
begun-none p q old new n idle asks = leaves-none p q old new (none-pending p q (ap pending idle)) (asked-plain old new Begin (Began n) begin-plain asks)

pub not-begun-none : (p q : Phase) (old new : List Receipt) (fault : Fault) → q ≡ p
    → ((p ≡ Idle) × Refuses old new Begin fault) ⊎ ((p ≢ Idle) × (fault ≡ WrongState) × (new ≡ old)) → MakesNone p old q new
not-begun-none p q old new fault is (inl (idle, refuses)) = leaves-none p q old new (same-pending p q is) (refused-plain old new Begin fault begin-plain refuses)
not-begun-none p q old new fault is (inr (there, wrong, same)) = leaves-none p q old new (same-pending p q is) (leaves-same old new same)

-- a put
pub put-none : (p q : Phase) (old new : List Receipt) (n : ℕ) (key : Key) (row : List ℕ) (result : Result ⊤ Fault) → q ≡ p
    → IfOk result (λ done. Answers p old new (Put n key row) Done) → IfErr result (λ fault. Declines p old new (Put n key row) fault) → MakesNone p old q new
put-none p q old new n key row (Ok done) is ok err = leaves-none p q old new (same-pending p q is) (asked-plain old new (Put n key row) Done (put-plain n key row) ok.1)
put-none p q old new n key row (Err fault) is ok err = leaves-none p q old new (same-pending p q is) (declined-plain p old new (Put n key row) fault (put-plain n key row) err)

-- an abort
pub aborted-none : (p q : Phase) (old new : List Receipt) (n : ℕ) → pending p ≡ 0 → Answers p old new (Abort n) Done → MakesNone p old q new
aborted-none p q old new n none answers = leaves-none p q old new (none-pending p q none) (asked-plain old new (Abort n) Done (abort-plain n) answers.1)

pub not-aborted-none : (p q : Phase) (old new : List Receipt) (n : ℕ) (fault : Fault) → q ≡ p → Declines p old new (Abort n) fault → MakesNone p old q new
not-aborted-none p q old new n fault is declines = leaves-none p q old new (same-pending p q is) (declined-plain p old new (Abort n) fault (abort-plain n) declines)

-- ---- the receipts of a commit

stamps-ends : (n : ℕ) (xs : List Receipt) → All (λ r. r.step ≡ Stamp n) xs → ends xs ≡ 0
stamps-ends n xs all = none-counted (λ r. is_some (ended_of r.step r.note)) xs (λ k d less. ap (λ (s : Step). is_some (ended_of s (slice_index_or xs k d).note)) (all k d less))

stamps-draws : (n : ℕ) (xs : List Receipt) → All (λ r. r.step ≡ Stamp n) xs → draws xs ≡ 0
stamps-draws n xs all = none-counted (λ r. has_drawn r.step r.note) xs (λ k d less. ap (λ (s : Step). has_drawn s (slice_index_or xs k d).note) (all k d less))

polls-ends : (n : ℕ) (xs : List Receipt) → ArePolls n xs → ends xs ≡ 0
polls-ends n xs all = none-counted (λ r. is_some (ended_of r.step r.note)) xs (λ k d less. ap (λ (s : Step). is_some (ended_of s (slice_index_or xs k d).note)) (all k d less))

polls-draws : (n : ℕ) (xs : List Receipt) → ArePolls n xs → draws xs ≡ 0
polls-draws n xs all = none-counted (λ r. has_drawn r.step r.note) xs (λ k d less. ap (λ (s : Step). has_drawn s (slice_index_or xs k d).note) (all k d less))

ends-draws : (n : ℕ) (xs : List Receipt) → All (λ r. r.step ≡ End n) xs → draws xs ≡ 0
ends-draws n xs all = none-counted (λ r. has_drawn r.step r.note) xs (λ k d less. ap (λ (s : Step). has_drawn s (slice_index_or xs k d).note) (all k d less))

draw-ends : (n : ℕ) (r : Receipt) → r.step ≡ Draw n → ended_of r.step r.note ≡ None
draw-ends n r is = ap (λ (s : Step). ended_of s r.note) is

-- a prepare ends nothing, and draws only if nothing was drawn before
prepare-ends : (phase : Phase) (xs : List Receipt) → AskPrepare phase xs → ends xs ≡ 0
prepare-ends a xs none = grind (arith, ends, draw-ends, ends-cons, stamps-ends)

one-at-most : (b : Bool) → (if b then 1 else 0) ≤ 1
one-at-most a = grind (arith)

prepare-draws : (phase : Phase) (xs : List Receipt) → AskPrepare phase xs → draws xs + pending phase ≤ 1
prepare-draws Idle xs none = omega (arith, ap draws none)
prepare-draws (Active n) xs (inl none) = omega (arith, ap draws none)
prepare-draws (Active n) xs (inr (r, rest, is, drew, stamps)) = omega (arith, ap draws is, draws-cons r rest, stamps-draws n rest stamps, one-at-most (has_drawn r.step r.note))
prepare-draws (Drawn n t) xs stamps = omega (arith, stamps-draws n xs stamps)
prepare-draws (Stamped n t) xs none = omega (arith, ap draws none)
prepare-draws (Covered n) xs none = omega (arith, ap draws none)

asked-draws : (phase : Phase) (added : List Receipt) (asks : AskCommit phase added) → draws added ≡ draws asks.prepare
asked-draws phase added asks = grind (arith, draws-append asks.prepare (asks.polls ++ asks.end), draws-append asks.polls asks.end, polls-draws (number_of phase) asks.polls asks.all_polls, ends-draws (number_of phase) asks.end asks.ends)

asked-ends : (phase : Phase) (added : List Receipt) (asks : AskCommit phase added) → ends added ≤ 1
asked-ends phase added asks = grind (arith, ends, ends-append, prepare-ends, polls-ends, ends-short)

-- ---- a commit that returns a timestamp

poll-told : (n t : ℕ) (r : Receipt) → r.step ≡ Poll n → r.note ≡ Committed t → reported_to r.step r.note ≡ Some n
poll-told n t r is told = ap (λ (s : Step). reported_to s r.note) is ∙ ap (reported_to (Poll n)) told

end-done : (n : ℕ) (r : Receipt) → r.step ≡ End n → r.note ≡ Done → ended_of r.step r.note ≡ Some n
end-done n r is done = ap (λ (s : Step). ended_of s r.note) is ∙ ap (ended_of (End n)) done

pub commit-one : (old new : List Receipt) (phase : Phase) (t : ℕ) → Called old new (λ added. AskCommit phase added × ReportsCommit phase added (Some t)) → MakesOne phase old new
commit-one old new phase t called =
    let asks = called.holds.0 in
    let tells = called.holds.1 in
    let poll = tells.poll in
    let end = tells.end in
    let front : List Receipt = tells.before ++ poll ∷ [] in
    let done : ended_of end.step end.note ≡ Some (number_of phase) = end-done (number_of phase) end tells.ended tells.done in
    let one : ends (end ∷ []) ≡ 1 = count-one (λ r. is_some (ended_of r.step r.note)) end ∙ ap (λ (o : Option ℕ). if is_some o then 1 else 0) done in
    let none : ends front ≡ 0 = omega (arith, asked-ends phase called.added asks, ap ends tells.is, ends-append front (end ∷ []), one) in
    let whole : new ≡ (old ++ tells.before) ++ poll ∷ end ∷ [] =
    called.is ∙ (ap (λ (rs : List Receipt). old ++ rs) (tells.is ∙ append_assoc tells.before (poll ∷ []) (end ∷ [])) ∙ sym (append_assoc old tells.before (poll ∷ end ∷ []))) in
    let earlier : acknowledged ((old ++ tells.before) ++ poll ∷ []) ≡ acknowledged old = ap acknowledged (append_assoc old tells.before (poll ∷ [])) ∙ acknowledged-none old front none in
    record {
      acknowledges = ap acknowledged whole
          ∙ (acknowledged-one (old ++ tells.before) poll end (number_of phase) (poll-told (number_of phase) t poll tells.polled tells.noted) done ∙ ap (λ (n : ℕ). n + 1) earlier);
      drawn = omega (arith, ap draws called.is, draws-append old called.added, asked-draws phase called.added asks, prepare-draws phase asks.prepare asks.asks);
    }

pub commit-some : (p q : Phase) (first old new : List Receipt) (answer : Option ℕ) → MakesNone p first q old → Called old new (λ added. AskCommit q added × ReportsCommit q added answer)
    → is_some answer ≡ true → MakesOne p first new
commit-some p q first old new None earlier called is = absurd (false≢true is)
commit-some p q first old new (Some t) earlier called is = none-then-one p q first old new earlier (commit-one old new q t called)

-- ---- a commit that fails

undone : (s : Step) (note : Note) → ((n : ℕ) → s ≡ End n → note ≢ Done) → is_some (ended_of s note) ≡ false
undone a note still = grind (arith)

unended-ends : (xs : List Receipt) → AreUnended xs → ends xs ≡ 0
unended-ends xs all = none-counted (λ r. is_some (ended_of r.step r.note)) xs (λ k d less. undone (slice_index_or xs k d).step (slice_index_or xs k d).note (all k d less))

-- a transaction that has drawn keeps its timestamp
record Keeps (r : Receipt) : Type 0 where
  stays : (phase : Phase) → pending phase ≤ pending (phase_after_step phase r.step r.note)

all-keep : (phase : Phase) (xs : List Receipt) → All Keeps xs → pending phase ≤ pending (phase_after phase xs)
all-keep phase [] all = omega arith
all-keep phase (r ∷ rs) all =
    omega (arith, (All-head Keeps r rs all).stays phase, all-keep (phase_after_step phase r.step r.note) rs (All-tail Keeps r rs all))

pending-at-most : (phase : Phase) → pending phase ≤ 1
pending-at-most a = grind (arith)

stamp-keeps : (n : ℕ) (phase : Phase) (note : Note) → pending phase ≤ pending (phase_after_step phase (Stamp n) note)
stamp-keeps n phase a = grind (arith, pending-at-most)

end-keeps : (n : ℕ) (phase : Phase) (note : Note) → note ≢ Done → pending phase ≤ pending (phase_after_step phase (End n) note)
end-keeps n phase a still = grind (arith)

draw-keeps : (n k : ℕ) (note : Note) → (if has_drawn (Draw k) note then 1 else 0) ≤ pending (phase_after_step (Active n) (Draw k) note)
draw-keeps n k a = grind (arith)

keeps-as : (step : Step) (r : Receipt) → r.step ≡ step → ((phase : Phase) → pending phase ≤ pending (phase_after_step phase step r.note)) → Keeps r
keeps-as step r is keeps = record { stays = λ phase. subst (λ (s : Step). pending phase ≤ pending (phase_after_step phase s r.note)) (sym is) (keeps phase) }

stamps-keep : (n : ℕ) (xs : List Receipt) → All (λ r. r.step ≡ Stamp n) xs → All Keeps xs
stamps-keep n xs all = λ k d less. keeps-as (Stamp n) (slice_index_or xs k d) (all k d less) (λ phase. stamp-keeps n phase (slice_index_or xs k d).note)

polls-keep : (n : ℕ) (xs : List Receipt) → ArePolls n xs → All Keeps xs
polls-keep n xs all = λ k d less. keeps-as (Poll n) (slice_index_or xs k d) (all k d less) (λ phase. omega arith)

ends-keep : (n : ℕ) (xs : List Receipt) → All (λ r. r.step ≡ End n) xs → AreUnended xs → All Keeps xs
ends-keep n xs all still =
    λ k d less. keeps-as (End n) (slice_index_or xs k d) (all k d less) (λ phase. end-keeps n phase (slice_index_or xs k d).note (still k d less n (all k d less)))

prepare-keeps : (phase : Phase) (xs : List Receipt) → AskPrepare phase xs → draws xs + pending phase ≤ pending (phase_after phase xs)
prepare-keeps Idle xs none = omega (arith, ap draws none)
prepare-keeps (Active n) xs (inl none) = omega (arith, ap draws none)
prepare-keeps (Active n) xs (inr (r, rest, is, drew, stamps)) = grind (arith, draw-keeps n n r.note, all-keep (phase_after_step (Active n) r.step r.note) rest (stamps-keep n rest stamps), stamps-keep n rest stamps, draws-cons r rest, stamps-draws n rest stamps)
prepare-keeps (Drawn n t) xs stamps = omega (arith, stamps-draws n xs stamps, all-keep (Drawn n t) xs (stamps-keep n xs stamps))
prepare-keeps (Stamped n t) xs none = omega (arith, ap draws none, ap (λ (rs : List Receipt). pending (phase_after (Stamped n t) rs)) none)
prepare-keeps (Covered n) xs none = omega (arith, ap draws none)

All-right : {X : Type 0} (P : X → Type 0) (xs ys : List X) → All P (xs ++ ys) → All P ys
All-right P [] ys all = all
All-right P (x ∷ xs) ys all = All-right P xs ys (All-tail P x (xs ++ ys) all)

asked-keeps : (phase : Phase) (added : List Receipt) → AskCommit phase added → AreUnended added → draws added + pending phase ≤ pending (phase_after phase added)
asked-keeps phase added asks still =
    let later : List Receipt = asks.polls ++ asks.end in
    let parts : AreUnended later = All-right (λ r. (n : ℕ) → r.step ≡ End n → r.note ≢ Done) asks.prepare later (subst AreUnended asks.is still) in
    let last : AreUnended asks.end = All-right (λ r. (n : ℕ) → r.step ≡ End n → r.note ≢ Done) asks.polls asks.end parts in
    let keep : All Keeps later = All-append Keeps asks.polls asks.end (polls-keep (number_of phase) asks.polls asks.all_polls) (ends-keep (number_of phase) asks.end asks.ends last) in
    let there : phase_after phase added ≡ phase_after (phase_after phase asks.prepare) later = ap (phase_after phase) asks.is ∙ phase_after-append phase asks.prepare later in
    omega (arith, asked-draws phase added asks, prepare-keeps phase asks.prepare asks.asks, all-keep (phase_after phase asks.prepare) later keep, ap pending there)

declined-there : (Halted : Fault → Type 0) (phase : Phase) (added : List Receipt) (fault : Fault) → phase ≢ Idle → DeclinesCall Halted phase added fault → ReportsEnd Halted added fault × AreUnended added
declined-there a b added fault there declined = grind (arith)

pub commit-none : (Halted : Fault → Type 0) (p q : Phase) (old new : List Receipt) (fault : Fault) → p ≢ Idle → Called old new (λ added. AskCommit p added × DeclinesCall Halted p added fault)
    → q ≡ phase_after p (added_since old new) → MakesNone p old q new
commit-none Halted p q old new fault there called is = grind (arith, declined-there, drop-append_seam, acknowledged-none, unended-ends, draws-append, asked-keeps)

-- ---- a call is refused

tells-more : (old added new : List Receipt) (note : Note) → new ≡ old ++ added → ReportsLast added note → ReportsLast new note
tells-more old added new note is (before, r, last, told) = (old ++ before, r, is ∙ (ap (λ (rs : List Receipt). old ++ rs) last ∙ sym (append_assoc old before (r ∷ []))), told)

ended-more : (Halted : Fault → Type 0) (old added new : List Receipt) (fault : Fault) → new ≡ old ++ added → ReportsEnd Halted added fault → (fault ≡ OutOfMemory) ⊎ IsRefusedWith Halted new fault
ended-more Halted old added new fault is (inl (inl memory)) = inl memory
ended-more Halted old added new fault is (inl (inr last)) = inr (inl (tells-more old added new (Refused fault) is last))
ended-more Halted old added new fault is (inr (halted, waiting)) = inr (inr halted)

pub refused-called : (Halted : Fault → Type 0) (phase : Phase) (old new : List Receipt) (fault : Fault) (Asked : List Receipt → Type 0) → phase ≢ Idle
    → Called old new (λ added. Asked added × DeclinesCall Halted phase added fault) → (fault ≡ OutOfMemory) ⊎ (((fault ≡ WrongState) × ReportsNothing new) ⊎ IsRefusedWith Halted new fault)
refused-called Halted phase old new fault Asked there called = either (ended-more Halted old called.added new fault called.is (declined-there Halted phase called.added fault there called.holds.1).0)
  where
    either : (fault ≡ OutOfMemory) ⊎ IsRefusedWith Halted new fault → (fault ≡ OutOfMemory) ⊎ (((fault ≡ WrongState) × ReportsNothing new) ⊎ IsRefusedWith Halted new fault)
    either (inl memory) = inl memory
    either (inr refused) = inr (inr refused)

-- ---- nothing was written

nothing-more : (old added new before : List Receipt) (poll last : Receipt) → new ≡ old ++ added → added ≡ (before ++ poll ∷ []) ++ last ∷ [] → new ≡ ((old ++ before) ++ poll ∷ []) ++ last ∷ []
nothing-more old added new before poll last is ends =
    is ∙ (ap (λ (rs : List Receipt). old ++ rs) ends ∙ (sym (append_assoc old (before ++ poll ∷ []) (last ∷ [])) ∙ ap (λ (rs : List Receipt). rs ++ last ∷ []) (sym (append_assoc old before (poll ∷ [])))))

-- a commit that reported that
pub reports-nothing : (phase : Phase) (old new : List Receipt) (answer : Option ℕ) (Asked : List Receipt → Type 0) → answer ≡ None
    → Called old new (λ added. Asked added × ReportsCommit phase added answer) → ReportsNothing new
reports-nothing phase old new answer Asked none called =
    let t = called.holds.1 in
    (number_of phase, old ++ t.before, t.poll, t.end, nothing-more old called.added new t.before t.poll t.end called.is t.is, t.polled, t.noted ∙ ap note_of_commit none, t.ended, t.done)

-- ---- a thread stops

no-memory : (fault : Fault) → may_pass fault ≡ false → fault ≡ OutOfMemory → ⊥
no-memory fault final memory = grind (arith)

pub final-refused : (Refused' : Type 0) (fault : Fault) → may_pass fault ≡ false → (fault ≡ OutOfMemory) ⊎ Refused' → Refused'
final-refused a fault final b = grind (arith, no-memory)

-- after it failed to abort
pub gives-up : (image : Image) (told known : Option Halt) (mid new : List Receipt) (fault why : Fault) → (fault ≡ OutOfMemory) ⊎ (((fault ≡ WrongState) × ReportsNothing mid) ⊎ IsRefusedWith (Knows image told) mid fault)
    → (may_pass why ≡ false) × (((why ≡ fault) × (new ≡ mid) × (known ≡ told)) ⊎ ReportsLast new (Refused why)) → GivesUp (Knows image known) new why
gives-up image told known mid new fault why is (final, inr last) = record { is_final = final; why = inr (inl last) }
gives-up image told known mid new fault why is (final, inl (same, none, knows)) = record {
  is_final = final;
  why = subst (λ (f : Fault). Why f new known) (sym same)
      (subst (λ (rs : List Receipt). Why fault rs known) (sym none)
      (subst (λ (t : Option Halt). Why fault mid t) (sym knows) (final-refused (Why fault mid told) fault (ap may_pass (sym same) ∙ final) is)));
}
  where
    Why : Fault → List Receipt → Option Halt → Type 0
    Why f rs t = ((f ≡ WrongState) × ReportsNothing rs) ⊎ IsRefusedWith (Knows image t) rs f
