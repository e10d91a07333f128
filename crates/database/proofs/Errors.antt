-- What the error of a commit says.
use Rattle.std.proofs.Common.{◌≡◌, ◌≢◌, ◌⊎◌, ◌↔◌, ◌≤◌, inl, inr, ℕ, Bool, false, List, [], ◌∷◌, ◌++◌, leb, le-leb, leb-true, refl, sym, subst, arith}
use mathlib.Core.HLevel.{⊥_prop}
use Rattle.std.specs.Prelude.{⊤, Option, Some, None, IfSome, is_some, IsTrue, Result, Ok, Err}
use Rattle.std.specs.Result.{ForOk, ForErr}
use Rattle.std.specs.Option.{ForSome, option_or}
use Rattle.std.proofs.Math.Logic.{∥∥₁_elim, ∥∥₁_prop}
use Rattle.std.proofs.lemmas.List.Elements.{Contains-push}
use Rattle.base.specs.Batches.{Batch}
use Rattle.base.specs.declared.fault.Fault.{Fault}
use Rattle.base.specs.declared.fault.Fault.TheVariants.{Conflict, OutOfMemory, TimestampsOut, Failed, Device as DeviceFault}
use Rattle.base.specs.declared.key.Key.{Key}
use Rattle.base.specs.declared.step.Step.{Step}
use Rattle.base.specs.declared.step.Step.TheVariants.{Poll, Commit as CommitTick}
use Rattle.base.specs.declared.step.Reply.{Reply}
use Rattle.base.specs.declared.step.Reply.TheVariants.{Refused as RefusedWith}
use Rattle.base.specs.Search.{some_if}
use Rattle.machine.specs.Machine.{State, Stepped, refused, answered, memory_refused, device_failed}
use Rattle.machine.proofs.Runs.{IsAnswer, Answers-answer}
use Rattle.pmem.specs.Device.{Device}
use Rattle.pmem.specs.declared.device.Pmem.{Ghosts}
use Rattle.room.specs.declared.room.Room.{Room}
use Rattle.database.specs.declared.error.CommitError.{CommitError}
use Rattle.database.specs.declared.error.CommitError.TheVariants.{Refused, Open}
use Rattle.database.specs.Replies.{committed_of}
use Rattle.room.specs.Room.{Leads, Shows, ShowsStatus, device_of}
use Rattle.room.specs.declared.status.Status.{Status}
use Rattle.room.specs.declared.ticks.Tick.{Tick}
use Rattle.room.specs.Ticks.{as_reply as ticked}
use Rattle.database.specs.declared.opened.OpenedRoom.{OpenedRoom}
use Rattle.room.specs.Runs.{HasTaken}
use Rattle.room.proofs.Runs.{leads-one, over-some, taken-led, ends-run}
use Rattle.database.specs.Ended.{EndedIn, EndedAlong, IsLast, HasEnded}
use Rattle.database.specs.Obeys.{Finishes, AnswersStep, IsStep}
use Rattle.database.specs.Committing.{IsAcknowledged, HasLackedMemory, IsSettledUpTo, WaitsInVain, IsGivenUp, StopsAfter, StopsAtEnd, GivesUp, IsAnswered, IsAnsweredAt, AnswersTo, ReportsError, ReportsRefusal}
use Rattle.database.proofs.Runs.{run-led, ends-once-ended, answers-step}
use Rattle.database.proofs.Reporting.{polled_so}
use Rattle.history.specs.declared.origin.Origin.{Ghosts as Origins}

-- ---- a tick that is refused

by-tests : (failed past : Bool) (fault : Fault) → option_or (some_if failed Failed) (option_or (some_if past TimestampsOut) None) ≡ Some fault → IsLast fault
by-tests a past fault e = grind (arith)

is-last : (q q' : State) (fault : Fault) (reply : Reply) → Stepped q CommitTick reply q' → reply ≡ RefusedWith fault → fault ≢ OutOfMemory → IsLast fault
is-last q q' fault reply (refused f why is same) told other = let same_fault : f ≡ fault = cc (sym is, told) in subst IsLast same_fault (by-tests q.failed _ f why)
is-last q q' fault reply (answered free is same) told other = absurd (subst IsAnswer told (Answers-answer q CommitTick reply is))
is-last q q' fault reply (memory_refused free takes is same) told other = absurd (other (cc (sym told, is)))
is-last q q' fault reply (device_failed free operates is same) told other = let device : fault ≡ DeviceFault = cc (sym told, is) in inr (inl device)

-- some state is shown, from which the tick was made
last_from : {D : Type 0} {G : Ghosts D} {Made : List (Step × Reply) → Type 0} (state : D → Device) (old new : Room D G) (fault : Fault) → HasTaken state old Made
    → Leads state old new CommitTick (RefusedWith fault) → fault ≢ OutOfMemory → IsLast fault
last_from state old new fault r leads other =
    let s = over-some r.opened (device_of state old) r.taken (Shows state old) r.run in
    let b = leads s.0 s.1 in is-last s.0 b.0 fault (RefusedWith fault) b.1.stepped refl other

pub has-ended : {D : Type 0} {G : Ghosts D} {ended : Option Fault} (state : D → Device) (old new : Room D G) (fault : Fault) → ∥ HasTaken state old (EndedAlong ended) ∥₁
    → Leads state old new CommitTick (RefusedWith fault) → fault ≢ OutOfMemory → HasEnded fault
has-ended state old new fault run leads other =
    ∥∥₁_elim run ∥∥₁_prop (λ r.
    ends-run state old new ((CommitTick, RefusedWith fault) ∷ []) _ run (leads-one state old new CommitTick (RefusedWith fault) leads) (refl, last_from state old new fault r leads other))

-- and the run has that tick
pub run-ended : {D : Type 0} {G : Ghosts D} {ended : Option Fault} (state : D → Device) (old new : Room D G) (fault : Fault) → ∥ HasTaken state old (EndedAlong ended) ∥₁
    → Leads state old new CommitTick (RefusedWith fault) → fault ≢ OutOfMemory → ∥ HasTaken state new (EndedAlong (Some fault)) ∥₁
run-ended {D} {G} {ended} state old new fault run leads other =
    taken-led state old new ((CommitTick, RefusedWith fault) ∷ []) (EndedAlong ended) (EndedAlong (Some fault)) run (leads-one state old new CommitTick (RefusedWith fault) leads)
    (λ taken before. record {
      along = λ told is. let same : fault ≡ told = cc is in subst (λ (f : Fault). EndedIn f (taken ++ (CommitTick, RefusedWith fault) ∷ [])) same (Contains-push taken (CommitTick, RefusedWith fault), has-ended state old new fault run leads other);
    })

-- what holds for a room whose committer has ended with this fault
pub ended-in : {D : Type 0} {G : Ghosts D} (state : D → Device) (room : Room D G) (ended : Option Fault) → ∥ HasTaken state room (EndedAlong ended) ∥₁ → (fault : Fault) → ended ≡ Some fault → HasEnded fault
ended-in state room ended run fault is = ∥∥₁_elim run ∥∥₁_prop (λ r. (r.so.along fault is).1)

-- a tick with this result, and the batch that was covered last after it
pub run-ticked : {D : Type 0} {G : Ghosts D} {ended : Option Fault} (state : D → Device) (old new : Room D G) (result : Result Tick Fault) (last : Option Batch) (after : Option Fault)
    → ∥ HasTaken state old (EndedAlong ended) ∥₁ → Leads state old new CommitTick (ticked result last)
    → (after ≡ ended) ⊎ ((fault : Fault) × (result ≡ Err fault) × (fault ≢ OutOfMemory) × (after ≡ Some fault)) → ∥ HasTaken state new (EndedAlong after) ∥₁
run-ticked state old new result last after run leads (inl same) =
    subst (λ (e : Option Fault). ∥ HasTaken state new (EndedAlong e) ∥₁) (sym same) (run-led state old new CommitTick (ticked result last) run leads)
run-ticked state old new result last after run leads (inr (fault, is, other, ended)) =
    subst (λ (e : Option Fault). ∥ HasTaken state new (EndedAlong e) ∥₁) (sym ended)
    (run-ended state old new fault run (subst (λ (r : Result Tick Fault). Leads state old new CommitTick (ticked r last)) is leads) other)

-- lack of memory doesn't end the committer
pub has-lacked : {D : Type 0} {G : Ghosts D} {ended : Option Fault} (state : D → Device) (old new : Room D G) → ∥ HasTaken state old (EndedAlong ended) ∥₁
    → Leads state old new CommitTick (RefusedWith OutOfMemory) → HasLackedMemory
has-lacked state old new run leads =
    ends-run state old new ((CommitTick, RefusedWith OutOfMemory) ∷ []) _ run (leads-one state old new CommitTick (RefusedWith OutOfMemory) leads) refl

-- ---- a commit that is waited for

-- its poll reported that it isn't covered
pub finish-waits : {D : Type 0} {G : Ghosts D} {ended : Option Fault} (state : D → Device) (old new : Room D G) (session : ℕ) → ∥ HasTaken state old (EndedAlong ended) ∥₁
    → Finishes state old new session (Ok None) → AnswersStep (Poll session) committed_of (Ok None)
finish-waits state old new session run polls = answers-step state old new (Poll session) committed_of (Ok None) run polls.0

-- and it is waited for no longer
pub stops-after : {D : Type 0} {G : Ghosts D} {ended : Option Fault} (state : D → Device) (old new : Room D G) (session refusals : ℕ) (error : CommitError) → ∥ HasTaken state old (EndedAlong ended) ∥₁
    → Finishes state old new session (Ok None) → IsGivenUp ended refusals error → GivesUp session error
stops-after {D} {G} {ended} state old new session refusals error run polls gives = ∣ inl (stops error gives) ∣₁
  where
    in-vain : (fault : Fault) → ended ≡ Some fault → WaitsInVain session fault
    in-vain fault is =
        ends-once-ended state old new fault ((Poll session, polls.0.0) ∷ []) (IsStep (Poll session) committed_of (Ok None)) run is
        (leads-one state old new (Poll session) polls.0.0 polls.0.1) (polls.0.0, refl, polls.0.2)

    stops : (error : CommitError) → IsGivenUp ended refusals error → StopsAfter session error
    stops (Refused fault) (out, is) = (out, in-vain fault is)
    stops (Open fault) (inl (other, is)) = inl (other, in-vain fault is)
    stops (Open fault) (inr (memory, going, often, lacks)) = inr (memory, lacks, finish-waits state old new session run polls)

-- what is kept of a commit says what became of it
pub answered-so : (session : ℕ) (result : Result ℕ CommitError) → ForOk result (IsAcknowledged session) → ForErr result (GivesUp session) → IsAnswered session result
answered-so session a told why = grind (arith)

-- and of the commit with this timestamp, if it is its answer
pub answered-at : (session t : ℕ) (answer : Result ℕ CommitError) (result : Result ⊤ CommitError) → IsAnswered session answer → AnswersTo t answer result → IsAnsweredAt session t result
answered-at session t answer a is to = grind (arith)

pub answered-if : (session t : ℕ) (answer : Result ℕ CommitError) (result : Option (Result ⊤ CommitError)) → IsAnswered session answer → IfSome result (AnswersTo t answer) → IfSome result (IsAnsweredAt session t)
answered-if session t answer a is to = grind (arith, answered-at)

-- its poll, or its end, was refused
pub finish-refused : {D : Type 0} {G : Ghosts D} {ended : Option Fault} (state : D → Device) (old new : Room D G) (session : ℕ) (fault : Fault) → ∥ HasTaken state old (EndedAlong ended) ∥₁
    → Finishes state old new session (Err fault) → StopsAtEnd session (Open fault)
finish-refused state old new session fault run (inl one) =
    ends-run state old new ((Poll session, one.0) ∷ []) _ run (leads-one state old new (Poll session) one.0 one.1) (inl (one.0, refl, one.2))
finish-refused state old new session fault run (inr (mid, t, polls, last)) = polled_so state old new session t (Err fault) _ (λ taken is. inr (t, is)) run mid polls last

-- ---- a conflict

-- nothing more is covered once the committer has ended
pub settled-ended : (t : ℕ) (ended : Option Fault) → ForSome ended HasEnded → IsTrue (is_some ended) → IsSettledUpTo t
settled-ended t (Some fault) so is = inr (inl (fault, so fault refl))
settled-ended t None so is = absurd (cc is)

-- a timestamp is settled exactly if the committer has ended, or the record has come to it
pub settled-exact : {D J : Type 0} {G : Ghosts D} {O : Origins J} (state : D → Device) (there : Option (OpenedRoom D J G O)) (room : OpenedRoom D J G O) (t : ℕ) (status : Status) → there ≡ Some room → is_some room.ended ≡ false
    → ((q : State) → Shows state room.room q → ShowsStatus q status)
    → IfSome there (λ room. (q : State) → Shows state room.room q → IsTrue (leb t status.persisted) ↔ (IsTrue (is_some room.ended) ⊎ (t ≤ q.ruling.persisted)))
settled-exact {D} {J} {G} {O} state there room t status is going told =
    subst (λ (o : Option (OpenedRoom D J G O)). IfSome o (λ room. (q : State) → Shows state room.room q → IsTrue (leb t status.persisted) ↔ (IsTrue (is_some room.ended) ⊎ (t ≤ q.ruling.persisted))))
    (sym is)
    (λ q shows. (λ less. inr (subst (λ (n : ℕ). t ≤ n) (told q shows).persisted (leb-true t status.persisted less)), λ either. settles (q.ruling.persisted) (told q shows).persisted either))
  where
    settles : (persisted : ℕ) → status.persisted ≡ persisted → IsTrue (is_some room.ended) ⊎ (t ≤ persisted) → IsTrue (leb t status.persisted)
    settles persisted same (inl ended) = absurd (cc (sym ended, going))
    settles persisted same (inr less) = le-leb t status.persisted (subst (λ (n : ℕ). t ≤ n) (sym same) less)

not-given-up : (session : ℕ) (fault : Fault) (key : Key) → fault ≡ Conflict key → StopsAfter session (Refused fault) ⊎ StopsAtEnd session (Refused fault) → ⊥
not-given-up session fault key e a = grind (arith)

-- a conflict is reported if the draw was refused with it
pub tells-refusal : (session : ℕ) (error : CommitError) → ReportsError session error → ReportsRefusal session error
tells-refusal session (Open fault) tells key e = absurd (cc e)
tells-refusal session (Refused fault) (inl (inl (prepared, other), back, late)) key e = (prepared, late key e)
tells-refusal session (Refused fault) (inl (inr (inl (out, ended)), back, late)) key e = absurd (cc (sym out, e))
tells-refusal session (Refused fault) (inl (inr (inr (memory, lacks, full)), back, late)) key e = absurd (cc (sym memory, e))
tells-refusal session (Refused fault) (inr (t, prepared, gives)) key e = let is : fault ≡ Conflict key = cc e in absurd (∥∥₁_elim gives ⊥_prop (λ why. not-given-up session fault key is why))
