-- What a room's steps leave of its log.
use Rattle.std.proofs.Common.{◌≡◌, inl, inr, ℕ, ◌+◌, zero, suc, Bool, true, false, if◌then◌else◌, List, [], ◌∷◌, ◌++◌, length, drop, replicate, refl, sym, ◌∙◌, ap, subst, arith, append_assoc, length-append, Some, None}
use Rattle.std.specs.Prelude.{⊤, Option, Result, Ok, Err, is_ok, is_some, map, unwrap_or, IfSome, IfOk}
use Rattle.std.specs.List.{list_all}
use Rattle.std.specs.Option.{ForSome}
use Rattle.std.proofs.Math.Logic.{∥∥₁_map, ∥∥₁_map₂}
use Rattle.std.proofs.Math.Seq.{drop-append_seam}
use mathlib.Core.List.{IsPrefix}
use Rattle.std.proofs.lemmas.Bool.{eq-eqb}
use Rattle.std.proofs.lemmas.List.{append-nil, map-append, drop-append-le, replicate_more}
use Rattle.base.specs.Batches.{Batch}
use Rattle.base.specs.declared.fault.Fault.{Fault}
use Rattle.base.specs.declared.fault.Fault.TheVariants.{OutOfMemory, Device as DeviceFault}
use Rattle.base.specs.declared.key.Key.{Key}
use Rattle.base.specs.declared.step.Step.{Step}
use Rattle.base.specs.declared.step.Step.TheVariants.{Begin, Scan, Put, Delete, Draw, Stamp, Abort, End, Commit as CommitTick, Collect}
use Rattle.base.specs.declared.step.Reply.{Reply}
use Rattle.base.specs.declared.step.Reply.TheVariants.{Began, Done, Drawn as DrewAs, Refused}
use Rattle.base.specs.Lists.{is_nil}
use Rattle.base.specs.Steps.{as_reply}
use Rattle.machine.specs.Machine.{State, Stepped, refused, answered, memory_refused, device_failed, free_session, writes_of}
use Rattle.machine.proofs.Failures.{failed-refuses}
use Rattle.pmem.specs.Device.{Device}
use Rattle.pmem.specs.Words.{image_of}
use Rattle.pmem.specs.declared.device.Pmem.{Ghosts}
use Rattle.room.specs.declared.room.Room.{Room}
use Rattle.room.specs.Room.{Shows, Leads, device_of}
use Rattle.room.specs.Runs.{LeadsAlong, RunOver, visited_from}
use Rattle.room.proofs.Runs.{leads-one, over-weaken}
use Rattle.room.specs.declared.ticks.Tick.{Tick}
use Rattle.room.specs.declared.ticks.Tick.TheVariants as came
use Rattle.collector.specs.declared.visit.Visit.{Visit}
use Rattle.collector.specs.declared.visit.Visit.TheVariants as visit
use Rattle.room.specs.Ticks.{as_reply as ticked}
use Rattle.session_steps.specs.Collecting.{as_reply as visited}
use Rattle.session_steps.specs.Replies.{began, done, drawn, stamped}
use Rattle.session_steps.specs.Reads.{WouldReply, ReadsPage}
use Rattle.session_steps.specs.declared.parts.Page.{Page}
use Rattle.session_laws.specs.Laws.{IsFirst}
use Rattle.session_laws.specs.Logs.{state_after, AreMade, own, changes, IsQuietSince}
use Rattle.session_laws.specs.Transactions.{Commits}
use Rattle.session_laws.proofs.Logs.{own-append}
use Rattle.session_laws.proofs.Sessions.{begins-fresh}
use Rattle.session_laws.specs.Sessions.{stamps_or_polls}
use Rattle.room_logs.specs.Logs.{HasLog, ShowsOrFailed, Tells}
use Rattle.room_logs.proofs.Logs.{log-opened, log-steps, log-tells, each-both, each-follows}
use Rattle.database.specs.Closing.{IsClosed}
use Rattle.database.specs.declared.error.CommitError.{CommitError}
use Rattle.history.specs.declared.origin.Origin.{Ghosts as Origins}
use Rattle.database.specs.declared.opened.OpenedRoom.{OpenedRoom}
use Rattle.database.specs.Histories.{made_if, write_step, write_steps, GoesOn, Logs, LogsOwn, LogsQuiet, LogsStamps, LogsPrepared, LogsWrites, DoesWrites, OfEachStart, TookFree, DrewNext, IsNextAfter, MadeSince, Known, Attends, KnownIf, KeepsUp, Does, PreparesAfter, EndsOnly, EndsAfter, HasCommitted, BeginsAt, HasBegun, traced, Replies, Sees, ClosesAt}
use Rattle.database.specs.Obeys.{Obeys, log_in}

-- ---- a log that goes on

pub goes-none : (By : List Step → Type 0) (log : Option (List Step)) → By [] → GoesOn By log log
goes-none By (Some log) by = ([], sym (append-nil log), by)
goes-none By None by = refl

pub goes-same : (By : List Step → Type 0) (old new : Option (List Step)) → new ≡ old → By [] → GoesOn By old new
goes-same By old new is by = subst (λ (l : Option (List Step)). GoesOn By old l) (sym is) (goes-none By old by)

pub goes-join : (One Two All : List Step → Type 0) (old mid new : Option (List Step)) → ((x y : List Step) → One x → Two y → All (x ++ y)) → GoesOn One old mid → GoesOn Two mid new → GoesOn All old new
goes-join One Two All (Some old) (Some mid) (Some new) so (x, first, one) (y, second, two) =
    (x ++ y, second ∙ (ap (λ (l : List Step). l ++ y) first ∙ append_assoc old x y), so x y one two)
goes-join One Two All (Some old) (Some mid) None so one two = tt
goes-join One Two All (Some old) None (Some new) so one two = absurd (cc two)
goes-join One Two All (Some old) None None so one two = tt
goes-join One Two All None (Some mid) new so one two = absurd (cc one)
goes-join One Two All None None new so one two = two

pub goes-weaken : (One Two : List Step → Type 0) (old new : Option (List Step)) → ((x : List Step) → One x → Two x) → GoesOn One old new → GoesOn Two old new
goes-weaken One Two (Some old) (Some new) so (x, is, one) = (x, is, so x one)
goes-weaken One Two (Some old) None so one = tt
goes-weaken One Two None new so one = one

-- a session's own steps in two parts
own-parts : (s : ℕ) (x y one two : List Step) → own s x ≡ one → own s y ≡ two → own s (x ++ y) ≡ one ++ two
own-parts s x y one two first second = own-append s x y ∙ cc (first, second)

pub own-join : (s : ℕ) (one two : List Step) (old mid new : Option (List Step)) → LogsOwn s one old mid → LogsOwn s two mid new → LogsOwn s (one ++ two) old new
own-join s one two old mid new first second =
    goes-join (λ x. own s x ≡ one) (λ y. own s y ≡ two) (λ z. own s z ≡ one ++ two) old mid new (λ x y. own-parts s x y one two) first second

-- nothing more of the session
pub own-then : (s : ℕ) (one : List Step) (old mid new : Option (List Step)) → LogsOwn s one old mid → LogsQuiet mid new → LogsOwn s one old new
own-then s one old mid new first second =
    goes-join (λ x. own s x ≡ one) (λ y. (n : ℕ) → own n y ≡ []) (λ z. own s z ≡ one) old mid new (λ x y is quiet. own-parts s x y one [] is (quiet s) ∙ append-nil one) first second

pub quiet-then : (s : ℕ) (two : List Step) (old mid new : Option (List Step)) → LogsQuiet old mid → LogsOwn s two mid new → LogsOwn s two old new
quiet-then s two old mid new first second =
    goes-join (λ x. (n : ℕ) → own n x ≡ []) (λ y. own s y ≡ two) (λ z. own s z ≡ two) old mid new (λ x y quiet is. own-parts s x y [] two (quiet s) is) first second

pub quiet-join : (old mid new : Option (List Step)) → LogsQuiet old mid → LogsQuiet mid new → LogsQuiet old new
quiet-join old mid new first second =
    goes-join (λ x. (n : ℕ) → own n x ≡ []) (λ y. (n : ℕ) → own n y ≡ []) (λ z. (n : ℕ) → own n z ≡ []) old mid new (λ x y one two n. own-parts n x y [] [] (one n) (two n)) first second

pub logs-join : (one two : List Step) (old mid new : Option (List Step)) → Logs one old mid → Logs two mid new → Logs (one ++ two) old new
logs-join one two old mid new first second =
    goes-join (λ x. x ≡ one) (λ y. y ≡ two) (λ z. z ≡ one ++ two) old mid new (λ x y is so. cc (is, so)) first second

-- ---- a room that keeps its log

-- what its steps add is what is made of them
pub logged-along : {D : Type 0} {G : Ghosts D} (state : D → Device) (opened : Device) (old new : Room D G) (taken : List (Step × Reply)) (steps : List Step) (before after : Option (List Step))
    → ForSome before (λ log. ∥ HasLog state opened old log ∥₁) → LeadsAlong state old new taken → Logs steps before after → changes taken ≡ steps → ForSome after (λ log. ∥ HasLog state opened new log ∥₁)
logged-along {D} {G} state opened old new taken steps (Some before) (Some after) kept leads (more, goes, is) made log same =
    ∥∥₁_map (kept before refl) (λ has.
    subst (HasLog state opened new) (ap (λ (l : List Step). before ++ l) (made ∙ sym is) ∙ (sym goes ∙ cc same))
    (log-steps state old new opened before taken has leads))
logged-along state opened old new taken steps (Some before) None kept leads goes made log same = absurd (cc same)
logged-along state opened old new taken steps None (Some after) kept leads goes made log same = absurd (cc goes)
logged-along state opened old new taken steps None None kept leads goes made log same = absurd (cc same)

-- the same of one step
pub logged-led : {D : Type 0} {G : Ghosts D} (state : D → Device) (opened : Device) (old new : Room D G) (step : Step) (reply : Reply) (steps : List Step) (before after : Option (List Step))
    → ForSome before (λ log. ∥ HasLog state opened old log ∥₁) → Leads state old new step reply → Logs steps before after → changes ((step, reply) ∷ []) ≡ steps → ForSome after (λ log. ∥ HasLog state opened new log ∥₁)
logged-led state opened old new step reply steps before after kept leads goes made =
    logged-along state opened old new ((step, reply) ∷ []) steps before after kept (leads-one state old new step reply leads) goes made

-- what is made of visits that passed
pub made-passed : (slot count : ℕ) → changes (map (λ reply. (Collect, reply)) (visited_from slot count)) ≡ replicate count Collect
made-passed slot zero = refl
made-passed slot (suc count) = ap (λ (l : List Step). Collect ∷ l) (made-passed (slot + 1) count)

-- what is made of each step: itself, unless it is refused
pub made-began : (r : Result ℕ Fault) → changes ((Begin, as_reply (began r)) ∷ []) ≡ made_if (is_ok r) Begin
made-began (Ok n) = refl
made-began (Err fault) = refl

pub made-put : (s : ℕ) (key : Key) (row : List ℕ) (r : Result ⊤ Fault) → changes ((Put s key row, as_reply (done r)) ∷ []) ≡ made_if (is_ok r) (Put s key row)
made-put s key row (Ok n) = refl
made-put s key row (Err fault) = refl

pub made-delete : (s : ℕ) (key : Key) (r : Result ⊤ Fault) → changes ((Delete s key, as_reply (done r)) ∷ []) ≡ made_if (is_ok r) (Delete s key)
made-delete s key (Ok n) = refl
made-delete s key (Err fault) = refl

pub made-drew : (s : ℕ) (r : Result (Option ℕ) Fault) → changes ((Draw s, as_reply (drawn r)) ∷ []) ≡ made_if (is_ok r) (Draw s)
made-drew s (Ok (Some t)) = refl
made-drew s (Ok None) = refl
made-drew s (Err fault) = refl

pub made-stamped : (s : ℕ) (r : Result Bool Fault) → changes ((Stamp s, as_reply (stamped r)) ∷ []) ≡ made_if (is_ok r) (Stamp s)
made-stamped s (Ok true) = refl
made-stamped s (Ok false) = refl
made-stamped s (Err fault) = refl

pub made-aborted : (s : ℕ) (r : Result ⊤ Fault) → changes ((Abort s, as_reply (done r)) ∷ []) ≡ made_if (is_ok r) (Abort s)
made-aborted s (Ok n) = refl
made-aborted s (Err fault) = refl

pub made-ended : (s : ℕ) (r : Result ⊤ Fault) → changes ((End s, as_reply (done r)) ∷ []) ≡ made_if (is_ok r) (End s)
made-ended s (Ok n) = refl
made-ended s (Err fault) = refl

-- reads and polls add nothing
logged-same : {D : Type 0} {G : Ghosts D} (state : D → Device) (opened : Device) (old new : Room D G) (step : Step) (reply : Reply) (log : Option (List Step))
    → ForSome log (λ log. ∥ HasLog state opened old log ∥₁) → Leads state old new step reply → changes ((step, reply) ∷ []) ≡ [] → ForSome log (λ log. ∥ HasLog state opened new log ∥₁)
logged-same state opened old new step reply log kept leads none = logged-led state opened old new step reply [] log log kept leads (goes-none (λ x. x ≡ []) log refl) none

pub logged-quiet : {D : Type 0} {G : Ghosts D} (state : D → Device) (opened : Device) (old new : Room D G) (step : Step) (reply : Reply) (log after : Option (List Step))
    → ForSome log (λ log. ∥ HasLog state opened old log ∥₁) → Leads state old new step reply → changes ((step, reply) ∷ []) ≡ [] → after ≡ log → ForSome after (λ log. ∥ HasLog state opened new log ∥₁)
logged-quiet state opened old new step reply log after kept leads none same =
    subst (λ (l : Option (List Step)). ForSome l (λ log. ∥ HasLog state opened new log ∥₁)) (sym same) (logged-same state opened old new step reply log kept leads none)

-- visits are no session's
pub quiet-visits : (count : ℕ) (old new : Option (List Step)) → Logs (replicate count Collect) old new → LogsQuiet old new
quiet-visits count old new goes = goes-weaken (λ x. x ≡ replicate count Collect) (λ x. (s : ℕ) → own s x ≡ []) old new (λ x is s. ap (own s) is ∙ nothing count s) goes
  where
    nothing : (count s : ℕ) → own s (replicate count Collect) ≡ []
    nothing zero s = refl
    nothing (suc count) s = nothing count s

-- one visit more
pub visits-then : (count : ℕ) (old mid new : Option (List Step)) → Logs (replicate count Collect) old mid → Logs (Collect ∷ []) mid new → Logs (replicate (count + 1) Collect) old new
visits-then count old mid new first second =
    subst (λ (l : List Step). Logs l old new) (replicate_more count Collect) (logs-join (replicate count Collect) (Collect ∷ []) old mid new first second)

-- a worker's step is no session's
pub quiet-if : (is_made : Bool) (step : Step) (old new : Option (List Step)) → ((s : ℕ) → own s (step ∷ []) ≡ []) → Logs (made_if is_made step) old new → LogsQuiet old new
quiet-if is_made step old new none goes = goes-weaken (λ x. x ≡ made_if is_made step) (λ x. (s : ℕ) → own s x ≡ []) old new (λ x is s. ap (own s) is ∙ nothing is_made s) goes
  where
    nothing : (is_made : Bool) (s : ℕ) → own s (made_if is_made step) ≡ []
    nothing true s = none s
    nothing false s = refl

pub made-ticked : (r : Result Tick Fault) (last : Option Batch) → changes ((CommitTick, ticked r last) ∷ []) ≡ made_if (is_ok r) CommitTick
made-ticked (Ok came.Idle) last = refl
made-ticked (Ok (came.Reached stage)) last = refl
made-ticked (Ok came.Covered) (Some batch) = refl
made-ticked (Ok came.Covered) None = refl
made-ticked (Err fault) last = refl

pub made-visited : (r : Result Visit Fault) → changes ((Collect, visited r) ∷ []) ≡ made_if (is_ok r) Collect
made-visited (Ok (visit.Slot slot)) = refl
made-visited (Ok visit.SweepEnd) = refl
made-visited (Err fault) = refl

-- nothing was done to the room
pub logged-as : {D : Type 0} {G : Ghosts D} (state : D → Device) (opened : Device) (old new : Room D G) (log : Option (List Step)) → device_of state new ≡ device_of state old → ((q : State) → Shows state old q → Shows state new q)
    → ForSome log (λ log. ∥ HasLog state opened old log ∥₁) → ForSome log (λ log. ∥ HasLog state opened new log ∥₁)
logged-as state opened old new log is shows kept one same = ∥∥₁_map (kept one same) (λ has. record {
  taken = has.taken;
  run = subst (λ (d : Device). RunOver opened d has.taken (Shows state new)) (sym is) (over-weaken opened (device_of state old) has.taken (Shows state old) (Shows state new) shows has.run);
  log_is = has.log_is;
})

-- ---- what a room's steps tell of the state that its log leads to

began-free : (q q' : State) (n : ℕ) → Stepped q Begin (Began n) q' → free_session q ≡ Some n
began-free q q' n (refused fault why is same) = absurd (cc is)
began-free q q' n (answered free is same) =
    let a = begins-fresh q free in
    let e : n ≡ unwrap_or (free_session q) 0 = cc is in
    let f : unwrap_or (free_session q) 0 ≡ a.0 = ap (λ (o : Option ℕ). unwrap_or o 0) a.1 in
    a.1 ∙ ap (λ (k : ℕ). Some k) (sym (e ∙ f))
began-free q q' n (memory_refused free takes is same) = absurd (cc is)
began-free q q' n (device_failed free operates is same) = absurd (cc is)

drawn-is : (none : Bool) (t n : ℕ) → DrewAs t ≡ (if none then Done else DrewAs n) → t ≡ n
drawn-is true t n is = absurd (cc is)
drawn-is false t n is = cc is

drew-next : (q q' : State) (s t : ℕ) → Stepped q (Draw s) (DrewAs t) q' → t ≡ q.next
drew-next q q' s t (refused fault why is same) = absurd (cc is)
drew-next q q' s t (answered free is same) = drawn-is (is_nil (writes_of (q.sessions s))) t q.next is
drew-next q q' s t (memory_refused free takes is same) = absurd (cc is)
drew-next q q' s t (device_failed free operates is same) = absurd (cc is)

-- what each step from there tells of a state that its log leads to, failed or not
told-each : {D : Type 0} {G : Ghosts D} (state : D → Device) (opened : Device) (old new : Room D G) (step : Step) (reply : Reply) (log : List Step) (Is : State → Type 0)
    → ((q q' : State) → Stepped q step reply q' → Is q) → ((q : State) → Is (record q { failed = true }) → Is q)
    → ForSome (Some log) (λ log. ∥ HasLog state opened old log ∥₁) → Leads state old new step reply → OfEachStart opened (λ history start. Is (state_after start log))
told-each {D} {G} state opened old new step reply log Is tells alike kept leads =
    ∥∥₁_map (kept log refl) (λ has.
    each-follows (image_of opened) (Tells state opened old log) (λ history next start. Is (state_after start log)) (λ history next start told. by (state_after start log) told.shows) (log-tells state old opened log has))
  where
    by : (q : State) → ShowsOrFailed state old q → Is q
    by q (inl shows) = let a = leads q shows in tells q a.0 a.1.stepped
    by q (inr shows) = let a = leads (record q { failed = true }) shows in alike q (tells (record q { failed = true }) a.0 a.1.stepped)

pub took-free : {D : Type 0} {G : Ghosts D} (state : D → Device) (opened : Device) (old new : Room D G) (log : Option (List Step)) (r : Result ℕ Fault) → ForSome log (λ log. ∥ HasLog state opened old log ∥₁)
    → Leads state old new Begin (as_reply (began r)) → TookFree opened log r
took-free state opened old new (Some log) (Ok n) kept leads = told-each state opened old new Begin (Began n) log (λ q. free_session q ≡ Some n) (λ q q' a. began-free q q' n a) (λ q is. is) kept leads
took-free state opened old new (Some log) (Err fault) kept leads = tt
took-free state opened old new None r kept leads = tt

pub drew-led : {D : Type 0} {G : Ghosts D} (state : D → Device) (opened : Device) (old new : Room D G) (s : ℕ) (log : Option (List Step)) (r : Result (Option ℕ) Fault) → ForSome log (λ log. ∥ HasLog state opened old log ∥₁)
    → Leads state old new (Draw s) (as_reply (drawn r)) → DrewNext opened log r
drew-led state opened old new s (Some log) (Ok (Some t)) kept leads = told-each state opened old new (Draw s) (DrewAs t) log (λ q. t ≡ q.next) (λ q q' a. drew-next q q' s t a) (λ q is. is) kept leads
drew-led state opened old new s (Some log) (Ok None) kept leads = tt
drew-led state opened old new s (Some log) (Err fault) kept leads = tt
drew-led state opened old new s None r kept leads = tt

pub made-since : {D : Type 0} {G : Ghosts D} (state : D → Device) (opened : Device) (room : Room D G) (kept : Option (List Step)) (log : List Step) → ForSome kept (λ log. ∥ HasLog state opened room log ∥₁) → kept ≡ Some log → MadeSince opened log
made-since state opened room kept log has is =
    ∥∥₁_map (has log is) (λ h.
    each-follows (image_of opened) (Tells state opened room log) (λ history next start. IsFirst history start × AreMade start log) (λ history next start told. (told.first, told.made)) (log-tells state room opened log h))

-- ---- what a room that keeps its log shows

-- what holds of each state that the room shows holds of the one that its log leads to, if a failed device makes no difference
told-shown : {D : Type 0} {G : Ghosts D} (state : D → Device) (opened : Device) (room : Room D G) (log : List Step) (Is : State → Type 0) → ((q : State) → Shows state room q → Is q) → ((q : State) → Is (record q { failed = true }) → Is q)
    → ForSome (Some log) (λ log. ∥ HasLog state opened room log ∥₁) → OfEachStart opened (λ history start. IsFirst history start × AreMade start log × Is (state_after start log))
told-shown {D} {G} state opened room log Is tells alike kept =
    ∥∥₁_map (kept log refl) (λ has.
    each-follows (image_of opened) (Tells state opened room log) (λ history next start. IsFirst history start × AreMade start log × Is (state_after start log))
    (λ history next start told. (told.first, told.made, by (state_after start log) told.shows)) (log-tells state room opened log has))
  where
    by : (q : State) → ShowsOrFailed state room q → Is q
    by q (inl shows) = tells q shows
    by q (inr shows) = alike q (tells (record q { failed = true }) shows)

-- so what it holds of is what the transaction sees
pub sees-shown : {D J : Type 0} {G : Ghosts D} {O : Origins J} (state : D → Device) (opened : Device) (there : Option (OpenedRoom D J G O)) (room : OpenedRoom D J G O) (s : ℕ) (known : Option Known) (Is : State → Type 0) → there ≡ Some room
    → ForSome room.log (λ log. ∥ HasLog state opened room.room log ∥₁) → Attends s known (log_in there) → ((q : State) → Shows state room.room q → Is q) → ((q : State) → Is (record q { failed = true }) → Is q) → Sees opened s known Is
sees-shown {D} {J} {G} {O} state opened there room s (Some known) Is here kept attends tells alike =
    let (log, is, follows) = subst (λ (o : Option (OpenedRoom D J G O)). Attends s (Some known) (log_in o)) here attends in
    (log, follows, told-shown state opened room.room log Is tells alike (subst (λ (o : Option (List Step)). ForSome o (λ log. ∥ HasLog state opened room.room log ∥₁)) is kept))
sees-shown state opened there room s None Is here kept attends tells alike = tt

-- a device that has failed makes no step
failed-refused : (q q' : State) (step : Step) (reply : Reply) → Stepped (record q { failed = true }) step reply q' → (fault : Fault) × (reply ≡ Refused fault)
failed-refused q q' step reply (refused fault why is same) = (fault, is)
failed-refused q q' step reply (answered free is same) = absurd (cc (free, failed-refuses (record q { failed = true }) step refl))
failed-refused q q' step reply (memory_refused free takes is same) = (OutOfMemory, is)
failed-refused q q' step reply (device_failed free operates is same) = (DeviceFault, is)

-- so nothing is read off its replies
replies-alike : {A : Type 0} (q : State) (step : Step) (read : Reply → Result A Fault) (value : A) → ((fault : Fault) → read (Refused fault) ≡ Err fault) → Replies (record q { failed = true }) step read (Ok value) → Replies q step read (Ok value)
replies-alike q step read value errs (reply, q', made, is) = let r = failed-refused q q' step reply made in absurd (cc (is, r.1, errs r.0))

would-alike : {A : Type 0} (q : State) (step : Step) (read : Reply → Result A Fault) (value : A) → ((fault : Fault) → read (Refused fault) ≡ Err fault) → WouldReply (record q { failed = true }) step read (Ok value) → WouldReply q step read (Ok value)
would-alike q step read value errs (reply, made, is) = let r = failed-refused q (record q { failed = true }) step reply made in absurd (cc (is, r.1, errs r.0))

page-alike : (q : State) (s : ℕ) (first last : Key) (limit : ℕ) (page : Page) → ReadsPage (record q { failed = true }) s first last limit (Ok page) → ReadsPage q s first last limit (Ok page)
page-alike q s first last limit page (free, is) = absurd (cc (free, failed-refuses (record q { failed = true }) (Scan s first.table first.key last.key) refl))

-- what a step replies
pub sees-step : {D J A : Type 0} {G : Ghosts D} {O : Origins J} (state : D → Device) (opened : Device) (there : Option (OpenedRoom D J G O)) (room : OpenedRoom D J G O) (new : Room D G) (s : ℕ) (known : Option Known) (step : Step) (read : Reply → Result A Fault) (result : Result A Fault) (value : A)
    → there ≡ Some room → ForSome room.log (λ log. ∥ HasLog state opened room.room log ∥₁) → Attends s known (log_in there) → Obeys state room.room new step read result → result ≡ Ok value → ((fault : Fault) → read (Refused fault) ≡ Err fault)
    → Sees opened s known (λ q. Replies q step read (Ok value))
sees-step state opened there room new s known step read result value here kept attends (reply, leads, is) so errs =
    sees-shown state opened there room s known (λ q. Replies q step read (Ok value)) here kept attends (λ q shows. let a = leads q shows in (reply, a.0, a.1.stepped, sym so ∙ is)) (λ q failed. replies-alike q step read value errs failed)

pub sees-read : {D J A : Type 0} {G : Ghosts D} {O : Origins J} (state : D → Device) (opened : Device) (there : Option (OpenedRoom D J G O)) (room : OpenedRoom D J G O) (new : Room D G) (s : ℕ) (known : Option Known) (step : Step) (read : Reply → Result A Fault) (result : Result A Fault)
    → there ≡ Some room → ForSome room.log (λ log. ∥ HasLog state opened room.room log ∥₁) → Attends s known (log_in there) → Obeys state room.room new step read result → ((fault : Fault) → read (Refused fault) ≡ Err fault)
    → IfOk result (λ value. Sees opened s known (λ q. Replies q step read (Ok value)))
sees-read state opened there room new s known step read (Ok value) here kept attends obeys errs = sees-step state opened there room new s known step read (Ok value) value here kept attends obeys refl errs
sees-read state opened there room new s known step read (Err fault) here kept attends obeys errs = tt

-- what it would reply
pub sees-part : {D J A : Type 0} {G : Ghosts D} {O : Origins J} (state : D → Device) (opened : Device) (there : Option (OpenedRoom D J G O)) (room : OpenedRoom D J G O) (s : ℕ) (known : Option Known) (step : Step) (read : Reply → Result A Fault) (result : Result A Fault) (value : A)
    → there ≡ Some room → ForSome room.log (λ log. ∥ HasLog state opened room.room log ∥₁) → Attends s known (log_in there) → ((q : State) → Shows state room.room q → WouldReply q step read result) → result ≡ Ok value → ((fault : Fault) → read (Refused fault) ≡ Err fault)
    → Sees opened s known (λ q. WouldReply q step read (Ok value))
sees-part {D} {J} {A} state opened there room s known step read result value here kept attends would so errs =
    sees-shown state opened there room s known (λ q. WouldReply q step read (Ok value)) here kept attends (λ q shows. subst (λ (r : Result A Fault). WouldReply q step read r) so (would q shows)) (λ q failed. would-alike q step read value errs failed)

-- a page
pub sees-page : {D J : Type 0} {G : Ghosts D} {O : Origins J} (state : D → Device) (opened : Device) (there : Option (OpenedRoom D J G O)) (room : OpenedRoom D J G O) (s : ℕ) (known : Option Known) (first last : Key) (limit : ℕ) (result : Result Page Fault)
    → there ≡ Some room → ForSome room.log (λ log. ∥ HasLog state opened room.room log ∥₁) → Attends s known (log_in there) → ((q : State) → Shows state room.room q → ReadsPage q s first last limit result)
    → IfOk result (λ page. Sees opened s known (λ q. ReadsPage q s first last limit (Ok page)))
sees-page state opened there room s known first last limit (Ok page) here kept attends reads =
    sees-shown state opened there room s known (λ q. ReadsPage q s first last limit (Ok page)) here kept attends reads (λ q failed. page-alike q s first last limit page failed)
sees-page state opened there room s known first last limit (Err fault) here kept attends reads = tt

-- ---- a turn of a transaction

-- what was seen, and what the turn added, are what the session has done
pub does-turn : (s : ℕ) (steps : List Step) (old new : Option Known) (before after : Option (List Step)) → Attends s old before → LogsOwn s steps before after → KeepsUp old after new → Does s steps old new
does-turn s steps (Some old) new before after (l, was, (between, goes, quiet)) logs (now, is, keeps) =
    let turn : LogsOwn s steps (Some l) (Some now) = subst (λ (o : Option (List Step)). LogsOwn s steps o (Some now)) was (subst (LogsOwn s steps before) is logs) in
    subst (Does s steps (Some old)) (sym keeps) (
      refl,
      (
        between ++ turn.0,
        turn.1 ∙ (ap (λ (x : List Step). x ++ turn.0) goes ∙ append_assoc old.seen between turn.0),
        own-parts s between turn.0 [] steps quiet turn.2,
      ),
    )
does-turn s steps None new before after attends logs keeps = keeps

own_both : (s : ℕ) → own s (Draw s ∷ End s ∷ []) ≡ Draw s ∷ End s ∷ []
own_both s = rw (eq-eqb s s refl) refl

own_end : (s : ℕ) → own s (End s ∷ []) ≡ End s ∷ []
own_end s = rw (eq-eqb s s refl) refl

own_stamps : (s count : ℕ) → own s (replicate count (Stamp s)) ≡ replicate count (Stamp s)
own_stamps s zero = refl
own_stamps s (suc n) = rw (eq-eqb s s refl) (ap (λ (l : List Step). Stamp s ∷ l) (own_stamps s n))

waiting_stamps : (s count : ℕ) → list_all stamps_or_polls (replicate count (Stamp s)) ≡ true
waiting_stamps s zero = refl
waiting_stamps s (suc n) = waiting_stamps s n

-- what was seen, and what the preparation added
pub prepares-after : (opened : Device) (s : ℕ) (known : Option Known) (result : Result (Option ℕ) CommitError) (before after front : Option (List Step))
    → Attends s known before → LogsPrepared s result before after → DrewNext opened before result → KnownIf (is_some known) after front → IfOk result (λ drawn. PreparesAfter opened s known drawn front)
prepares-after opened s (Some known) (Ok drew) before after front (l, was, (between, goes, quiet)) logs next (now, is, kept) =
    subst (PreparesAfter opened s (Some known) drew) (sym kept)
    (by drew (subst (λ (o : Option (List Step)). LogsPrepared s (Ok drew) o (Some now)) was (subst (LogsPrepared s (Ok drew) before) is logs)) (subst (λ (o : Option (List Step)). DrewNext {E = CommitError} opened o (Ok drew)) was next))
  where
    by : (drew : Option ℕ) → LogsPrepared s (Ok drew) (Some l) (Some now) → DrewNext {E = CommitError} opened (Some l) (Ok drew) → PreparesAfter opened s (Some known) drew (Some now)
    by (Some t) (more, on, (count, made)) at = record {
      first = between;
      count = count;
      log_is = on ∙ (cc (goes, made) ∙ append_assoc known.seen between (Draw s ∷ replicate count (Stamp s)));
      quiet = quiet;
      next = subst (λ (x : List Step). IsNextAfter opened x t) goes at;
    }
    by None (more, on, made) at = (
      between ++ more,
      on ∙ (ap (λ (x : List Step). x ++ more) goes ∙ append_assoc known.seen between more),
      own-parts s between more [] (Draw s ∷ End s ∷ []) quiet (ap (own s) made ∙ own_both s),
    )
prepares-after opened s None (Ok drew) before after front attends logs next kept = kept
prepares-after opened s known (Err error) before after front attends logs next kept = tt

-- and the session's end
pub committed-after : (opened : Device) (s t : ℕ) (known : Option Known) (drawn log : Option (List Step)) → PreparesAfter opened s known (Some t) drawn → EndsAfter opened s drawn log → HasCommitted opened s known (Some t) log
committed-after opened s t (Some known) (Some drawn) (Some log) p ((more, goes, only), made) = ∥∥₁_map₂ p.next made (λ next made.
    each-follows (image_of opened) (λ history at start. (t ≡ (state_after start (known.seen ++ p.first)).next) × (IsFirst history start × AreMade start log))
    (λ history at start. IsFirst history start × AreMade start log × Commits start (record { session = s; begun = known.begun; seen = known.seen }) t log)
    (λ history at start both. (both.1.0, both.1.1, commits start both.0))
    (each-both (image_of opened) (λ history at start. t ≡ (state_after start (known.seen ++ p.first)).next) (λ history at start. IsFirst history start × AreMade start log) next made))
  where
    commits : (start : State) → t ≡ (state_after start (known.seen ++ p.first)).next → Commits start (record { session = s; begun = known.begun; seen = known.seen }) t log
    commits start next =
        let stamps : List Step = replicate p.count (Stamp s) in
        record {
          first = p.first;
          rest = stamps ++ more;
          stamps = stamps;
          log_is = goes ∙ (ap (λ (x : List Step). x ++ more) p.log_is ∙ (append_assoc known.seen (p.first ++ Draw s ∷ stamps) more ∙ ap (λ (x : List Step). known.seen ++ x) (append_assoc p.first (Draw s ∷ stamps) more)));
          quiet = p.quiet;
          drew = next;
          waits = waiting_stamps s p.count;
          ends = own-parts s stamps more stamps (End s ∷ []) (own_stamps s p.count) only;
        }
committed-after opened s t (Some known) (Some drawn) None p ends = absurd ends
committed-after opened s t (Some known) None log p ends = absurd p
committed-after opened s t None (Some drawn) log p ends = absurd (cc p)
committed-after opened s t None None log p ends = ends

-- from its last step on the end is the session's one own step
pub ends-only : (s at : ℕ) (before after : Option (List Step)) → IfSome before (IsQuietSince s at) → Logs (End s ∷ []) before after → IfSome after (EndsOnly s at)
ends-only s at (Some before) (Some after) quiet (more, goes, is) =
    let whole : after ≡ before ++ End s ∷ [] = goes ∙ ap (λ (x : List Step). before ++ x) is in
    subst (EndsOnly s at) (sym whole) (
      omega (arith, length-append before (End s ∷ []), quiet.0),
      ap (own s) (drop-append-le at before (End s ∷ []) quiet.0) ∙ own-parts s (drop at before) (End s ∷ []) [] (End s ∷ []) quiet.1 (own_end s),
    )
ends-only s at (Some before) None quiet logs = tt
ends-only s at None (Some after) quiet logs = absurd (cc logs)
ends-only s at None None quiet logs = tt

-- so it is if that is where a front ends
pub ends-after : (opened : Device) (s at : ℕ) (drawn log : List Step) → at ≡ length drawn → IsPrefix drawn log → EndsOnly s at log → MadeSince opened log → EndsAfter opened s (Some drawn) (Some log)
ends-after opened s at drawn log is (more, whole) only made =
    let rest : drop at log ≡ more = rw (is, ← whole) (drop-append_seam drawn more) in
    ((more, sym whole, ap (own s) (sym rest) ∙ only.1), made)

-- ---- a begin

pub begins-at : (opened : Device) (is_kept : Bool) (n : ℕ) (before after front : Option (List Step)) → Logs (Begin ∷ []) before after → TookFree opened before (Ok n) → KnownIf is_kept after front → BeginsAt opened is_kept n front
begins-at opened true n (Some before) after front logs free (now, is, kept) =
    let turn : Logs (Begin ∷ []) (Some before) (Some now) = subst (Logs (Begin ∷ []) (Some before)) is logs in
    subst (BeginsAt opened true n) (sym kept) (before, turn.1 ∙ ap (λ (x : List Step). before ++ x) turn.2, free)
begins-at opened true n None after front logs free (now, is, kept) = absurd (cc (sym is, logs))
begins-at opened false n before after front logs free kept = kept

pub has-begun : (opened : Device) (is_kept : Bool) (n : ℕ) (front : Option (List Step)) → BeginsAt opened is_kept n front → HasBegun opened is_kept n (traced front)
has-begun opened true n (Some log) begins = (refl, begins)
has-begun opened true n None begins = begins
has-begun opened false n (Some log) begins = absurd (cc begins)
has-begun opened false n None begins = refl

-- ---- several steps in one turn

own_put : (s : ℕ) (key : Key) (row : List ℕ) (is_made : Bool) → own s (made_if is_made (Put s key row)) ≡ made_if is_made (Put s key row)
own_put s key row true = rw (eq-eqb s s refl) refl
own_put s key row false = refl

own_delete : (s : ℕ) (key : Key) (is_made : Bool) → own s (made_if is_made (Delete s key)) ≡ made_if is_made (Delete s key)
own_delete s key true = rw (eq-eqb s s refl) refl
own_delete s key false = refl

-- what a put adds is its session's own
pub put-own : (s : ℕ) (key : Key) (row : List ℕ) (result other : Result ⊤ Fault) (old new : Option (List Step)) → result ≡ other → Logs (made_if (is_ok result) (Put s key row)) old new → LogsOwn s (made_if (is_ok other) (Put s key row)) old new
put-own s key row result other old new is logs =
    goes-weaken (λ x. x ≡ made_if (is_ok result) (Put s key row)) (λ x. own s x ≡ made_if (is_ok other) (Put s key row)) old new
    (λ x made. ap (own s) made ∙ (own_put s key row (is_ok result) ∙ ap (λ (r : Result ⊤ Fault). made_if (is_ok r) (Put s key row)) is)) logs

pub delete-own : (s : ℕ) (key : Key) (result : Result ⊤ Fault) (old new : Option (List Step)) → Logs (made_if (is_ok result) (Delete s key)) old new → LogsOwn s (made_if (is_ok result) (Delete s key)) old new
delete-own s key result old new logs =
    goes-weaken (λ x. x ≡ made_if (is_ok result) (Delete s key)) (λ x. own s x ≡ made_if (is_ok result) (Delete s key)) old new (λ x made. ap (own s) made ∙ own_delete s key (is_ok result)) logs

-- a put that found no slot adds nothing, and visits are no session's
pub put-again : (s : ℕ) (key : Key) (row : List ℕ) (first : Result ⊤ Fault) (fault : Fault) (last : Result ⊤ Fault) (old tried collected new : Option (List Step)) → first ≡ Err fault → Logs (made_if (is_ok first) (Put s key row)) old tried
    → LogsQuiet tried collected → Logs (made_if (is_ok last) (Put s key row)) collected new → LogsOwn s (made_if (is_ok last) (Put s key row)) old new
put-again s key row first fault last old tried collected new is nothing visits logs =
    own-join s [] (made_if (is_ok last) (Put s key row)) old collected new (own-then s [] old tried collected (put-own s key row first (Err fault) old tried is nothing) visits) (put-own s key row last last collected new refl logs)

steps-push : (s : ℕ) (done : List (Key × Option (List ℕ))) (one : Key × Option (List ℕ)) → write_steps s (done ++ one ∷ []) ≡ write_steps s done ++ write_step s one ∷ []
steps-push s done one = map-append (write_step s) done (one ∷ [])

-- one write more
pub written-then : (s : ℕ) (done : List (Key × Option (List ℕ))) (one : Key × Option (List ℕ)) (is_made : Bool) (old mid new : Option (List Step)) → LogsOwn s (write_steps s done) old mid → LogsOwn s (made_if is_made (write_step s one)) mid new → is_made ≡ true
    → LogsOwn s (write_steps s (done ++ one ∷ [])) old new
written-then s done one is_made old mid new first second is =
    subst (λ (l : List Step). LogsOwn s l old new) (ap (λ (b : Bool). write_steps s done ++ made_if b (write_step s one)) is ∙ sym (steps-push s done one)) (own-join s (write_steps s done) (made_if is_made (write_step s one)) old mid new first second)

-- one that is refused
pub written-refused : (s : ℕ) (done : List (Key × Option (List ℕ))) (one : Key × Option (List ℕ)) (is_made : Bool) (old mid new : Option (List Step)) → LogsOwn s (write_steps s done) old mid → LogsOwn s (made_if is_made (write_step s one)) mid new → is_made ≡ false
    → LogsOwn s (write_steps s done) old new
written-refused s done one is_made old mid new first second is =
    subst (λ (l : List Step). LogsOwn s l old new) (ap (λ (b : Bool). write_steps s done ++ made_if b (write_step s one)) is ∙ append-nil (write_steps s done)) (own-join s (write_steps s done) (made_if is_made (write_step s one)) old mid new first second)

pub stamps-none : (s : ℕ) (log : Option (List Step)) → LogsStamps s log log
stamps-none s log = goes-none (λ x. (count : ℕ) × (x ≡ replicate count (Stamp s))) log (0, refl)

pub stamps-then : (s : ℕ) (is_made : Bool) (old mid new : Option (List Step)) → LogsStamps s old mid → Logs (made_if is_made (Stamp s)) mid new → LogsStamps s old new
stamps-then s is_made old mid new first second =
    goes-join (λ x. (count : ℕ) × (x ≡ replicate count (Stamp s))) (λ y. y ≡ made_if is_made (Stamp s)) (λ z. (count : ℕ) × (z ≡ replicate count (Stamp s))) old mid new (λ x y stamps one. by is_made x y stamps one) first second
  where
    by : (is_made : Bool) (x y : List Step) → (count : ℕ) × (x ≡ replicate count (Stamp s)) → y ≡ made_if is_made (Stamp s) → (count : ℕ) × (x ++ y ≡ replicate count (Stamp s))
    by true x y (count, is) one = (count + 1, ap (λ (l : List Step). l ++ y) is ∙ (ap (λ (l : List Step). replicate count (Stamp s) ++ l) one ∙ replicate_more count (Stamp s)))
    by false x y (count, is) one = (count, ap (λ (l : List Step). l ++ y) is ∙ (ap (λ (l : List Step). replicate count (Stamp s) ++ l) one ∙ append-nil (replicate count (Stamp s))))

-- a draw and its stamps
pub drawn-stamped : (s : ℕ) (drawn : Result (Option ℕ) Fault) (t : ℕ) (old mid new : Option (List Step)) → Logs (made_if (is_ok drawn) (Draw s)) old mid → drawn ≡ Ok (Some t) → LogsStamps s mid new → LogsPrepared s (Ok (Some t)) old new
drawn-stamped s drawn t old mid new first is second =
    goes-join (λ x. x ≡ made_if (is_ok drawn) (Draw s)) (λ y. (count : ℕ) × (y ≡ replicate count (Stamp s))) (λ z. (count : ℕ) × (z ≡ Draw s ∷ replicate count (Stamp s))) old mid new
    (λ x y made stamps. (
      stamps.0,
      ap (λ (l : List Step). l ++ y) (made ∙ ap (λ (r : Result (Option ℕ) Fault). made_if (is_ok r) (Draw s)) is) ∙ ap (λ (l : List Step). Draw s ∷ l) stamps.1,
    )) first second

-- a draw of nothing and an end
pub drawn-ended : (s : ℕ) (drawn : Result (Option ℕ) Fault) (ended : Result ⊤ Fault) (old mid new : Option (List Step)) → Logs (made_if (is_ok drawn) (Draw s)) old mid → drawn ≡ Ok None → Logs (made_if (is_ok ended) (End s)) mid new → ended ≡ Ok tt
    → LogsPrepared s (Ok None) old new
drawn-ended s drawn ended old mid new first is second so =
    goes-join (λ x. x ≡ made_if (is_ok drawn) (Draw s)) (λ y. y ≡ made_if (is_ok ended) (End s)) (λ z. z ≡ Draw s ∷ End s ∷ []) old mid new
    (λ x y made over.
    ap (λ (l : List Step). l ++ y) (made ∙ ap (λ (r : Result (Option ℕ) Fault). made_if (is_ok r) (Draw s)) is)
    ∙ ap (λ (l : List Step). Draw s ∷ l) (over ∙ ap (λ (r : Result ⊤ Fault). made_if (is_ok r) (End s)) so)) first second

-- the answer is of the draw that was made
pub drew-as : (E : Type 0) (opened : Device) (log : Option (List Step)) (draw : Result (Option ℕ) Fault) (t : ℕ) → DrewNext opened log draw → draw ≡ Ok (Some t) → DrewNext {E = E} opened log (Ok (Some t))
drew-as E opened (Some log) draw t next is = subst (λ (r : Result (Option ℕ) Fault). DrewNext opened (Some log) r) is next
drew-as E opened None draw t next is = tt

pub drew-none : (E : Type 0) (opened : Device) (log : Option (List Step)) → DrewNext {E = E} opened log (Ok None)
drew-none E opened (Some log) = tt
drew-none E opened None = tt

pub drew-not : {E : Type 0} (opened : Device) (log : Option (List Step)) (error : E) → DrewNext {E = E} opened log (Err error)
drew-not {E} opened (Some log) error = tt
drew-not {E} opened None error = tt

-- a poll adds nothing, and the end adds itself
pub finish-ended : (s : ℕ) (ended other : Result ⊤ Fault) (old mid new : Option (List Step)) → mid ≡ old → Logs (made_if (is_ok ended) (End s)) mid new → ended ≡ other → Logs (made_if (is_ok other) (End s)) old new
finish-ended s ended other old mid new same logs is =
    subst (λ (o : Option (List Step)). Logs (made_if (is_ok other) (End s)) o new) same (subst (λ (r : Result ⊤ Fault). Logs (made_if (is_ok r) (End s)) mid new) is logs)

pub finish-same : (old new : Option (List Step)) → new ≡ old → Logs [] old new
finish-same old new same = goes-same (λ x. x ≡ []) old new same refl

-- of the room that is there
pub in-room : {D J : Type 0} {G : Ghosts D} {O : Origins J} (By : Option (List Step) → Type 0) (there : Option (OpenedRoom D J G O)) (room : OpenedRoom D J G O) → there ≡ Some room → By room.log → By (log_in there)
in-room {D} {J} {G} {O} By there room is by = subst (λ (o : Option (OpenedRoom D J G O)). By (log_in o)) (sym is) by

pub no-step : (log : Option (List Step)) → Logs [] log log
no-step log = goes-none (λ x. x ≡ []) log refl

-- a commit of nothing
pub committed-none : (opened : Device) (s : ℕ) (known : Option Known) (front : Option (List Step)) → PreparesAfter opened s known None front → HasCommitted opened s known None front
committed-none opened s (Some known) (Some log) p = p
committed-none opened s (Some known) None p = p
committed-none opened s None front p = p

-- the end, from the place of its last step before
pub ends-if : (s : ℕ) (last : Option ℕ) (before after : Option (List Step)) → IfSome last (λ at. IfSome before (IsQuietSince s at)) → Logs (End s ∷ []) before after → IfSome last (λ at. IfSome after (EndsOnly s at))
ends-if s (Some at) before after quiet logs = ends-only s at before after quiet logs
ends-if s None before after quiet logs = tt

-- the history is known exactly if it is kept
pub begun-kept : (opened : Device) (is_kept : Bool) (n : ℕ) (front : Option (List Step)) → BeginsAt opened is_kept n front → is_some front ≡ is_kept
begun-kept opened true n (Some log) begins = refl
begun-kept opened true n None begins = absurd begins
begun-kept opened false n (Some log) begins = absurd (cc begins)
begun-kept opened false n None begins = refl

pub does-writes : (s : ℕ) (writes : List (Key × Option (List ℕ))) (result : Result ⊤ Fault) (old new : Option Known) (before after : Option (List Step)) → Attends s old before → LogsWrites s writes result before after → KeepsUp old after new → DoesWrites s writes result old new
does-writes s writes (Ok done) old new before after attends logs keeps = does-turn s (write_steps s writes) old new before after attends logs keeps
does-writes s writes (Err fault) old new before after attends (made, left, whole, logs) keeps = (made, left, whole, does-turn s (write_steps s made) old new before after attends logs keeps)

-- ---- an opening

-- a room that was opened from the device has the empty log
pub log-begun : {D : Type 0} {G : Ghosts D} (state : D → Device) (room : Room D G) (device opened : Device) (log : List Step) → RunOver device (device_of state room) [] (Shows state room) → (log ≡ []) × (device ≡ opened) → HasLog state opened room log
log-begun state room device opened log run (none, same) =
    subst (HasLog state opened room) (sym none) (log-opened state room opened (subst (λ (d : Device). RunOver d (device_of state room) [] (Shows state room)) same run))

pub begun-as : (opened : Device) (is_kept kept : Bool) (n m : ℕ) (front : Option (List Step)) (known : Option Known) → BeginsAt opened is_kept n front → is_kept ≡ kept → m ≡ n → known ≡ traced front → HasBegun opened kept m known
begun-as opened is_kept kept n m front known begins same number trace =
    subst (HasBegun opened kept m) (sym trace)
    (subst (λ (k : ℕ). HasBegun opened kept k (traced front)) (sym number) (subst (λ (b : Bool). HasBegun opened b n (traced front)) same (has-begun opened is_kept n front begins)))

pub ends-as : (s : ℕ) (last : Option ℕ) (at : ℕ) (kept : Option (List Step)) (log front : List Step) → IfSome last (λ at. IfSome kept (EndsOnly s at)) → last ≡ Some at → kept ≡ Some log → front ≡ log → EndsOnly s at front
ends-as s last at kept log front only is there same =
    subst (EndsOnly s at) (sym same) (subst (λ (k : Option (List Step)). IfSome k (EndsOnly s at)) there (subst (λ (l : Option ℕ). IfSome l (λ at. IfSome kept (EndsOnly s at))) is only))

-- ---- a close

-- closing makes the same of a device that has failed
closed-alike : (now : Device) (q : State) → IsClosed now (record q { failed = true }) → IsClosed now q
closed-alike now q closed image leaves = let under = closed image leaves in record { stands = under.stands; ruled = under.ruled; laid_out = under.laid_out }

pub closes-at : {D J : Type 0} {G : Ghosts D} {O : Origins J} (state : D → Device) (opened now : Device) (room : OpenedRoom D J G O) (is_kept kept : Bool) (front : Option (List Step)) → ForSome room.log (λ log. ∥ HasLog state opened room.room log ∥₁)
    → KnownIf is_kept room.log front → is_kept ≡ kept → ((q : State) → Shows state room.room q → IsClosed now q) → ClosesAt opened kept now front
closes-at state opened now room true kept front has (log, is, known) same closed =
    subst (λ (b : Bool). ClosesAt opened b now front) same
    (subst (ClosesAt opened true now) (sym known)
    (told-shown state opened room.room log (IsClosed now) closed (λ q failed. closed-alike now q failed) (subst (λ (o : Option (List Step)). ForSome o (λ log. ∥ HasLog state opened room.room log ∥₁)) is has)))
closes-at state opened now room false kept front has known same closed = subst (λ (b : Bool). ClosesAt opened b now front) same known

-- ---- the room that is there, by several of its names

in-log : {D J : Type 0} {G : Ghosts D} {O : Origins J} (By : Option (List Step) → Type 0) (here there : Option (OpenedRoom D J G O)) → By (log_in here) → here ≡ there → By (log_in there)
in-log {D} {J} {G} {O} By here there by same = subst (λ (o : Option (OpenedRoom D J G O)). By (log_in o)) same by

turned : {D J : Type 0} {G : Ghosts D} {O : Origins J} (By : Option (List Step) → Option (List Step) → Type 0) (here mid there : Option (OpenedRoom D J G O)) (before after : OpenedRoom D J G O)
    → mid ≡ Some before → By before.log after.log → here ≡ mid → there ≡ Some after → By (log_in here) (log_in there)
turned {D} {J} {G} {O} By here mid there before after is by same gone =
    in-log (λ (l : Option (List Step)). By l (log_in there)) (Some before) here (in-log (λ (l : Option (List Step)). By before.log l) (Some after) there by (sym gone)) (sym (same ∙ is))

-- a turn of a transaction
pub does-in : {D J : Type 0} {G : Ghosts D} {O : Origins J} (s : ℕ) (steps : List Step) (old new : Option Known) (here mid there : Option (OpenedRoom D J G O)) (before after : OpenedRoom D J G O) → Attends s old (log_in here) → KeepsUp old (log_in there) new
    → mid ≡ Some before → LogsOwn s steps before.log after.log → here ≡ mid → there ≡ Some after → Does s steps old new
does-in s steps old new here mid there before after attends keeps is logs same gone =
    does-turn s steps old new (log_in here) (log_in there) attends (turned (LogsOwn s steps) here mid there before after is logs same gone) keeps

pub does-writes-in : {D J : Type 0} {G : Ghosts D} {O : Origins J} (s : ℕ) (writes : List (Key × Option (List ℕ))) (result : Result ⊤ Fault) (old new : Option Known) (here mid there : Option (OpenedRoom D J G O)) (before after : OpenedRoom D J G O)
    → Attends s old (log_in here) → KeepsUp old (log_in there) new → mid ≡ Some before → LogsWrites s writes result before.log after.log → here ≡ mid → there ≡ Some after → DoesWrites s writes result old new
does-writes-in s writes result old new here mid there before after attends keeps is logs same gone =
    does-writes s writes result old new (log_in here) (log_in there) attends (turned (LogsWrites s writes result) here mid there before after is logs same gone) keeps

-- a preparation
pub prepares-in : {D J : Type 0} {G : Ghosts D} {O : Origins J} (opened : Device) (s : ℕ) (known : Option Known) (result : Result (Option ℕ) CommitError) (is_kept : Bool) (front : Option (List Step)) (here mid there : Option (OpenedRoom D J G O)) (before after : OpenedRoom D J G O)
    → Attends s known (log_in here) → KnownIf is_kept (log_in there) front → is_kept ≡ is_some known → mid ≡ Some before → LogsPrepared s result before.log after.log → DrewNext opened before.log result → here ≡ mid → there ≡ Some after
    → IfOk result (λ drawn. PreparesAfter opened s known drawn front)
prepares-in opened s known result is_kept front here mid there before after attends kept so is logs next same gone =
    prepares-after opened s known result (log_in here) (log_in there) front attends (turned (LogsPrepared s result) here mid there before after is logs same gone)
    (in-log (λ (l : Option (List Step)). DrewNext opened l result) (Some before) here next (sym (same ∙ is))) (subst (λ (b : Bool). KnownIf b (log_in there) front) so kept)

-- a begin
pub begins-in : {D J : Type 0} {G : Ghosts D} {O : Origins J} (opened : Device) (is_kept : Bool) (n : ℕ) (before front : Option (List Step)) (here there : Option (OpenedRoom D J G O)) → Logs (Begin ∷ []) before (log_in here) → TookFree opened before (Ok n)
    → KnownIf is_kept (log_in there) front → there ≡ here → BeginsAt opened is_kept n front
begins-in opened is_kept n before front here there logs free kept same =
    begins-at opened is_kept n before (log_in here) front logs free (in-log (λ (l : Option (List Step)). KnownIf is_kept l front) there here kept same)

-- a read
pub attends-in : {D J : Type 0} {G : Ghosts D} {O : Origins J} (s : ℕ) (known : Option Known) (here there : Option (OpenedRoom D J G O)) → Attends s known (log_in here) → here ≡ there → Attends s known (log_in there)
attends-in s known here there attends same = in-log (Attends s known) here there attends same
