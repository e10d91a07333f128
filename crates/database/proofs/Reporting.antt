-- What a put and a commit add to a run from the opening of a device.
use Rattle.std.proofs.Common.{inl, inr, ℕ, ◌-◌, List, [], ◌∷◌, ◌++◌, refl, sym, ap, ◌≡◌, arith}
use Rattle.std.specs.Prelude.{⊤, Option, Some, None, Result, Ok, Err, IfOk, IfErr, map, replicate}
use Rattle.std.proofs.lemmas.List.{append-nil, append_assoc}
use Rattle.base.specs.declared.fault.Fault.{Fault}
use Rattle.base.specs.declared.fault.Fault.TheVariants.{Conflict, WindowFull}
use Rattle.base.specs.declared.key.Key.{Key}
use Rattle.base.specs.declared.step.Step.{Step}
use Rattle.base.specs.declared.step.Step.TheVariants.{Begin, Put, Delete, Draw, Stamp, Poll, Abort, End, Collect}
use Rattle.base.specs.declared.step.Reply.{Reply}
use Rattle.base.specs.declared.step.Reply.TheVariants.{More}
use Rattle.pmem.specs.Device.{Device}
use Rattle.pmem.specs.declared.device.Pmem.{Ghosts}
use Rattle.room.specs.declared.room.Room.{Room}
use Rattle.room.specs.Room.{Shows}
use Rattle.room.specs.Runs.{LeadsAlong, HasTaken, EndsRun}
use Rattle.room.proofs.Runs.{leads-one, leads-join, ends-run, ends-run-in}
use Rattle.machine.specs.Machine.{State}
use Rattle.database.specs.declared.error.CommitError.{CommitError}
use Rattle.database.specs.declared.error.CommitError.TheVariants.{Refused, Open}
use Rattle.database.specs.Replies.{began_of, done_of, drawn_of, stamped_of, committed_of}
use Rattle.database.specs.Ended.{EndedAlong}
use Rattle.database.specs.Obeys.{Obeys, PutsCollecting, MakesWrite, StampsAll, Prepares, Finishes}
use Rattle.database.specs.Committing.{IsPut, AnswersPut, IsWrite, AreWrites, LeadsByWrites, BeginsWith, DrawsAndStamps, DrawsAndEnds, PollsAndEnds, IsPreparation, IsPrepared, IsAcknowledged, ReportsUnprepared, ConflictsAt}

-- one step, others, and a last one
leads_through : {D A B : Type 0} {G : Ghosts D} (state : D → Device) (old first mid new : Room D G) (step : Step) (read : Reply → Result A Fault) (result : Result A Fault) (others : List (Step × Reply)) (last : Step) (tells : Reply → Result B Fault) (told : Result B Fault)
    → (one : Obeys state old first step read result) → LeadsAlong state first mid others → (end : Obeys state mid new last tells told) → LeadsAlong state old new ((step, one.0) ∷ (others ++ (last, end.0) ∷ []))
leads_through state old first mid new step read result others last tells told one between end =
    leads-join state old first new ((step, one.0) ∷ []) (others ++ (last, end.0) ∷ []) (leads-one state old first step one.0 one.1)
    (leads-join state first mid new others ((last, end.0) ∷ []) between (leads-one state mid new last end.0 end.1))

-- two steps
leads_two : {D A B : Type 0} {G : Ghosts D} (state : D → Device) (old mid new : Room D G) (step : Step) (read : Reply → Result A Fault) (result : Result A Fault) (last : Step) (tells : Reply → Result B Fault) (told : Result B Fault)
    → (one : Obeys state old mid step read result) → (end : Obeys state mid new last tells told) → LeadsAlong state old new ((step, one.0) ∷ (last, end.0) ∷ [])
leads_two state old mid new step read result last tells told one end =
    leads-join state old mid new ((step, one.0) ∷ []) ((last, end.0) ∷ []) (leads-one state old mid step one.0 one.1) (leads-one state mid new last end.0 end.1)

-- ---- a put

-- the room makes it
put-along : {D : Type 0} {G : Ghosts D} (state : D → Device) (old new : Room D G) (session : ℕ) (key : Key) (row : List ℕ) (result : Result ⊤ Fault)
    → PutsCollecting state old new session key row result → (taken : List (Step × Reply)) × LeadsAlong state old new taken × IsPut session key row result taken
put-along state old new session key row result (inl (one, other)) =
    ((Put session key row, one.0) ∷ [], leads-one state old new (Put session key row) one.0 one.1, inl ((one.0, refl, one.2), other))
put-along state old new session key row result (inr (refused, collected, first, (count, all, (visits, many, leads)), last)) = (
  (Put session key row, first.0) ∷ (map (λ visit. (Collect, visit)) visits ++ (Put session key row, last.0) ∷ []),
  leads_through state old refused collected new (Put session key row) done_of _ (map (λ visit. (Collect, visit)) visits) (Put session key row) done_of result first leads last,
  inr (record { first = first.0; visits = visits; last = last.0; taken_is = refl; found_none = first.2; result_is = last.2 }),
)

pub answers-put : {D : Type 0} {G : Ghosts D} {ended : Option Fault} (state : D → Device) (old new : Room D G) (session : ℕ) (key : Key) (row : List ℕ) (result : Result ⊤ Fault)
    → ∥ HasTaken state old (EndedAlong ended) ∥₁ → PutsCollecting state old new session key row result → AnswersPut session key row result
answers-put state old new session key row result run puts =
    let a = put-along state old new session key row result puts in ends-run state old new a.0 (IsPut session key row result) run a.1 a.2

-- ---- many writes

write-along : {D : Type 0} {G : Ghosts D} (state : D → Device) (old new : Room D G) (session : ℕ) (key : Key) (row : Option (List ℕ)) (result : Result ⊤ Fault)
    → MakesWrite state old new session key row result → (taken : List (Step × Reply)) × LeadsAlong state old new taken × IsWrite session key row result taken
write-along state old new session key (Some row) result puts = put-along state old new session key row result puts
write-along state old new session key None result one =
    ((Delete session key, one.0) ∷ [], leads-one state old new (Delete session key) one.0 one.1, (one.0, refl, one.2))

-- writes that were all made, and others after them
are-writes-join : (session : ℕ) (done others : List (Key × Option (List ℕ))) (result : Result ⊤ Fault) (taken more : List (Step × Reply))
    → AreWrites session done (Ok tt) taken → AreWrites session others result more → AreWrites session (done ++ others) result (taken ++ more)
are-writes-join session [] others result taken more (is, none) two = grind (arith)
are-writes-join session (write ∷ done) others result taken more (inl (fault, is, made)) two = absurd (cc is)
are-writes-join session (write ∷ done) others result taken more (inr (first, rest, is, made, one)) two = grind (arith, append_assoc first rest more, are-writes-join session done others result rest more one two)

-- one more, which is made
pub writes-more : {D : Type 0} {G : Ghosts D} (state : D → Device) (old mid new : Room D G) (session : ℕ) (done : List (Key × Option (List ℕ))) (write : Key × Option (List ℕ))
    → LeadsByWrites state old mid session done (Ok tt) → MakesWrite state mid new session write.0 write.1 (Ok tt) → LeadsByWrites state old new session (done ++ write ∷ []) (Ok tt)
writes-more state old mid new session done write (taken, leads, made) one =
    let a = write-along state mid new session write.0 write.1 (Ok tt) one in
    (taken ++ a.0, leads-join state old mid new taken a.0 leads a.1, are-writes-join session done (write ∷ []) (Ok tt) taken a.0 made (inr (a.0, [], sym (append-nil a.0), a.2, (refl, refl))))

-- one more, which is refused, and so none of the others is made
pub writes-refused : {D : Type 0} {G : Ghosts D} (state : D → Device) (old mid new : Room D G) (session : ℕ) (done others : List (Key × Option (List ℕ))) (write : Key × Option (List ℕ)) (fault : Fault)
    → LeadsByWrites state old mid session done (Ok tt) → MakesWrite state mid new session write.0 write.1 (Err fault) → LeadsByWrites state old new session (done ++ write ∷ others) (Err fault)
writes-refused state old mid new session done others write fault (taken, leads, made) one =
    let a = write-along state mid new session write.0 write.1 (Err fault) one in
    (taken ++ a.0, leads-join state old mid new taken a.0 leads a.1, are-writes-join session done (write ∷ others) (Err fault) taken a.0 made (inl (fault, refl, a.2)))

-- ---- writes in a transaction of their own

pub begun-with : {D : Type 0} {G : Ghosts D} (state : D → Device) (old mid new : Room D G) (session : ℕ) (writes : List (Key × Option (List ℕ)))
    → Obeys state old mid Begin began_of (Ok session) → LeadsByWrites state mid new session writes (Ok tt) → BeginsWith state old new writes (Ok session)
begun-with state old mid new session writes one (taken, leads, made) =
    ((Begin, one.0) ∷ taken, leads-join state old mid new ((Begin, one.0) ∷ []) taken (leads-one state old mid Begin one.0 one.1) leads, (one.0, taken, refl, one.2, made))

pub begun-refused : {D : Type 0} {G : Ghosts D} (state : D → Device) (old new : Room D G) (writes : List (Key × Option (List ℕ))) (fault : Fault)
    → Obeys state old new Begin began_of (Err fault) → BeginsWith state old new writes (Err fault)
begun-refused state old new writes fault one = ((Begin, one.0) ∷ [], leads-one state old new Begin one.0 one.1, inl (one.0, refl, one.2))

-- one of the writes was refused
pub begun-given-up : {D A : Type 0} {G : Ghosts D} (state : D → Device) (old mid tried new : Room D G) (session : ℕ) (writes : List (Key × Option (List ℕ))) (fault : Fault) (read : Reply → Result A Fault) (result : Result A Fault)
    → Obeys state old mid Begin began_of (Ok session) → LeadsByWrites state mid tried session writes (Err fault) → Obeys state tried new (Abort session) read result
    → BeginsWith state old new writes (Err fault)
begun-given-up state old mid tried new session writes fault read result one (taken, leads, made) last = (
  (Begin, one.0) ∷ (taken ++ (Abort session, last.0) ∷ []),
  leads_through state old mid tried new Begin began_of _ taken (Abort session) read result one leads last,
  inr (session, one.0, last.0, taken, refl, one.2, made),
)

-- ---- a commit

stamped_so : {D : Type 0} {G : Ghosts D} {ended : Option Fault} (state : D → Device) (old new : Room D G) (session t : ℕ) (result : Result ⊤ Fault) (Fact : List (Step × Reply) → Type 0)
    → ((taken : List (Step × Reply)) → DrawsAndStamps session t result taken → Fact taken)
    → ∥ HasTaken state old (EndedAlong ended) ∥₁ → (drawn : Room D G) → Obeys state old drawn (Draw session) drawn_of (Ok (Some t)) → StampsAll state drawn new session result → EndsRun Fact
stamped_so state old new session t result Fact so run drawn draws (mid, stamps, last) =
    ends-run state old new _ Fact run (leads_through state old drawn mid new (Draw session) drawn_of _ (replicate stamps.0 (Stamp session, More)) (Stamp session) stamped_of _ draws stamps.1 last)
    (so _ (record { count = stamps.0; drawn = draws.0; last = last.0; taken_is = refl; drew = draws.2; result_is = last.2 }))

ended_so : {D : Type 0} {G : Ghosts D} {ended : Option Fault} (state : D → Device) (old new : Room D G) (session : ℕ) (result : Result ⊤ Fault) (Fact : List (Step × Reply) → Type 0)
    → ((taken : List (Step × Reply)) → DrawsAndEnds session result taken → Fact taken)
    → ∥ HasTaken state old (EndedAlong ended) ∥₁ → (drawn : Room D G) → Obeys state old drawn (Draw session) drawn_of (Ok None) → Obeys state drawn new (End session) done_of result → EndsRun Fact
ended_so state old new session result Fact so run drawn draws last =
    ends-run state old new _ Fact run (leads_two state old drawn new (Draw session) drawn_of _ (End session) done_of result draws last)
    (so _ (record { drawn = draws.0; last = last.0; taken_is = refl; drew = draws.2; result_is = last.2 }))

pub polled_so : {D : Type 0} {G : Ghosts D} {ended : Option Fault} (state : D → Device) (old new : Room D G) (session t : ℕ) (result : Result ⊤ Fault) (Fact : List (Step × Reply) → Type 0)
    → ((taken : List (Step × Reply)) → PollsAndEnds session t result taken → Fact taken)
    → ∥ HasTaken state old (EndedAlong ended) ∥₁ → (mid : Room D G) → Obeys state old mid (Poll session) committed_of (Ok (Some t)) → Obeys state mid new (End session) done_of result → EndsRun Fact
polled_so state old new session t result Fact so run mid polls last =
    ends-run state old new _ Fact run (leads_two state old mid new (Poll session) committed_of _ (End session) done_of result polls last)
    (so _ (record { polled = polls.0; last = last.0; taken_is = refl; committed = polls.2; result_is = last.2 }))

pub is-prepared : {D : Type 0} {G : Ghosts D} {ended : Option Fault} (state : D → Device) (old new : Room D G) (session : ℕ) (result : Result (Option ℕ) CommitError)
    → ∥ HasTaken state old (EndedAlong ended) ∥₁ → Prepares state old new session result → IsPrepared session result
is-prepared state old new session (Ok (Some t)) run (drawn, draws, stamps) = stamped_so state old new session t (Ok tt) _ (λ taken is. is) run drawn draws stamps
is-prepared state old new session (Ok None) run (drawn, draws, last) = ended_so state old new session (Ok tt) _ (λ taken is. is) run drawn draws last
is-prepared state old new session (Err (Open fault)) run (t, (drawn, draws, stamps)) = stamped_so state old new session t (Err fault) _ (λ taken is. (t, is)) run drawn draws stamps
is-prepared state old new session (Err (Refused fault)) run (inl one) =
    ends-run state old new ((Draw session, one.0) ∷ []) _ run (leads-one state old new (Draw session) one.0 one.1) (inl (one.0, refl, one.2))
is-prepared state old new session (Err (Refused fault)) run (inr (drawn, draws, last)) = ended_so state old new session (Err fault) _ (λ taken is. inr is) run drawn draws last

pub is-acknowledged : {D : Type 0} {G : Ghosts D} {ended : Option Fault} (state : D → Device) (old new : Room D G) (session t : ℕ)
    → ∥ HasTaken state old (EndedAlong ended) ∥₁ → Finishes state old new session (Ok (Some t)) → IsAcknowledged session t
is-acknowledged state old new session t run (mid, polls, last) = polled_so state old new session t (Ok tt) _ (λ taken is. is) run mid polls last

-- if it returns the timestamp, or that nothing was written
pub prepared-ok : {D : Type 0} {G : Ghosts D} {ended : Option Fault} (state : D → Device) (old new : Room D G) (session : ℕ) (result : Result (Option ℕ) CommitError)
    → ∥ HasTaken state old (EndedAlong ended) ∥₁ → Prepares state old new session result → IfOk result (λ drawn. IsPrepared session (Ok drawn))
prepared-ok state old new session (Ok drawn) run prepares = is-prepared state old new session (Ok drawn) run prepares
prepared-ok state old new session (Err error) run prepares = tt

-- if it returns why the commit isn't acknowledged
pub prepared-err : {D : Type 0} {G : Ghosts D} {ended : Option Fault} (state : D → Device) (old new : Room D G) (session : ℕ) (result : Result (Option ℕ) CommitError)
    → ∥ HasTaken state old (EndedAlong ended) ∥₁ → Prepares state old new session result → (result ≡ Err (Refused WindowFull) → ⊥) → IfErr result (ReportsUnprepared session)
prepared-err state old new session (Ok drawn) run prepares other = tt
prepared-err state old new session (Err error) run prepares other = inl (is-prepared state old new session (Err error) run prepares, λ is. other (ap Err is))

-- it was refused for a conflict, when this was the last timestamp drawn
pub conflicts-at : {D : Type 0} {G : Ghosts D} {ended : Option Fault} (state : D → Device) (old new : Room D G) (session : ℕ) (key : Key) (last : ℕ)
    → ∥ HasTaken state old (EndedAlong ended) ∥₁ → Prepares state old new session (Err (Refused (Conflict key))) → ((q : State) → Shows state new q → last ≡ q.next - 1) → ConflictsAt session key last
conflicts-at state old new session key last run (inl one) at =
    ends-run-in state old new ((Draw session, one.0) ∷ []) (IsPreparation session (Err (Refused (Conflict key)))) (λ q. last ≡ q.next - 1) run
    (leads-one state old new (Draw session) one.0 one.1) (inl (one.0, refl, one.2)) at
conflicts-at state old new session key last run (inr (drawn, draws, end)) at =
    ends-run-in state old new ((Draw session, draws.0) ∷ (End session, end.0) ∷ []) (IsPreparation session (Err (Refused (Conflict key)))) (λ q. last ≡ q.next - 1) run
    (leads_two state old drawn new (Draw session) drawn_of _ (End session) done_of _ draws end)
    (inr (record { drawn = draws.0; last = end.0; taken_is = refl; drew = draws.2; result_is = end.2 })) at
