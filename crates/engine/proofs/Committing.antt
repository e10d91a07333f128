-- A prepare, its polls and its end.
use Rattle.std.proofs.Common.{◌≡◌, ◌⊎◌, ℕ, ◌≤◌, List, [], ◌∷◌, ◌++◌, length, refl, sym, ap, subst, ◌∙◌, inl, inr, arith, append_assoc, append-nil}
use Rattle.std.specs.Prelude.{All, Option, ◌≢◌}
use Rattle.std.proofs.lemmas.List.Elements.{All-nil, All-cons, All-tail, All-append}
use Rattle.base.specs.declared.fault.Fault.{Fault}
use Rattle.base.specs.declared.fault.Fault.TheVariants.{NoSession, OutOfMemory}
use Rattle.base.specs.declared.step.Step.TheVariants.{Draw, Stamp, Poll, End}
use Rattle.base.specs.declared.step.Note.TheVariants.{Done, Refused, Waiting}
use Rattle.audited.specs.declared.receipt.Receipt.{Receipt}
use Rattle.engine.specs.declared.phase.Phase.{Phase}
use Rattle.engine.specs.declared.phase.Phase.TheVariants.{Idle}
use Rattle.engine.specs.Phases.{number_of, IsOpenAs}
use Rattle.engine.specs.Receipts.{Asks, Refuses}
use Rattle.engine.specs.Calls.{Called, AskPrepare, AskCommit, ArePolls, ReportsCommit, ReportsLast, ReportsFault, ReportsEnd, AreUncovered, AreUnended, DeclinesPrepare, DeclinesCall, note_of_commit}
use Rattle.engine.proofs.Calls.{Called-none, Called-append, Called-weaken, Called-more}

ReportsFault-append : (one two : List Receipt) (fault : Fault) → ReportsFault two fault → ReportsFault (one ++ two) fault
ReportsFault-append one two fault (inl none) = inl none
ReportsFault-append one two fault (inr (before, r, is, told)) = inr (one ++ before, r, ap (λ (rs : List Receipt). one ++ rs) is ∙ sym (append_assoc one before (r ∷ [])), told)

ReportsEnd-append : (E : Fault → Type 0) (one two : List Receipt) (fault : Fault) → AreUncovered one → ReportsEnd E two fault → ReportsEnd E (one ++ two) fault
ReportsEnd-append E one two fault before (inl tells) = inl (ReportsFault-append one two fault tells)
ReportsEnd-append E one two fault before (inr (ended, waiting)) = inr (ended, All-append (λ r. (n : ℕ) → r.step ≡ Poll n → r.note ≡ Waiting) one two before waiting)

no_draw_polls : (n k : ℕ) → Draw n ≡ Poll k → ⊥
no_draw_polls n k e = cc

no_stamp_polls : (n k : ℕ) → Stamp n ≡ Poll k → ⊥
no_stamp_polls n k e = cc

none_uncovered : (added : List Receipt) → added ≡ [] → AreUncovered added
none_uncovered added none = subst AreUncovered (sym none) (All-nil (λ (r : Receipt). (n : ℕ) → r.step ≡ Poll n → r.note ≡ Waiting))

stamps_uncovered : (n : ℕ) (added : List Receipt) → All (λ s. s.step ≡ Stamp n) added → AreUncovered added
stamps_uncovered n added stamps = λ place r less k polls. absurd (no_stamp_polls n k (sym (stamps place r less) ∙ polls))

-- a prepare doesn't poll
prepared_uncovered : (phase : Phase) (added : List Receipt) → AskPrepare phase added → AreUncovered added
prepared_uncovered a added none = grind (arith, none_uncovered, no_draw_polls, stamps_uncovered)

no_draw_ends : (n k : ℕ) → Draw n ≡ End k → ⊥
no_draw_ends n k e = cc

no_stamp_ends : (n k : ℕ) → Stamp n ≡ End k → ⊥
no_stamp_ends n k e = cc

no_poll_ends : (n k : ℕ) → Poll n ≡ End k → ⊥
no_poll_ends n k e = cc

no_refusal_done : (fault : Fault) → Refused fault ≡ Done → ⊥
no_refusal_done fault e = cc

none_unended : (added : List Receipt) → added ≡ [] → AreUnended added
none_unended added none = subst AreUnended (sym none) (All-nil (λ (r : Receipt). (n : ℕ) → r.step ≡ End n → r.note ≢ Done))

both_unended : (one two : List Receipt) → AreUnended one → AreUnended two → AreUnended (one ++ two)
both_unended one two first second = All-append (λ r. (n : ℕ) → r.step ≡ End n → r.note ≢ Done) one two first second

stamps_unended : (n : ℕ) (added : List Receipt) → All (λ s. s.step ≡ Stamp n) added → AreUnended added
stamps_unended n added stamps = λ place r less k ends. absurd (no_stamp_ends n k (sym (stamps place r less) ∙ ends))

polls_unended : (n : ℕ) (added : List Receipt) → ArePolls n added → AreUnended added
polls_unended n added polls = λ place r less k ends. absurd (no_poll_ends n k (sym (polls place r less) ∙ ends))

-- a prepare doesn't end
prepared_unended : (phase : Phase) (added : List Receipt) → AskPrepare phase added → AreUnended added
prepared_unended a added none = grind (arith, none_unended, no_draw_ends, stamps_unended)

-- a prepare that is refused is why a commit is
prepare_declined : (E : Fault → Type 0) (phase : Phase) (added : List Receipt) (fault : Fault) → AskPrepare phase added → DeclinesPrepare E phase added fault → DeclinesCall E phase added fault
prepare_declined a b added fault asks told = grind (arith, prepared_unended, none_uncovered, none_unended)

asks_some : (phase : Phase) (n : ℕ) (one two three : List Receipt) → n ≡ number_of phase → AskPrepare phase one → ArePolls n two → All (λ r. r.step ≡ End n) three → length three ≤ 1
    → AskCommit phase (one ++ (two ++ three))
asks_some phase n one two three is asks polls ends short = grind (arith)

-- if a transaction is open, a call is declined as its steps report
pub declines : (E : Fault → Type 0) (phase : Phase) (added : List Receipt) (fault : Fault) → phase ≢ Idle → ReportsEnd E added fault → AreUnended added → DeclinesCall E phase added fault
declines a b added fault is_open tells unended = grind (arith)

-- none is open
pub commit_idle : (E : Fault → Type 0) (old : List Receipt) (phase : Phase) → phase ≡ Idle → Called old old (λ added. AskCommit phase added × DeclinesCall E phase added NoSession)
commit_idle E old phase is = Called-none old _ (subst (λ (p : Phase). AskCommit p [] × DeclinesCall E p [] NoSession) (sym is) (none, (refl, refl)))
  where
    none : AskCommit Idle []
    none = record { prepare = []; polls = []; end = []; is = refl; asks = refl; all_polls = All-nil (λ (r : Receipt). r.step ≡ Poll 0); ends = All-nil (λ (r : Receipt). r.step ≡ End 0); one_end = omega arith }

-- the prepare failed
pub commit_only_prepared : (E : Fault → Type 0) (old new : List Receipt) (phase : Phase) (fault : Fault) → Called old new (λ added. AskPrepare phase added × DeclinesPrepare E phase added fault)
    → Called old new (λ added. AskCommit phase added × DeclinesCall E phase added fault)
commit_only_prepared E old new phase fault c = Called-weaken _ _ _ _ c (λ added tells. (
  subst (AskCommit phase) (append-nil added) (asks_some phase (number_of phase) added [] [] refl tells.0 (All-nil (λ (r : Receipt). r.step ≡ Poll (number_of phase))) (All-nil (λ (r : Receipt). r.step ≡ End (number_of phase))) (omega arith)),
  prepare_declined E phase added fault tells.0 tells.1,
))

-- a poll failed
pub commit_polled : (E : Fault → Type 0) (old mid new : List Receipt) (phase : Phase) (n : ℕ) (fault : Fault) (R : List Receipt → Type 0) → IsOpenAs n phase → Called old mid (λ one. AskPrepare phase one × R one)
    → Called mid new (λ two. ArePolls n two × ReportsEnd E two fault) → Called old new (λ added. AskCommit phase added × DeclinesCall E phase added fault)
commit_polled E old mid new phase n fault R is c d = Called-append _ _ _ _ _ _ c d (λ one two prepared polled. (
  subst (λ (rs : List Receipt). AskCommit phase (one ++ rs)) (append-nil two) (asks_some phase n one two [] is.number prepared.0 polled.0 (All-nil (λ (r : Receipt). r.step ≡ End n)) (omega arith)),
  declines E phase _ fault is.is_open (ReportsEnd-append E one two fault (prepared_uncovered phase one prepared.0) polled.1) (both_unended one two (prepared_unended phase one prepared.0) (polls_unended n two polled.0)),
))

-- nothing will be covered
pub not_covered : (E : Fault → Type 0) (old mid new : List Receipt) (n : ℕ) (fault : Fault) → Called old mid (λ added. ArePolls n added × All (λ r. r.note ≡ Waiting) added) → new ≡ mid → (fault ≡ OutOfMemory) ⊎ E fault
    → Called old new (λ added. ArePolls n added × ReportsEnd E added fault)
not_covered E old mid new n fault c same why =
    subst (λ (rs : List Receipt). Called old rs (λ added. ArePolls n added × ReportsEnd E added fault)) (sym same)
    (Called-weaken _ _ _ _ c (λ added polls. (polls.0, ends added why polls.1)))
  where
    ends : (added : List Receipt) → (fault ≡ OutOfMemory) ⊎ E fault → All (λ r. r.note ≡ Waiting) added → ReportsEnd E added fault
    ends added (inl memory) waiting = inl (inl memory)
    ends added (inr end) waiting = inr (end, λ place r less k asked. waiting place r less)

-- it ended
pub commit_ended : (old mid mid' new : List Receipt) (phase : Phase) (n : ℕ) (answer : Option ℕ) (R : List Receipt → Type 0) → IsOpenAs n phase → Called old mid (λ one. AskPrepare phase one × R one)
    → Called mid mid' (λ two. ArePolls n two × ReportsLast two (note_of_commit answer)) → Asks mid' new (End n) Done → Called old new (λ added. AskCommit phase added × ReportsCommit phase added answer)
commit_ended old mid mid' new phase n answer R is c d a =
    Called-append _ _ _ _ (λ three. (two : List Receipt) × (r : Receipt) × (three ≡ two ++ r ∷ []) × (ArePolls n two × ReportsLast two (note_of_commit answer)) × (r.step ≡ End n) × (r.note ≡ Done)) _ c
    (Called-more _ _ _ _ _ _ _ d a (λ two r polled step done. (two, r, refl, polled, step, done))) join
  where
    join : (one three : List Receipt) → AskPrepare phase one × R one
        → (two : List Receipt) × (r : Receipt) × (three ≡ two ++ r ∷ []) × (ArePolls n two × ReportsLast two (note_of_commit answer)) × (r.step ≡ End n) × (r.note ≡ Done)
        → AskCommit phase (one ++ three) × ReportsCommit phase (one ++ three) answer
    join one three prepared (two, r, same, (polls, (before, poll, last, told)), step, done) = (
      subst (λ (rs : List Receipt). AskCommit phase (one ++ rs)) (sym same)
          (asks_some phase n one two (r ∷ []) is.number prepared.0 polls (All-cons (λ (s : Receipt). s.step ≡ End n) r [] step (All-nil (λ (s : Receipt). s.step ≡ End n))) (omega arith)),
      record {
        open_then = is.is_open;
        before = one ++ before;
        poll = poll;
        end = r;
        is = ap (λ (rs : List Receipt). one ++ rs) (same ∙ ap (λ (rs : List Receipt). rs ++ r ∷ []) last)
            ∙ (sym (append_assoc one (before ++ poll ∷ []) (r ∷ [])) ∙ ap (λ (rs : List Receipt). rs ++ r ∷ []) (sym (append_assoc one before (poll ∷ []))));
        polled = last_of before poll (subst (ArePolls n) last polls) ∙ ap Poll is.number;
        noted = told;
        ended = step ∙ ap End is.number;
        done = done;
      },
    )
      where
        last_of : (before : List Receipt) (poll : Receipt) → ArePolls n (before ++ poll ∷ []) → poll.step ≡ Poll n
        last_of [] poll all = all 0 poll (omega arith)
        last_of (x ∷ before) poll all = last_of before poll (All-tail (λ (s : Receipt). s.step ≡ Poll n) x (before ++ poll ∷ []) all)

-- the end failed
pub commit_end_failed : (E : Fault → Type 0) (old mid mid' new : List Receipt) (phase : Phase) (n : ℕ) (fault : Fault) (R S : List Receipt → Type 0) → IsOpenAs n phase → Called old mid (λ one. AskPrepare phase one × R one)
    → Called mid mid' (λ two. ArePolls n two × S two) → Refuses mid' new (End n) fault → Called old new (λ added. AskCommit phase added × DeclinesCall E phase added fault)
commit_end_failed E old mid mid' new phase n fault R S is c d (inl (same, none)) =
    subst (λ (rs : List Receipt). Called old rs (λ added. AskCommit phase added × DeclinesCall E phase added fault)) (sym same)
    (commit_polled E old mid mid' phase n fault R is c (Called-weaken _ _ _ _ d (λ two polled. (polled.0, inl (inl none)))))
commit_end_failed E old mid mid' new phase n fault R S is c d (inr a) =
    Called-append _ _ _ _ (λ three. (two : List Receipt) × (r : Receipt) × (three ≡ two ++ r ∷ []) × ArePolls n two × (r.step ≡ End n) × (r.note ≡ Refused fault)) _ c
    (Called-more _ _ _ _ _ _ _ d a (λ two r polled step told. (two, r, refl, polled.0, step, told))) join
  where
    join : (one three : List Receipt) → AskPrepare phase one × R one
        → (two : List Receipt) × (r : Receipt) × (three ≡ two ++ r ∷ []) × ArePolls n two × (r.step ≡ End n) × (r.note ≡ Refused fault)
        → AskCommit phase (one ++ three) × DeclinesCall E phase (one ++ three) fault
    join one three prepared (two, r, same, polls, step, told) = (
      subst (λ (rs : List Receipt). AskCommit phase (one ++ rs)) (sym same)
          (asks_some phase n one two (r ∷ []) is.number prepared.0 polls (All-cons (λ (s : Receipt). s.step ≡ End n) r [] step (All-nil (λ (s : Receipt). s.step ≡ End n))) (omega arith)),
      declines E phase _ fault is.is_open (inl (ReportsFault-append one three fault (inr (two, r, same, told))))
          (both_unended one three (prepared_unended phase one prepared.0)
          (subst AreUnended (sym same)
          (both_unended two (r ∷ []) (polls_unended n two polls)
          (All-cons (λ (s : Receipt). (k : ℕ) → s.step ≡ End k → s.note ≢ Done) r [] (λ k ends done. no_refusal_done fault (sym told ∙ done)) (All-nil (λ (s : Receipt). (k : ℕ) → s.step ≡ End k → s.note ≢ Done)))))),
    )
