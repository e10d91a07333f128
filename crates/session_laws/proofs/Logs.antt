-- Logs: their parts, those of runs, and marks.
use Rattle.std.proofs.Common.{◌≡◌, ℕ, Bool, true, false, cond, not, List, [], ◌∷◌, ◌++◌, map, length, drop, refl, sym, ◌∙◌, ap, subst, ◌⊎◌, inl, inr, arith, length-append}
use Rattle.std.specs.Prelude.{filter}
use Rattle.std.proofs.lemmas.List.{append-nil, drop-append-le}
use Rattle.std.proofs.lemmas.List.Elements.{filter-append}
use Rattle.std.proofs.lemmas.List.Sums.{fold-append}
use Rattle.std.proofs.Math.Seq.{drop-append_seam}
use Rattle.base.specs.declared.step.Step.{Step}
use Rattle.base.specs.declared.step.Reply.{Reply}
use Rattle.machine.specs.Machine.{State, Stepped, refused, answered, memory_refused, device_failed, Run, final, next_state}
use Rattle.machine.proofs.Runs.{IsAnswer, Answers-answer}
use Rattle.machine.proofs.Failures.{failed-refuses}
use Rattle.session_laws.specs.Logs.{state_after, AreMade, is_refusal, made, may_change, is_own, own, Follows, IsQuietSince}

-- ---- parts of a log

pub after-append : (q : State) (log more : List Step) → state_after q (log ++ more) ≡ state_after (state_after q log) more
after-append q log more = fold-append next_state q log more

pub made-parts : (q : State) (log more : List Step) → AreMade q (log ++ more) → AreMade q log × AreMade (state_after q log) more
made-parts q [] more m = (tt, m)
made-parts q (step ∷ log) more m =
    let rest = made-parts (next_state q step) log more m.1 in
    ((m.0, rest.0), rest.1)

pub made-join : (q : State) (log more : List Step) → AreMade q log × AreMade (state_after q log) more → AreMade q (log ++ more)
made-join q [] more m = m.1
made-join q (step ∷ log) more m = (m.0.0, made-join (next_state q step) log more (m.0.1, m.1))

pub own-append : (s : ℕ) (log more : List Step) → own s (log ++ more) ≡ own s log ++ own s more
own-append s log more = filter-append (is_own s) log more

-- ---- reads and polls

pub silent-step : (q : State) (step : Step) → may_change step ≡ false → next_state q step ≡ q
silent-step q a silent = grind (arith)

pub silent-go : (q : State) (log : List Step) → AreMade q log → AreMade q (filter may_change log) × (state_after q (filter may_change log) ≡ state_after q log)
silent-go q [] m = (tt, refl)
silent-go q (step ∷ log) m = by (silent-go (next_state q step) log m.1) (may_change step) refl
  where
    by : AreMade (next_state q step) (filter may_change log) × (state_after (next_state q step) (filter may_change log) ≡ state_after (next_state q step) log)
        → (b : Bool) → may_change step ≡ b → AreMade q (cond b (step ∷ filter may_change log) (filter may_change log)) × (state_after q (cond b (step ∷ filter may_change log) (filter may_change log)) ≡ state_after (next_state q step) log)
    by rest true is = ((m.0, rest.0), rest.1)
    by rest false is =
        let same = silent-step q step is in
        (subst (λ (p : State). AreMade p (filter may_change log)) same rest.0, ap (λ (p : State). state_after p (filter may_change log)) (sym same) ∙ rest.1)

-- ---- of a run

-- an answer refuses nothing
pub answer-counts : (reply : Reply) → IsAnswer reply → is_refusal reply ≡ false
answer-counts a is = grind (arith)

abbrev Leads : State → List Step → State → Type 0
Leads q log end = AreMade q log × ((end ≡ state_after q log) ⊎ (end ≡ record (state_after q log) { failed = true }))

pub made-refusal : (one : Step × Reply) (taken : List (Step × Reply)) → is_refusal one.1 ≡ true → made (one ∷ taken) ≡ made taken
made-refusal one taken is = ap (λ (b : Bool). map (λ (x : Step × Reply). x.0) (cond (not b) (one ∷ filter (λ x. not (is_refusal x.1)) taken) (filter (λ x. not (is_refusal x.1)) taken))) is

pub made-answer : (one : Step × Reply) (taken : List (Step × Reply)) → is_refusal one.1 ≡ false → made (one ∷ taken) ≡ one.0 ∷ made taken
made-answer one taken is = ap (λ (b : Bool). map (λ (x : Step × Reply). x.0) (cond (not b) (one ∷ filter (λ x. not (is_refusal x.1)) taken) (filter (λ x. not (is_refusal x.1)) taken))) is

-- a failed state makes nothing
pub all_refused : (q : State) (taken : List (Step × Reply)) (states : List State) → q.failed ≡ true → Run q (map (λ one. one.0) taken) (map (λ one. one.1) taken) states
    → (made taken ≡ []) × (final q states ≡ q)
all_refused q [] [] failed run = (refl, refl)
all_refused q [] (q1 ∷ states) failed run = absurd run
all_refused q (one ∷ taken) [] failed run = absurd run
all_refused q (one ∷ taken) (q1 ∷ states) failed run = by (λ (still : q1.failed ≡ true). all_refused q1 taken states still run.1) run.0
  where
    by : (q1.failed ≡ true → (made taken ≡ []) × (final q1 states ≡ q1)) → Stepped q one.0 one.1 q1 → (made (one ∷ taken) ≡ []) × (final q1 states ≡ q)
    by more (refused fault e r s) =
        let rest = more (ap (λ (p : State). p.failed) s ∙ failed) in
        (made-refusal one taken (ap is_refusal r) ∙ rest.0, rest.1 ∙ s)
    by more (answered e a s) = absurd (cc (e, failed-refuses q one.0 failed))
    by more (memory_refused e m r s) = absurd (cc (e, failed-refuses q one.0 failed))
    by more (device_failed e m r s) = absurd (cc (e, failed-refuses q one.0 failed))

pub run-log : (q : State) (taken : List (Step × Reply)) (states : List State) → Run q (map (λ one. one.0) taken) (map (λ one. one.1) taken) states → Leads q (made taken) (final q states)
run-log q [] [] run = (tt, inl refl)
run-log q [] (q1 ∷ states) run = absurd run
run-log q (one ∷ taken) [] run = absurd run
run-log q (one ∷ taken) (q1 ∷ states) run = by (run-log q1 taken states run.1) run.0
  where
    same : Leads q1 (made taken) (final q1 states) → is_refusal one.1 ≡ true → q1 ≡ q → Leads q (made (one ∷ taken)) (final q1 states)
    same rest told is =
        subst (λ (l : List Step). Leads q l (final q1 states)) (sym (made-refusal one taken told))
        (subst (λ (p : State). Leads p (made taken) (final q1 states)) is rest)

    by : Leads q1 (made taken) (final q1 states) → Stepped q one.0 one.1 q1 → Leads q (made (one ∷ taken)) (final q1 states)
    by rest (refused fault e r s) = same rest (ap is_refusal r) s
    by rest (memory_refused e m r s) = same rest (ap is_refusal r) s
    by rest (answered e a s) =
        let on : Leads (next_state q one.0) (made taken) (final q1 states) = subst (λ (p : State). Leads p (made taken) (final q1 states)) s rest in
        subst (λ (l : List Step). Leads q l (final q1 states)) (sym (made-answer one taken (answer-counts one.1 (Answers-answer q one.0 one.1 a)))) ((e, on.0), on.1)
    by rest (device_failed e m r s) =
        let none = all_refused q1 taken states (ap (λ (p : State). p.failed) s) run.1 in
        subst (λ (l : List Step). Leads q l (final q1 states)) (sym (made-refusal one taken (ap is_refusal r) ∙ none.0)) (tt, inr (none.1 ∙ s))

pub step-adds : (q : State) (log : List Step) (step : Step) (reply : Reply) (q' : State) → AreMade q log → Stepped (state_after q log) step reply q'
    → Leads q (log ++ made ((step, reply) ∷ [])) q'
step-adds q log step reply q' m s =
    let one : Leads (state_after q log) (made ((step, reply) ∷ [])) q' = run-log (state_after q log) ((step, reply) ∷ []) (q' ∷ []) (s, tt) in (
      made-join q log (made ((step, reply) ∷ [])) (m, one.0),
      subst (λ (p : State). (q' ≡ p) ⊎ (q' ≡ record p { failed = true })) (sym (after-append q log (made ((step, reply) ∷ [])))) one.1,
    )

-- ---- a session's own steps

-- the log before and after one of them
pub own-split : (s : ℕ) (log first : List Step) (step : Step) (rest : List Step) → own s log ≡ first ++ step ∷ rest
    → (before more : List Step) × (log ≡ before ++ step ∷ more) × (own s before ≡ first) × (own s more ≡ rest)
own-split s [] [] step rest e = absurd (cc e)
own-split s [] (x ∷ first) step rest e = absurd (cc e)
own-split s (x ∷ log) first step rest e = by (λ (front : List Step) (is : own s log ≡ front ++ step ∷ rest). own-split s log front step rest is) (is_own s x) refl first e
  where
    by : ((front : List Step) → own s log ≡ front ++ step ∷ rest → (before more : List Step) × (log ≡ before ++ step ∷ more) × (own s before ≡ front) × (own s more ≡ rest))
        → (b : Bool) → is_own s x ≡ b → (first : List Step) → cond b (x ∷ own s log) (own s log) ≡ first ++ step ∷ rest
        → (before more : List Step) × (x ∷ log ≡ before ++ step ∷ more) × (own s before ≡ first) × (own s more ≡ rest)
    by split true is [] e = ([], log, ap (λ (y : Step). y ∷ log) (cc e), refl, cc e)
    by split true is (y ∷ first) e =
        let (before, more, log_is, one, two) = split first (cc e) in
        (x ∷ before, more, ap (λ (l : List Step). x ∷ l) log_is, ap (λ (b : Bool). cond b (x ∷ own s before) (own s before)) is ∙ cc (e, one), two)
    by split false is first e =
        let (before, more, log_is, one, two) = split first e in
        (x ∷ before, more, ap (λ (l : List Step). x ∷ l) log_is, ap (λ (b : Bool). cond b (x ∷ own s before) (own s before)) is ∙ one, two)

-- ---- marks

pub mark-quiet : (s at : ℕ) (seen more : List Step) → at ≡ length seen → IsQuietSince s at (seen ++ more) → Follows s seen (seen ++ more)
mark-quiet s at seen more is quiet =
    let rest : drop at (seen ++ more) ≡ more = rw is (drop-append_seam seen more) in
    (more, refl, ap (own s) (sym rest) ∙ quiet.1)

pub mark-other : (s at : ℕ) (log : List Step) (step : Step) → is_own s step ≡ false → IsQuietSince s at log → IsQuietSince s at (log ++ step ∷ [])
mark-other s at log step other quiet =
    let drops : drop at (log ++ step ∷ []) ≡ drop at log ++ step ∷ [] = drop-append-le at log (step ∷ []) quiet.0 in
    let none : own s (step ∷ []) ≡ [] = ap (λ (b : Bool). cond b (step ∷ []) []) other in
    (omega (arith, length-append log (step ∷ []), quiet.0), ap (own s) drops ∙ (own-append s (drop at log) (step ∷ []) ∙ cc (quiet.1, none)))

pub mark-moved : (s : ℕ) (log : List Step) → IsQuietSince s (length log) log
mark-moved s log =
    let none : drop (length log) log ≡ [] = ap (drop (length log)) (sym (append-nil log)) ∙ drop-append_seam log [] in
    (omega arith, ap (own s) none)
