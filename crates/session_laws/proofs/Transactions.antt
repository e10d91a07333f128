-- The calls of a transaction, one after another.
use Rattle.std.proofs.Common.{◌≡◌, ◌≢◌, ℕ, true, List, [], ◌∷◌, ◌++◌, refl, sym, ◌∙◌, ap, subst, arith, append_assoc}
use Rattle.std.specs.Prelude.{IsTrue, Some}
use Rattle.std.specs.List.{list_all}
use Rattle.std.proofs.lemmas.Bool.{and_from}
use Rattle.std.proofs.lemmas.List.{append-nil}
use Rattle.std.proofs.lemmas.List.Folds.{list_all-append}
use Rattle.base.specs.declared.step.Step.{Step}
use Rattle.base.specs.declared.step.Step.TheVariants.{Begin, Draw}
use Rattle.base.specs.Commits.{overlaid, after}
use Rattle.machine.specs.Machine.{State}
use Rattle.session_laws.specs.Logs.{state_after, AreMade, is_own, own, Follows}
use Rattle.session_laws.specs.Sessions.{IsOfLife, reads_or_writes, written_by, IsKept, transacted}
use Rattle.session_laws.specs.Laws.{Reads}
use Rattle.session_laws.specs.Transactions.{Open, Begins, Adds, IsOpen, Commits, TransactionsAddUp}
use Rattle.session_laws.proofs.Logs.{after-append, made-parts, own-append}
use Rattle.session_laws.proofs.Sessions.{keeps-log, reads-snapshot}
use Rattle.session_laws.proofs.Commits.{commits-exactly}

opens : (start : State) (known : List Step) (it : Open) → Begins start known it → IsOpen start it []
opens start known it b = record {
  before = known ++ b.between;
  free = b.free;
  begun = b.begun;
  since = [];
  seen = b.seen ∙ sym (append-nil it.begun);
  did = refl;
  accesses_are = refl;
}

-- the session's one own step
own-one : (s : ℕ) (step : Step) → is_own s step ≡ true → own s (step ∷ []) ≡ step ∷ []
own-one s step is = grind (arith)

adds : (start : State) (before now : Open) (accesses : List Step) (step : Step) → IsOpen start before accesses → Adds before step now → reads_or_writes step ≡ true → IsOpen start now (accesses ++ step ∷ [])
adds start before now accesses step o a access = record {
  before = o.before;
  free = o.free ∙ ap (λ (n : ℕ). Some n) (sym a.session);
  begun = a.begun ∙ o.begun;
  since = o.since ++ (a.between ++ step ∷ []);
  seen =
      a.seen ∙ ap (λ (l : List Step). l ++ (a.between ++ step ∷ [])) o.seen ∙ append_assoc before.begun o.since (a.between ++ step ∷ [])
      ∙ ap (λ (l : List Step). l ++ (o.since ++ (a.between ++ step ∷ []))) (sym a.begun);
  did =
      ap (λ (n : ℕ). own n (o.since ++ (a.between ++ step ∷ []))) a.session
      ∙ own-append before.session o.since (a.between ++ step ∷ [])
      ∙ ap (λ (l : List Step). own before.session o.since ++ l) (own-append before.session a.between (step ∷ []))
      ∙ ap (λ (l : List Step). own before.session o.since ++ (l ++ own before.session (step ∷ []))) a.quiet
      ∙ ap (λ (l : List Step). own before.session o.since ++ l) (own-one before.session step a.its_own)
      ∙ ap (λ (l : List Step). l ++ step ∷ []) o.did;
  accesses_are = list_all-append reads_or_writes accesses (step ∷ []) ∙ and_from (list_all reads_or_writes accesses) (list_all reads_or_writes (step ∷ [])) o.accesses_are (and_from (reads_or_writes step) true access refl);
}

-- the log from the begin on
from-begin : (start : State) (it : Open) (accesses : List Step) (o : IsOpen start it accesses) (more : List Step) → it.seen ++ more ≡ o.before ++ (Begin ∷ (o.since ++ more))
from-begin start it accesses o more =
    ap (λ (l : List Step). l ++ more) (o.seen ∙ ap (λ (l : List Step). l ++ o.since) o.begun ∙ append_assoc o.before (Begin ∷ []) o.since)
    ∙ append_assoc o.before (Begin ∷ o.since) more

own-since : (start : State) (it : Open) (accesses : List Step) (o : IsOpen start it accesses) (more : List Step) → own it.session more ≡ [] → own it.session (o.since ++ more) ≡ accesses
own-since start it accesses o more quiet =
    own-append it.session o.since more ∙ ap (λ (l : List Step). own it.session o.since ++ l) quiet ∙ append-nil (own it.session o.since) ∙ o.did

reads : (start : State) (it : Open) (accesses log : List Step) → (o : IsOpen start it accesses) → AreMade start log → Follows it.session it.seen log
    → Reads (state_after start log) it.session (state_after start o.before).history (overlaid (written_by accesses) (after (state_after start o.before).history))
reads start it accesses log o m (between, log_is, quiet) =
    let since : log ≡ o.before ++ (Begin ∷ (o.since ++ between)) = log_is ∙ from-begin start it accesses o between in
    let parts = made-parts start o.before (Begin ∷ (o.since ++ between)) (subst (AreMade start) since m) in
    let did : own it.session (o.since ++ between) ≡ accesses = own-since start it accesses o between quiet in
    let reading = reads-snapshot (state_after start o.before) it.session (o.since ++ between) o.free parts.1 (subst (λ (l : List Step). IsTrue (list_all reads_or_writes l)) (sym did) o.accesses_are) in
    subst (λ (p : State). Reads p it.session (state_after start o.before).history (overlaid (written_by accesses) (after (state_after start o.before).history)))
    (sym (ap (state_after start) since ∙ after-append start o.before (Begin ∷ (o.since ++ between))))
    (subst (λ (l : List Step). Reads (state_after (state_after start o.before) (Begin ∷ (o.since ++ between))) it.session (state_after start o.before).history (overlaid (written_by l) (after (state_after start o.before).history))) did reading)

commits : (start : State) (it : Open) (accesses log : List Step) (t : ℕ) → IsOfLife start → IsOpen start it accesses → written_by accesses ≢ [] → AreMade start log → Commits start it t log
    → IsKept (state_after start log) (record { timestamp = t; writes = written_by accesses })
commits start it accesses log t life o wrote m c =
    subst (λ (p : State). IsKept p (record { timestamp = t; writes = written_by accesses })) (sym (ap (state_after start) since ∙ after-append start o.before (Begin ∷ ((o.since ++ c.first) ++ Draw it.session ∷ c.rest))))
    (subst (IsKept (state_after (state_after start o.before) (Begin ∷ ((o.since ++ c.first) ++ Draw it.session ∷ c.rest)))) same
    (commits-exactly (state_after start o.before) it.session (o.since ++ c.first) c.rest (life.0, keeps-log life.0 start o.before life.1 parts.0) (record {
      made = parts.1;
      begins = o.free;
      accesses = subst (λ (l : List Step). IsTrue (list_all reads_or_writes l)) (sym did) o.accesses_are;
      wrote = λ none. wrote (ap written_by (sym did) ∙ none);
      stamps = c.stamps;
      waits = c.waits;
      ends = c.ends;
    })))
  where
    since : log ≡ o.before ++ (Begin ∷ ((o.since ++ c.first) ++ Draw it.session ∷ c.rest))
    since =
        c.log_is ∙ from-begin start it accesses o (c.first ++ Draw it.session ∷ c.rest)
        ∙ ap (λ (l : List Step). o.before ++ (Begin ∷ l)) (sym (append_assoc o.since c.first (Draw it.session ∷ c.rest)))

    parts : AreMade start o.before × AreMade (state_after start o.before) (Begin ∷ ((o.since ++ c.first) ++ Draw it.session ∷ c.rest))
    parts = made-parts start o.before (Begin ∷ ((o.since ++ c.first) ++ Draw it.session ∷ c.rest)) (subst (AreMade start) since m)

    did : own it.session (o.since ++ c.first) ≡ accesses
    did = own-since start it accesses o c.first c.quiet

    at : (state_after (state_after start o.before) (Begin ∷ (o.since ++ c.first))).next ≡ t
    at = ap (λ (p : State). p.next) (sym (ap (state_after start) (from-begin start it accesses o c.first) ∙ after-append start o.before (Begin ∷ (o.since ++ c.first)))) ∙ sym c.drew

    same : transacted (state_after start o.before) it.session (o.since ++ c.first) ≡ record { timestamp = t; writes = written_by accesses }
    same = λ i. record { timestamp = at i; writes = written_by (did i) }

pub transactions-add_up : TransactionsAddUp
transactions-add_up = record { opens = opens; adds = adds; reads = reads; commits = commits }
