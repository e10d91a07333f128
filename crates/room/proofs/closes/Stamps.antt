-- A stamp, as a part of closing.
use Rattle.std.proofs.Common.{◌≡◌, ◌≢◌, ℕ, ◌-◌, ◌<◌, ◌≤◌, Bool, true, false, cond, ◌&&◌, not, List, [], ◌∷◌, length, map, refl, sym, ◌∙◌, ap, subst, arith}
use Rattle.std.proofs.Math.Bridge.{le_prop}
use Rattle.std.proofs.Math.Logic.{∥∥₁_elim, ∥∥₁_map}
use Rattle.std.proofs.Math.Nat.{ℕ_set}
use Rattle.std.proofs.lemmas.Bool.{and_parts, cases_lt, eq-eqb, eqb-true, leb-true, not-true}
use Rattle.std.proofs.lemmas.List.Sums.{sum_by-cons}
use Rattle.std.specs.Prelude.{Option, Some, None, Result, Err, nat_eq, nat_le, find, sum_by}
use Rattle.std.specs.List.{list_all, list_any}
use Rattle.std.specs.Option.{option_map}
use Rattle.base.specs.declared.fault.Fault.{Fault}
use Rattle.base.specs.declared.fault.Fault.TheVariants.{Device as DeviceFault}
use Rattle.base.specs.declared.step.Step.TheVariants as step
use Rattle.base.specs.declared.step.Reply.TheVariants as reply
use Rattle.base.specs.declared.step.SessionStep.TheVariants.{Stamp}
use Rattle.base.specs.declared.step.SessionReply.{SessionReply}
use Rattle.base.specs.declared.step.SessionReply.TheVariants.{Refused}
use Rattle.base.specs.Steps.{as_reply}
use Rattle.base.specs.Stands.{has_timestamp}
use Rattle.machine.specs.Machine.{State, Drawn as PlainDrawn, Drew, IsCovered, IsStamped, IsDrawn, Hand, Stepped, refusal, next_state, allows, standing_of, is_stamped, timestamp_of, counted, drawn_at, StandsWithin}
use Rattle.pmem.specs.Device.{Device}
use Rattle.pmem.proofs.Images.{leaves_weaken}
use Rattle.txn.specs.declared.drawn.DrawnCommit.{DrawnCommit}
use Rattle.txn.specs.declared.transaction.Transaction.TheVariants.{Drawn}
use Rattle.txn.specs.Transactions.{transaction_at}
use Rattle.state_invariant.proofs.covers.Chosen.{any-by_timestamp}
use Rattle.state_invariant.proofs.Lists.{find-any, find-map}
use Rattle.simulation.specs.cycles.Closing.{ClosesAs}
use Rattle.simulation.proofs.cycles.closes.States.{closes-on}
use Rattle.session_steps.specs.declared.sessions.Sessions.{Sessions}
use Rattle.session_steps.specs.Shows.{plain_drawn, HoldsDrawn, Shows as SessionsShow}
use Rattle.session_steps.specs.Replies.{stamped}
use Rattle.session_steps.specs.Steps.{Steps, ShowsSome as SessionsShowSome}
use Rattle.session_steps.proofs.Effects.{none-failed}
use Rattle.session_steps.proofs.transactions.Steps.{found, not-both}
use Rattle.session_steps.proofs.Refusals.{passes}
use Rattle.session_steps.proofs.stamps.Steps.{found-all, one-at}
use Rattle.room.specs.declared.volatile.VolatileState.{VolatileState}
use Rattle.room.specs.Committing.{HoldsCycle, Shows}
use Rattle.room.specs.Steps.{ShowsSome}
use Rattle.room.specs.Closing.{ClosePhaseDone, ClosePhaseFailed, unstamped_session}
use Rattle.room.proofs.closes.Parts.{device-fault}

-- ---- how many writes are left

-- how many writes of the commit aren't stamped
abbrev pub left_of : PlainDrawn → ℕ
left_of d = length d.commit.writes - d.stamped

-- of all of them
abbrev pub left_in : List PlainDrawn → ℕ
left_in ds = sum_by left_of ds

no-more : (t : ℕ) (d : PlainDrawn) → left_of (counted t d) ≤ left_of d
no-more t d = grind (arith) steps 800000

no-more_in : (t : ℕ) (ds : List PlainDrawn) → left_in (map (counted t) ds) ≤ left_in ds
no-more_in t [] = omega arith
no-more_in t (d ∷ ds) = omega (arith, sum_by-cons left_of (counted t d) (map (counted t) ds), sum_by-cons left_of d ds, no-more t d, no-more_in t ds)

-- each is stamped no further than it writes
abbrev counts : PlainDrawn → Bool
counts d = nat_le d.stamped (length d.commit.writes)

-- one that isn't stamped whole has one left less
fewer-at : (t : ℕ) (d : PlainDrawn) → counts d ≡ true → is_stamped d ≡ false → d.commit.timestamp ≡ t → left_of (counted t d) < left_of d
fewer-at t d counted_so unstamped is = grind (arith, eq-eqb, cases_lt, leb-true) steps 800000

fewer-in : (t : ℕ) (ds : List PlainDrawn) (d : PlainDrawn) → list_all counts ds ≡ true → find (λ e. not (is_stamped e)) ds ≡ Some d → d.commit.timestamp ≡ t → left_in (map (counted t) ds) < left_in ds
fewer-in t [] d all at is = absurd (cc at)
fewer-in t (x ∷ ds) d all at is = by (is_stamped x) refl at (fewer-in t ds d both.1)
  where
    both : (counts x ≡ true) × (list_all counts ds ≡ true)
    both = and_parts (counts x) (list_all counts ds) all

    by : (b : Bool) → is_stamped x ≡ b → cond (not b) (Some x) (find (λ e. not (is_stamped e)) ds) ≡ Some d
        → (find (λ e. not (is_stamped e)) ds ≡ Some d → d.commit.timestamp ≡ t → left_in (map (counted t) ds) < left_in ds) → left_in (map (counted t) (x ∷ ds)) < left_in (x ∷ ds)
    by true stamped at rest = omega (arith, sum_by-cons left_of (counted t x) (map (counted t) ds), sum_by-cons left_of x ds, no-more t x, rest at is)
    by false stamped at rest =
        let same : x ≡ d = cc at in
        omega (arith, sum_by-cons left_of (counted t x) (map (counted t) ds), sum_by-cons left_of x ds, fewer-at t x both.0 stamped (ap (λ (e : PlainDrawn). e.commit.timestamp) same ∙ is), no-more_in t ds)

-- ---- the commit that is stamped next

-- the first commit that isn't stamped whole, as the sessions and as the plain state have it
pub record IsNext (old : Sessions) (n : ℕ) : Type 0 where
  pub commit : DrawnCommit
  pub first : find (λ d. not (is_stamped (plain_drawn d))) old.drawn.commits ≡ Some commit
  pub session : commit.session ≡ n

next-of : (old : Sessions) (n : ℕ) → unstamped_session old.drawn.commits ≡ Some n → IsNext old n
next-of old n is = grind (arith) steps 800000

module _ (old : Sessions) (before : Device) (q : State) (n : ℕ) (shown : SessionsShow old before q) (works : q.failed ≡ false) (next : IsNext old n) where
  abbrev d : DrawnCommit
  d = next.commit

  drawn-is : q.drawn ≡ map plain_drawn old.drawn.commits
  drawn-is = ap (λ (p : State). p.drawn) shown.plain

  plain-first : find (λ e. not (is_stamped e)) q.drawn ≡ Some (plain_drawn d)
  plain-first =
      ap (find (λ e. not (is_stamped e))) drawn-is ∙ find-map (λ e. not (is_stamped e)) plain_drawn old.drawn.commits ∙ ap (option_map plain_drawn) next.first

  -- it is the session's
  session-is : q.sessions n ≡ Some (Drew d.timestamp)
  session-is =
      let holds = found-all (HoldsDrawn old q) (λ e. not (is_stamped (plain_drawn e))) old.drawn.commits d shown.agrees.drawn next.first in
      ap (λ (p : State). p.sessions n) shown.plain ∙ found old shown.hidden n (Some (Drawn d.timestamp)) (ap (λ (m : ℕ). transaction_at old.transactions m) (sym next.session) ∙ holds.session)

  -- it is found by its timestamp
  by-timestamp : (e : PlainDrawn) × (drawn_at q d.timestamp ≡ Some e) × (is_stamped e ≡ false)
  by-timestamp =
      let some : list_any (λ e. not (is_stamped e) && nat_eq e.commit.timestamp d.timestamp) q.drawn ≡ true =
      find-any (λ (e : PlainDrawn). not (is_stamped e)) (λ e. nat_eq e.commit.timestamp d.timestamp) q.drawn (plain_drawn d) plain-first (eq-eqb d.timestamp d.timestamp refl) in
      let found = any-by_timestamp (λ e. not (is_stamped e) && nat_eq e.commit.timestamp d.timestamp) q.drawn shown.upholds.keeps.draws.rising some in
      let both = and_parts (not (is_stamped found.0)) (nat_eq found.0.commit.timestamp d.timestamp) found.2 in
      (found.0, ap (λ (t : ℕ). drawn_at q t) (sym (eqb-true found.0.commit.timestamp d.timestamp both.1)) ∙ found.1, not-true (is_stamped found.0) both.0)

  -- so its session may stamp
  allowed : allows (step.Stamp n) (standing_of q (Drew d.timestamp)) ≡ true
  allowed = by (has_timestamp q.history d.timestamp) refl (list_any (λ e. nat_eq e.commit.timestamp d.timestamp && is_stamped e) q.drawn)
      (one-at shown.hidden.origin q d.timestamp by-timestamp.0 is_stamped shown.upholds.keeps by-timestamp.1 ∙ by-timestamp.2)
    where
      by : (a : Bool) → has_timestamp q.history d.timestamp ≡ a → (b : Bool) → b ≡ false → allows (step.Stamp n) (cond a IsCovered (cond b IsStamped IsDrawn)) ≡ true
      by true covered b whole = absurd (not-both shown.hidden.origin q d.timestamp by-timestamp.0 shown.upholds.keeps covered by-timestamp.1)
      by false covered true whole = absurd (cc whole)
      by false covered false whole = refl

  pub unrefused : refusal q (step.Stamp n) ≡ None
  unrefused = passes q (step.Stamp n) n (Drew d.timestamp) works refl session-is allowed

  pub fewer : left_in (next_state q (step.Stamp n)).drawn < left_in q.drawn
  fewer =
      subst (λ (t : ℕ). left_in (map (counted t) q.drawn) < left_in q.drawn) (sym (ap timestamp_of session-is))
      (fewer-in d.timestamp q.drawn (plain_drawn d) shown.upholds.keeps.draws.counted plain-first refl)

-- ---- what the stamp comes to

module _ (q q' : State) (n : ℕ) (r : SessionReply) (un : refusal q (step.Stamp n) ≡ None) (stepped : Stepped q (step.Stamp n) (as_reply r) q') where
  -- the last, or one of several
  answers : (b : Bool) (fault : Fault) → cond b reply.Stamped reply.More ≡ reply.Refused fault → ⊥
  answers a fault told = grind (arith)

  fails : (fault : Fault) → r ≡ Refused fault → (fault ≡ DeviceFault) × (q' ≡ record q { failed = true })
  fails fault is = grind (arith, answers) steps 800000

  -- a reply that isn't a refusal
  as-refused : (r : SessionReply) (fault : Fault) → as_reply r ≡ reply.Refused fault → r ≡ Refused fault
  as-refused a fault told = grind (arith)

  stamps : ((fault : Fault) → r ≢ Refused fault) → q' ≡ next_state q (step.Stamp n)
  stamps unrefused_so = grind (arith, as-refused) steps 800000

-- the stamp is refused only if the call returns a fault
pub stamped-told : (r : Result Bool Fault) (fault : Fault) → stamped r ≡ Refused fault → r ≡ Err fault
stamped-told a fault told = grind (arith)

-- ---- a part

-- without a cycle there is no pending batch
still-none : (q q' : State) (ds ds' : List DrawnCommit) (h : Option Hand) → HoldsCycle q ds h None → HoldsCycle q' ds' h None
still-none q q' ds ds' a none = grind (arith)

pub sessions-shown : (c : VolatileState) (device : Device) → ∥ ShowsSome c device ∥₁ → ∥ SessionsShowSome c.sessions device ∥₁
sessions-shown c device some = ∥∥₁_map some (λ shown. (shown.0, shown.1.shown, shown.2))

module _ (old : VolatileState) (new : Sessions) (before now : Device) (n : ℕ) (r : SessionReply) (rests : old.cycle ≡ None) (some : ∥ ShowsSome old before ∥₁) (is : unstamped_session old.sessions.drawn.commits ≡ Some n)
    (steps : Steps old.sessions new before now (Stamp n) r) where
  abbrev after : VolatileState
  after = record { sessions = new; cycle = old.cycle; covered = old.covered }

  next : IsNext old.sessions n
  next = next-of old.sessions n is

  may : (q : State) → Shows old before q → q.failed ≡ false → refusal q (step.Stamp n) ≡ None
  may q shown works = unrefused old.sessions before q n shown.shown works next

  pub stamp-done : ((fault : Fault) → r ≢ Refused fault) → ClosePhaseDone old after before now
  stamp-done un = record {
    no_failure = ∥∥₁_elim some (ℕ_set _ _) (λ shown. none-failed (steps shown.0 shown.1.shown shown.2).1.effect (un DeviceFault));
    goes_on = λ q shown works.
        let to = steps q shown.shown works in
        let same : to.0 ≡ next_state q (step.Stamp n) = stamps q to.0 n r (may q shown works) to.1.stepped un in (
          to.0,
          record {
            shows = record {
              shown = to.1.shows;
              cycle_is = grind (arith);
            };
            works = ap (λ (p : State). p.failed) same ∙ works;
            closes = subst (λ (p : State). ClosesAs q p) (sym same) (closes-on.stamp q n);
            images = leaves_weaken (λ image s. closes-on.stamping q n image (subst (λ (p : State). StandsWithin q p image) same s)) to.1.effect.images;
          },
        );
  }

  pub stamp-failed : (fault : Fault) → r ≡ Refused fault → ClosePhaseFailed old before now fault
  stamp-failed fault told = record {
    fault_is = is_device;
    failure = ∥∥₁_elim some le_prop (λ shown. (steps shown.0 shown.1.shown shown.2).1.effect.failure.cause (told ∙ ap (λ (f : Fault). Refused f) is_device));
    images = λ q shown works.
        let to = steps q shown.shown works in
        let same = (fails q to.0 n r (may q shown works) to.1.stepped fault told).1 in
        leaves_weaken (λ image s. closes-on.failing q image (subst (λ (p : State). StandsWithin q p image) same s)) to.1.effect.images;
  }
    where
      is_device : fault ≡ DeviceFault
      is_device = device-fault fault some (λ shown.
          let to = steps shown.0 shown.1.shown shown.2 in
          (fails shown.0 to.0 n r (may shown.0 shown.1 shown.2) to.1.stepped fault told).0)

  pub stamp-fewer : ((fault : Fault) → r ≢ Refused fault) → left_in (map plain_drawn new.drawn.commits) < left_in (map plain_drawn old.sessions.drawn.commits)
  stamp-fewer un = ∥∥₁_elim some le_prop (λ shown.
      let q = shown.0 in
      let to = steps q shown.1.shown shown.2 in
      let same : to.0 ≡ next_state q (step.Stamp n) = stamps q to.0 n r (may q shown.1 shown.2) to.1.stepped un in
      let drawn : (next_state q (step.Stamp n)).drawn ≡ map plain_drawn new.drawn.commits = ap (λ (p : State). p.drawn) (sym same ∙ to.1.shows.plain) in
      let first = fewer old.sessions before q n shown.1.shown shown.2 next in
      subst (λ (ds : List PlainDrawn). left_in (map plain_drawn new.drawn.commits) < left_in ds) (ap (λ (p : State). p.drawn) shown.1.shown.plain) (subst (λ (ds : List PlainDrawn). left_in ds < left_in q.drawn) drawn first))

-- ---- none is left

pub none-left : (ds : List DrawnCommit) → unstamped_session ds ≡ None → list_all is_stamped (map plain_drawn ds) ≡ true
none-left [] none = refl
none-left (d ∷ ds) none = grind (arith, none-left ds) steps 800000
