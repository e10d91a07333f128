-- Visits of slots whose versions aren't replaced: each moves the place on, and nothing else changes.
use Rattle.std.proofs.Common.{◌≡◌, ◌+◌, ◌<◌, ◌≤◌, ℕ, zero, suc, Bool, true, false, ◌&&◌, cond, List, [], ◌∷◌, refl, sym, ◌∙◌, ap, subst, nat_lt, arith, None}
use Rattle.std.specs.Prelude.{Some, slice_get}
use Rattle.std.specs.List.{list_all}
use Rattle.std.proofs.lemmas.Bool.Decides.{nat_tests}
use Rattle.base.specs.Actors.{collector as actor}
use Rattle.base.specs.declared.gap.Gap.{Gap}
use Rattle.base.specs.declared.step.Step.TheVariants.{Collect}
use Rattle.base.specs.declared.step.Reply.TheVariants.{Visited, SweepEnd}
use Rattle.base.specs.Layout.{Layout}
use Rattle.base.specs.Lists.{replaced}
use Rattle.machine.specs.Machine.{State, Stepped, answered, refusal, session_numbers}
use Rattle.machine.specs.Collecting.{is_at_slot, held_after_visit, slot_visited, sweep_ended, visited, collected, replace, sees_replaced}
use Rattle.pmem.specs.Device.{Device, IsOrderly}
use Rattle.pmem.specs.Trace.{fence_op, Runs}
use Rattle.pmem.specs.Words.{value_of}
use Rattle.collector.specs.declared.rounds.Collector.{Collector}
use Rattle.collector.specs.Sweeping.{is_due, sweep_operations, tick_operations}
use Rattle.index.specs.Entries.{entry_at}
use Rattle.state_invariant.proofs.collector.Kept.{stays}
use Rattle.device_invariant.specs.Upholds.{Upholds}
use Rattle.simulation.proofs.visits.Visits.{visits-lead}
use Rattle.session_steps.specs.declared.sessions.Sessions.{Sessions}
use Rattle.session_steps.specs.Shows.{Hidden, plain_of, IsUnreplaced, Agrees, Shows}
use Rattle.session_steps.specs.Collecting.{passed, PassesTo, Passes}
use Rattle.session_steps.proofs.collector.Agrees.{agrees-freed, entry-left}

-- ---- one visit

at-slot : (q : State) → q.place < q.layout.slots → is_at_slot q ≡ true
at-slot q lt = grind (arith, nat_tests)

-- a slot whose version isn't replaced stays as it is
stays-held : (q : State) (slot : ℕ) → replace q.history (q.held slot) ≡ false → held_after_visit q slot ≡ q.held
stays-held q slot is = ap (λ (b : Bool). cond (b && list_all (λ n. sees_replaced q.history (q.held slot) (q.sessions n)) session_numbers) (replaced slot None q.held) q.held) is

visited-on : (q : State) → IsUnreplaced q q.place → visited q ≡ record q { place = q.place + 1 }
visited-on q is = ap (λ (b : Bool). cond b (slot_visited q) (sweep_ended q)) (at-slot q is.0) ∙ (λ i. record q { held = stays-held q q.place is.1 i; place = q.place + 1 })

collected-on : (q : State) → IsUnreplaced q q.place → collected q ≡ Visited q.place
collected-on q is = ap (λ (b : Bool). cond b (Visited q.place) SweepEnd) (at-slot q is.0)

allowed : (q : State) → q.failed ≡ false → refusal q Collect ≡ None
allowed q works = rw works refl

-- it makes no operation, if no gaps are to be swept
quiet-runs : (a : Layout) (gaps : List Gap) (swept : Bool) (place : ℕ) (device : Device) → IsOrderly device → is_due swept gaps ≡ false → Runs (tick_operations a gaps swept place (value_of device)) device device
quiet-runs a gaps swept place device orderly quiet =
    subst (λ (due : Bool). Runs (cond (nat_lt place a.slots) (cond due (sweep_operations a gaps (value_of device) place) []) (cond due (fence_op actor ∷ []) [])) device device) (sym quiet) (by (nat_lt place a.slots))
  where
    by : (b : Bool) → Runs (cond b [] []) device device
    by true = record { made = refl; orderly = orderly }
    by false = record { made = refl; orderly = orderly }

-- ---- this many of them

module _ (s : Sessions) (h : Hidden) (device : Device) (orderly : IsOrderly device) (works : h.failed ≡ false) (upholds : Upholds h.origin (plain_of s h) device) (agrees : Agrees s h.origin h.seen (plain_of s h)) (count : ℕ)
    (quiet : is_due s.collector.swept s.numbers.record.gaps ≡ false) (out : (slot : ℕ) → s.collector.place ≤ slot → slot < s.collector.place + count → slice_get s.replaced slot ≡ Some false) where
  abbrev q : State
  q = plain_of s h

  there : (k : ℕ) → k < count → IsUnreplaced (passed k q) (s.collector.place + k)
  there k lt = agrees.unreplaced (s.collector.place + k) (out (s.collector.place + k) (omega arith) (omega (arith, lt)))

  next : (k : ℕ) → k < count → visited (passed k q) ≡ passed (k + 1) q
  next k lt = visited-on (passed k q) (there k lt) ∙ ap (λ (place : ℕ). record q { place = place }) (omega arith)

  stepped : (k : ℕ) → k < count → Stepped (passed k q) Collect (Visited (q.place + k)) (passed (k + 1) q)
  stepped k lt = answered (allowed (passed k q) works) (sym (collected-on (passed k q) (there k lt))) (sym (next k lt))

  upheld : (k : ℕ) → k ≤ count → Upholds h.origin (passed k q) device
  upheld zero le = subst (λ (place : ℕ). Upholds h.origin (record q { place = place }) device) (omega arith) upholds
  upheld (suc k) le =
      subst (λ (p : State). Upholds h.origin p device) (next k (omega (arith, le)) ∙ ap (λ (place : ℕ). record q { place = place }) (omega arith))
      (visits-lead.made h.origin (passed k q) device device works (quiet-runs s.numbers.geometry s.numbers.record.gaps s.collector.swept (s.collector.place + k) device orderly quiet) (upheld k (omega (arith, le)))).upholds

  abbrev collector : Collector
  collector = record { place = s.collector.place + count; swept = s.collector.swept }

  pub passes-to : PassesTo (record s { collector = collector }) device count q
  passes-to = record {
    stepped = stepped;
    shows = record {
      hidden = h;
      plain = refl;
      upholds = upheld count (omega arith);
      agrees = agrees-freed s h upholds.keeps agrees collector s.slots s.index s.replaced h.held (λ is. is) (λ slot. stays refl) agrees.free agrees.counted (λ key. refl)
          (λ key. entry-left s h upholds.keeps agrees collector s.slots s.index s.replaced h.held (λ is. is) (λ slot. stays refl) key (entry_at s.index key) (λ slot at. refl) (agrees.index key)) agrees.unreplaced;
    };
  }

-- by what the code has of it
pub passes-by : (s : Sessions) (moved : Collector) (count : ℕ) → moved ≡ record { place = s.collector.place + count; swept = s.collector.swept } → is_due s.collector.swept s.numbers.record.gaps ≡ false
    → ((slot : ℕ) → s.collector.place ≤ slot → slot < s.collector.place + count → slice_get s.replaced slot ≡ Some false) → Passes s (record s { collector = moved }) count
passes-by s moved count is quiet out device q orderly shown works =
    subst (λ (c : Collector). PassesTo (record s { collector = c }) device count q) (sym is)
    (subst (λ (p : State). PassesTo (record s { collector = record { place = s.collector.place + count; swept = s.collector.swept } }) device count p) (sym shown.plain)
    (passes-to s shown.hidden device orderly (sym (ap (λ (p : State). p.failed) shown.plain) ∙ works) (subst (λ (p : State). Upholds shown.hidden.origin p device) shown.plain shown.upholds)
    (subst (λ (p : State). Agrees s shown.hidden.origin shown.hidden.seen p) shown.plain shown.agrees) count quiet out))

-- none of them
pub passes-none : (s : Sessions) → Passes s s 0
passes-none s device q orderly shown works = record {
  stepped = λ k lt. absurd (omega (arith, lt));
  shows = subst (λ (place : ℕ). Shows s device (record q { place = place })) (omega arith) shown;
}
